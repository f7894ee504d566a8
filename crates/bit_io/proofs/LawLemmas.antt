-- No codeword of a kind begins another of it.
use Rattle.std.proofs.Common.{◌≡◌, ◌≢◌, ℕ, zero, suc, ◌+◌, ◌-◌, ◌*◌, ◌^◌, ◌<◌, ◌≤◌, ℤ, pos, negsuc, Bool, List, [], ◌∷◌, ◌++◌, length, take, drop, refl, sym, ap, ap₂, ◌∙◌, subst, arith, mod-eq_of_lt, pow_mono, lt_of_lt_of_le, ne_eqb}
use Rattle.std.proofs.lemmas.List.{take_at, drop_at}
use Rattle.std.proofs.lemmas.Nat.{shl-shr}
use Rattle.bit_io.proofs.ByteLemmas.{IsBytes, bits_of-cons, length-bits_of}
use Rattle.bit_io.proofs.NumberLemmas.{length-u, number-u}
use Rattle.bit_io.proofs.UeLemmas.{UeForm, ue_form, length-ue, leading_is}
use Rattle.bit_io.specs.Bits.{u, bits_of}
use Rattle.bit_io.specs.Codewords.{IsU, IsUe, IsSe, IsTe, ue, se, se_number, te}
use Rattle.bit_io.specs.Numbers.{number, ahead}
use Rattle.bit_io.specs.Reads.{IsPrefixFree}

pub same_front : (n : ℕ) (xs ys after_x after_y : List Bool) → length xs ≡ n → length ys ≡ n → xs ++ after_x ≡ ys ++ after_y → (xs ≡ ys) × (after_x ≡ after_y)
same_front n xs ys after_x after_y l m e =
    (sym (take_at xs after_x n l) ∙ ap (take n) e ∙ take_at ys after_y n m, sym (drop_at xs after_x n l) ∙ ap (drop n) e ∙ drop_at ys after_y n m)

u_same : (n v w : ℕ) → v < 2 ^ n → w < 2 ^ n → u v n ≡ u w n → v ≡ w
u_same n v w h k e = sym (mod-eq_of_lt h) ∙ sym (number-u v n) ∙ ap number e ∙ number-u w n ∙ mod-eq_of_lt k

pub u_prefix_free : (n : ℕ) → IsPrefixFree (IsU n) (λ v. u v n)
u_prefix_free n v w after_v after_w h k e =
    let parts = same_front n (u v n) (u w n) after_v after_w (length-u v n) (length-u w n) e in
    (u_same n v w h k parts.0, parts.1)

ue_same : (v w k l : ℕ) (after_v after_w : List Bool) → UeForm v k → UeForm w l → k ≡ l → ue v ++ after_v ≡ ue w ++ after_w → (v ≡ w) × (after_v ≡ after_w)
ue_same v w k l after_v after_w f g same e =
    let n = k + suc k in
    let m : n ≡ l + suc l = ap (λ (x : ℕ). x + suc x) same in
    let parts = same_front n (ue v) (ue w) after_v after_w (length-ue f) (length-ue g ∙ sym m) e in
    let words : u (v + 1) n ≡ u (w + 1) n = sym f.bits ∙ parts.0 ∙ g.bits ∙ ap (u (w + 1)) (sym m) in
    let wide : suc k ≤ n = omega arith in
    let v_fits : v + 1 < 2 ^ n = lt_of_lt_of_le f.high (pow_mono wide) in
    let w_fits : w + 1 < 2 ^ n = lt_of_lt_of_le (subst (λ (x : ℕ). w + 1 < 2 ^ suc x) (sym same) g.high) (pow_mono wide) in
    (omega (arith, u_same n (v + 1) (w + 1) v_fits w_fits words), parts.1)

pub ue_prefix_free : IsPrefixFree IsUe ue
ue_prefix_free v w after_v after_w h k e =
    let f = ue_form v h in
    let g = ue_form w k in
    let bits = ue v ++ after_v in
    let window = number (ahead 57 bits) * 2 ^ 7 in
    let over = shl-shr (number (ahead 57 bits)) 7 in
    let same = sym (leading_is v f.0 window bits after_v f.1 over refl) ∙ leading_is w g.0 window bits after_w g.1 over e in
    ue_same v w f.0 g.0 after_v after_w f.1 g.1 same e

pub se_is : (v : ℤ) → se v ≡ ue (se_number v)
unfolding se
se_is v = refl

pub se_number-IsUe : (v : ℤ) → IsSe v → IsUe (se_number v)
se_number-IsUe (pos n) h = omega arith
se_number-IsUe (negsuc n) h = omega arith

se_number_same : (v w : ℤ) → se_number v ≡ se_number w → v ≡ w
se_number_same (pos m) (pos n) e = ap pos (omega arith)
se_number_same (pos m) (negsuc n) e = absurd (omega arith)
se_number_same (negsuc m) (pos n) e = absurd (omega arith)
se_number_same (negsuc m) (negsuc n) e = ap negsuc (omega arith)

pub se_prefix_free : IsPrefixFree IsSe se
se_prefix_free v w after_v after_w h k e =
    let words = ap (λ (x : List Bool). x ++ after_v) (sym (se_is v)) ∙ e ∙ ap (λ (x : List Bool). x ++ after_w) (se_is w) in
    let parts = ue_prefix_free (se_number v) (se_number w) after_v after_w (se_number-IsUe v h) (se_number-IsUe w k) words in
    (se_number_same v w parts.0, parts.1)

pub te_one : (v : ℕ) → v ≤ 1 → te v 1 ≡ u (1 - v) 1
unfolding te u
te_one zero h = refl
te_one (suc zero) h = refl
te_one (suc (suc v)) h = absurd (omega arith)

pub te_more : (v greatest : ℕ) → greatest ≢ 1 → te v greatest ≡ ue v
unfolding te
te_more v greatest h = rw (ne_eqb greatest 1 h) refl

te_one_prefix_free : IsPrefixFree (IsTe 1) (λ v. te v 1)
te_one_prefix_free v w after_v after_w h k e =
    let words = ap (λ (x : List Bool). x ++ after_v) (sym (te_one v h.0)) ∙ e ∙ ap (λ (x : List Bool). x ++ after_w) (te_one w k.0) in
    let parts = u_prefix_free 1 (1 - v) (1 - w) after_v after_w (omega arith) (omega arith) words in
    (omega (arith, parts.0), parts.1)

te_more_prefix_free : (greatest : ℕ) → greatest ≢ 1 → IsPrefixFree (IsTe greatest) (λ v. te v greatest)
te_more_prefix_free greatest apart v w after_v after_w h k e =
    let words = ap (λ (x : List Bool). x ++ after_v) (sym (te_more v greatest apart)) ∙ e ∙ ap (λ (x : List Bool). x ++ after_w) (te_more w greatest apart) in
    ue_prefix_free v w after_v after_w h.1 k.1 words

pub te_prefix_free : (greatest : ℕ) → IsPrefixFree (IsTe greatest) (λ v. te v greatest)
te_prefix_free zero = te_more_prefix_free 0 (λ e. omega (arith, e))
te_prefix_free (suc zero) = te_one_prefix_free
te_prefix_free (suc (suc greatest)) = te_more_prefix_free (suc (suc greatest)) (λ e. omega (arith, e))

pub te_one_at : (v greatest : ℕ) → greatest ≡ 1 → v ≤ greatest → te v greatest ≡ u (1 - v) 1
te_one_at v greatest e h = ap (te v) e ∙ te_one v (omega arith)

-- bytes with the same bits are the same bytes
pub bits_of_same : (xs ys : List ℕ) → IsBytes xs → IsBytes ys → bits_of xs ≡ bits_of ys → xs ≡ ys
bits_of_same [] [] f g e = refl
bits_of_same [] (y ∷ ys) f g e = absurd (omega (arith, ap length e, length-bits_of [], length-bits_of (y ∷ ys)))
bits_of_same (x ∷ xs) [] f g e = absurd (omega (arith, ap length e, length-bits_of [], length-bits_of (x ∷ xs)))
bits_of_same (x ∷ xs) (y ∷ ys) f g e =
    let parts = same_front 8 (u x 8) (u y 8) (bits_of xs) (bits_of ys) (length-u x 8) (length-u y 8) (sym (bits_of-cons x xs) ∙ e ∙ bits_of-cons y ys) in
    ap₂ (λ (z : ℕ) (zs : List ℕ). z ∷ zs) (u_same 8 x y (f 0) (g 0) parts.0) (bits_of_same xs ys (λ i. f (suc i)) (λ i. g (suc i)) parts.1)
