-- H.264, 9.1: a codeword of ue is a number of 2 k + 1 bits of which the k first are zeros, and no more.
use Rattle.std.proofs.Common.{◌≡◌, ℕ, zero, suc, ◌+◌, ◌-◌, ◌*◌, ◌/◌, ◌%◌, ◌^◌, ◌<◌, ◌≤◌, Bool, List, ◌++◌, length, drop, sym, ap, ap₂, ◌∙◌, subst, arith, inl, inr, pow_mono, lt_of_lt_of_le, le-leb, add_comm, mod-eq_of_lt, pow-suc, div-add-mod', mod-lt, eq-zero-or-pos}
use Rattle.std.proofs.lemmas.Bool.{cases_lt, lt-leb}
use Rattle.std.proofs.lemmas.List.{length-append, append_assoc, take_at}
use Rattle.std.proofs.lemmas.Nat.{pow_pos, leading_top}
use Rattle.std.proofs.Math.Nat.{div-eq_of_lt, div-eq_of_lt-le}
use Rattle.std.specs.Int.Count.{count_leading_zeros, leading_unique, leading_of_zero, leading_length}
use Rattle.bit_io.proofs.NumberLemmas.{length-u, number-u, number-append, number-lt, u-split, u-zeros, ahead_within, ahead-split, length-ahead, spelled, front}
use Rattle.bit_io.specs.Bits.{u}
use Rattle.bit_io.specs.Codewords.{exponent, ue, IsUe}
use Rattle.bit_io.specs.Numbers.{number, ahead}

two_pow : (k : ℕ) → 2 ^ suc k ≡ 2 ^ k + 2 ^ k
two_pow k = pow-suc 2 k ∙ omega arith

quotient_one : (w p : ℕ) → 0 < p → w / p ≡ 1 → (p ≤ w) × (w < p + p)
quotient_one w p h e =
    let parts : 1 * p + w % p ≡ w = ap (λ (x : ℕ). x * p + w % p) (sym e) ∙ div-add-mod' w p in
    (omega (arith, parts), omega (arith, parts, mod-lt w h))

exponent_is : (limit k n : ℕ) → k < limit → 2 ^ k ≤ n → n < 2 ^ suc k → exponent limit n ≡ k
unfolding exponent
exponent_is zero k n h p q = absurd (omega arith)
exponent_is (suc m) k n h p q =
    elim (cases_lt k m) [
      | inl l ↦ let below : n < 2 ^ m = lt_of_lt_of_le q (pow_mono l) in rw (lt-leb (2 ^ m) n below) (exponent_is m k n l p q)
      | inr g ↦ let same : k ≡ m = omega arith in rw (le-leb (2 ^ m) n (subst (λ (x : ℕ). 2 ^ x ≤ n) same p)) (sym same)
    ]

-- k zeros begin the codeword of v
pub record UeForm (v k : ℕ) : Type 0 where
  pub below : k < 32
  pub low : 2 ^ k ≤ v + 1
  pub high : v + 1 < 2 ^ suc k
  pub bits : ue v ≡ u (v + 1) (k + suc k)

pub ue_at : (v k : ℕ) → k < 32 → 2 ^ k ≤ v + 1 → v + 1 < 2 ^ suc k → UeForm v k
unfolding ue
ue_at v k below low high = record {
  below = below;
  low = low;
  high = high;
  bits = rw (exponent_is 32 k (v + 1) below low high) (sym (u-zeros (v + 1) k (suc k) high));
}

pub ue_form : (v : ℕ) → IsUe v → (k : ℕ) × UeForm v k
ue_form v h =
    let top = leading_top 32 (v + 1) (omega arith) (omega arith) in
    (top.0, ue_at v top.0 (omega arith) top.2 top.3)

pub length-ue : {v k : ℕ} → UeForm v k → length (ue v) ≡ k + suc k
length-ue {v} {k} form = ap length form.bits ∙ length-u (v + 1) (k + suc k)

-- the k zeros and the 1 behind them
first_one : (v k : ℕ) (bits rest : List Bool) → UeForm v k → bits ≡ ue v ++ rest → number (ahead (suc k) bits) ≡ 1
first_one v k bits rest form e =
    let one : (v + 1) / 2 ^ k ≡ 1 = div-eq_of_lt-le (2 ^ k) {m = v + 1} (omega (arith, form.low)) (omega (arith, form.high, two_pow k)) in
    let turned : k + suc k ≡ suc k + k = add_comm k (suc k) in
    let split : bits ≡ u 1 (suc k) ++ (u (v + 1) k ++ rest) =
    e ∙ ap (λ (x : List Bool). x ++ rest) (form.bits ∙ ap (u (v + 1)) turned ∙ u-split (v + 1) (suc k) k ∙ ap (λ (x : ℕ). u x (suc k) ++ u (v + 1) k) one)
    ∙ append_assoc (u 1 (suc k)) (u (v + 1) k) rest in
    let front : ahead (suc k) (u 1 (suc k) ++ (u (v + 1) k ++ rest)) ≡ u 1 (suc k) =
    ahead_within (suc k) (u 1 (suc k) ++ (u (v + 1) k ++ rest)) (omega (arith, length-append (u 1 (suc k)) (u (v + 1) k ++ rest), length-u 1 (suc k)))
    ∙ take_at (u 1 (suc k)) (u (v + 1) k ++ rest) (suc k) (length-u 1 (suc k)) in
    ap (λ (x : List Bool). number (ahead (suc k) x)) split ∙ ap number front ∙ number-u 1 (suc k) ∙ mod-eq_of_lt (omega (arith, two_pow k, pow_pos k))

-- A window over bits that begin with the codeword of v has as many leading zeros.
pub leading_is : (v k w : ℕ) (bits rest : List Bool) → UeForm v k → w / 2 ^ 7 ≡ number (ahead 57 bits) → bits ≡ ue v ++ rest → count_leading_zeros 64 w ≡ k
leading_is v k w bits rest form e s =
    let below : k < 32 = form.below in
    let m = 63 - k in
    let at : 64 - suc k ≡ m = omega arith in
    let one : w / 2 ^ m ≡ 1 = ap (λ (x : ℕ). w / 2 ^ x) (sym at) ∙ front w (suc k) bits (omega arith) e ∙ first_one v k bits rest form s in
    let bounds : (2 ^ m ≤ w) × (w < 2 ^ m + 2 ^ m) = quotient_one w (2 ^ m) (pow_pos m) one in
    sym (leading_unique 64 w k (suc m) (omega arith) (omega (arith, two_pow m, bounds.1)) (omega (arith, two_pow m, bounds.0)))

-- A codeword that begins the bits ends within them.
pub ue_within : (v k : ℕ) (bits rest : List Bool) → UeForm v k → bits ≡ ue v ++ rest → k + suc k ≤ length bits
ue_within v k bits rest form e = omega (arith, ap length e, length-append (ue v) rest, length-ue form)

positive : (w z : ℕ) → z ≡ count_leading_zeros 64 w → z < 64 → 0 < w
positive w z is below =
    elim (eq-zero-or-pos w) [ inl e ↦ absurd (omega (arith, is ∙ ap (count_leading_zeros 64) e ∙ leading_of_zero 64)) | inr h ↦ h ]

-- What a window of z leading zeros says of the number of the next 2 z + 1 bits.
pub code_bounds : (w z c : ℕ) (bits : List Bool) → w < 2 ^ 64 → z ≡ count_leading_zeros 64 w → z < 32 → w / 2 ^ 7 ≡ number (ahead 57 bits) → c ≡ number (ahead (suc z + z) bits) → (2 ^ z ≤ c) × (c < 2 ^ suc z)
code_bounds w z c bits fits is below e n =
    let at_least : 0 < w = positive w z is (omega arith) in
    let top = leading_top 64 w at_least fits in
    let j = top.0 in
    let place : 64 - suc z ≡ j = omega (arith, top.1, is) in
    let one : w / 2 ^ j ≡ 1 = div-eq_of_lt-le (2 ^ j) {m = w} (omega (arith, top.2)) (omega (arith, top.3, two_pow j)) in
    let high : number (ahead (suc z) bits) ≡ 1 = sym (front w (suc z) bits (omega arith) e) ∙ ap (λ (x : ℕ). w / 2 ^ x) place ∙ one in
    let low = ahead z (drop (suc z) bits) in
    let parts : c ≡ 1 * 2 ^ z + number low =
    n ∙ ap number (ahead-split (suc z) z bits) ∙ number-append (ahead (suc z) bits) low
    ∙ ap₂ (λ (x y : ℕ). x * 2 ^ y + number low) high (length-ahead z (drop (suc z) bits)) in
    let small : number low < 2 ^ z = subst (λ (x : ℕ). number low < 2 ^ x) (length-ahead z (drop (suc z) bits)) (number-lt low) in
    (omega (arith, parts), omega (arith, parts, small, two_pow z))

twice : (z : ℕ) → 2 * z + 1 ≡ suc z + z
twice z = omega arith

pub leading_bound : (w z : ℕ) → w < 2 ^ 64 → z ≡ count_leading_zeros 64 w → w < 2 ^ (64 - z)
leading_bound w z fits is =
    let top = leading_length 64 w fits in
    let m : top.0 ≡ 64 - z = omega (arith, top.1, is) in
    subst (λ (x : ℕ). w < 2 ^ x) m top.2

-- What follows z zeros as one number is the codeword of the value below it.
pub ue_found : (w z c : ℕ) (bits : List Bool) → w < 2 ^ 64 → z ≡ count_leading_zeros 64 w → z < 32 → w / 2 ^ 7 ≡ number (ahead 57 bits) → c ≡ number (ahead (2 * z + 1) bits) → 2 * z + 1 ≤ length bits
    → (1 ≤ c) × (c < 2 ^ 32) × (bits ≡ ue (c - 1) ++ drop (2 * z + 1) bits)
ue_found w z c bits fits is below e n held =
    let bounds = code_bounds w z c bits fits is below e (n ∙ ap (λ (x : ℕ). number (ahead x bits)) (twice z)) in
    let positive : 1 ≤ c = omega (arith, bounds.0, pow_pos z) in
    let back : c ≡ c - 1 + 1 = omega arith in
    let form = ue_at (c - 1) z below (subst (λ (x : ℕ). 2 ^ z ≤ x) back bounds.0) (subst (λ (x : ℕ). x < 2 ^ suc z) back bounds.1) in
    let word : ue (c - 1) ≡ u c (2 * z + 1) = form.bits ∙ ap₂ (λ (x y : ℕ). u x y) (sym back) (omega arith) in
    (positive, lt_of_lt_of_le bounds.1 (pow_mono below), spelled (2 * z + 1) c bits held n ∙ ap (λ (x : List Bool). x ++ drop (2 * z + 1) bits) (sym word))

-- the same number from a window three bytes further on, where the first three are zeros
pub later_code : (w later z : ℕ) (bits : List Bool) → 28 < z → z < 32 → w < 2 ^ (64 - z) → w / 2 ^ 7 ≡ number (ahead 57 bits) → later / 2 ^ 7 ≡ number (ahead 57 (drop 24 bits))
    → later / 2 ^ (87 - 2 * z) ≡ number (ahead (2 * z + 1) bits)
later_code w later z bits long below small e e' =
    let m = 2 * z - 23 in
    let all : 24 + m ≡ 2 * z + 1 = omega arith in
    let shift : 64 - m ≡ 87 - 2 * z = omega arith in
    let less : 64 - z ≤ 40 = omega arith in
    let none : number (ahead 24 bits) ≡ 0 = sym (front w 24 bits (omega arith) e) ∙ div-eq_of_lt (lt_of_lt_of_le small (pow_mono less)) in
    let low = ahead m (drop 24 bits) in
    let parts : number (ahead (2 * z + 1) bits) ≡ 0 * 2 ^ length low + number low =
    ap (λ (x : ℕ). number (ahead x bits)) (sym all) ∙ ap number (ahead-split 24 m bits) ∙ number-append (ahead 24 bits) low
    ∙ ap (λ (x : ℕ). x * 2 ^ length low + number low) none in
    ap (λ (x : ℕ). later / 2 ^ x) (sym shift) ∙ front later m (drop 24 bits) (omega arith) e' ∙ omega (arith, parts)

ue_size : (v k : ℕ) → UeForm v k → 63 - count_leading_zeros 64 (v + 1) ≡ k
ue_size v k form =
    let below : k < 32 = form.below in
    omega (arith, leading_unique 64 (v + 1) (63 - k) (suc k) (omega arith) form.high (omega (arith, form.low, two_pow k)))

-- The codeword is one number, whose length comes from the leading zeros of v + 1.
pub ue_word : (v n : ℕ) → IsUe v → n ≡ 2 * (63 - count_leading_zeros 64 (v + 1)) + 1 → (n ≤ 64) × (v + 1 < 2 ^ n) × (u (v + 1) n ≡ ue v)
ue_word v n h e =
    let form = ue_form v h in
    let k = form.0 in
    let below : k < 32 = form.1.below in
    let size : n ≡ k + suc k = omega (arith, e, ue_size v k form.1) in
    let wide : suc k ≤ n = omega arith in
    (omega arith, lt_of_lt_of_le form.1.high (pow_mono wide), ap (u (v + 1)) size ∙ sym form.1.bits)
