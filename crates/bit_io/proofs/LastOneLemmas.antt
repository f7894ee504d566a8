-- The last 1 of a list of bits.
use Rattle.std.proofs.Common.{◌≡◌, ℕ, zero, suc, ◌+◌, ◌-◌, ◌*◌, ◌/◌, ◌%◌, ◌<◌, ◌↔◌, Bool, true, false, cond, eqb, ltb, List, [], ◌∷◌, ◌++◌, length, get_or, take, drop, replicate, refl, sym, ap, ap₂, ◌∙◌, arith, inl, inr, eq-zero-or-pos, lt-ltb, mod-lt, div-one, add-one, append-nil}
use Rattle.std.proofs.lemmas.Bool.Decides.{nat_tests}
use Rattle.std.proofs.lemmas.List.{take_more}
use Rattle.std.specs.Int.Count.{count_trailing_zeros, under}
use Rattle.bit_io.proofs.ByteLemmas.{bits_of-append, bits_of-cons, bits_of_nil, length-bits_of}
use Rattle.bit_io.proofs.NumberLemmas.{length-u, u-split, u_zero}
use Rattle.bit_io.specs.Bits.{u, bits_of}
use Rattle.bit_io.specs.Places.{through_last_one}
use Rattle.bit_io.specs.Trailing.{EndsHere, HasMoreData}

head_value : (b : Bool) (n : ℕ) → cond (ltb 0 n) (suc n) (cond b 1 0) - 1 ≡ n
head_value true n = grind (arith, nat_tests)
head_value false n = grind (arith, nat_tests)

pub through-drop : (n : ℕ) (bits : List Bool) → through_last_one (drop n bits) ≡ through_last_one bits - n
unfolding through_last_one
through-drop zero bits = omega arith
through-drop (suc n) [] = omega arith
through-drop (suc n) (b ∷ bits) = omega (arith, through-drop n bits, head_value b (through_last_one bits))

pub through-replicate : (n : ℕ) → through_last_one (replicate n false) ≡ 0
unfolding through_last_one
through-replicate zero = refl
through-replicate (suc n) = rw (through-replicate n) refl

pub through-append : (xs ys : List Bool) → 0 < through_last_one ys → through_last_one (xs ++ ys) ≡ length xs + through_last_one ys
unfolding through_last_one
through-append [] ys h = omega arith
through-append (x ∷ xs) ys h =
    let more = through-append xs ys h in
    rw (lt-ltb 0 (through_last_one (xs ++ ys)) (omega (arith, more))) (omega (arith, more))

pub through-append_zeros : (xs : List Bool) (n : ℕ) → through_last_one (xs ++ replicate n false) ≡ through_last_one xs
unfolding through_last_one
through-append_zeros [] n = through-replicate n
through-append_zeros (x ∷ xs) n = rw (through-append_zeros xs n) refl

head_one : (b : Bool) (n : ℕ) → 0 < cond (ltb 0 n) (suc n) (cond b 1 0) → n ≡ 0 → b ≡ true
head_one true n h e = refl
head_one false n h e = absurd (grind (arith, nat_tests))

head_zero : (b : Bool) (n : ℕ) → cond (ltb 0 n) (suc n) (cond b 1 0) ≡ 0 → (n ≡ 0) × (b ≡ false)
head_zero true n h = absurd (grind (arith, nat_tests))
head_zero false n h = (grind (arith, nat_tests), refl)

head_more : (b : Bool) (n : ℕ) → 1 < cond (ltb 0 n) (suc n) (cond b 1 0) → 0 < n
head_more true n h = grind (arith, nat_tests)
head_more false n h = grind (arith, nat_tests)

all_zeros : (bits : List Bool) → through_last_one bits ≡ 0 → bits ≡ replicate (length bits) false
unfolding through_last_one
all_zeros [] h = refl
all_zeros (b ∷ bits) h = let parts = head_zero b (through_last_one bits) h in ap₂ (λ (x : Bool) (y : List Bool). x ∷ y) parts.1 (all_zeros bits parts.0)

-- where there is a 1, there is a last one
found : (bits : List Bool) → 0 < through_last_one bits → (before : List Bool) × (zeros : ℕ) × (bits ≡ before ++ true ∷ replicate zeros false)
unfolding through_last_one
found [] h = absurd (omega arith)
found (b ∷ bits) h = elim (eq-zero-or-pos (through_last_one bits)) [
  | inl none ↦ ([], length bits, ap₂ (λ (x : Bool) (y : List Bool). x ∷ y) (head_one b (through_last_one bits) h none) (all_zeros bits none))
  | inr some ↦ let rest = found bits some in (b ∷ rest.0, rest.1, ap (λ (x : List Bool). b ∷ x) rest.2)
]

one_then_zeros : (n : ℕ) → through_last_one (true ∷ replicate n false) ≡ 1
unfolding through_last_one
one_then_zeros n = rw (through-replicate n) refl

more_first : (bits : List Bool) → HasMoreData bits → 1 < through_last_one bits
more_first bits (first, between, zeros, e) =
    omega (arith, ap through_last_one e, one_then_zeros zeros, through-append (first ∷ between) (true ∷ replicate zeros false) (omega (arith, one_then_zeros zeros)))

more_then : (bits : List Bool) → 1 < through_last_one bits → HasMoreData bits
unfolding through_last_one
more_then [] h = absurd (omega arith)
more_then (b ∷ bits) h = let rest = found bits (head_more b (through_last_one bits) h) in (b, rest.0, rest.1, ap (λ (x : List Bool). b ∷ x) rest.2)

pub more-data : (bits : List Bool) → HasMoreData bits ↔ (1 < through_last_one bits)
more-data bits = (more_first bits, more_then bits)

low_bit : (v : ℕ) → u v 1 ≡ eqb (v % 2) 1 ∷ []
unfolding u
low_bit v = ap (λ (x : ℕ). eqb (x % 2) 1 ∷ []) (div-one v)

last_bit : (xs : List Bool) (d n t : ℕ) → d < 2 → length xs ≡ n → through_last_one xs ≡ n - t → through_last_one (xs ++ eqb d 1 ∷ []) ≡ suc n - under d t
last_bit xs zero n t h l e = through-append_zeros xs 1 ∙ omega (arith, e)
last_bit xs (suc zero) n t h l e = through-append xs (true ∷ []) (omega (arith, one_then_zeros 0)) ∙ omega (arith, one_then_zeros 0, l)
last_bit xs (suc (suc d)) n t h l e = absurd (omega arith)

pub through-u : (v n : ℕ) → through_last_one (u v n) ≡ n - count_trailing_zeros n v
unfolding count_trailing_zeros u
through-u v zero = through-replicate 0
through-u v (suc n) =
    let parts : u v (suc n) ≡ u (v / 2) n ++ eqb (v % 2) 1 ∷ [] =
    ap (u v) (sym (add-one n)) ∙ u-split v n 1 ∙ ap (λ (x : List Bool). u (v / 2) n ++ x) (low_bit v) in
    ap through_last_one parts ∙ last_bit (u (v / 2) n) (v % 2) n (count_trailing_zeros n (v / 2)) (mod-lt v (omega arith)) (length-u (v / 2) n) (through-u (v / 2) n)

-- a zero byte at the end changes nothing
pub through_zero_byte : (bytes : List ℕ) → through_last_one (bits_of (bytes ++ 0 ∷ [])) ≡ through_last_one (bits_of bytes)
through_zero_byte bytes =
    ap through_last_one (bits_of-append bytes (0 ∷ []) ∙ ap (λ (x : List Bool). bits_of bytes ++ x) zeros) ∙ through-append_zeros (bits_of bytes) 8
  where
    zeros : bits_of (0 ∷ []) ≡ replicate 8 false
    zeros = bits_of-cons 0 [] ∙ ap₂ (λ (x y : List Bool). x ++ y) (u_zero 8) bits_of_nil

-- a byte that is not zero, at the end
pub through_byte : (bytes : List ℕ) (byte : ℕ) → count_trailing_zeros 8 byte < 8 → through_last_one (bits_of (bytes ++ byte ∷ [])) ≡ 8 * length bytes + (8 - count_trailing_zeros 8 byte)
through_byte bytes byte h =
    let at : through_last_one (u byte 8) ≡ 8 - count_trailing_zeros 8 byte = through-u byte 8 in
    let last : bits_of (byte ∷ []) ≡ u byte 8 = bits_of-cons byte [] ∙ ap (λ (x : List Bool). u byte 8 ++ x) bits_of_nil ∙ append-nil (u byte 8) in
    ap through_last_one (bits_of-append bytes (byte ∷ []) ∙ ap (λ (x : List Bool). bits_of bytes ++ x) last)
    ∙ through-append (bits_of bytes) (u byte 8) (omega (arith, at)) ∙ ap₂ (λ (x y : ℕ). x + y) (length-bits_of bytes) at

pub through_take : (bytes : List ℕ) (i : ℕ) → i < length bytes → through_last_one (bits_of (take (i + 1) bytes)) ≡ through_last_one (bits_of (take i bytes ++ get_or bytes i 0 ∷ []))
through_take bytes i h = ap (λ (x : List ℕ). through_last_one (bits_of x)) (take_more bytes i 0 h)

pub through_none : through_last_one (bits_of []) ≡ 0
unfolding through_last_one
through_none = ap through_last_one bits_of_nil

-- Where only a 1 and zeros are left, no bit stands before the last 1.
pub ends-no_more : (bits : List Bool) → EndsHere bits → HasMoreData bits → ⊥
ends-no_more bits (few, below, e) more = omega (arith, more_first bits more, ap through_last_one e, one_then_zeros few)
