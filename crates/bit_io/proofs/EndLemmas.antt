-- A 1 and fewer than eight zeros, seen through a window.
use Rattle.std.proofs.Common.{◌≡◌, ℕ, zero, suc, ◌+◌, ◌-◌, ◌/◌, ◌^◌, ◌<◌, ◌≤◌, Bool, true, false, List, [], ◌∷◌, length, take, drop, replicate, refl, sym, ap, ◌∙◌, arith}
use Rattle.std.proofs.lemmas.List.{take_at, take_all, take-replicate, length-replicate}
use Rattle.bit_io.proofs.ByteLemmas.{number_zeros}
use Rattle.bit_io.proofs.NumberLemmas.{same_bits, ahead_within, ahead-split, length-ahead, ahead_nil}
use Rattle.bit_io.specs.Numbers.{number, ahead}
use Rattle.bit_io.specs.Trailing.{EndsHere}

ahead_zeros : (n few : ℕ) → ahead n (replicate few false) ≡ replicate n false
unfolding ahead
ahead_zeros zero few = refl
ahead_zeros (suc n) zero = ap (λ (x : List Bool). false ∷ x) (ahead_nil n)
ahead_zeros (suc n) (suc few) = ap (λ (x : List Bool). false ∷ x) (ahead_zeros n few)

pub one_over_zeros : (n : ℕ) → number (true ∷ replicate n false) ≡ 2 ^ n
unfolding number
one_over_zeros n = rw (number_zeros n, length-replicate n false) (omega arith)

ahead_one : (n zeros : ℕ) → ahead (suc n) (true ∷ replicate zeros false) ≡ true ∷ replicate n false
unfolding ahead
ahead_one n zeros = ap (λ (x : List Bool). true ∷ x) (ahead_zeros n zeros)

-- all of the bits, where there are no more than n
pub all_ahead : (n : ℕ) (bits : List Bool) → length bits ≤ n → take (length bits) (ahead n bits) ≡ bits
all_ahead n bits h =
    let m = length bits in
    let all : n ≡ m + (n - m) = omega arith in
    ap (λ (x : ℕ). take m (ahead x bits)) all ∙ ap (take m) (ahead-split m (n - m) bits)
    ∙ take_at (ahead m bits) (ahead (n - m) (drop m bits)) m (length-ahead m bits)
    ∙ ahead_within m bits (omega arith) ∙ take_all m bits (omega arith)

ends_then : (bits : List Bool) → length bits < 9 → number (ahead 57 bits) ≡ 2 ^ 56 → EndsHere bits
ends_then [] h e = absurd (omega (arith, e, ap number (ahead_nil 57), number_zeros 57))
ends_then (b ∷ bits) h e =
    let m = length bits in
    let same : ahead 57 (b ∷ bits) ≡ true ∷ replicate 56 false =
    same_bits (ahead 57 (b ∷ bits)) (true ∷ replicate 56 false) (length-ahead 57 (b ∷ bits)) (e ∙ sym (one_over_zeros 56)) in
    let front : b ∷ bits ≡ true ∷ take m (replicate 56 false) = sym (all_ahead 57 (b ∷ bits) (omega arith)) ∙ ap (take (suc m)) same in
    (m, omega arith, front ∙ ap (λ (x : List Bool). true ∷ x) (take-replicate m 56 false (omega arith)))

ends_first : (bits : List Bool) → EndsHere bits → number (ahead 57 bits) ≡ 2 ^ 56
ends_first bits (zeros, few, e) = ap (λ (x : List Bool). number (ahead 57 x)) e ∙ ap number (ahead_one 56 zeros) ∙ one_over_zeros 56

pub ends : (w : ℕ) (bits : List Bool) → length bits < 9 → w / 2 ^ 7 ≡ number (ahead 57 bits) → (w / 2 ^ 7 ≡ 2 ^ 56 → EndsHere bits) × (EndsHere bits → w / 2 ^ 7 ≡ 2 ^ 56)
ends w bits h over = (λ e. ends_then bits h (sym over ∙ e), λ t. over ∙ ends_first bits t)
