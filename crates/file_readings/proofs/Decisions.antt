-- What is decided of a unit's bytes and of the bits behind a parameter set.
use Rattle.std.proofs.Common.{◌≡◌, ℕ, zero, suc, Bool, true, false, List, [], ◌∷◌, ◌++◌, length, inl, inr, ◌⊎◌, refl, sym, ap, ◌∙◌}
use Rattle.std.specs.Prelude.{replicate}
use Rattle.bit_io.specs.Payload.{is_forbidden}
use Rattle.bit_io.specs.Trailing.{EndsHere, HasMoreData}
use Rattle.cb_types.specs.SizeMbs.{IsWithinLimits, macroblocks}
use Rattle.cb_types.specs.declared.size.TheConstants.{MAX_PICTURE_MBS, MAX_SIDE_MBS}
use Rattle.cb_types.specs.declared.size.SizeMbs.{SizeMbs}
use Rattle.access_units.specs.Contents.{IsAllowed}
use Rattle.finite.specs.Decided.{Decided}
use Rattle.finite.proofs.Deciding.{both, decided_as}
use Rattle.finite.proofs.Equal.{at_most, equal_bits, equal_booleans}
use Rattle.finite.proofs.Numbers.{numbers_below}

pub within_decided : (size : SizeMbs) → Decided (IsWithinLimits size)
within_decided size =
    decided_as (λ h. record { some_column = h.0; columns = h.1.0; some_row = h.1.1.0; rows = h.1.1.1.0; count = h.1.1.1.1 })
    (λ h. (h.some_column, (h.columns, (h.some_row, (h.rows, h.count)))))
    (both (at_most 1 size.width) (λ h. both (at_most size.width MAX_SIDE_MBS) (λ h. both (at_most 1 size.height)
    (λ h. both (at_most size.height MAX_SIDE_MBS) (λ h. at_most (macroblocks size) MAX_PICTURE_MBS)))))

pub ends_decided : (rest : List Bool) → Decided (EndsHere rest)
ends_decided rest = (numbers_below 8).find (λ zeros. rest ≡ true ∷ replicate zeros false) (λ zeros h. equal_bits rest (true ∷ replicate zeros false))

not_true : (b : Bool) → (b ≡ true → ⊥) → b ≡ false
not_true true none = absurd (none refl)
not_true false none = refl

both_ways : (b : Bool) → b ≡ true → b ≡ false → ⊥
both_ways b e f = let w : true ≡ false = sym e ∙ f in absurd (cc)

pub allowed_decided : (unit : List ℕ) → Decided (IsAllowed unit)
allowed_decided unit = elim ((numbers_below (length unit)).find (λ i. is_forbidden unit i ≡ true) (λ i h. equal_booleans (is_forbidden unit i) true)) [
  | inl found ↦ inr (λ allowed. both_ways (is_forbidden unit found.0) found.2 (allowed found.0 found.1))
  | inr none ↦ inl (λ i less. not_true (is_forbidden unit i) (λ e. none (i, less, e)))
]

-- ---- a last 1

HasLast : List Bool → Type 0
HasLast bits = (between : List Bool) × (zeros : ℕ) × (bits ≡ between ++ true ∷ replicate zeros false)

AreZeros : List Bool → Type 0
AreZeros bits = bits ≡ replicate (length bits) false

last_or_zeros : (bits : List Bool) → HasLast bits ⊎ AreZeros bits
unfolding HasLast AreZeros
last_or_zeros [] = inr refl
last_or_zeros (bit ∷ bits) = elim (last_or_zeros bits) [
  | inl last ↦ inl (bit ∷ last.0, last.1, ap (λ (xs : List Bool). bit ∷ xs) last.2)
  | inr zeros ↦ by_bit bit zeros
]
  where
    by_bit : (b : Bool) → bits ≡ replicate (length bits) false → ((between : List Bool) × (zeros : ℕ) × (b ∷ bits ≡ between ++ true ∷ replicate zeros false)) ⊎ (b ∷ bits ≡ replicate (suc (length bits)) false)
    by_bit true zeros = inl ([], length bits, ap (λ (xs : List Bool). true ∷ xs) zeros)
    by_bit false zeros = inr (ap (λ (xs : List Bool). false ∷ xs) zeros)

no_one : (n run : ℕ) (between : List Bool) → replicate n false ≡ between ++ true ∷ replicate run false → ⊥
no_one zero run [] e = absurd (cc)
no_one zero run (bit ∷ between) e = absurd (cc)
no_one (suc n) run [] e = absurd (cc)
no_one (suc n) run (bit ∷ between) e = let rest : replicate n false ≡ between ++ true ∷ replicate run false = cc in no_one n run between rest

pub more_decided : (rest : List Bool) → Decided (HasMoreData rest)
unfolding HasLast AreZeros
more_decided [] = inr (λ has. let e = has.3 in absurd (cc))
more_decided (first ∷ bits) = elim (last_or_zeros bits) [
  | inl last ↦ inl (first, last.0, last.1, ap (λ (xs : List Bool). first ∷ xs) last.2)
  | inr zeros ↦ inr (λ has. no_one (length bits) has.2 has.1 (sym zeros ∙ tail has.0 (has.1 ++ true ∷ replicate has.2 false) has.3))
]
  where
    tail : (x : Bool) (xs : List Bool) → first ∷ bits ≡ x ∷ xs → bits ≡ xs
    tail x xs e = cc
