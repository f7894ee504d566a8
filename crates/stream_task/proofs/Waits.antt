-- Surfaces before a picture is decoded.
use Rattle.std.proofs.Common.{◌≡◌, inl, inr, ℕ, ◌+◌, ◌<◌, List, length, get_or, slice_get, slice_set, slice_index_or, Option, Some, None, sym, ◌∙◌, arith, get_or-set_other}
use Rattle.std.proofs.lemmas.Bool.{cases_eq, cases_lt}
use Rattle.std.proofs.lemmas.Option.{get_or_from_slice_get, slice_get_past}
use Rattle.std.proofs.lemmas.Grind.{get_or-set_at}

-- one more number has its own surface
pub more_own : (surfaces : List ℕ) (number : ℕ) → number < length surfaces → ((k : ℕ) → k < number → slice_index_or surfaces k 0 ≡ k)
    → (k : ℕ) → k < number + 1 → slice_index_or (slice_set surfaces number number) k 0 ≡ k
more_own surfaces number inside done k lt = elim (cases_eq k number) [
  | inl same ↦ get_or-set_at surfaces number k number 0 same inside ∙ sym same
  | inr other ↦ get_or-set_other surfaces number k number 0 other ∙ done k (let below : k < number = omega arith in below)
]

-- where nothing waits, none is found
pub none_in : (waits : List (Option ℕ)) → ((k : ℕ) → k < length waits → get_or waits k None ≡ None) → (surface picture : ℕ)
    → slice_get waits surface ≡ Some (Some picture) → ⊥
none_in waits none surface picture is = elim (cases_lt surface (length waits)) [
  | inl inside ↦ let k : (let o : Option ℕ = Some picture in o ≡ None) = sym (get_or_from_slice_get waits surface (Some picture) None is) ∙ none surface inside in cc
  | inr past ↦ let k : (let o : Option (Option ℕ) = Some (Some picture) in o ≡ None) = sym is ∙ slice_get_past waits surface past in cc
]
