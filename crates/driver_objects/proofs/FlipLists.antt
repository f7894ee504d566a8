-- The flips of a tick, one for each queue that is due.
use Rattle.std.proofs.Common.{◌≡◌, inl, inr, ℕ, ◌+◌, List, [], ◌∷◌, ◌++◌, length, slice_get, Some, sym, ap, ◌∙◌, subst, arith}
use Rattle.std.proofs.lemmas.List.{length-append}
use Rattle.driver_objects.specs.Flips.{IsFlip}
use Rattle.driver_objects.specs.declared.object.Object.{Object}
use Rattle.driver_objects.specs.declared.flips.Flip.{Flip}
use Rattle.driver_objects.specs.declared.ticks.Due.{Due}
use Rattle.driver_objects.proofs.Lists.{at_append, element_is}

module _ (kept : List Object) (time : ℕ) (dues : List Due) where
  abbrev pub Each : List Flip → Type 0
  Each flips = (i : ℕ) (due : Due) (flip : Flip) → slice_get dues i ≡ Some due → slice_get flips i ≡ Some flip → IsFlip kept time due flip

  module _ (flips : List Flip) (index : ℕ) (as_many : length flips ≡ index) (each : Each flips) (due : Due) (here : slice_get dues index ≡ Some due) (flip : Flip) (is : IsFlip kept time due flip) where
    pub one_more_flip : (after : List Flip) → after ≡ flips ++ flip ∷ [] → (length after ≡ index + 1) × Each after
    one_more_flip after after_is = (
      (let e = ap length after_is in let both = length-append flips (flip ∷ []) in omega (arith, e, both, as_many)),
      λ i other shown at there. elim (at_append flips flip shown i (sym (ap (λ k. slice_get k i) after_is) ∙ there)) [
        | inl before ↦ each i other shown at before.1
        | inr last ↦
            let same : due ≡ other = element_is due other (sym here ∙ (ap (slice_get dues) (sym (last.0 ∙ as_many)) ∙ at)) in
            subst (λ d. IsFlip kept time d shown) same (subst (IsFlip kept time due) last.1 is)
      ],
    )
