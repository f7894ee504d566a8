-- The references of an info are renamed one by one.
use Rattle.std.proofs.Common.{◌≡◌, inl, inr, ℕ, ◌+◌, ◌<◌, List, length, map, slice_index_or, slice_set, sym, ap, ◌∙◌, arith, get_or-set_other}
use Rattle.std.proofs.lemmas.Bool.{cases_eq}
use Rattle.std.proofs.lemmas.Grind.{get_or-set_at}
use Rattle.std.proofs.lemmas.List.{ext_get_or, get_or_default, get_or-map, length-map}

pub done_more : {X : Type 0} (change : X → X) (old now : List X) (place : ℕ) → place < length old → length now ≡ length old
    → (d new : X) → new ≡ change (slice_index_or old place d)
    → ((k : ℕ) (e : X) → k < place → slice_index_or now k e ≡ change (slice_index_or old k e))
    → (k : ℕ) (e : X) → k < place + 1 → slice_index_or (slice_set now place new) k e ≡ change (slice_index_or old k e)
done_more change old now place inside count d new is done k e lt = elim (cases_eq k place) [
  | inl same ↦
      let in_now : place < length now = omega (arith, count, inside) in
      get_or-set_at now place k new e same in_now
      ∙ (is ∙ ap change (get_or_default old place d e inside ∙ ap (λ n. slice_index_or old n e) (sym same)))
  | inr other ↦ let below : k < place = omega arith in get_or-set_other now place k new e other ∙ done k e below
]

pub all_done : {X : Type 0} (change : X → X) (old now : List X) (e : X) → length now ≡ length old
    → ((k : ℕ) → k < length old → slice_index_or now k e ≡ change (slice_index_or old k e)) → now ≡ map change old
all_done change old now e count done =
    ext_get_or e now (map change old) (count ∙ sym (length-map old change)) (λ k lt.
    let inside : k < length old = omega (arith, count) in
    done k inside ∙ sym (get_or-map change old k e e inside))
