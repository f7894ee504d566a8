-- The references of an info are renamed one by one.
use Rattle.std.proofs.Common.{◌≡◌, inl, inr, ℕ, ◌+◌, ◌<◌, List, length, map, slice_index_or, slice_set, sym, ap, ◌∙◌, arith, get_or-set_other}
use Rattle.std.proofs.lemmas.Bool.{cases_eq}
use Rattle.std.proofs.lemmas.Grind.{get_or-set_at}
use Rattle.std.proofs.lemmas.List.{ext_get_or, get_or_default, get_or-map, length-map}
use Rattle.cb_types.specs.declared.picture_info.Reference.{Reference}
use Rattle.recon.specs.References.{no_reference}

pub done_more : (change : Reference → Reference) (old now : List Reference) (place : ℕ) → place < length old → length now ≡ length old
    → (d new : Reference) → new ≡ change (slice_index_or old place d)
    → ((k : ℕ) → k < place → slice_index_or now k no_reference ≡ change (slice_index_or old k no_reference))
    → (k : ℕ) → k < place + 1 → slice_index_or (slice_set now place new) k no_reference ≡ change (slice_index_or old k no_reference)
done_more change old now place inside count d new is done k lt = elim (cases_eq k place) [
  | inl same ↦
      let in_now : place < length now = omega (arith, count, inside) in
      get_or-set_at now place k new no_reference same in_now
      ∙ (is ∙ ap change (get_or_default old place d no_reference inside ∙ ap (λ n. slice_index_or old n no_reference) (sym same)))
  | inr other ↦ let below : k < place = omega arith in get_or-set_other now place k new no_reference other ∙ done k below
]

pub all_done : (change : Reference → Reference) (old now : List Reference) → length now ≡ length old
    → ((k : ℕ) → k < length old → slice_index_or now k no_reference ≡ change (slice_index_or old k no_reference)) → now ≡ map change old
all_done change old now count done =
    ext_get_or no_reference now (map change old) (count ∙ sym (length-map old change)) (λ k lt.
    let inside : k < length old = omega (arith, count) in
    done k inside ∙ sym (get_or-map change old k no_reference no_reference inside))
