-- A renamed info is alike but for its names, and the one before is a renamed one of it.
use Rattle.std.proofs.Common.{◌≡◌, ℕ, ◌<◌, inl, inr, true, length, map, refl, sym, ap, ◌∙◌, subst}
use Rattle.std.proofs.lemmas.Bool.{both_ways, cases_Bool}
use Rattle.std.proofs.lemmas.List.{ext_get_or, length-map}
use Rattle.std.proofs.Math.ListN.{get_or-map}
use Rattle.cb_types.specs.References.{is_absent, is_unused}
use Rattle.cb_types.specs.declared.picture_info.PictureInfo.{PictureInfo}
use Rattle.cb_types.specs.declared.picture_info.Reference.{Reference}
use Rattle.recon.specs.References.{no_reference, reference_at}
use Rattle.decoder_render.specs.Coverage.{given}
use Rattle.decoder_render.specs.Outcomes.{IsOutcome}
use Rattle.decoder_render.specs.Renamed.{IsRenamed, IsRenamedEntry, NamesSurface, OutcomesDontAskNames, RenamingGoesBack, with_references, with_surface}
use Rattle.decoder_render.proofs.BareEntries.{bare, bare_surface, bare_unused}
use Rattle.decoder_render.proofs.BareOutcomes.{outcome_same}

-- of a surface that is named nothing is left
named_bare : (entry : Reference) → NamesSurface entry → bare_surface entry.surface ≡ 0
named_bare entry names = rw (names.used, names.present) refl

module _ (old new : Reference) (is : IsRenamedEntry old new) where
  -- either the surface is the same, or both name one
  either : (P : Type 0) → (new.surface ≡ old.surface → P) → (NamesSurface old → NamesSurface new → P) → P
  either P same named = elim (cases_Bool (is_unused old)) [
    | inl unused ↦ same (is.unused unused)
    | inr used ↦ elim (cases_Bool (is_absent old)) [
      | inl absent ↦ same (is.absent absent)
      | inr present ↦ let names : NamesSurface old = record { used = used; present = present } in named names (is.named names)
    ]
  ]

  surface_same : bare_surface old.surface ≡ bare_surface new.surface
  surface_same = either (bare_surface old.surface ≡ bare_surface new.surface)
      (λ same. ap (λ (s : ℕ). bare_surface s) (sym same))
      (λ before now. named_bare old before ∙ sym (named_bare new now))

  pub entry_same : bare old ≡ bare new
  entry_same = ap (λ (s : ℕ). with_surface old s) surface_same ∙ sym (ap (λ (entry : Reference). with_surface entry (bare_surface new.surface)) is.others)

  pub unused_before : is_unused old ≡ is_unused new
  unused_before = sym (bare_unused old) ∙ (ap (λ (entry : Reference). is_unused entry) entry_same ∙ bare_unused new)

  unused_back : is_unused new ≡ true → old.surface ≡ new.surface
  unused_back unused = either (old.surface ≡ new.surface) (λ same. sym same) (λ before now. absurd (both_ways (is_unused new) now.used unused))

  absent_back : is_absent new ≡ true → old.surface ≡ new.surface
  absent_back absent = either (old.surface ≡ new.surface) (λ same. sym same) (λ before now. absurd (both_ways (is_absent new) now.present absent))

  named_back : NamesSurface new → NamesSurface old
  named_back names = either (NamesSurface old)
      (λ same. record { used = ap (λ (s : ℕ). is_unused (with_surface old s)) (sym same) ∙ names.used; present = ap (λ (s : ℕ). is_absent (with_surface old s)) (sym same) ∙ names.present })
      (λ before now. before)

  pub entry_back : IsRenamedEntry new old
  entry_back = record {
    others = sym (ap (λ (entry : Reference). with_surface entry old.surface) is.others);
    unused = unused_back;
    absent = absent_back;
    named = named_back;
  }

-- in all entries
pub renamed_alike : (old new : PictureInfo) → IsRenamed old new → map bare old.references ≡ map bare new.references
renamed_alike old new is =
    ext_get_or (bare no_reference) (map bare old.references) (map bare new.references)
    (length-map old.references bare ∙ (sym is.count ∙ sym (length-map new.references bare)))
    (λ place lt.
    let inside : place < length old.references = subst (λ (n : ℕ). place < n) (length-map old.references bare) lt in
    get_or-map bare old.references place no_reference
    ∙ (entry_same (reference_at old place) (reference_at new place) (is.entries place inside) ∙ sym (get_or-map bare new.references place no_reference)))

pub renamed_outcome : OutcomesDontAskNames
renamed_outcome old new size pictures units outcome picture is also =
    subst (λ (info : PictureInfo). IsOutcome (given info size pictures) units outcome picture) (sym is.others)
    (outcome_same size pictures old new.references (renamed_alike old new is) units outcome picture also)

pub renamed_back : RenamingGoesBack
renamed_back old new is = record {
  others = sym (ap (λ (info : PictureInfo). with_references info old.references) is.others);
  count = sym is.count;
  entries = λ place lt. entry_back (reference_at old place) (reference_at new place) (is.entries place (subst (λ (n : ℕ). place < n) is.count lt));
}
