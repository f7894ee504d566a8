-- Whether units are all accepted and come to the whole picture is decided, where the info is in the ranges that headers are read by.
use Rattle.std.proofs.Common.{◌≡◌, ℕ, zero, suc, ◌⊎◌, inl, inr, List, length, Option, Some, None, refl, sym, ap, ◌∙◌, subst}
use Rattle.cb_types.specs.SizeMbs.{IsWithinLimits, macroblocks}
use Rattle.cb_types.specs.declared.header.Header.{Header}
use Rattle.cb_types.specs.declared.macroblock.Macroblock.{Macroblock}
use Rattle.decoder_render.specs.Coverage.{AreAccepted, Covered, Covers, Given, IsRefused, covered_with, nothing, slice_in}
use Rattle.decoder_render.specs.Outcomes.{IsWhole}
use Rattle.decoder_render.specs.Parsed.{CanParse}
use Rattle.decoder_render.specs.Submission.{payload_at}
use Rattle.decoder_render.proofs.OneCovered.{accepted_one}
use Rattle.decoder_render.proofs.SameSlice.{same_slice}
use Rattle.recon.specs.Laws.{AreWhole}
use Rattle.recon.specs.Rebuilt.{AreRebuilt}
use Rattle.recon.proofs.StopLemmas.{stopped_has_none}
use Rattle.ref_lists.specs.ReferenceList.{reference_list}
use Rattle.render_outcomes.specs.Constructions.{Construction, Stop}
use Rattle.render_outcomes.proofs.ConstructionsExist.{slices_are_constructed_or_stop}
use Rattle.render_outcomes.proofs.OutcomesExist.{decoded_pictures_exist}
use Rattle.slice_header.specs.Conditions.{HasRanges}
use Rattle.slice_readings.proofs.SliceReadings.{parses_decided}
use Rattle.vd_plane.specs.declared.picture.Picture.{Picture}
use Rattle.finite.specs.Decided.{Decided}
use Rattle.finite.proofs.Equal.{equal_numbers}

some_same : {A : Type 0} (a b : A) → Some a ≡ Some b → a ≡ b
some_same a b e = cc

module _ (g : Given) (ranges : HasRanges g.info) (limits : IsWithinLimits g.size) where
  abbrev Behind : Covered → Option (List ℕ) → Type 0
  Behind covered unit = (after : Covered) × Covers g covered unit after

  abbrev Reads : Covered → List ℕ → Header → List (Option ℕ) → List Macroblock → Type 0
  Reads covered payload header list mbs = CanParse g.info g.size covered.first (length covered.tiles) payload header list mbs

  constructed : (covered : Covered) (payload : List ℕ) (header : Header) (list : List (Option ℕ)) (mbs : List Macroblock)
      → Reads covered payload header list mbs → Construction (slice_in g header list mbs) (length mbs) → Behind covered (Some payload)
  constructed covered payload header list mbs parse all = (
    covered_with covered header all.marks all.tiles,
    record {
      header = header;
      list = list;
      mbs = mbs;
      marks = all.marks;
      tiles = all.tiles;
      slice = record {
        spelled = parse.spelled;
        fits = parse.fits;
        listed = parse.listed;
        of_marks = all.of_marks;
        of_tiles = all.of_tiles;
        whole = all.whole;
        rebuilt = all.rebuilt;
      };
      behind = refl;
    },
  )

  -- a slice is read one way only, so that one that stops isn't constructed otherwise
  stopped : (covered : Covered) (payload : List ℕ) (header : Header) (list : List (Option ℕ)) (mbs : List Macroblock)
      → Reads covered payload header list mbs → Stop (slice_in g header list mbs) (length mbs) → IsRefused g covered (Some payload)
  stopped covered payload header list mbs parse stop after covers =
      let same = same_slice g.info g.size payload covers.header header covers.mbs mbs ranges limits covers.slice.spelled parse.spelled in
      let lists : Some covers.list ≡ Some list = sym covers.slice.listed ∙ (ap (λ (h : Header). reference_list g.info h) same.of_header ∙ parse.listed) in
      let Rebuilt : Header → List (Option ℕ) → List Macroblock → Type 0 = λ h l m. AreRebuilt (slice_in g h l m) covers.marks covers.tiles (length m) in
      let by_header = subst (λ (h : Header). Rebuilt h covers.list covers.mbs) same.of_header covers.slice.rebuilt in
      let by_list = subst (λ (l : List (Option ℕ)). Rebuilt header l covers.mbs) (some_same _ _ lists) by_header in
      let rebuilt = subst (Rebuilt header list) same.of_macroblocks by_list in
      let whole = subst (λ (m : List Macroblock). AreWhole covers.marks covers.tiles (length m)) same.of_macroblocks covers.slice.whole in
      stopped_has_none (slice_in g header list mbs) (length mbs) stop.marks covers.marks stop.tiles covers.tiles
      limits.some_column stop.whole whole stop.stops rebuilt

  covers_or_refused : (covered : Covered) (unit : Option (List ℕ)) → Behind covered unit ⊎ IsRefused g covered unit
  covers_or_refused covered None = inr (λ after covers. covers)
  covers_or_refused covered (Some payload) = elim (parses_decided g.info g.size covered.first (length covered.tiles) payload) [
    | inr none ↦ inr (λ after covers.
        none (covers.header, covers.list, covers.mbs, record { spelled = covers.slice.spelled; fits = covers.slice.fits; listed = covers.slice.listed }))
    | inl is ↦ elim (slices_are_constructed_or_stop (slice_in g is.0 is.1 is.2) (length is.2) limits.some_column) [
      | inl all ↦ inl (constructed covered payload is.0 is.1 is.2 is.3 all)
      | inr stop ↦ inr (stopped covered payload is.0 is.1 is.2 is.3 stop)
    ]
  ]

  module _ (units : List (Option (List ℕ))) where
    abbrev Accepts : ℕ → Type 0
    Accepts count = (covered : Covered) × AreAccepted g units count covered

    -- so many units are accepted
    accepts : (count : ℕ) → Decided (Accepts count)
    unfolding AreAccepted
    accepts zero = inl (nothing, refl)
    accepts (suc count) = elim (accepts count) [
      | inr none ↦ inr (λ all. none (all.1.0, all.1.1))
      | inl before ↦ elim (covers_or_refused before.0 (payload_at units count)) [
        | inl next ↦ inl (next.0, (before.0, before.1, next.1))
        | inr refused ↦ inr (λ all.
            let same : all.1.0 ≡ before.0 = accepted_one g units count all.1.0 before.0 ranges limits all.1.1 before.1 in
            refused all.0 (subst (λ (c : Covered). Covers g c (payload_at units count) all.0) same all.1.2))
      ]
    ]

    pub whole_decided : Decided ((picture : Picture) × IsWhole g units picture)
    whole_decided = elim (accepts (length units)) [
      | inr none ↦ inr (λ h. none (h.1.covered, h.1.accepted))
      | inl all ↦ elim (equal_numbers (length all.0.tiles) (macroblocks g.size)) [
        | inl full ↦
            let decoded = decoded_pictures_exist g all.0 limits in
            inl (decoded.0, record { covered = all.0; accepted = all.1; all = full; decoded = decoded.1 })
        | inr lacks ↦ inr (λ h.
            let same : h.1.covered ≡ all.0 = accepted_one g units (length units) h.1.covered all.0 ranges limits h.1.accepted all.1 in
            lacks (ap (λ (c : Covered). length c.tiles) (sym same) ∙ h.1.all))
      ]
    ]
