-- The units of a picture are accepted one behind the other, or one of them is the first that isn't.
use Rattle.std.proofs.Common.{◌≡◌, ℕ, zero, suc, ◌+◌, ◌≤◌, ◌⊎◌, inl, inr, List, length, Option, Some, None, refl, ap, ◌∙◌, arith}
use Rattle.std.proofs.lemmas.List.{length-append}
use Rattle.cb_types.specs.AcceptedInfo.{IsAcceptedBySome}
use Rattle.cb_types.specs.SizeMbs.{IsWithinLimits, macroblocks}
use Rattle.cb_types.specs.declared.header.Header.{Header}
use Rattle.cb_types.specs.declared.macroblock.Macroblock.{Macroblock}
use Rattle.ref_lists.specs.declared.list.RefList.{RefList}
use Rattle.decoder_render.specs.Coverage.{AreAccepted, Covered, Covers, Given, IsRefused, covered_with, in_places, nothing, slice_in}
use Rattle.decoder_render.specs.Outcomes.{IsFault}
use Rattle.decoder_render.specs.Parsed.{CanParse, IsParsed}
use Rattle.decoder_render.specs.Submission.{payload_at}
use Rattle.decoder_render.specs.declared.parsing.ParsedSlice.{ParsedSlice}
use Rattle.decoder_render.proofs.CoverLemmas.{is_refused, unparsed_refused}
use Rattle.finite.specs.Decided.{Decided}
use Rattle.slice_readings.specs.Readings.{ParsesAsSome}
use Rattle.render_outcomes.specs.Constructions.{Construction, Stop}
use Rattle.render_outcomes.proofs.ConstructionsExist.{slices_are_constructed_or_stop}

module _ (g : Given) (accepted : IsAcceptedBySome g.info) (limits : IsWithinLimits g.size)
    (reads : (first : Option Header) (covered : ℕ) (payload : List ℕ) → Decided (ParsesAsSome g.info g.size first covered payload)) where
  -- what is covered behind a unit
  abbrev Behind : Covered → Option (List ℕ) → Type 0
  Behind covered unit = (after : Covered) × Covers g covered unit after

  abbrev Reads : Covered → List ℕ → Header → List (Option ℕ) → List Macroblock → Type 0
  Reads covered payload header list mbs = CanParse g.info g.size covered.first (length covered.tiles) payload header list mbs

  constructed : (covered : Covered) (payload : List ℕ) (header : Header) (list : List (Option ℕ)) (mbs : List Macroblock)
      → Reads covered payload header list mbs → Construction (slice_in g header list mbs) (length mbs) → Behind covered (Some payload)
  constructed covered payload header list mbs parse all = (
    covered_with covered header all.marks all.tiles,
    record {
      header = header;
      list = list;
      mbs = mbs;
      marks = all.marks;
      tiles = all.tiles;
      slice = record {
        spelled = parse.spelled;
        fits = parse.fits;
        listed = parse.listed;
        of_marks = all.of_marks;
        of_tiles = all.of_tiles;
        whole = all.whole;
        rebuilt = all.rebuilt;
      };
      behind = refl;
    },
  )

  stopped : (covered : Covered) (payload : List ℕ) (header : Header) (list : List (Option ℕ)) (mbs : List Macroblock)
      → Reads covered payload header list mbs → Stop (slice_in g header list mbs) (length mbs) → IsRefused g covered (Some payload)
  stopped covered payload header list mbs parse stop =
      let entries : RefList = record { length = length list; entries = in_places list } in
      let slice : ParsedSlice = record { header = header; list = entries; count = length mbs } in
      let is : IsParsed g.info g.size covered.first (length covered.tiles) payload slice mbs = record { list = list; parse = parse; entries = refl; count = refl } in
      is_refused g.info g.size g.pictures covered.first (length covered.tiles) (Some payload) payload slice mbs covered stop.marks stop.tiles
      accepted limits refl is stop.whole stop.stops

  unread : (covered : Covered) (payload : List ℕ) → (ParsesAsSome g.info g.size covered.first (length covered.tiles) payload → ⊥) → IsRefused g covered (Some payload)
  unread covered payload none =
      unparsed_refused g.info g.size g.pictures covered.first (length covered.tiles) (Some payload) covered refl refl (λ header list mbs parse. none (header, list, mbs, parse))

  covers_or_refused : (covered : Covered) (unit : Option (List ℕ)) → Behind covered unit ⊎ IsRefused g covered unit
  covers_or_refused covered None = inr (λ after covers. covers)
  covers_or_refused covered (Some payload) = elim (reads covered.first (length covered.tiles) payload) [
    | inr none ↦ inr (unread covered payload none)
    | inl is ↦ elim (slices_are_constructed_or_stop (slice_in g is.0 is.1 is.2) (length is.2) limits.some_column) [
      | inl all ↦ inl (constructed covered payload is.0 is.1 is.2 is.3 all)
      | inr stop ↦ inr (stopped covered payload is.0 is.1 is.2 is.3 stop)
    ]
  ]

  -- so many units are accepted, or there is a fault
  pub accepted_or_fault : (units : List (Option (List ℕ))) (count : ℕ) → count ≤ length units
      → ((covered : Covered) × AreAccepted g units count covered) ⊎ ((number : ℕ) × IsFault g units number)
  unfolding AreAccepted
  accepted_or_fault units zero within = inl (nothing, refl)
  accepted_or_fault units (suc count) within = elim (accepted_or_fault units count (omega arith)) [
    | inr fault ↦ inr fault
    | inl before ↦ elim (covers_or_refused before.0 (payload_at units count)) [
      | inl next ↦ inl (next.0, (before.0, before.1, next.1))
      | inr refused ↦ inr (count, record { within = within; covered = before.0; before = before.1; refused = refused })
    ]
  ]

-- a unit doesn't cover more than the picture has
covers_within : (g : Given) (covered after : Covered) (unit : Option (List ℕ)) → Covers g covered unit after → length after.tiles ≤ macroblocks g.size
covers_within g covered after None covers = absurd covers
covers_within g covered after (Some payload) covers =
    let fits = covers.slice.fits.first_mb in
    let some = covers.slice.spelled.macroblocks.0 in
    let within = covers.slice.spelled.macroblocks.1.within in
    let count = covers.slice.of_tiles in
    let long : length after.tiles ≡ length covered.tiles + length covers.tiles = ap (λ (c : Covered). length c.tiles) covers.behind ∙ length-append covered.tiles covers.tiles in
    omega (arith, fits, some, within, count, long)

pub accepted_within : (g : Given) (units : List (Option (List ℕ))) (count : ℕ) (covered : Covered) → AreAccepted g units count covered → length covered.tiles ≤ macroblocks g.size
unfolding AreAccepted
accepted_within g units zero covered is = let none : length covered.tiles ≡ 0 = ap (λ (c : Covered). length c.tiles) is in omega (arith, none)
accepted_within g units (suc count) covered is = covers_within g is.0 covered (payload_at units count) is.2
