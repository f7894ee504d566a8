-- A picture's units come to an outcome, where it is decided of each payload whether it is read as a slice.
use Rattle.std.proofs.Common.{ℕ, ◌-◌, ◌≤◌, inl, inr, List, [], length, Option, arith}
use Rattle.std.proofs.lemmas.Bool.{cases_lt}
use Rattle.cb_types.specs.AcceptedInfo.{IsAcceptedBySome}
use Rattle.cb_types.specs.SizeMbs.{IsWithinLimits, macroblocks}
use Rattle.cb_types.specs.declared.header.Header.{Header}
use Rattle.vd_plane.specs.declared.picture.Picture.{Picture}
use Rattle.decoder_render.specs.Coverage.{AreAccepted, Covered, Given}
use Rattle.decoder_render.specs.Outcomes.{IsOutcome}
use Rattle.decoder_render.specs.declared.outcome.Outcome.{Outcome}
use Rattle.decoder_render.specs.declared.outcome.Outcome.TheVariants as outcome
use Rattle.finite.specs.Decided.{Decided}
use Rattle.slice_readings.specs.Readings.{ParsesAsSome}
use Rattle.slice_readings.proofs.SliceReadings.{parses_decided}
use Rattle.render_outcomes.specs.Outcomes.{DecodedPicturesExist, OutcomesExist}
use Rattle.render_outcomes.proofs.CoverageExists.{accepted_or_fault, accepted_within}
use Rattle.render_outcomes.proofs.FilteredExist.{filtered_picture}
use Rattle.render_outcomes.proofs.PicturesExist.{shown_picture, shown_size, shown_tiles}

pub decoded_pictures_exist : DecodedPicturesExist
decoded_pictures_exist g covered limits =
    let constructed : Picture = shown_picture covered.tiles g.size limits in
    let filtered = filtered_picture g.info.chroma_qp_index_offset g.size covered.marks constructed in (
      filtered.0,
      record {
        constructed = constructed;
        size = shown_size covered.tiles g.size limits;
        shows = shown_tiles covered.tiles g.size limits;
        y = filtered.1.y;
        cb = filtered.1.cb;
        cr = filtered.1.cr;
      },
    )

-- an outcome of units, and its picture
abbrev pub Comes : Given → List (Option (List ℕ)) → Type 0
Comes g units = (outcome : Outcome) × (picture : Picture) × IsOutcome g units outcome picture

all_accepted : (g : Given) (units : List (Option (List ℕ))) (covered : Covered) → IsWithinLimits g.size → AreAccepted g units (length units) covered → Comes g units
all_accepted g units covered limits are =
    let decoded = decoded_pictures_exist g covered limits in
    let within : length covered.tiles ≤ macroblocks g.size = accepted_within g units (length units) covered are in
    elim (cases_lt (length covered.tiles) (macroblocks g.size)) [
      | inl less ↦ (outcome.Incomplete (macroblocks g.size - length covered.tiles), decoded.0, record { covered = covered; accepted = are; some = omega arith; count = omega arith })
      | inr le ↦ (outcome.Ok, decoded.0, record { covered = covered; accepted = are; all = omega arith; decoded = decoded.1 })
    ]

pub comes_to : (g : Given) (units : List (Option (List ℕ))) → IsAcceptedBySome g.info → IsWithinLimits g.size
    → ((first : Option Header) (covered : ℕ) (payload : List ℕ) → Decided (ParsesAsSome g.info g.size first covered payload)) → Comes g units
comes_to g units accepted limits reads = elim (accepted_or_fault g accepted limits reads units (length units) (omega arith)) [
  | inl all ↦ all_accepted g units all.0 limits all.1
  | inr fault ↦ (outcome.Bitstream fault.0, shown_picture [] g.size limits, fault.1)
]

-- That is decided of each payload, so each list of units has an outcome.
pub outcomes_exist : OutcomesExist
outcomes_exist g units accepted limits = comes_to g units accepted limits (λ first covered payload. parses_decided g.info g.size first covered payload)
