-- That what a picture's units come to exists.
use Rattle.std.specs.Prelude.{ℕ, List, Option}
use Rattle.cb_types.specs.AcceptedInfo.{IsAcceptedBySome}
use Rattle.cb_types.specs.SizeMbs.{IsWithinLimits}
use Rattle.vd_plane.specs.declared.picture.Picture.{Picture}
use Rattle.decoder_render.specs.Coverage.{Covered, Given}
use Rattle.decoder_render.specs.Outcomes.{IsDecoded, IsOutcome}
use Rattle.decoder_render.specs.declared.outcome.Outcome.{Outcome}

-- What is covered has its picture behind the deblocking filter.
abbrev pub DecodedPicturesExist : Type 0
DecodedPicturesExist =
    (g : Given) (covered : Covered)
    → IsWithinLimits g.size
    → (picture : Picture) × IsDecoded g covered picture

-- Each list of units has an outcome, and a picture where they are all that it needs.
abbrev pub OutcomesExist : Type 0
OutcomesExist =
    (g : Given) (units : List (Option (List ℕ)))
    → IsAcceptedBySome g.info
    → IsWithinLimits g.size
    → (outcome : Outcome) × (picture : Picture) × IsOutcome g units outcome picture
