-- What the two jobs, renders and mixes, have in common. A job is one step of the driver, at its beginning.
use Rattle.std.specs.Prelude.{Ok, Err}
use Rattle.decoder_render.specs.declared.outcome.Outcome.{Outcome}
use Rattle.decoder_render.specs.declared.outcome.Outcome.TheVariants as outcome
use Rattle.vd_status.specs.declared.refusal.Refusal.TheVariants.{Bitstream, Incomplete}
use Rattle.driver_model.specs.Answers.{Reply}
use Rattle.driver_model.specs.declared.replies.Answer.TheVariants.{Done}

-- what the end of a job with this outcome answers
abbrev pub reply_of : Outcome → Reply
reply_of outcome.Ok = Ok Done
reply_of (outcome.Bitstream slice) = Err (Bitstream slice)
reply_of (outcome.Incomplete macroblocks) = Err (Incomplete macroblocks)
