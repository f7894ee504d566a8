-- What the end of a job promises: it takes away the job's note, and answers the outcome that the job's beginning had.
use Rattle.std.specs.Prelude.{◌≡◌}
use Rattle.decoder_render.specs.declared.outcome.Outcome.{Outcome}
use Rattle.decoder_render.specs.declared.outcome.Outcome.TheVariants as outcome
use Rattle.driver_jobs.specs.Mixes as mixes
use Rattle.driver_jobs.specs.Renders as renders
use Rattle.driver_jobs.specs.declared.mixes.CoreMixDone.{CoreMixDone}
use Rattle.driver_jobs.specs.declared.renders.CoreRenderDone.{CoreRenderDone}
use Rattle.driver_model.specs.Answers.{reply_with}
use Rattle.driver_model.specs.Jobs.{reply_of}
use Rattle.driver_model.specs.States.{Note, State, without_note}
use Rattle.driver_model.specs.declared.replies.Answer.TheVariants.{Done}
use Rattle.driver_core.specs.Owed.{IsOut, OwesPicture, OwesPixels}
use Rattle.driver_core.specs.Stands.{Stands}
use Rattle.driver_core.specs.declared.answer.CoreAnswer.{CoreAnswer}
use Rattle.driver_core.specs.declared.answer.CoreAnswer.TheVariants.{Later, Now}
use Rattle.driver_core.specs.declared.driver.Core.{Core}

-- The answer tells this outcome.
abbrev pub Tells : Outcome → CoreAnswer (Unit {0}) → Type 0
Tells outcome (Now result) = reply_with (λ nothing. Done) result ≡ reply_of outcome
Tells outcome Later = ⊥

-- A render that was begun on this core, and whose note has the outcome that it has come to, is ended. Where the surface that it writes is
-- owed the picture, it has it from now on.
abbrev pub EndRender : (old new : Core) → CoreRenderDone → CoreAnswer (Unit {0}) → Type 0
EndRender old new done answer =
    Tells (renders.outcome_of done) answer
    × ((d : State) (note : Note)
    → Stands old d
    → IsOut d (renders.done_number done) note
    → note.outcome ≡ renders.outcome_of done
    → OwesPicture d note (renders.done_size done) (renders.picture_of done)
    → Stands new (without_note d note.caller note.place))

-- So with a mix, whose outcome is always Ok.
abbrev pub EndMix : (old new : Core) → CoreMixDone → CoreAnswer (Unit {0}) → Type 0
EndMix old new done answer =
    Tells outcome.Ok answer
    × ((d : State) (note : Note)
    → Stands old d
    → IsOut d (mixes.done_number done) note
    → note.outcome ≡ outcome.Ok
    → OwesPixels d note (mixes.done_size done) (mixes.pixels_of done)
    → Stands new (without_note d note.caller note.place))
