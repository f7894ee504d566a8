-- What a call that begins a job promises, and what the job's end does, whichever of the two jobs it is.
use Rattle.std.specs.Prelude.{◌≡◌, ℕ, false, Err}
use Rattle.decoder_render.specs.declared.outcome.Outcome.{Outcome}
use Rattle.device_lock.specs.Passes.{pass_lock}
use Rattle.vd_status.specs.declared.refusal.Refusal.{Refusal}
use Rattle.driver_model.specs.Answers.{reply_with}
use Rattle.driver_model.specs.Ends.{Ends}
use Rattle.driver_model.specs.Jobs.{reply_of}
use Rattle.driver_model.specs.Passes.{Adds, begins_job}
use Rattle.driver_model.specs.declared.calls.Call.{Call}
use Rattle.driver_model.specs.declared.replies.Answer.TheVariants.{Done}
use Rattle.driver.specs.Made.{entry_of}
use Rattle.driver.specs.Passes.{view}
use Rattle.driver.specs.declared.driver.Answered.{Answered}
use Rattle.driver.specs.declared.driver.Pass.{Pass}

-- The call began a job. It is one item of the one history, at this place, behind all that the pass had seen, and the last that the pass
-- has seen which the job now holds. Its reply is the one that the job's end will answer: the outcome is settled by the state there.
pub record Begins (before : Pass) (call : Call) (pass : Pass) (place : ℕ) : Type 0 where
  pub same_driver : pass_lock pass.token ≡ pass_lock before.token
  pub outcome : Outcome
  pub adds : Adds (view before) (entry_of (view before) call (reply_of outcome)) place (view pass)

-- The call was refused, at this place of the one history, and has begun no job.
pub record Refuses (before : Pass) (call : Call) (refusal : Refusal) (pass : Pass) (place : ℕ) : Type 0 where
  pub same_driver : pass_lock pass.token ≡ pass_lock before.token
  pub adds : Adds (view before) (entry_of (view before) call (Err refusal)) place (view pass)
  pub no_job : begins_job (entry_of (view before) call (Err refusal)) ≡ false

-- The job that was begun at this place has ended: its mark is one item of the one history, and the last that the pass that comes back has
-- seen. What is answered is the place of the beginning, and the reply that the entry has there.
pub record EndsJob (before : Pass) (job : ℕ) (answered : Answered (Unit {0})) : Type 0 where
  pub same_driver : pass_lock answered.pass.token ≡ pass_lock before.token
  pub at_beginning : answered.place ≡ job
  pub mark : ℕ
  pub ends : Ends (view before) job (reply_with (λ nothing. Done) answered.result) mark (view answered.pass)
