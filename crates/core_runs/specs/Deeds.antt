-- What is done on a core, one thing after the other: calls that are answered or put off, and jobs that are begun, run and
-- ended. Each is what the contract of the core's method says.
use Rattle.std.specs.Prelude.{◌≡◌, ℕ, ◌+◌, ◌==◌, not, List, [], ◌∷◌, ◌++◌, filter, Option, Result, Err}
use Rattle.decoder_render.specs.Outcomes.{IsOutcome}
use Rattle.decoder_render.specs.declared.outcome.Outcome.{Outcome}
use Rattle.decoder_render.specs.declared.outcome.Outcome.TheVariants as outcome
use Rattle.driver_jobs.specs.Mixes as mixes
use Rattle.driver_jobs.specs.Renders as renders
use Rattle.driver_jobs.specs.declared.mixes.CoreMix.{CoreMix}
use Rattle.driver_jobs.specs.declared.mixes.CoreMixDone.{CoreMixDone}
use Rattle.driver_jobs.specs.declared.renders.CoreRender.{CoreRender}
use Rattle.driver_jobs.specs.declared.renders.CoreRenderDone.{CoreRenderDone}
use Rattle.vd_plane.specs.declared.picture.Picture.{Picture}
use Rattle.vd_status.specs.declared.refusal.Refusal.{Refusal}
use Rattle.driver_model.specs.Answers.{Reply, reply_with}
use Rattle.driver_model.specs.Jobs.{reply_of}
use Rattle.driver_model.specs.declared.calls.Call.{Call}
use Rattle.driver_model.specs.declared.calls.Call.TheVariants.{Mix, Render}
use Rattle.driver_model.specs.declared.items.Entry.{Entry}
use Rattle.driver_model.specs.declared.items.Item.{Item}
use Rattle.driver_model.specs.declared.items.Item.TheVariants.{Called, Ended}
use Rattle.driver_model.specs.declared.items.Mark.{Mark}
use Rattle.driver_model.specs.declared.replies.Answer.{Answer}
use Rattle.driver_model.specs.declared.replies.Answer.TheVariants.{Done}
use Rattle.driver_core.specs.Answered.{Calls}
use Rattle.driver_core.specs.Begun.{BeginMix, BeginRender}
use Rattle.driver_core.specs.Ended.{EndMix, EndRender}
use Rattle.driver_core.specs.declared.answer.CoreAnswer.TheVariants as answer
use Rattle.driver_core.specs.declared.answer.CoreBegin.TheVariants as begin
use Rattle.driver_core.specs.declared.driver.Core.{Core}

-- ---- jobs

-- what a caller holds of a job: one that is to be run, or what was done when it was run
pub data Held : Type 0 where
  ToRender : CoreRender → Held
  Rendered : CoreRenderDone → Held
  ToMix : CoreMix → Held
  Mixed : CoreMixDone → Held

-- A job that was begun and hasn't ended: the place of its beginning in the history, its caller, and what that holds.
pub record OpenJob : Type 0 where
  pub place : ℕ
  pub caller : List ℕ
  pub held : Held

-- the jobs but the one that was begun at this place
abbrev pub without_job : List OpenJob → ℕ → List OpenJob
without_job jobs place = filter (λ job. not (job.place == place)) jobs

-- ---- deeds

-- What is done, and what is answered.
pub data Deed : Type 0 where
  -- a call is answered at once, or refused
  Replied : Entry → Deed
  -- this caller's call is put off
  PutOff : List ℕ → Call → Deed
  -- a call begins a job, and has the reply that the job's end will answer
  Began : Entry → Deed
  -- the job that was begun at this place is run
  Ran : ℕ → Deed
  -- a job is ended, which answers this
  Finished : Mark → Reply → Deed

-- the items of a history that these are
abbrev pub deed_items : Deed → List Item
deed_items (Replied entry) = Called entry ∷ []
deed_items (PutOff caller call) = []
deed_items (Began entry) = Called entry ∷ []
deed_items (Ran place) = []
deed_items (Finished mark reply) = Ended mark ∷ []

unfoldable pub run_items : List Deed → List Item
run_items [] = []
run_items (deed ∷ later) = deed_items deed ++ run_items later

-- ---- what the methods of a core promise

module _ (old new : Core) where
  -- The call is answered so. That of a job is refused.
  abbrev pub IsReplied : Call → Reply → Type 0
  IsReplied (Render decoder target info bytes) reply =
      (submission : Option (List ℕ)) × (refusal : Refusal)
      × BeginRender old new decoder target info bytes (begin.Refused submission refusal)
      × (reply ≡ Err refusal)
  IsReplied (Mix mixer structure video output) reply =
      (submission : Option (List ℕ)) × (refusal : Refusal)
      × BeginMix old new mixer structure video output (begin.Refused submission refusal)
      × (reply ≡ Err refusal)
  IsReplied call reply = Calls old new call (λ answer. answer) (answer.Now reply)

  -- The call is put off.
  abbrev pub IsPutOff : Call → Type 0
  IsPutOff (Render decoder target info bytes) =
      (submission : Option (List ℕ)) × BeginRender old new decoder target info bytes (begin.Later submission)
  IsPutOff (Mix mixer structure video output) =
      (submission : Option (List ℕ)) × BeginMix old new mixer structure video output (begin.Later submission)
  IsPutOff call = Calls old new call (λ (reply : Answer). reply) answer.Later

  -- The call begins this job. Its reply tells the outcome to which the job comes when it is run.
  abbrev pub IsBegun : Call → Reply → Held → Type 0
  IsBegun (Render decoder target info bytes) reply (ToRender job) =
      (outcome : Outcome) × (picture : Picture)
      × IsOutcome (renders.given_of job) (renders.payloads_of job) outcome picture
      × BeginRender old new decoder target info bytes (begin.Job job)
      × (reply ≡ reply_of outcome)
  IsBegun (Mix mixer structure video output) reply (ToMix job) =
      BeginMix old new mixer structure video output (begin.Job job) × (reply ≡ reply_of outcome.Ok)
  IsBegun _ _ _ = ⊥

  -- The job, which was run, is ended, and this is answered.
  abbrev pub IsFinished : Held → Reply → Type 0
  IsFinished (Rendered done) reply =
      (result : Result (Unit {0}) Refusal)
      × EndRender old new done (answer.Now result)
      × (reply ≡ reply_with (λ nothing. Done) result)
  IsFinished (Mixed done) reply =
      (result : Result (Unit {0}) Refusal)
      × EndMix old new done (answer.Now result)
      × (reply ≡ reply_with (λ nothing. Done) result)
  IsFinished _ reply = ⊥

-- The job is run, and comes to this.
abbrev pub IsRunTo : Held → Held → Type 0
IsRunTo (ToRender job) (Rendered done) = renders.IsDoneOf job done
IsRunTo (ToMix job) (Mixed done) = mixes.IsDoneOf job done
IsRunTo _ _ = ⊥

-- ---- runs

-- Between two deeds: the core, how many items the history has, and which jobs were begun and haven't ended.
pub record Moment : Type 0 where
  pub core : Core
  pub items : ℕ
  pub jobs : List OpenJob

-- The job was begun at this place, stands among the others so, and is run.
pub record Runs (before : Moment) (place : ℕ) (after : Moment) : Type 0 where
  pub earlier : List OpenJob
  pub job : OpenJob
  pub later : List OpenJob
  pub there : before.jobs ≡ earlier ++ job ∷ later
  pub at_place : job.place ≡ place
  pub done : Held
  pub runs : IsRunTo job.held done
  pub jobs : after.jobs ≡ earlier ++ record job { held = done } ∷ later

-- The job was begun where the mark says, and is ended.
pub record Finishes (before : Moment) (mark : Mark) (reply : Reply) (after : Moment) : Type 0 where
  pub earlier : List OpenJob
  pub job : OpenJob
  pub later : List OpenJob
  pub there : before.jobs ≡ earlier ++ job ∷ later
  pub at_place : job.place ≡ mark.place
  pub of_caller : job.caller ≡ mark.caller
  pub ends : IsFinished before.core after.core job.held reply
  pub jobs : after.jobs ≡ without_job before.jobs mark.place

-- One deed.
abbrev pub Does : Moment → Deed → Moment → Type 0
Does before (Replied entry) after =
    IsReplied before.core after.core entry.call entry.reply × (after.items ≡ before.items + 1) × (after.jobs ≡ before.jobs)
Does before (PutOff caller call) after =
    IsPutOff before.core after.core call × (after.items ≡ before.items) × (after.jobs ≡ before.jobs)
Does before (Began entry) after =
    (held : Held)
    × IsBegun before.core after.core entry.call entry.reply held
    × (after.items ≡ before.items + 1)
    × (after.jobs ≡ before.jobs ++ record { place = before.items; caller = entry.caller; held = held } ∷ [])
Does before (Ran place) after =
    Runs before place after × (after.items ≡ before.items) × (after.core ≡ before.core)
Does before (Finished mark reply) after = Finishes before mark reply after × (after.items ≡ before.items + 1)

-- One after the other, from a moment to another.
unfoldable pub IsRun : Moment → List Deed → Moment → Type 0
IsRun first [] last = last ≡ first
IsRun first (deed ∷ later) last = (between : Moment) × Does first deed between × IsRun between later last
