-- That what is done on a core has a history.
use Rattle.std.specs.Prelude.{◌≡◌, ℕ, false, List, [], ◌++◌, length, slice_get, Some, Result, ⊤}
use Rattle.std.specs.List.{AllByRecursion}
use Rattle.cb_types.specs.declared.picture_info.PictureInfo.{PictureInfo}
use Rattle.decoder_render.specs.Outcomes.{IsOutcome}
use Rattle.decoder_render.specs.declared.outcome.Outcome.{Outcome}
use Rattle.decoder_render.specs.declared.outcome.Outcome.TheVariants as outcome
use Rattle.driver_jobs.specs.Mixes as mixes
use Rattle.driver_jobs.specs.Renders as renders
use Rattle.driver_jobs.specs.declared.renders.CoreRender.{CoreRender}
use Rattle.mixer.specs.Mixed.{IsMixed}
use Rattle.vd_plane.specs.declared.picture.Picture.{Picture}
use Rattle.vd_status.specs.declared.refusal.Refusal.{Refusal}
use Rattle.driver_model.specs.Answers.{Reply, reply_with}
use Rattle.driver_model.specs.Ends.{IsReplyOfJob}
use Rattle.driver_model.specs.Histories.{IsStateOf}
use Rattle.driver_model.specs.Passes.{is_job}
use Rattle.driver_model.specs.States.{Note, State, empty_state}
use Rattle.driver_model.specs.declared.calls.Call.{Call}
use Rattle.driver_model.specs.declared.calls.Call.TheVariants.{Render}
use Rattle.driver_model.specs.declared.items.Item.{Item}
use Rattle.driver_model.specs.declared.replies.Answer.{Answer}
use Rattle.driver_core.specs.Answered.{Calls}
use Rattle.driver_core.specs.Begun.{BeginRender}
use Rattle.driver_core.specs.Owed.{OwesPicture, OwesPixels}
use Rattle.driver_core.specs.Stands.{Stands}
use Rattle.driver_core.specs.declared.answer.CoreAnswer.TheVariants.{Now}
use Rattle.driver_core.specs.declared.answer.CoreBegin.TheVariants as begin
use Rattle.driver_core.specs.declared.driver.Core.{Core}
use Rattle.core_runs.specs.Deeds.{Deed, Finished, Held, IsBegun, IsReplied, IsRun, Mixed, Moment, OpenJob, Rendered, ToMix, ToRender, run_items}

-- The note is that of the job that is held so: it has the job's number and outcome, and the surface is owed what the job
-- comes to.
abbrev pub IsNoteOf : Held → State → Note → Type 0
IsNoteOf (ToRender job) s note =
    (outcome : Outcome) × (picture : Picture)
    × IsOutcome (renders.given_of job) (renders.payloads_of job) outcome picture
    × (note.number ≡ renders.number_of job)
    × (note.outcome ≡ outcome)
    × OwesPicture s note (renders.given_of job).size picture
IsNoteOf (Rendered done) s note =
    (note.number ≡ renders.done_number done)
    × (note.outcome ≡ renders.outcome_of done)
    × OwesPicture s note (renders.done_size done) (renders.picture_of done)
IsNoteOf (ToMix job) s note =
    (bytes : List ℕ)
    × IsMixed (mixes.picture_of job) (mixes.matrix_of job) (mixes.format_of job) bytes
    × (note.number ≡ mixes.number_of job)
    × (note.outcome ≡ outcome.Ok)
    × OwesPixels s note (mixes.size_of job) bytes
IsNoteOf (Mixed done) s note =
    (note.number ≡ mixes.done_number done)
    × (note.outcome ≡ outcome.Ok)
    × OwesPixels s note (mixes.done_size done) (mixes.pixels_of done)

-- The job has its note in the state.
pub record IsNoted (s : State) (job : OpenJob) : Type 0 where
  pub index : ℕ
  pub note : Note
  pub there : slice_get s.notes index ≡ Some note
  pub at_place : note.place ≡ job.place
  pub of_caller : note.caller ≡ job.caller
  pub owes : IsNoteOf job.held s note

-- The history has so many items and leads to a state for which the core stands, and each job that was begun and hasn't
-- ended has its note there. So the history is legal.
pub record IsKnown (history : List Item) (moment : Moment) : Type 0 where
  pub state : State
  pub leads : IsStateOf history state
  pub stands : Stands moment.core state
  pub count : moment.items ≡ length history
  pub jobs : AllByRecursion (IsNoted state) moment.jobs

-- Where the deed ends a job, what it answers is the reply that the history has at the job's beginning.
abbrev pub AnswersAsBegun : List Item → Deed → Type 0
AnswersAsBegun history (Finished mark reply) = IsReplyOfJob history mark.place mark.caller reply
AnswersAsBegun history _ = ⊤

-- The items of a run go on with the history that led to its first moment, in whatever order the deeds were done.
abbrev pub RunsHaveHistories : Type 0
RunsHaveHistories =
    (front : List Item) (first last : Moment) (deeds : List Deed)
    → IsKnown front first
    → IsRun first deeds last
    → IsKnown (front ++ run_items deeds) last × AllByRecursion (AnswersAsBegun (front ++ run_items deeds)) deeds

-- Nothing has happened on a new core, nor is there a job.
abbrev pub NewCoresAreKnown : Type 0
NewCoresAreKnown = (core : Core) → Stands core empty_state → IsKnown [] (record { core = core; items = 0; jobs = [] })

-- A run can begin wherever the core stands for the state of a legal history.
abbrev pub StatesAreKnown : Type 0
StatesAreKnown =
    (core : Core) (front : List Item) (state : State)
    → IsStateOf front state
    → Stands core state
    → IsKnown front (record { core = core; items = length front; jobs = [] })

-- Each render that a core begins is such a deed: there is a reply to which its job comes.
abbrev pub BegunRendersComeToReplies : Type 0
BegunRendersComeToReplies =
    (old new : Core) (decoder target : ℕ) (info : PictureInfo) (bytes : List ℕ) (job : CoreRender)
    → BeginRender old new decoder target info bytes (begin.Job job)
    → (reply : Reply) × IsBegun old new (Render decoder target info bytes) reply (ToRender job)

-- So is each call that isn't a job's and that a core answers.
abbrev pub AnswersAreReplies : Type 0 → Type 0
AnswersAreReplies A =
    (old new : Core) (call : Call) (answer : A → Answer) (result : Result A Refusal)
    → is_job call ≡ false
    → Calls old new call answer (Now result)
    → IsReplied old new call (reply_with answer result)
