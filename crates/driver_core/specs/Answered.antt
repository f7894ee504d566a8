-- What a call of a core has to do with the step of the driver that it takes.
use Rattle.std.specs.Prelude.{ℕ, List, Result, Ok, Err, ⊤}
use Rattle.vd_status.specs.declared.refusal.Refusal.{Refusal}
use Rattle.driver_model.specs.Answers.{reply_with}
use Rattle.driver_model.specs.States.{State}
use Rattle.driver_model.specs.Steps.{Step}
use Rattle.driver_model.specs.Waits.{Waits}
use Rattle.driver_model.specs.declared.calls.Call.{Call}
use Rattle.driver_model.specs.declared.replies.Answer.{Answer}
use Rattle.driver_core.specs.Stands.{Stands}
use Rattle.driver_core.specs.declared.answer.CoreAnswer.{CoreAnswer}
use Rattle.driver_core.specs.declared.answer.CoreAnswer.TheVariants.{Now, Later}
use Rattle.driver_core.specs.declared.driver.Core.{Core}

-- The step that a call takes from a state, and the state for which the core stands afterwards.
pub record Takes (core : Core) (d : State) (caller : List ℕ) (call : Call) (reply : Result Answer Refusal) : Type 0 where
  pub after : State
  pub step : Step d caller call reply after
  pub stands : Stands core after

-- An answer is the reply of a step. A call is put off exactly where it waits, and then nothing has changed.
abbrev pub IsAnswer : {A : Type 0} → (new : Core) (d : State) → List ℕ → Call → (A → Answer) → CoreAnswer A → Type 0
IsAnswer new d caller call answer (Now result) = Takes new d caller call (reply_with answer result)
IsAnswer new d caller call answer Later = Waits d call × Stands new d

-- So for each state for which the core stood, and each caller.
abbrev pub Calls : {A : Type 0} → (old new : Core) → Call → (A → Answer) → CoreAnswer A → Type 0
Calls old new call answer result = (d : State) (caller : List ℕ) → Stands old d → IsAnswer new d caller call answer result

-- what holds where a call was refused or put off
abbrev pub UnlessDone : {A : Type 0} → CoreAnswer A → Type 0 → Type 0
UnlessDone (Now (Ok value)) P = ⊤
UnlessDone (Now (Err refusal)) P = P
UnlessDone Later P = P
