-- What each call of the driver promises, whichever it is.
use Rattle.std.specs.Prelude.{◌≡◌, ℕ, Result, Ok, Err, length, ⊤}
use Rattle.atomic_table.specs.Seated.{TableId}
use Rattle.device_lock.specs.Numbers.{Knows}
use Rattle.device_lock.specs.Passes.{pass_lock}
use Rattle.device_lock.specs.Views.{with_item, without_turn}
use Rattle.vd_status.specs.declared.refusal.Refusal.{Refusal}
use Rattle.driver_model.specs.Answers.{Reply, reply_with}
use Rattle.driver_model.specs.Passes.{Adds, caller_of}
use Rattle.driver_model.specs.declared.calls.Call.{Call}
use Rattle.driver_model.specs.declared.items.Item.{Item}
use Rattle.driver_model.specs.declared.items.Item.TheVariants.{Called}
use Rattle.driver_model.specs.declared.replies.Answer.{Answer}
use Rattle.device_lock.specs.declared.view.View.{View}
use Rattle.driver.specs.Passes.{view}
use Rattle.driver.specs.declared.driver.Answered.{Answered}
use Rattle.driver.specs.declared.driver.Pass.{Pass}

-- the call with its reply, as the caller with this view logs it
abbrev pub entry_of : View Item → Call → Reply → Item
entry_of by call reply = Called (record { caller = by.number; call = call; reply = reply })

-- The call is one item of the one history, at the place that it answers: behind all that the pass had seen, and the last that the pass
-- that comes back has seen. Its reply is what the call answers.
pub record Makes {A : Type 0} (before : Pass) (call : Call) (answer : A → Answer) (answered : Answered A) : Type 0 where
  pub same_driver : pass_lock answered.pass.token ≡ pass_lock before.token
  pub adds : Adds (view before) (entry_of (view before) call (reply_with answer answered.result)) answered.place (view answered.pass)

-- what holds where a call is refused
abbrev pub IfRefused : {A : Type 0} → Result A Refusal → Type 0 → Type 0
IfRefused (Ok value) P = ⊤
IfRefused (Err refusal) P = P

-- In its turn on this lock a caller with this view has logged the item, and its turn is over. No public clause cites this.
pub record Logs (lock : TableId) (held : View Item) (item : Item) (after : Pass) (place : ℕ) : Type 0 where
  pub same_driver : pass_lock after.token ≡ lock
  pub leaves : view after ≡ without_turn (with_item held item)
  pub at_place : place ≡ length held.seen
  pub knows : Knows caller_of (view after)
