-- What a step of a stream's task adds and answers.
use Rattle.std.specs.Prelude.{◌≡◌, ℕ, ◌≤◌, true, false, List, [], ◌++◌, length, Option, Some, None}
use Rattle.std.specs.List.{list_any}
use Rattle.device_lock.specs.declared.view.View.{View}
use Rattle.driver_model.specs.declared.items.Item.{Item}
use Rattle.stream_calls.specs.Counted.{is_counted}
use Rattle.stream_calls.specs.StreamCalls.{Fed}
use Rattle.stream_task.specs.Calls.{AddsAll, EndsFull}
use Rattle.stream_task.specs.declared.answers.Stepped.{Stepped}
use Rattle.stream_task.specs.declared.answers.Stepped.TheVariants as stepped
use Rattle.stream_task.specs.declared.answers.Verdict.{Verdict}
use Rattle.stream_task.specs.declared.phase.Phase.{Phase}
use Rattle.stream_task.specs.declared.phase.Phase.TheVariants as phase
use Rattle.stream_task.specs.declared.task.StreamTask.{StreamTask}

-- nothing was fed
abbrev pub no_fed : Fed
no_fed = record { bytes = []; ended = false }

-- Bytes may be fed: the end wasn't, and with them there are 2^30 at most.
pub record MayFeed (fed : Fed) (bytes : List ℕ) : Type 0 where
  pub not_ended : fed.ended ≡ false
  pub room : length (fed.bytes ++ bytes) ≤ 1073741824

abbrev pub verdict_in : Phase → Option Verdict
verdict_in (phase.Done verdict) = Some verdict
verdict_in _ = None

-- the verdict on a stream that has ended
abbrev pub verdict_of_task : StreamTask → Option Verdict
verdict_of_task task = verdict_in task.phase

-- What an answer says of the items that the step has added, and of the task behind it.
abbrev pub IsAnswer : Stepped → List Item → StreamTask → Type 0
IsAnswer stepped.Moved items task = list_any is_counted items ≡ true
IsAnswer (stepped.Full live given) items task = EndsFull items live given
IsAnswer (stepped.Done verdict) items task = verdict_of_task task ≡ Some verdict
IsAnswer _ items task = Unit {0}

-- The step has added these items to its pass, and answers so.
pub record Steps (before after : View Item) (task : StreamTask) (answer : Stepped) : Type 0 where
  pub items : List Item
  pub adds : AddsAll before items after
  pub answers : IsAnswer answer items task

-- A task that has ended adds nothing, and its answer stays.
pub record StaysEnded (before after : View Item) (verdict : Verdict) (answer : Stepped) : Type 0 where
  pub pass : after ≡ before
  pub answer_is : answer ≡ stepped.Done verdict
