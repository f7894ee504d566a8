-- A task acts, whichever its phase.
use Rattle.std.proofs.Common.{◌≡◌, [], refl, sym, subst}
use Rattle.device_lock.specs.declared.view.View.{View}
use Rattle.driver_model.specs.declared.items.Item.{Item}
use Rattle.stream_calls.specs.StreamCalls.{Fed, Stream}
use Rattle.stream_task.specs.Calls.{AddsAll}
use Rattle.stream_task.specs.Keeping.{Ready}
use Rattle.stream_task.specs.Leaving.{Went, ended_with, with_phase}
use Rattle.stream_task.specs.declared.answers.Stepped.TheVariants as stepped
use Rattle.stream_task.specs.declared.answers.Verdict.{Verdict}
use Rattle.stream_task.specs.declared.phase.Phase.{Phase}
use Rattle.stream_task.specs.declared.phase.Phase.TheVariants as phase
use Rattle.stream_task.specs.declared.task.StreamTask.{StreamTask}

-- It is ready in the phase that it is in.
pub ready_in : (task : StreamTask) (of : Stream) (fed : Fed) (v : View Item) (here : Phase) → task.phase ≡ here
    → Ready task of fed v → Ready (with_phase task here) of fed v
ready_in task of fed v here is ready = subst (λ (p : Phase). Ready (with_phase task p) of fed v) is ready

-- Where it asks it still does.
pub asking_so : (task : StreamTask) (of : Stream) (fed : Fed) (v : View Item) (put : Phase) → task.phase ≡ phase.Asking → put ≡ phase.Asking
    → Ready task of fed v → Ready (with_phase task put) of fed v
asking_so task of fed v put is asks ready =
    subst (λ (p : Phase). Ready (with_phase task p) of fed v) (sym asks) (ready_in task of fed v phase.Asking is ready)

pub nothing_added : (v : View Item) → AddsAll v [] v
unfolding AddsAll
nothing_added v = refl

-- One that has ended stays so.
pub ended_still : (task : StreamTask) (of : Stream) (fed : Fed) (v : View Item) (verdict : Verdict) → task.phase ≡ phase.Done verdict
    → Ready task of fed v → Went (ended_with task verdict) of fed v v (stepped.Done verdict)
ended_still task of fed v verdict is ready = record {
  ready = ready_in task of fed v (phase.Done verdict) is ready;
  steps = record { items = []; adds = nothing_added v; answers = refl };
}
