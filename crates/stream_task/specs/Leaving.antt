-- What calls leave of a task, and what a step answers to them.
use Rattle.std.specs.Prelude.{◌≡◌, ℕ, ◌+◌, ◌<◌, ◌%◌, Bool, true, false, if◌then◌else◌, length, Option, Some, None, Result, Ok, Err, slice_set}
use Rattle.device_lock.specs.declared.view.View.{View}
use Rattle.driver_model.specs.declared.items.Item.{Item}
use Rattle.vd_status.specs.declared.refusal.Refusal.{Refusal}
use Rattle.vd_status.specs.declared.refusal.Refusal.TheVariants.{HandlesFull, OutOfMemory}
use Rattle.accepted_pictures.specs.Files.{Decoded}
use Rattle.stream_calls.specs.StreamCalls.{Fed, Stream}
use Rattle.stream_course.specs.Standing as course
use Rattle.stream_course.specs.Way.{Way, with_decoded, with_failure}
use Rattle.stream_task.specs.Keeping.{Ready}
use Rattle.stream_task.specs.Places.{index_of}
use Rattle.stream_task.specs.Surfaces.{IsIn}
use Rattle.stream_task.specs.Tasks.{Steps}
use Rattle.stream_task.specs.declared.answers.Stepped.{Stepped}
use Rattle.stream_task.specs.declared.answers.Stepped.TheVariants as stepped
use Rattle.stream_task.specs.declared.answers.Verdict.{Verdict}
use Rattle.stream_task.specs.declared.answers.Verdict.TheVariants.{Preempted}
use Rattle.stream_task.specs.declared.objects.Made.{Made}
use Rattle.stream_task.specs.declared.objects.Objects.{Objects}
use Rattle.stream_task.specs.declared.objects.Place.{Place}
use Rattle.stream_task.specs.declared.phase.Phase.{Phase}
use Rattle.stream_task.specs.declared.phase.Phase.TheVariants as phase
use Rattle.stream_task.specs.declared.slots.Slots.{Slots}
use Rattle.stream_task.specs.declared.task.StreamTask.{StreamTask}

abbrev pub with_phase : StreamTask → Phase → StreamTask
with_phase task phase = record task { phase = phase }

-- The stream has ended.
abbrev pub ended_with : StreamTask → Verdict → StreamTask
ended_with task verdict = with_phase task (phase.Done verdict)

-- what is answered to a refusal, and the task behind it
abbrev pub refused_answer : Refusal → Stepped
refused_answer OutOfMemory = stepped.OutOfMemory
refused_answer _ = stepped.Done Preempted

abbrev pub behind_refusal : StreamTask → Refusal → StreamTask
behind_refusal task OutOfMemory = task
behind_refusal task _ = ended_with task Preempted

-- the same of a call, which may have been done
abbrev pub called_answer : {A : Type 0} → Result A Refusal → Stepped
called_answer (Ok value) = stepped.Moved
called_answer (Err refusal) = refused_answer refusal

abbrev pub behind_call : {A : Type 0} → (refused : StreamTask) → (done : A → StreamTask) → Result A Refusal → StreamTask
behind_call refused done (Ok value) = done value
behind_call refused done (Err refusal) = behind_refusal refused refusal

-- and of a create, for which there may be no room
abbrev pub full_answer : Refusal → Stepped
full_answer (HandlesFull live given) = stepped.Full live given
full_answer refusal = refused_answer refusal

abbrev pub created_answer : Result ℕ Refusal → Stepped
created_answer (Ok name) = stepped.Moved
created_answer (Err refusal) = full_answer refusal

abbrev pub behind_full : StreamTask → Refusal → StreamTask
behind_full task (HandlesFull live given) = task
behind_full task refusal = behind_refusal task refusal

abbrev pub behind_create : (refused : StreamTask) → (done : ℕ → StreamTask) → Result ℕ Refusal → StreamTask
behind_create refused done (Ok name) = done name
behind_create refused done (Err refusal) = behind_full refused refusal

-- ---- what was made

abbrev pub with_objects : StreamTask → Objects → StreamTask
with_objects task objects = record task { objects = objects }

abbrev pub with_device : StreamTask → ℕ → StreamTask
with_device task name = with_objects task (record (task.objects) { device = Some name })

abbrev pub with_queue : StreamTask → ℕ → StreamTask
with_queue task name = with_objects task (record (task.objects) { queue = Some name })

abbrev pub with_place : StreamTask → Place → Option Made → StreamTask
with_place task place object = with_objects task (record (task.objects) { made = slice_set task.objects.made (index_of place) object })

-- Another output surface is the next one, and it is asked what is next.
abbrev pub displayed : StreamTask → StreamTask
displayed task = record task { turn = (task.turn + 1) % 4; phase = phase.Asking }

-- ---- what was rendered

-- the own number of a picture that was rendered, the surface, and whether it came to a whole one
pub record Rendered : Type 0 where
  pub frame : ℕ
  pub surface : ℕ
  pub whole : Bool

-- what is in the surfaces then
abbrev pub AreSlotsBehind : (whole : Bool) → (old : Slots) → (frame surface number : ℕ) → (new : Slots) → Type 0
AreSlotsBehind true old frame surface number new =
    (new.of_number ≡ slice_set old.of_number frame surface) × (new.waits ≡ slice_set old.waits surface (Some number))
AreSlotsBehind false old frame surface number new = new ≡ old

-- the way behind it
abbrev pub way_behind : Way → Decoded → Bool → Way
way_behind way one whole = if whole then with_decoded way one else with_failure way one.picture

-- The picture was rendered.
pub record IsRendered (old new : StreamTask) (of : Stream) (way : Way) (one : Decoded) (rendered : Rendered) : Type 0 where
  pub course_stands : course.StandsFor new.course of (way_behind way one rendered.whole)
  pub slots : AreSlotsBehind rendered.whole old.slots rendered.frame rendered.surface (length way.fed.decoded) new.slots
  pub rest : new ≡ record old { slots = new.slots; course = new.course }

-- ---- what came out

-- The surface in which the picture waits is to be mixed, or free.
pub record IsOut (old new : StreamTask) (number : ℕ) (time : Option ℕ) : Type 0 where
  pub surface : ℕ
  pub within : surface < 34
  pub is_in : IsIn old.slots surface number
  pub shown : (at : ℕ) → time ≡ Some at → new ≡ with_phase old (phase.Mixing surface at)
  pub not_shown : time ≡ None → (new ≡ record old { slots = new.slots }) × (new.slots.of_number ≡ old.slots.of_number) × (new.slots.waits ≡ slice_set old.slots.waits surface None)

-- ---- what an action comes to

-- The task is ready behind the items that were added, and this is answered.
pub record Went (task : StreamTask) (of : Stream) (fed : Fed) (before after : View Item) (answer : Stepped) : Type 0 where
  pub ready : Ready task of fed after
  pub steps : Steps before after task answer

-- Nothing is answered where nothing was added, and the task goes on.
abbrev pub Acted : StreamTask → Stream → Fed → View Item → View Item → Option Stepped → Type 0
Acted task of fed before after None = Ready task of fed after × (after ≡ before)
Acted task of fed before after (Some answer) = Went task of fed before after answer
