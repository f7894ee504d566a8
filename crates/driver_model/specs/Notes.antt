-- How the notes of running jobs stand to the entries of a history.
use Rattle.std.specs.Prelude.{◌≡◌, ℕ, ◌==◌, Bool, true, false, ◌&&◌, List, slice_get, Option, Some, None}
use Rattle.std.specs.List.{list_any}
use Rattle.device_lock.specs.Lists.{same}
use Rattle.driver_model.specs.Jobs.{reply_of}
use Rattle.driver_model.specs.Objects.{Object}
use Rattle.driver_model.specs.Passes.{is_job}
use Rattle.driver_model.specs.States.{State, Note}
use Rattle.driver_model.specs.declared.calls.Call.{Call}
use Rattle.driver_model.specs.declared.calls.Call.TheVariants.{Mix, Render}
use Rattle.driver_model.specs.declared.items.Entry.{Entry}
use Rattle.driver_model.specs.declared.items.Item.{Item}
use Rattle.driver_model.specs.declared.items.Item.TheVariants.{Called, Ended}

-- the item ends the job that this caller began at this place
abbrev pub is_end_of : List ℕ → ℕ → Item → Bool
is_end_of caller place (Called entry) = false
is_end_of caller place (Ended mark) = place == mark.place && same mark.caller caller

-- that job has ended
abbrev pub is_ended : List Item → List ℕ → ℕ → Bool
is_ended history caller place = list_any (is_end_of caller place) history

-- the name of the surface that a job writes
abbrev pub target_name : Call → Option ℕ
target_name (Render decoder target info bytes) = Some target
target_name (Mix mixer structure video output) = Some output
target_name _ = None

-- The note is that of the entry at its place: its caller's render or mix, which has not ended. The reply there is what the job's end
-- will answer, and the note's target is the object that the call named as its target.
pub record IsOfEntry (history : List Item) (s : State) (note : Note) : Type 0 where
  pub entry : Entry
  pub at_place : slice_get history note.place ≡ Some (Called entry)
  pub caller : entry.caller ≡ note.caller
  pub job : is_job entry.call ≡ true
  pub reply : entry.reply ≡ reply_of note.outcome
  pub target : Object
  pub stands : slice_get s.objects note.target ≡ Some target
  pub named : target_name entry.call ≡ Some target.name
  pub runs : is_ended history note.caller note.place ≡ false
