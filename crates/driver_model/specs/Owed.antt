-- What running jobs owe. In the state a job has written its surface at its beginning; a driver may compute the samples as late as at the
-- job's end. So till then what the surface has must stay, and so must the job's note.
use Rattle.std.specs.Prelude.{◌≡◌, ℕ, List, false, slice_get, Some}
use Rattle.std.specs.List.{list_any}
use Rattle.driver_model.specs.Answers.{Reply}
use Rattle.driver_model.specs.Histories.{IsStateOf, Leads}
use Rattle.driver_model.specs.Notes.{is_end_of}
use Rattle.driver_model.specs.Objects.{VideoSurface, OutputSurface, as_output, as_video}
use Rattle.driver_model.specs.States.{State, Note, content_at, counted, is_note_of, without_note}
use Rattle.driver_model.specs.Steps.{Step}
use Rattle.driver_model.specs.declared.calls.Call.{Call}
use Rattle.driver_model.specs.declared.calls.Call.TheVariants.{Mix, Render}
use Rattle.driver_model.specs.declared.items.Entry.{Entry}
use Rattle.driver_model.specs.declared.items.Item.{Item}
use Rattle.driver_model.specs.declared.items.Item.TheVariants.{Called}

-- What is a surface at this place has in both states the same: a video surface its size and its picture, an output surface its format, its
-- size, its bytes and its latest flip.
pub record KeepsSurface (old new : State) (place : ℕ) : Type 0 where
  pub video : (surface : VideoSurface) → content_at old as_video place ≡ Some surface → content_at new as_video place ≡ Some surface
  pub output : (surface : OutputSurface) → content_at old as_output place ≡ Some surface → content_at new as_output place ≡ Some surface

-- A call leaves each note where it stands, and what the note's job writes: what would change that waits for the job's end.
abbrev pub StepsKeepTargets : Type 0
StepsKeepTargets =
    (old new : State) (caller : List ℕ) (call : Call) (reply : Reply) (index : ℕ) (note : Note)
    → Step old caller call reply new
    → slice_get old.notes index ≡ Some note
    → (slice_get new.notes index ≡ Some note) × KeepsSurface old new note.target

-- The count of items has no part in it.
abbrev pub CountsKeepTargets : Type 0
CountsKeepTargets =
    (s : State) (index : ℕ) (note : Note)
    → slice_get s.notes index ≡ Some note
    → (slice_get (counted s).notes index ≡ Some note) × KeepsSurface s (counted s) note.target

-- The end of a job leaves the notes of all others, and all surfaces.
abbrev pub EndsKeepTargets : Type 0
EndsKeepTargets =
    (s : State) (caller : List ℕ) (place index : ℕ) (note : Note)
    → slice_get s.notes index ≡ Some note
    → is_note_of caller place note ≡ false
    → ((other : ℕ) × (slice_get (without_note s caller place).notes other ≡ Some note)) × KeepsSurface s (without_note s caller place) note.target

-- So from a moment at which a job runs to any later one that its end doesn't precede.
abbrev pub RunsKeepTargets : Type 0
RunsKeepTargets =
    (s t : State) (later : List Item) (index : ℕ) (note : Note)
    → Leads s later t
    → slice_get s.notes index ≡ Some note
    → list_any (is_end_of note.caller note.place) later ≡ false
    → ((other : ℕ) × (slice_get t.notes other ≡ Some note)) × KeepsSurface s t note.target

-- At this place is what such a call writes: a render a video surface, a mix an output surface.
abbrev pub HasTarget : State → ℕ → Call → Type 0
HasTarget s place (Render decoder target info bytes) = (surface : VideoSurface) × (content_at s as_video place ≡ Some surface)
HasTarget s place (Mix mixer structure video output) = (surface : OutputSurface) × (content_at s as_output place ≡ Some surface)
HasTarget s place _ = ⊥

-- In the state of a legal history that is so of each note's target and of the entry that began the job.
abbrev pub NotesHaveTargets : Type 0
NotesHaveTargets =
    (history : List Item) (s : State) (index : ℕ) (note : Note) (entry : Entry)
    → IsStateOf history s
    → slice_get s.notes index ≡ Some note
    → slice_get history note.place ≡ Some (Called entry)
    → HasTarget s note.target entry.call
