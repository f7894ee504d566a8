-- Jobs that are out, and what each of them owes the object that it writes.
use Rattle.std.specs.Prelude.{◌≡◌, ◌≢◌, ℕ, true, List, map, slice_get, Some, AllPairs}
use Rattle.cb_types.specs.declared.size.SizeMbs.{SizeMbs}
use Rattle.vd_plane.specs.declared.picture.Picture.{Picture}
use Rattle.driver_model.specs.Objects as model
use Rattle.driver_model.specs.States.{Note, State, content_at}
use Rattle.driver_core.specs.Stands.{is_ok}

-- The note is that of the job with this number. No two notes have one place or one number, as is so wherever a legal history leads.
pub record IsOut (d : State) (number : ℕ) (note : Note) : Type 0 where
  pub index : ℕ
  pub there : slice_get d.notes index ≡ Some note
  pub numbered : note.number ≡ number
  pub places : AllPairs (λ a b. a ≢ b) (map (λ other. other.place) d.notes)
  pub numbers : AllPairs (λ a b. a ≢ b) (map (λ other. other.number) d.notes)

-- The job writes a video surface of this size, which has this picture in the state where the job's outcome is Ok.
pub record OwesPicture (d : State) (note : Note) (size : SizeMbs) (picture : Picture) : Type 0 where
  pub surface : model.VideoSurface
  pub there : content_at d model.as_video note.target ≡ Some surface
  pub of_size : surface.size ≡ size
  pub owed : is_ok note.outcome ≡ true → surface.picture ≡ picture

-- The job writes an output surface of this size, which has these bytes in the state.
pub record OwesPixels (d : State) (note : Note) (size : SizeMbs) (bytes : List ℕ) : Type 0 where
  pub surface : model.OutputSurface
  pub there : content_at d model.as_output note.target ≡ Some surface
  pub of_size : surface.size ≡ size
  pub owed : surface.bytes ≡ bytes
