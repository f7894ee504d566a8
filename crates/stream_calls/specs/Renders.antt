-- The renders of a stream's calls are those of the file's pictures.
use Rattle.std.specs.Prelude.{◌≡◌, ℕ, Bool, true, false, ◌&&◌, List, [], ◌∷◌, ◌++◌, reverse, Some}
use Rattle.cb_types.specs.declared.picture_info.PictureInfo.{PictureInfo}
use Rattle.device_lock.specs.Lists.{same}
use Rattle.access_units.specs.Pictures.{submission_of}
use Rattle.driver_model.specs.Histories.{Happens}
use Rattle.driver_model.specs.Objects.{VideoSurface, as_video}
use Rattle.driver_model.specs.Passes.{caller_of}
use Rattle.driver_model.specs.States.{State, Found, empty_state, named}
use Rattle.driver_model.specs.declared.calls.Call.TheVariants as call
use Rattle.driver_model.specs.declared.items.Entry.{Entry}
use Rattle.driver_model.specs.declared.items.Item.{Item}
use Rattle.driver_model.specs.declared.items.Item.TheVariants.{Called, Ended}
use Rattle.accepted_pictures.specs.Files.{Decoded}
use Rattle.stream_calls.specs.Counted.{has_done, is_render}

-- The entry's bytes are the picture's slice units, each behind 00 00 01, and in this state its target has the picture's samples.
pub record IsRenderOf (entry : Entry) (after : State) (one : Decoded) : Type 0 where
  pub decoder : ℕ
  pub target : ℕ
  pub info : PictureInfo
  pub asked : entry.call ≡ call.Render decoder target info (submission_of one.picture.slices)
  pub on : Found VideoSurface
  pub stands : named after as_video target ≡ Some on
  pub samples : on.value.picture ≡ one.samples

abbrev pub IsRenderAt : Item → State → Decoded → Type 0
IsRenderAt (Called entry) after one = IsRenderOf entry after one
IsRenderAt (Ended mark) after one = ⊥

-- it is a render of this caller, and was done
abbrev pub is_own_render : List ℕ → Item → Bool
is_own_render caller item = same caller (caller_of item) && has_done is_render item

-- A render of the caller takes the first of the pictures, and leaves its target with that picture's samples; any other item takes none.
abbrev pub TakesPicture : (is_own : Bool) → Item → (after : State) → (pictures others : List Decoded) → Type 0
TakesPicture true item after pictures others = (one : Decoded) × (pictures ≡ one ∷ others) × IsRenderAt item after one
TakesPicture false item after pictures others = pictures ≡ others

-- From this state on, the caller's renders that were done are those of these pictures, one after the other.
unfoldable pub AreRendered : List ℕ → State → List Item → List Decoded → Type 0
AreRendered caller s [] pictures = pictures ≡ []
AreRendered caller s (item ∷ later) pictures =
    (after : State)
    × Happens s item after
    × (others : List Decoded)
    × TakesPicture (is_own_render caller item) item after pictures others
    × AreRendered caller after later others

-- The caller's renders in the history are those of the first pictures of a file, whose accepted pictures are these, the newest first.
pub record RendersTheFile (seen : List Item) (caller : List ℕ) (accepted : List Decoded) : Type 0 where
  pub rendered : List Decoded
  pub later : List Decoded
  pub first : reverse accepted ≡ rendered ++ later
  pub are : AreRendered caller empty_state seen rendered
