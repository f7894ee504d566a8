-- The displays of a stream's calls are those of the pictures that a script shows of the file.
use Rattle.std.specs.Prelude.{◌≡◌, ℕ, Bool, true, false, ◌&&◌, List, [], ◌∷◌, ◌++◌, Some}
use Rattle.cb_types.specs.SizeMbs.{luma_height, luma_width}
use Rattle.device_lock.specs.Lists.{same}
use Rattle.mixer.specs.Mixed.{IsMixed}
use Rattle.mixer.specs.declared.TheConstants.{B8G8R8A8, DEFAULT_MATRIX}
use Rattle.vd_plane.specs.declared.picture.Picture.{Picture}
use Rattle.driver_model.specs.Histories.{Happens, IsStateOf}
use Rattle.driver_model.specs.Objects.{OutputSurface, as_output}
use Rattle.driver_model.specs.Passes.{caller_of}
use Rattle.driver_model.specs.Presented.{is_idle_at}
use Rattle.driver_model.specs.ShownPictures.{ShownPicture}
use Rattle.driver_model.specs.States.{State, Found, empty_state, named}
use Rattle.driver_model.specs.declared.calls.Call.TheVariants as call
use Rattle.driver_model.specs.declared.items.Entry.{Entry}
use Rattle.driver_model.specs.declared.items.Item.{Item}
use Rattle.driver_model.specs.declared.items.Item.TheVariants.{Called, Ended}
use Rattle.stream_calls.specs.Counted.{has_done, is_display}

-- The entry displays, at the time at which the picture is shown, a surface that in this state has the picture: its sides, and its pixels in
-- blue, green, red, alpha by the matrix of a new mixer.
pub record IsDisplayOf (before : State) (entry : Entry) (shown : ShownPicture Picture) : Type 0 where
  pub queue : ℕ
  pub surface : ℕ
  pub asked : entry.call ≡ call.QueueDisplay queue surface shown.time
  pub on : Found OutputSurface
  pub stands : named before as_output surface ≡ Some on
  pub across : luma_width on.value.size ≡ shown.picture.y.width
  pub down : luma_height on.value.size ≡ shown.picture.y.height
  pub format : on.value.format ≡ B8G8R8A8
  pub pixels : IsMixed shown.picture DEFAULT_MATRIX B8G8R8A8 on.value.bytes

abbrev pub IsDisplayAt : State → Item → ShownPicture Picture → Type 0
IsDisplayAt before (Called entry) shown = IsDisplayOf before entry shown
IsDisplayAt before (Ended mark) shown = ⊥

-- it is a display of this caller, and was done
abbrev pub is_own_display : List ℕ → Item → Bool
is_own_display caller item = same caller (caller_of item) && has_done is_display item

-- A display of the caller takes the first of the shown pictures; any other item takes none.
abbrev pub TakesShown : (is_own : Bool) → (before : State) → Item → (shown others : List (ShownPicture Picture)) → Type 0
TakesShown true before item shown others = (one : ShownPicture Picture) × (shown ≡ one ∷ others) × IsDisplayAt before item one
TakesShown false before item shown others = shown ≡ others

-- From this state on, the caller's displays that were done are those of these shown pictures, one after the other.
unfoldable pub AreDisplayed : List ℕ → State → List Item → List (ShownPicture Picture) → Type 0
AreDisplayed caller s [] shown = shown ≡ []
AreDisplayed caller s (item ∷ later) shown =
    (after : State)
    × Happens s item after
    × (others : List (ShownPicture Picture))
    × TakesShown (is_own_display caller item) s item shown others
    × AreDisplayed caller after later others

-- The caller's displays in the history are those of the first pictures that are shown, and no mix of it goes into a surface that isn't
-- idle before.
pub record DisplaysTheShown (seen : List Item) (caller : List ℕ) (shown : List (ShownPicture Picture)) : Type 0 where
  pub displayed : List (ShownPicture Picture)
  pub later : List (ShownPicture Picture)
  pub first : shown ≡ displayed ++ later
  pub are : AreDisplayed caller empty_state seen displayed
  pub idle : (front behind : List Item) (s : State) (entry : Entry) (mixer structure video output : ℕ) (on : Found OutputSurface)
      → seen ≡ front ++ Called entry ∷ behind
      → IsStateOf front s
      → same caller entry.caller ≡ true
      → entry.call ≡ call.Mix mixer structure video output
      → named s as_output output ≡ Some on
      → is_idle_at s on.place ≡ true
