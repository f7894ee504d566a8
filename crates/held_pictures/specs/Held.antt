-- What the names of a device's objects stand for in a state of the driver.
use Rattle.std.specs.Prelude.{◌≡◌, ℕ, true, List, Some, slice_get}
use Rattle.cb_types.specs.declared.size.SizeMbs.{SizeMbs}
use Rattle.handle_table.specs.Name.{kind_of}
use Rattle.mixer.specs.Mixed.{IsMixed}
use Rattle.mixer.specs.declared.TheConstants.{B8G8R8A8, DEFAULT_MATRIX}
use Rattle.present_queue.specs.Queue as presented
use Rattle.vd_plane.specs.Picture.{HasSize}
use Rattle.vd_plane.specs.declared.picture.Picture.{Picture}
use Rattle.driver_model.specs.Histories.{IsStateOf}
use Rattle.driver_model.specs.Objects.{Object, OutputSurface, as_decoder, as_mixer, as_output, as_queue}
use Rattle.driver_model.specs.Presented.{is_idle_at}
use Rattle.driver_model.specs.States.{Found, State, named}
use Rattle.driver_model.specs.declared.items.Item.{Item}
use Rattle.driver_model.specs.declared.numbers.TheConstants.{DEVICE}
use Rattle.picture_buffer.specs.Rest.{NamesSurface, decoder_at}

-- ---- the device

-- The name is a device's, whose object stands at this place; it may have been destroyed.
pub record HasDevice (s : State) (name place : ℕ) : Type 0 where
  pub kind : kind_of name ≡ DEVICE
  pub object : Object
  pub stands : slice_get s.objects place ≡ Some object
  pub called : object.name ≡ name

-- ---- its objects

-- what a name is held as
pub data Held : Type 0 where
  -- a decoder for pictures of this size, of Constrained Baseline with 16 references
  Decoder : SizeMbs → Held
  -- a video surface of this size with this picture
  Video : SizeMbs → Picture → Held
  -- a mixer for pictures of this size, by the matrix of a new mixer
  Mixer : SizeMbs → Held
  -- an output surface of this size, four bytes a pixel in blue, green, red, alpha
  Output : SizeMbs → Held
  -- such a surface with the pixels of this picture, mixed by the matrix of a new mixer
  Pixels : SizeMbs → Picture → Held
  -- a presentation queue that shows in this window
  Queue : ℕ → Held

-- Each name is of an object of the device at this place.
module _ (s : State) (device name : ℕ) where
  pub record HasDecoder (size : SizeMbs) : Type 0 where
    pub place : ℕ
    pub names : named s as_decoder name ≡ Some (decoder_at place device size)

  pub record HasVideo (size : SizeMbs) (picture : Picture) : Type 0 where
    pub place : ℕ
    pub is : NamesSurface s name place device size picture

  pub record HasMixer (size : SizeMbs) : Type 0 where
    pub place : ℕ
    pub names : named s as_mixer name
        ≡ Some (record { place = place; device = device; value = record { size = size; matrix = DEFAULT_MATRIX } })

  pub record HasOutput (size : SizeMbs) : Type 0 where
    pub on : Found OutputSurface
    pub names : named s as_output name ≡ Some on
    pub of_device : on.device ≡ device
    pub format : on.value.format ≡ B8G8R8A8
    pub sides : on.value.size ≡ size

  pub record HasPixels (size : SizeMbs) (picture : Picture) : Type 0 where
    pub output : HasOutput size
    pub sized : HasSize picture size
    pub pixels : IsMixed picture DEFAULT_MATRIX B8G8R8A8 output.on.value.bytes

  pub record HasQueue (window : ℕ) : Type 0 where
    pub place : ℕ
    pub queue : presented.Queue ℕ
    pub names : named s as_queue name
        ≡ Some (record { place = place; device = device; value = record { window = window; queue = queue } })

  -- The name is held as this.
  abbrev pub Holds : Held → Type 0
  Holds (Decoder size) = HasDecoder size
  Holds (Video size picture) = HasVideo size picture
  Holds (Mixer size) = HasMixer size
  Holds (Output size) = HasOutput size
  Holds (Pixels size picture) = HasPixels size picture
  Holds (Queue window) = HasQueue window

-- No queue shows the output surface of this name, nor has an entry of it.
abbrev pub IsIdle : State → ℕ → Type 0
IsIdle s name = (on : Found OutputSurface) → named s as_output name ≡ Some on → is_idle_at s on.place ≡ true

-- ---- whenever

-- It is so in each state to which the history leads.
abbrev pub Always : List Item → (State → Type 0) → Type 0
Always seen IsSo = (s : State) → IsStateOf seen s → IsSo s
