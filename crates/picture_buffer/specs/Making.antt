-- What a new buffer's driver has made so far.
use Rattle.std.specs.Prelude.{◌≡◌, ℕ, ◌+◌, ◌<◌, false, List, [], length, Some, Ok, Err, ⊤}
use Rattle.cb_types.specs.declared.size.SizeMbs.{SizeMbs}
use Rattle.vd_plane.specs.Picture.{IsZeros}
use Rattle.vd_plane.specs.declared.picture.Picture.{Picture}
use Rattle.vd_status.specs.declared.refusal.Refusal.TheVariants.{OutOfMemory}
use Rattle.driver_model.specs.Objects.{Device, as_decoder, as_device}
use Rattle.driver_model.specs.States.{Found, State, named}
use Rattle.driver_core.specs.Stands.{Stands}
use Rattle.driver_core.specs.declared.answer.CoreAnswer.{CoreAnswer}
use Rattle.driver_core.specs.declared.answer.CoreAnswer.TheVariants.{Later, Now}
use Rattle.driver_core.specs.declared.driver.Core.{Core}
use Rattle.picture_buffer.specs.Renaming.{handle_of}
use Rattle.picture_buffer.specs.Rest.{NamesSurface, decoder_at}

-- the device, the first object
abbrev pub first_device : Found Device
first_device = record { place = 0; device = 0; value = record { time = 0; is_preempted = false } }

-- The handle names the surface of this number, which stands behind the device, the decoder and the surfaces of lower numbers. All
-- its samples are 0.
pub record HasSurface (d : State) (size : SizeMbs) (handle number : ℕ) : Type 0 where
  pub picture : Picture
  pub is : NamesSurface d handle (2 + number) 0 size picture
  pub zeros : IsZeros picture size.width size.height

-- The core stands for a state without running jobs that has a device, a decoder on it, and the surfaces of so many numbers, the
-- lowest, and nothing else.
pub record HasMade (core : Core) (device decoder : ℕ) (size : SizeMbs) (surfaces : List ℕ) (count : ℕ) : Type 0 where
  pub state : State
  pub stands : Stands core state
  pub idle : state.notes ≡ []
  pub has_device : named state as_device device ≡ Some first_device
  pub decodes : named state as_decoder decoder ≡ Some (decoder_at 1 0 size)
  pub many : length state.objects ≡ 2 + count
  pub each : (number : ℕ) → number < count → HasSurface state size (handle_of surfaces number) number

-- So it is, and there are fewer surfaces than numbers.
pub record HasRoom (core : Core) (device : ℕ) (size : SizeMbs) : Type 0 where
  pub decoder : ℕ
  pub surfaces : List ℕ
  pub count : ℕ
  pub few : count < 17
  pub made : HasMade core device decoder size surfaces count

-- A create's answer is a handle, or there was no memory.
abbrev pub IsHandleOrWant : CoreAnswer ℕ → Type 0
IsHandleOrWant (Now (Ok handle)) = ⊤
IsHandleOrWant (Now (Err refusal)) = refusal ≡ OutOfMemory
IsHandleOrWant Later = ⊥

-- The surface is the next number's.
abbrev pub MakesSurface : (old new : Core) (device : ℕ) → SizeMbs → ℕ → Type 0
MakesSurface old new device size surface =
    (decoder count : ℕ) (surfaces : List ℕ)
    → handle_of surfaces count ≡ surface
    → HasMade old device decoder size surfaces count
    → HasMade new device decoder size surfaces (count + 1)
