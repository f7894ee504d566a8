-- What a buffer stands for: a picture for each number.
use Rattle.std.specs.Prelude.{◌≡◌, ℕ, ◌<◌, ◌==◌, if◌then◌else◌, List, length, map, Option}
use Rattle.cb_types.specs.declared.picture_info.PictureInfo.{PictureInfo}
use Rattle.cb_types.specs.declared.size.SizeMbs.{SizeMbs}
use Rattle.decoder_render.specs.Coverage.{given}
use Rattle.decoder_render.specs.Outcomes.{IsOutcome}
use Rattle.decoder_render.specs.Submission.{ArePayloads}
use Rattle.decoder_render.specs.declared.outcome.Outcome.{Outcome}
use Rattle.decoder_render.specs.declared.outcome.Outcome.TheVariants as outcome
use Rattle.vd_plane.specs.Picture.{IsZeros}
use Rattle.vd_plane.specs.declared.picture.Picture.{Picture}
use Rattle.driver_model.specs.States.{State}
use Rattle.picture_buffer.specs.Renaming.{picture_of}
use Rattle.picture_buffer.specs.Rest.{IsAtRest}
use Rattle.picture_buffer.specs.declared.buffer.PictureBuffer.{PictureBuffer}

abbrev pub size_of : PictureBuffer → SizeMbs
size_of buffer = buffer.size

-- Its driver is at rest, and has these pictures by their numbers, from 0 to 16.
pub record StandsFor (buffer : PictureBuffer) (pictures : ℕ → Picture) : Type 0 where
  pub state : State
  pub rests : IsAtRest buffer.core buffer.decoder buffer.surfaces buffer.size pictures state

-- The pictures of all numbers have this size, and their samples are 0.
abbrev pub AreZeros : SizeMbs → (ℕ → Picture) → Type 0
AreZeros size pictures = (number : ℕ) → number < 17 → IsZeros (pictures number) size.width size.height

-- the bytes have as many units as the info says
pub record HasUnits (bytes : List ℕ) (info : PictureInfo) : Type 0 where
  pub payloads : List (Option (List ℕ))
  pub are : ArePayloads bytes payloads
  pub count : info.slice_count ≡ length payloads

-- the pictures with this one under the number
abbrev pub with_picture : (ℕ → Picture) → ℕ → Picture → ℕ → Picture
with_picture pictures number picture other = if other == number then picture else pictures other

-- Only where the units come to the whole picture the number has it.
abbrev pub pictures_after : (ℕ → Picture) → ℕ → Outcome → Picture → ℕ → Picture
pictures_after pictures number outcome.Ok picture = with_picture pictures number picture
pictures_after pictures number (outcome.Bitstream slice) picture = pictures
pictures_after pictures number (outcome.Incomplete macroblocks) picture = pictures

-- The outcome is that of the units with these pictures as references, and the buffer stands for the pictures behind it.
pub record Decodes (new : PictureBuffer) (pictures : ℕ → Picture) (size : SizeMbs) (number : ℕ) (info : PictureInfo) (bytes : List ℕ) (outcome : Outcome) : Type 0 where
  pub payloads : List (Option (List ℕ))
  pub units : ArePayloads bytes payloads
  pub picture : Picture
  pub comes_to : IsOutcome (given info size (map (picture_of pictures) info.references)) payloads outcome picture
  pub stands : StandsFor new (pictures_after pictures number outcome picture)

-- The handles and the size stay.
pub record SameSurfaces (old new : PictureBuffer) : Type 0 where
  pub decoder : new.decoder ≡ old.decoder
  pub surfaces : new.surfaces ≡ old.surfaces
  pub size : new.size ≡ old.size
