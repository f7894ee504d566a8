-- The samples of a number's surface are read.
use Rattle.std.proofs.Common.{◌≡◌, inl, inr, ℕ, ◌<◌, ◌==◌, false, not, List, [], length, Ok, Err, ap, sym, ◌∙◌, subst}
use Rattle.std.specs.List.{list_any}
use Rattle.std.proofs.lemmas.Bool.{eq-eqb, false≢true}
use Rattle.bits_io.specs.ByteOrder.{bytes_of}
use Rattle.cb_types.specs.declared.size.SizeMbs.{SizeMbs}
use Rattle.vd_plane.specs.declared.picture.Picture.{Picture}
use Rattle.vd_status.specs.declared.refusal.Refusal.TheVariants.{BadSize, BadYCbCr}
use Rattle.driver_model.specs.Objects.{VideoSurface, as_video}
use Rattle.driver_model.specs.Refusals.{Looked, ◌>>◌, first_handle, refused_if}
use Rattle.driver_model.specs.Sizes.{sample_bytes}
use Rattle.driver_model.specs.States.{Found, State, is_out, named}
use Rattle.driver_model.specs.Surfaces.{video_bits}
use Rattle.driver_model.specs.declared.calls.Call.TheVariants as call
use Rattle.driver_model.specs.declared.replies.Answer.TheVariants as answers
use Rattle.driver_model.proofs.Rows.{in_use-is, next-Ok, refused_if-false, then-Ok}
use Rattle.driver_core.specs.Answered.{Calls, IsAnswer}
use Rattle.driver_core.specs.Stands.{Stands}
use Rattle.driver_core.specs.declared.answer.CoreAnswer.{CoreAnswer}
use Rattle.driver_core.specs.declared.answer.CoreAnswer.TheVariants.{Later, Now}
use Rattle.driver_core.specs.declared.driver.Core.{Core}
use Rattle.picture_buffer.specs.Renaming.{handle_of}
use Rattle.picture_buffer.specs.Rest.{IsAtRest, surface_at}
use Rattle.picture_buffer.specs.Buffers.{StandsFor}
use Rattle.picture_buffer.specs.declared.buffer.PictureBuffer.{PictureBuffer}

-- nothing is out where no job runs
pub none_out : (d : State) (place : ℕ) → d.notes ≡ [] → is_out d place ≡ false
none_out d place idle = ap (list_any (λ note. note.target == place)) idle

-- The bytes are those of this picture, and the core stands for the same state.
abbrev pub HasRead : Core → State → (bytes : List ℕ) → Picture → CoreAnswer (Unit {0}) → Type 0
HasRead new d bytes picture (Now (Ok nothing)) = (bytes ≡ bytes_of 1 picture) × Stands new d
HasRead new d bytes picture (Now (Err refusal)) = ⊥
HasRead new d bytes picture Later = ⊥

module _ (core : Core) (decoder : ℕ) (surfaces : List ℕ) (size : SizeMbs) (pictures : ℕ → Picture) (d : State) (rests : IsAtRest core decoder surfaces size pictures d)
    (number : ℕ) (small : number < 17) (count : ℕ) (fits : count ≡ sample_bytes size) where
  abbrev on : Found VideoSurface
  on = surface_at (rests.place_of number) rests.device size (pictures number)

  looked : video_bits d (handle_of surfaces number) 1 count ≡ Ok on
  looked =
      let sized : Found VideoSurface → Looked (Found VideoSurface) = λ found. refused_if (not (count == sample_bytes found.value.size)) BadSize >> Ok found in
      let formed : Found VideoSurface → Looked (Found VideoSurface) = λ found. refused_if false BadYCbCr >> sized found in
      let found = named d as_video (handle_of surfaces number) in
      let count_is : not (count == sample_bytes size) ≡ false = ap not (eq-eqb count (sample_bytes size) fits) in
      next-Ok (first_handle d found) formed on (in_use-is d 0 found on (rests.each number small).names rests.awake)
      ∙ then-Ok (refused_if (not (count == sample_bytes size)) BadSize) (Ok on) (refused_if-false (not (count == sample_bytes size)) BadSize count_is)

  module _ (new : Core) (caller bytes : List ℕ) where
    pub reads : (answer : CoreAnswer (Unit {0})) → IsAnswer new d caller (call.VideoGetBits (handle_of surfaces number) 1 count) (λ _. answers.Bytes bytes) answer → HasRead new d bytes (pictures number) answer
    reads (Now (Ok nothing)) is = elim is.step [
      | inl wants ↦ absurd (false≢true wants.0)
      | inr does ↦
          let told = rw looked at does in
          let same : bytes ≡ bytes_of 1 (pictures number) = let e = told.1.0 in cc (e) in
          (same, subst (Stands new) told.1.1 is.stands)
    ]
    reads (Now (Err refusal)) is = elim is.step [
      | inl wants ↦ absurd (false≢true wants.0)
      | inr does ↦ let told = rw looked at does in let e = told.1.0 in absurd (cc (e))
    ]
    reads Later is =
        let waits = rw looked at is.0 in
        absurd (false≢true (sym (none_out d on.place rests.idle) ∙ waits))

module _ (buffer : PictureBuffer) (pictures : ℕ → Picture) (s : StandsFor buffer pictures) (number : ℕ) (small : number < 17) (old : List ℕ) (of_buffer : old ≡ buffer.bytes.items)
    (new : Core) (bytes : List ℕ) (answer : CoreAnswer (Unit {0})) where
  pub has_read : Calls buffer.core new (call.VideoGetBits (handle_of buffer.surfaces number) 1 (length old)) (λ _. answers.Bytes bytes) answer
      → HasRead new s.state bytes (pictures number) answer
  has_read calls =
      reads buffer.core buffer.decoder buffer.surfaces buffer.size pictures s.state s.rests number small (length old) (ap length of_buffer ∙ buffer.filled) new [] bytes answer (calls s.state [] s.rests.stands)

-- the same pictures in another core for the same state
pub rests_in : (core new : Core) (decoder : ℕ) (surfaces : List ℕ) (size : SizeMbs) (pictures : ℕ → Picture) (d : State) → IsAtRest core decoder surfaces size pictures d → Stands new d
    → IsAtRest new decoder surfaces size pictures d
rests_in core new decoder surfaces size pictures d rests stands = record {
  stands = stands;
  idle = rests.idle;
  device = rests.device;
  awake = rests.awake;
  decoder_place = rests.decoder_place;
  decodes = rests.decodes;
  place_of = rests.place_of;
  apart = rests.apart;
  each = rests.each;
}
