-- The mixing of a video surface into an output surface (vdpau.h, VdpVideoMixerRender).
use Rattle.std.specs.Prelude.{◌≡◌, ℕ, ◌==◌, Bool, false, not, ◌&&◌, ◌||◌, List, Ok}
use Rattle.decoder_render.specs.declared.outcome.Outcome.TheVariants as outcome
use Rattle.mixer.specs.Mixed.{IsMixed}
use Rattle.vd_status.specs.declared.refusal.Refusal.TheVariants.{BadSize, BadStructure}
use Rattle.driver_model.specs.Answers.{Goes, Leaves, Reply}
use Rattle.driver_model.specs.Objects.{VideoMixer, VideoSurface, OutputSurface, as_mixer, as_output, as_video}
use Rattle.driver_model.specs.Refusals.{Looked, ◌>>=◌, ◌>>◌, first_handle, further_handle, refused_if}
use Rattle.driver_model.specs.Sizes.{is_same_size}
use Rattle.driver_model.specs.States.{State, Found, is_out, named, with_note}
use Rattle.driver_model.specs.Surfaces.{with_bytes}
use Rattle.driver_model.specs.declared.numbers.TheConstants.{FRAME}

-- what a mix finds
pub record Mixing : Type 0 where
  pub mixer : Found VideoMixer
  pub video : Found VideoSurface
  pub output : Found OutputSurface

-- VdpVideoMixerRender
abbrev pub mix : State → (handle structure surface onto : ℕ) → Looked Mixing
mix s handle structure surface onto = do
  mixer ← first_handle s (named s as_mixer handle)
  video ← further_handle 1 mixer.device (named s as_video surface)
  output ← further_handle 2 mixer.device (named s as_output onto)
  refused_if (not (structure == FRAME)) BadStructure
  refused_if (not (is_same_size mixer.value.size video.value.size && is_same_size mixer.value.size output.value.size)) BadSize
  Ok (record { mixer = mixer; video = video; output = output })

-- No mix begins while another job writes one of its surfaces.
abbrev pub is_mix_held : State → Mixing → Bool
is_mix_held s on = is_out s on.video.place || is_out s on.output.place

module _ (old : State) (reply : Reply) (new : State) where
  -- The output surface has the pixels of the video surface of now, by the mixer's matrix; the job is noted.
  pub record Mixes (caller : List ℕ) (on : Mixing) : Type 0 where
    pub at_home : is_mix_held old on ≡ false
    pub bytes : List ℕ
    pub pixels : IsMixed on.video.value.picture on.mixer.value.matrix on.output.value.format bytes
    pub leaves : Leaves old reply new (with_note (with_bytes old on.output bytes) caller on.output.place outcome.Ok)

  abbrev pub Mix : (caller : List ℕ) (handle structure surface onto : ℕ) → Type 0
  Mix caller handle structure surface onto = Goes old reply new (mix old handle structure surface onto) (Mixes caller)
