-- How the program finds a mixer and two surfaces, and what a mix leaves.
use Rattle.std.specs.Prelude.{◌≡◌, Bool, ◌&&◌, Some, Ok, Err}
use Rattle.cb_types.specs.declared.size.SizeMbs.{SizeMbs}
use Rattle.mixer.specs.Mixed.{IsMixed}
use Rattle.driver_model.specs.Mixes.{Mixing}
use Rattle.driver_model.specs.Objects.{OutputSurface, VideoMixer, VideoSurface, as_mixer, as_output, as_video}
use Rattle.driver_model.specs.Refusals.{Looked}
use Rattle.driver_model.specs.Sizes.{is_same_size}
use Rattle.driver_model.specs.States.{State, content_at}
use Rattle.plain_driver.specs.States.{output_of}
use Rattle.plain_driver.specs.declared.mixes.MixPlaces.{MixPlaces}
use Rattle.plain_driver.specs.declared.objects.PlainOutput.{PlainOutput}

-- the places of what was found
abbrev pub mix_placed : Looked Mixing → Looked MixPlaces
mix_placed (Ok found) = Ok (record { mixer = found.mixer.place; video = found.video.place; output = found.output.place })
mix_placed (Err refusal) = Err refusal

abbrev pub fit_together : (mixer video output : SizeMbs) → Bool
fit_together mixer video output = is_same_size mixer video && is_same_size mixer output

-- The surface is the output surface of now with other bytes: the pixels of the video surface of now, by the mixer's matrix.
pub record IsMixOf (s : State) (on : MixPlaces) (content : PlainOutput) : Type 0 where
  pub mixer : VideoMixer
  pub video : VideoSurface
  pub output : OutputSurface
  pub of_mixer : content_at s as_mixer on.mixer ≡ Some mixer
  pub of_video : content_at s as_video on.video ≡ Some video
  pub of_output : content_at s as_output on.output ≡ Some output
  pub pixels : IsMixed video.picture mixer.matrix output.format content.bytes.items
  pub rest : output_of content ≡ record output { bytes = content.bytes.items }
