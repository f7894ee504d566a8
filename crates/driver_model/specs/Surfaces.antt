-- The calls on surfaces, decoders and mixers that make nothing and begin no job. The section on each call says first what the call
-- looks at, and then what it does.
use Rattle.std.specs.Prelude.{◌≡◌, ℕ, ◌==◌, true, false, not, if◌then◌else◌, List, length, ℤ, Ok}
use Rattle.bits_io.specs.ByteOrder.{bytes_of}
use Rattle.cb_types.specs.SizeMbs.{luma_height, luma_width}
use Rattle.cb_types.specs.declared.size.TheConstants.{MAX_PICTURE_MBS}
use Rattle.vd_plane.specs.Picture.{SameSize}
use Rattle.vd_plane.specs.declared.picture.Picture.{Picture}
use Rattle.vd_status.specs.declared.refusal.Refusal.TheVariants.{BadSize, BadYCbCr}
use Rattle.driver_model.specs.Answers.{Goes, Leaves, Reply, Tells}
use Rattle.driver_model.specs.Objects.{VideoObject, VideoSurface, OutputObject, OutputSurface, Decoder, MixerObject, VideoMixer, as_device, as_video, as_output, as_decoder, as_mixer}
use Rattle.driver_model.specs.Refusals.{Looked, ◌>>=◌, ◌>>◌, first_handle, refused_if}
use Rattle.driver_model.specs.Sizes.{is_profile, is_ycbcr_format, pixel_bytes, sample_bytes}
use Rattle.driver_model.specs.States.{State, Found, destroyed, is_out, named, with_content}
use Rattle.driver_model.specs.declared.numbers.TheConstants.{CHROMA_420, MAX_SIDE}
use Rattle.driver_model.specs.declared.replies.Answer.TheVariants.{Bytes, Size, Supports}
use Rattle.driver_model.specs.declared.replies.Capabilities.{Capabilities}
use Rattle.driver_model.specs.declared.replies.SurfaceSize.{SurfaceSize}

-- ---- what is looked at

-- a handle of a surface, a decoder or a mixer as the first one of a call
abbrev pub video : State → ℕ → Looked (Found VideoSurface)
video s surface = first_handle s (named s as_video surface)

abbrev pub output : State → ℕ → Looked (Found OutputSurface)
output s surface = first_handle s (named s as_output surface)

abbrev pub decoder : State → ℕ → Looked (Found Decoder)
decoder s handle = first_handle s (named s as_decoder handle)

abbrev pub mixer : State → ℕ → Looked (Found VideoMixer)
mixer s handle = first_handle s (named s as_mixer handle)

-- VdpVideoSurfaceGetBitsYCbCr and VdpVideoSurfacePutBitsYCbCr, of a buffer of this length
abbrev pub video_bits : State → (surface format count : ℕ) → Looked (Found VideoSurface)
video_bits s surface format count = do
  on ← video s surface
  refused_if (not (is_ycbcr_format format)) BadYCbCr
  refused_if (not (count == sample_bytes on.value.size)) BadSize
  Ok on

-- VdpOutputSurfaceGetBitsNative and VdpOutputSurfacePutBitsNative
abbrev pub output_bits : State → (surface count : ℕ) → Looked (Found OutputSurface)
output_bits s surface count = do
  on ← output s surface
  refused_if (not (count == pixel_bytes on.value.size)) BadSize
  Ok on

-- ---- what is answered and left

-- the sides of a video surface in luma samples
abbrev pub size_told : VideoSurface → SurfaceSize
size_told surface = record { chroma = CHROMA_420; width = luma_width surface.size; height = luma_height surface.size }

-- what decoders of a profile take; a profile that there isn't has zeros
abbrev pub capabilities : ℕ → Capabilities
capabilities profile =
    if is_profile profile
    then record { supported = true; max_macroblocks = MAX_PICTURE_MBS; max_width = MAX_SIDE; max_height = MAX_SIDE }
    else record { supported = false; max_macroblocks = 0; max_width = 0; max_height = 0 }

-- the video surface has the samples of this picture
abbrev pub with_picture : State → Found VideoSurface → Picture → State
with_picture s on picture = with_content s on.place (VideoObject (record on.value { picture = picture }))

-- the output surface has these bytes
abbrev pub with_bytes : State → Found OutputSurface → List ℕ → State
with_bytes s on bytes = with_content s on.place (OutputObject (record on.value { bytes = bytes }))

abbrev pub with_matrix : State → Found VideoMixer → List ℤ → State
with_matrix s on matrix = with_content s on.place (MixerObject (record on.value { matrix = matrix }))

module _ (old : State) (reply : Reply) (new : State) where
  -- VdpVideoSurfaceGetParameters
  abbrev pub VideoParameters : ℕ → Type 0
  VideoParameters surface = Goes old reply new (video old surface) (λ on. Tells old reply new (Size (size_told on.value)))

  -- VdpVideoSurfaceGetBitsYCbCr: the samples in the format, once no job writes them
  abbrev pub VideoGetBits : (surface format count : ℕ) → Type 0
  VideoGetBits surface format count =
      Goes old reply new (video_bits old surface format count) (λ on.
      (is_out old on.place ≡ false) × Tells old reply new (Bytes (bytes_of format on.value.picture)))

  -- VdpVideoSurfacePutBitsYCbCr: the samples that these bytes say take the old ones' place, once no job writes those
  abbrev pub VideoPutBits : (surface format : ℕ) → List ℕ → Type 0
  VideoPutBits surface format bytes =
      Goes old reply new (video_bits old surface format (length bytes)) (λ on.
      (is_out old on.place ≡ false)
      × ((picture : Picture)
      × SameSize on.value.picture picture
      × (bytes_of format picture ≡ bytes)
      × Leaves old reply new (with_picture old on picture)))

  -- VdpVideoSurfaceDestroy
  abbrev pub VideoDestroy : ℕ → Type 0
  VideoDestroy surface = Goes old reply new (video old surface) (λ on. Leaves old reply new (destroyed old on.place))

  -- VdpOutputSurfaceGetBitsNative: the pixels' bytes, once no job writes them
  abbrev pub OutputGetBits : (surface count : ℕ) → Type 0
  OutputGetBits surface count =
      Goes old reply new (output_bits old surface count) (λ on.
      (is_out old on.place ≡ false) × Tells old reply new (Bytes on.value.bytes))

  -- VdpOutputSurfacePutBitsNative: these bytes take the old ones' place, once no job writes those
  abbrev pub OutputPutBits : ℕ → List ℕ → Type 0
  OutputPutBits surface bytes =
      Goes old reply new (output_bits old surface (length bytes)) (λ on.
      (is_out old on.place ≡ false) × Leaves old reply new (with_bytes old on bytes))

  -- VdpOutputSurfaceDestroy
  abbrev pub OutputDestroy : ℕ → Type 0
  OutputDestroy surface = Goes old reply new (output old surface) (λ on. Leaves old reply new (destroyed old on.place))

  -- VdpDecoderQueryCapabilities
  abbrev pub DecoderQuery : (device profile : ℕ) → Type 0
  DecoderQuery device profile =
      Goes old reply new (first_handle old (named old as_device device)) (λ on. Tells old reply new (Supports (capabilities profile)))

  -- VdpDecoderDestroy
  abbrev pub DecoderDestroy : ℕ → Type 0
  DecoderDestroy handle = Goes old reply new (decoder old handle) (λ on. Leaves old reply new (destroyed old on.place))

  -- VdpVideoMixerSetAttributeValues
  abbrev pub MixerSetMatrix : ℕ → List ℤ → Type 0
  MixerSetMatrix handle matrix = Goes old reply new (mixer old handle) (λ on. Leaves old reply new (with_matrix old on matrix))

  -- VdpVideoMixerDestroy
  abbrev pub MixerDestroy : ℕ → Type 0
  MixerDestroy handle = Goes old reply new (mixer old handle) (λ on. Leaves old reply new (destroyed old on.place))
