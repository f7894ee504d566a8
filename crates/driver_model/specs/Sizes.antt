-- Sizes of surfaces, decoders and mixers, and the numbers by which callers name formats.
use Rattle.std.specs.Prelude.{ℕ, ◌+◌, ◌*◌, ◌/◌, ◌==◌, nat_le, Bool, ◌&&◌, ◌||◌, if◌then◌else◌, Ok, Err}
use Rattle.bits_io.specs.declared.TheConstants.{NV12, YV12}
use Rattle.cb_types.specs.SizeMbs.{luma_height, luma_width, macroblocks}
use Rattle.cb_types.specs.declared.size.SizeMbs.{SizeMbs}
use Rattle.cb_types.specs.declared.size.TheConstants.{MAX_PICTURE_MBS, MAX_SIDE_MBS}
use Rattle.mixer.specs.declared.TheConstants.{B8G8R8A8, R8G8B8A8}
use Rattle.vd_status.specs.declared.refusal.Refusal.TheVariants.{BadSize}
use Rattle.driver_model.specs.Refusals.{Looked}
use Rattle.driver_model.specs.declared.numbers.TheConstants.{CONSTRAINED_BASELINE, WEIGHTED_BASELINE}

-- a side in luma samples, rounded up to whole macroblocks of 16
abbrev pub whole_macroblocks : ℕ → ℕ
whole_macroblocks side = (side + 15) / 16

abbrev pub size_of_sides : ℕ → ℕ → SizeMbs
size_of_sides width height = record { width = whole_macroblocks width; height = whole_macroblocks height }

-- The size is within the limits: no side is 0, none has too many macroblocks, nor has the whole.
abbrev pub is_within_limits : SizeMbs → Bool
is_within_limits size =
    (nat_le 1 size.width && nat_le size.width MAX_SIDE_MBS)
    && (nat_le 1 size.height && nat_le size.height MAX_SIDE_MBS)
    && nat_le (macroblocks size) MAX_PICTURE_MBS

-- the size that a create asks for by sides in luma samples
abbrev pub size_for : ℕ → ℕ → Looked SizeMbs
size_for width height = let size : SizeMbs = size_of_sides width height in if is_within_limits size then Ok size else Err BadSize

abbrev pub is_same_size : SizeMbs → SizeMbs → Bool
is_same_size a b = a.width == b.width && a.height == b.height

-- how many bytes the samples of a video surface take: one for each luma sample, and half as many for both chroma arrays
abbrev pub sample_bytes : SizeMbs → ℕ
sample_bytes size = luma_width size * luma_height size * 3 / 2

-- how many bytes the pixels of a surface take, four each
abbrev pub pixel_bytes : SizeMbs → ℕ
pixel_bytes size = 4 * (luma_width size * luma_height size)

-- VdpYCbCrFormat
abbrev pub is_ycbcr_format : ℕ → Bool
is_ycbcr_format format = format == NV12 || format == YV12

-- VdpRGBAFormat
abbrev pub is_rgba_format : ℕ → Bool
is_rgba_format format = format == B8G8R8A8 || format == R8G8B8A8

-- VdpDecoderProfile, by this project's own numbers
abbrev pub is_profile : ℕ → Bool
is_profile profile = profile == CONSTRAINED_BASELINE || profile == WEIGHTED_BASELINE
