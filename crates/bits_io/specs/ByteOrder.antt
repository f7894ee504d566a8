-- The order in which a picture's samples stand in memory (vdpau.h, VDP_YCBCR_FORMAT_NV12 and VDP_YCBCR_FORMAT_YV12).
use Rattle.std.specs.Prelude.{ℕ, ◌*◌, ◌/◌, ◌==◌, if◌then◌else◌, List, [], ◌∷◌, ◌++◌}
use Rattle.bits_io.specs.declared.TheConstants.{NV12}
use Rattle.vd_plane.specs.declared.picture.Picture.{Picture}

-- the elements of two lists in turn
abbrev pub interleaved : List ℕ → List ℕ → List ℕ
interleaved [] ys = []
interleaved (x ∷ xs) [] = []
interleaved (x ∷ xs) (y ∷ ys) = x ∷ (y ∷ interleaved xs ys)

-- NV12: the luma samples, then those of Cb and Cr in turn
abbrev pub nv12_bytes : Picture → List ℕ
nv12_bytes picture = picture.y.samples ++ interleaved picture.cb.samples picture.cr.samples

-- YV12: the luma samples, then those of Cr, then those of Cb
abbrev pub yv12_bytes : Picture → List ℕ
yv12_bytes picture = picture.y.samples ++ (picture.cr.samples ++ picture.cb.samples)

-- the bytes in one of the two formats
abbrev pub bytes_of : ℕ → Picture → List ℕ
bytes_of format picture = if format == NV12 then nv12_bytes picture else yv12_bytes picture

-- how many bytes there are: one for each luma sample, and half as many for chroma
abbrev pub byte_count : Picture → ℕ
byte_count picture = picture.y.width * picture.y.height * 3 / 2
