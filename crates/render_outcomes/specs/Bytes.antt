-- That a picture's pixels, and pictures with given bytes, exist.
use Rattle.std.specs.Prelude.{◌≡◌, ℕ, List, length, ℤ}
use Rattle.bits_io.specs.ByteOrder.{byte_count, bytes_of}
use Rattle.mixer.specs.Mixed.{IsMixed}
use Rattle.vd_plane.specs.Picture.{SameSize}
use Rattle.vd_plane.specs.declared.picture.Picture.{Picture}

-- Each picture has its pixels by each matrix and in each format.
abbrev pub MixedBytesExist : Type 0
MixedBytesExist =
    (picture : Picture) (matrix : List ℤ) (format : ℕ) → (bytes : List ℕ) × IsMixed picture matrix format bytes

-- As many bytes as a picture has are those of a picture of its size.
abbrev pub PackedPicturesExist : Type 0
PackedPicturesExist =
    (format : ℕ) (old : Picture) (bytes : List ℕ)
    → length bytes ≡ byte_count old
    → (new : Picture) × SameSize old new × (bytes_of format new ≡ bytes)
