-- What reading a picture's bytes and writing them undo of each other.
use Rattle.std.specs.Prelude.{◌≡◌, ℕ, List}
use Rattle.bits_io.specs.ByteOrder.{bytes_of}
use Rattle.vd_plane.specs.Picture.{SameSamples, SameSize}
use Rattle.vd_plane.specs.declared.picture.Picture.{Picture}

-- Bytes that were read from a picture are written into one of its size, itself for one: the samples there are then those of the picture that was read.
abbrev pub PutAfterGet : Type 0
PutAfterGet =
    (format : ℕ) (source old new : Picture) (bytes : List ℕ)
    → bytes ≡ bytes_of format source
    → SameSize source old
    → SameSize old new
    → bytes_of format new ≡ bytes
    → SameSamples source new

-- Bytes that are read after others were written are the ones that were written.
abbrev pub GetAfterPut : Type 0
GetAfterPut =
    (format : ℕ) (picture : Picture) (written read : List ℕ)
    → bytes_of format picture ≡ written
    → read ≡ bytes_of format picture
    → read ≡ written
