-- That each file has its accepted pictures, and a fault or none, and that both are settled by its bytes.
use Rattle.std.specs.Prelude.{◌≡◌, ℕ, List, Option}
use Rattle.accepted_pictures.specs.Files.{Decoded, Fault, HasPictures}

-- Each list of bytes has a reading: one of at most 2^30 bytes by its access units, and a longer one as too long.
abbrev pub FilesHaveReadings : Type 0
FilesHaveReadings = (text : List ℕ) → (decoded : List Decoded) × (fault : Option Fault) × HasPictures text decoded fault

-- These functions of a file's bytes give its accepted pictures, and where it isn't accepted.
pub record AreReadings (accepted : List ℕ → List Decoded) (refused : List ℕ → Option Fault) : Type 0 where
  pub has : (text : List ℕ) → HasPictures text (accepted text) (refused text)
  pub only :
      (text : List ℕ) (decoded : List Decoded) (fault : Option Fault)
      → HasPictures text decoded fault → (decoded ≡ accepted text) × (fault ≡ refused text)

abbrev pub ReadingsAreFunctions : Type 0
ReadingsAreFunctions = (accepted : List ℕ → List Decoded) × (refused : List ℕ → Option Fault) × AreReadings accepted refused
