-- What is known of a course's way, and what it tells of the files that begin with what was fed.
use Rattle.std.specs.Prelude.{◌≡◌, ℕ, ◌+◌, ◌≤◌, List, ◌++◌, length, Option, Some, None}
use Rattle.std.specs.List.{AllByRecursion}
use Rattle.vd_plane.specs.declared.picture.Picture.{Picture}
use Rattle.driver_model.specs.ShownPictures.{ShownPicture}
use Rattle.access_units.specs.Acceptors.{IsNext}
use Rattle.access_units.specs.Pictures as pictures
use Rattle.accepted_pictures.specs.Files.{Decoded, Fault, HasPictures}
use Rattle.accepted_pictures.specs.Streams.{past_of}
use Rattle.stream_calls.specs.StreamCalls.{Fed, MayBeFile, Stream, shown_of}
use Rattle.stream_course.specs.Standing.{StandsFor}
use Rattle.stream_course.specs.Way.{IsTrue, Way}
use Rattle.stream_course.specs.declared.course.Course.{Course}

-- ---- how much there is

-- No more pictures were told than decoded, and those are few, as the bytes are. For each picture that came out one time was
-- promised at most, and a last one.
pub record IsSmall (way : Way) : Type 0 where
  pub bytes : length way.fed.text ≤ 1073741824
  pub decoded : length way.fed.decoded ≤ 7000000
  pub told : length way.told ≤ length way.fed.decoded
  pub promises : way.promises ≤ length way.told + 2

abbrev pub WaysAreSmall : Type 0
WaysAreSmall = (course : Course) (of : Stream) (way : Way) → StandsFor course of way → IsSmall way

-- ---- the picture that was given

-- While it isn't settled it stays the next one, whatever is fed, and none has failed.
abbrev pub GivenAreNext : Type 0
GivenAreNext =
    (course : Course) (of : Stream) (way : Way) (picture : pictures.Picture)
    → StandsFor course of way
    → way.given ≡ Some picture
    → IsNext (past_of way.fed) picture × (way.failed ≡ None)

-- ---- files

abbrev pub fed_of : Way → Fed
fed_of way = record { bytes = way.fed.text; ended = way.fed.ended }

-- What was decoded is a file's first accepted pictures, in order.
abbrev pub DecodedAreFirst : Type 0
DecodedAreFirst =
    (course : Course) (of : Stream) (way : Way) (file : List ℕ) (accepted : List Decoded) (fault : Option Fault)
    → StandsFor course of way
    → IsTrue way
    → MayBeFile (fed_of way) file
    → HasPictures file accepted fault
    → (later : List Decoded) × (accepted ≡ later ++ way.fed.decoded)

-- What was told to be shown is the first of what is shown of a file, and the rest is shown at the promised time or later.
abbrev pub ShownAreFirst : Type 0
ShownAreFirst =
    (course : Course) (of : Stream) (way : Way) (file : List ℕ) (accepted : List Decoded) (fault : Option Fault)
    → StandsFor course of way
    → IsTrue way
    → MayBeFile (fed_of way) file
    → HasPictures file accepted fault
    → (later : List (ShownPicture Picture))
    × (shown_of of accepted ≡ way.shown ++ later)
    × AllByRecursion (λ (one : ShownPicture Picture). way.promised ≤ one.time) later
