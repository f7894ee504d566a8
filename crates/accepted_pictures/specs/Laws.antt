-- What a front of a file settles, and what comes next at one moment.
use Rattle.std.specs.Prelude.{◌≡◌, ℕ, ◌⊎◌, Bool, true, false, List, [], ◌∷◌, ◌++◌, Option, Some}
use Rattle.access_units.specs.AccessUnits.{AccessUnit}
use Rattle.access_units.specs.Acceptors.{IsHungry, IsSettled}
use Rattle.accepted_pictures.specs.Files.{AreDecoded, Decoded, Fault, HasPictures, IsReadTo, IsReadWhole, IsTooLong}
use Rattle.accepted_pictures.specs.Streams.{IsNextOne, Stream, past_of}

-- ---- what stays

-- The text settles these pictures: there are none, or the access unit of the newest one is settled, and those behind which it
-- stands are pictures, too.
abbrev pub AreSettledPictures : List ℕ → Bool → List Decoded → Type 0
AreSettledPictures text ended decoded =
    (decoded ≡ []) ⊎ ((front : List AccessUnit) × (au : AccessUnit) × IsSettled text ended front au × AreDecoded (au ∷ front) decoded)

-- What a front settles, the file settles, whatever follows.
abbrev pub SettledPicturesStay : Type 0
SettledPicturesStay =
    (text more : List ℕ) (ended : Bool) (decoded : List Decoded)
    → AreSettledPictures text false decoded → AreSettledPictures (text ++ more) ended decoded

-- They are the first pictures of each file that begins with the front, in order, and isn't too long.
abbrev pub SettledPicturesAreFirst : Type 0
SettledPicturesAreFirst =
    (text more : List ℕ) (first decoded : List Decoded) (fault : Option Fault)
    → AreSettledPictures text false first → (IsTooLong (text ++ more) → ⊥) → HasPictures (text ++ more) decoded fault
    → (later : List Decoded) × (decoded ≡ later ++ first)

-- An access unit that a front settles, and that isn't accepted, isn't accepted in the file, behind the same pictures.
abbrev pub RefusalsStay : Type 0
RefusalsStay =
    (text more : List ℕ) (ended : Bool) (decoded : List Decoded) (fault : Fault)
    → IsReadTo text false decoded fault → IsReadTo (text ++ more) ended decoded fault

-- So these are all pictures of each such file, and this is its fault.
abbrev pub RefusalsAreOfTheFile : Type 0
RefusalsAreOfTheFile =
    (text more : List ℕ) (decoded all : List Decoded) (fault : Fault) (other : Option Fault)
    → IsReadTo text false decoded fault → (IsTooLong (text ++ more) → ⊥) → HasPictures (text ++ more) all other
    → (all ≡ decoded) × (other ≡ Some fault)

-- ---- what comes next

-- more bytes, a picture, the end, or an access unit that isn't accepted
pub data Coming : Type 0 where
  MoreBytes : Coming
  OnePicture : Decoded → Coming
  TheEnd : Coming
  OneFault : Fault → Coming

-- It is what comes next at this moment.
abbrev pub ComesNext : Stream → Coming → Type 0
ComesNext stream MoreBytes = IsHungry (past_of stream)
ComesNext stream (OnePicture one) = IsNextOne stream one
ComesNext stream TheEnd = (stream.ended ≡ true) × IsReadWhole stream.text stream.decoded
ComesNext stream (OneFault fault) = IsReadTo stream.text stream.ended stream.decoded fault

-- One thing is at most, with its picture and its samples, or its place and its cause.
abbrev pub OneThingComesNext : Type 0
OneThingComesNext = (stream : Stream) (one other : Coming) → ComesNext stream one → ComesNext stream other → one ≡ other
