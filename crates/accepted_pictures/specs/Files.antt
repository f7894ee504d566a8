-- The pictures of a file, with their samples, and where it isn't accepted.
use Rattle.std.specs.Prelude.{◌≡◌, ℕ, ◌<◌, ◌==◌, Bool, true, false, ◌||◌, if◌then◌else◌, List, [], ◌∷◌, length, map, Option, Some, None, unwrap_or}
use Rattle.std.specs.List.{find}
use Rattle.std.specs.Option.{option_map}
use Rattle.cb_types.specs.References.{is_absent, is_unused}
use Rattle.cb_types.specs.declared.picture_info.PictureInfo.{PictureInfo}
use Rattle.cb_types.specs.declared.picture_info.Reference.{Reference}
use Rattle.decoder_render.specs.Coverage.{given}
use Rattle.decoder_render.specs.Outcomes.{IsWhole}
use Rattle.vd_plane.specs.declared.picture.Picture as samples
use Rattle.access_units.specs.AccessUnits.{AccessUnit}
use Rattle.access_units.specs.Acceptors.{AreAll, IsSettled}
use Rattle.access_units.specs.Pictures.{ArePictures, IsPicture, Picture, payloads_of, size_in}

-- a picture that is decoded
pub record Decoded : Type 0 where
  pub picture : Picture
  pub samples : samples.Picture

abbrev pub pictures_in : List Decoded → List Picture
pictures_in decoded = map (λ (one : Decoded). one.picture) decoded

-- A reference is named by its own number: it is the newest picture with that number. An unused entry names none, nor does an
-- absent frame.
abbrev pub has_own_number : ℕ → Decoded → Bool
has_own_number number one = one.picture.begun.frame == number

abbrev pub reference_of : List Decoded → Reference → Option samples.Picture
reference_of before entry =
    if is_unused entry || is_absent entry then None
    else option_map (λ (one : Decoded). one.samples) (find (has_own_number entry.surface) before)

abbrev pub references_of : List Decoded → PictureInfo → List (Option samples.Picture)
references_of before info = map (reference_of before) info.references

-- A picture's slices come to the whole picture behind these, with these samples.
abbrev pub IsWholeBehind : List Decoded → Decoded → Type 0
IsWholeBehind before one =
    let info = one.picture.begun.info in
    IsWhole (given info (size_in one.picture) (references_of before info)) (payloads_of one.picture.slices) one.samples

-- The access unit is an accepted picture behind these, with these samples.
pub record IsAcceptedPicture (before : List Decoded) (au : AccessUnit) (one : Decoded) : Type 0 where
  pub picture : IsPicture (pictures_in before) au one.picture
  pub whole : IsWholeBehind before one

-- so is each behind those before it
unfoldable pub AreAllWhole : List Decoded → Type 0
AreAllWhole [] = Unit {0}
AreAllWhole (one ∷ before) = AreAllWhole before × IsWholeBehind before one

-- Each of these access units is an accepted picture behind those before it; both lists have the newest first.
pub record AreDecoded (units : List AccessUnit) (decoded : List Decoded) : Type 0 where
  pub pictures : ArePictures units (pictures_in decoded)
  pub whole : AreAllWhole decoded

-- where a file isn't accepted: the place of the access unit, and whether the first refused unit of it is a sequence set of too
-- large pictures, or the file itself is too long
pub record Fault : Type 0 where
  pub offset : ℕ
  pub large : Bool

abbrev pub fault_of : AccessUnit → Fault
fault_of au = record { offset = au.offset; large = unwrap_or au.refused false }

-- The access unit isn't accepted behind these: it is refused, or its slices come to no whole picture.
pub record IsFirstRefused (before : List Decoded) (au : AccessUnit) : Type 0 where
  pub not_decoded : (one : Decoded) → ¬ IsAcceptedPicture before au one
  pub not_tail : au.refused ≡ None → au.slices ≡ [] → ⊥

-- a byte stands at place 2^30
abbrev pub IsTooLong : List ℕ → Type 0
IsTooLong text = 1073741824 < length text

-- All access units of the text are accepted pictures, but for a last one without a slice.
pub record IsReadWhole (text : List ℕ) (decoded : List Decoded) : Type 0 where
  pub front : List AccessUnit
  pub all : AreAll text front
  pub accepted : AreDecoded front decoded

-- These of the access units that the text settles are accepted pictures, and the one behind them isn't.
pub record IsReadTo (text : List ℕ) (ended : Bool) (decoded : List Decoded) (fault : Fault) : Type 0 where
  pub front : List AccessUnit
  pub au : AccessUnit
  pub settled : IsSettled text ended front au
  pub accepted : AreDecoded front decoded
  pub refused : IsFirstRefused decoded au
  pub fault_is : fault ≡ fault_of au

abbrev pub IsRead : List ℕ → List Decoded → Option Fault → Type 0
IsRead text decoded None = IsReadWhole text decoded
IsRead text decoded (Some fault) = IsReadTo text true decoded fault

-- A file's accepted pictures, the newest first, and where it isn't accepted. A file that is too long has none, and is too large.
abbrev pub HasPictures : List ℕ → List Decoded → Option Fault → Type 0
HasPictures text decoded fault =
    (IsTooLong text → (decoded ≡ []) × (fault ≡ Some (record { offset = 0; large = true })))
    × ((IsTooLong text → ⊥) → IsRead text decoded fault)

-- A file has one reading at most: its accepted pictures, each with its samples, and where it isn't accepted, are settled by its bytes.
abbrev pub HaveOneReading : Type 0
HaveOneReading = (text : List ℕ) (a b : List Decoded) (f g : Option Fault) → HasPictures text a f → HasPictures text b g → (a ≡ b) × (f ≡ g)
