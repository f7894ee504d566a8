-- Which access units are pictures that this decoder takes, what their slices come to apart. H.264, 7.4.3, 8.2.1, 8.2.5 and C.4.
use Rattle.std.specs.Prelude.{◌≡◌, ℕ, ◌+◌, ◌<◌, ◌≤◌, ◌==◌, Bool, true, false, if◌then◌else◌, IsFalse, List, [], ◌∷◌, ◌++◌, length, map, flat_map, reverse, All, Option, Some, None, Ok}
use Rattle.std.specs.List.{list_any}
use Rattle.bit_io.specs.Payload.{payload}
use Rattle.cb_types.specs.References.{is_absent, is_unused}
use Rattle.cb_types.specs.Slices.{is_idr}
use Rattle.cb_types.specs.declared.picture_info.Reference.{Reference}
use Rattle.cb_types.specs.declared.size.SizeMbs.{SizeMbs}
use Rattle.marking.specs.Begun.{begun_of}
use Rattle.marking.specs.History as marks
use Rattle.marking.specs.declared.begun.Begun.{Begun}
use Rattle.marking.specs.declared.marker.Marker.{Marker}
use Rattle.output_order.specs.OutputOrder as order
use Rattle.param_sets.specs.Sps.{size_of}
use Rattle.param_sets.specs.declared.sps.Sps.{Sps}
use Rattle.access_units.specs.AccessUnits.{AccessUnit}
use Rattle.access_units.specs.Depth.{depth_of}
use Rattle.access_units.specs.declared.content.Named.{Named}

-- a picture: its access unit's place, the bytes of its slices, its sequence set, and what it begins with
pub record Picture : Type 0 where
  pub offset : ℕ
  pub slices : List (List ℕ)
  pub sps : Sps
  pub begun : Begun

abbrev pub size_in : Picture → SizeMbs
size_in picture = size_of picture.sps

-- ---- what stands behind pictures, of which the newest is the first

abbrev pub marked_of : Picture → marks.Picture
marked_of picture = record { sps = picture.sps; header = picture.begun.header }

-- which frames are marked, and what the next picture's counts depend on
abbrev pub marker_behind : List Picture → Option Marker
marker_behind before = marks.after_pictures (reverse (map marked_of before)) marks.no_pictures

-- how many periods have begun (a period begins at each IDR picture and at each picture with operation 5)
unfoldable pub periods : List Picture → ℕ
periods [] = 0
periods (picture ∷ before) = if picture.begun.period then periods before + 1 else periods before

-- a picture as it stands in the output order behind these
abbrev pub ordered_behind : List Picture → Begun → order.Picture
ordered_behind before begun = record {
  number = length before;
  count = begun.poc;
  period = if begun.period then periods before + 1 else periods before;
}

-- the pictures in decoding order, as they stand in the output order
unfoldable pub ordered : List Picture → List order.Picture
ordered [] = []
ordered (picture ∷ before) = ordered before ++ ordered_behind before picture.begun ∷ []

-- ---- the submission of a picture

-- its slices, each behind 00 00 01
abbrev pub submission_of : List (List ℕ) → List ℕ
submission_of slices = flat_map (λ slice. 0 ∷ 0 ∷ 1 ∷ slice) slices

-- the payloads of its slices, of which none has a forbidden byte
abbrev pub payloads_of : List (List ℕ) → List (Option (List ℕ))
payloads_of slices = map (λ slice. Some (payload slice)) slices

-- the info has the number of slices
abbrev pub with_count : ℕ → Begun → Begun
with_count slices begun = record begun { info = record (begun.info) { slice_count = slices } }

-- ---- a picture that is accepted, apart from what its slices come to

-- The sequence set is that of the picture before, in all its fields.
abbrev pub IsSameSet : List Picture → Sps → Type 0
IsSameSet [] sps = ⊥
IsSameSet (last ∷ before) sps = last.sps ≡ sps

-- A picture whose first slice has this header begins so behind these: it is IDR where it is the first picture, and of the sequence
-- set of the one before where it isn't IDR; its frame number, counts and marking are allowed; and it isn't late for its turn.
pub record BeginsBehind (before : List Picture) (named : Named) (begun : Begun) : Type 0 where
  pub few : length before < 7000000
  pub same_set : IsFalse (is_idr named.header) → IsSameSet before named.sps
  pub marker : Marker
  pub behind : marker_behind before ≡ Some marker
  pub begins : begun_of marker named.sps named.pps named.header ≡ Ok begun
  pub in_time : order.is_late (depth_of named.sps) (ordered before) (ordered_behind before begun) ≡ false

-- The access unit is this picture behind these: none of its units is refused; its first slice has a header, by which a picture may
-- begin there; and its slices aren't too long.
pub record IsPicture (before : List Picture) (au : AccessUnit) (picture : Picture) : Type 0 where
  pub allowed : au.refused ≡ None
  pub named : Named
  pub first : au.first ≡ Some named
  pub begun : Begun
  pub begins : BeginsBehind before named begun
  pub fits : length (submission_of au.slices) ≤ 67108864
  pub is : picture ≡ record { offset = au.offset; slices = au.slices; sps = named.sps; begun = with_count (length au.slices) begun }

-- Each of these access units is a picture behind those before it; both lists have the newest first.
unfoldable pub ArePictures : List AccessUnit → List Picture → Type 0
ArePictures [] [] = Unit {0}
ArePictures (au ∷ earlier) (picture ∷ before) = ArePictures earlier before × IsPicture before au picture
ArePictures units pictures = ⊥

-- The access unit isn't a picture, and isn't one that a text may end with: units without a slice, of which none is refused.
pub record IsRefused (before : List Picture) (au : AccessUnit) : Type 0 where
  pub no_picture : (picture : Picture) → ¬ IsPicture before au picture
  pub not_tail : au.refused ≡ None → au.slices ≡ [] → ⊥

-- ---- which pictures references are

-- one of these pictures has this own number
abbrev pub has_number : ℕ → List Picture → Bool
has_number number before = list_any (λ (picture : Picture). picture.begun.frame == number) before

-- Each entry that is used, and isn't an absent frame, names one of these pictures by its own number.
abbrev pub AreOwn : List Picture → List Reference → Type 0
AreOwn before entries = All (λ (entry : Reference). is_unused entry ≡ false → is_absent entry ≡ false → has_number entry.surface before ≡ true) entries
