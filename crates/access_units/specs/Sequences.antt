-- Coded video sequences: an IDR picture and the pictures behind it up to the next one (H.264, 7.4.1.2.2), with one sequence set
-- (7.4.1.2.1).
use Rattle.std.specs.Prelude.{◌≡◌, ℕ, ◌≤◌, true, false, if◌then◌else◌, List, [], ◌∷◌, All}
use Rattle.cb_types.specs.References.{is_absent, is_unused}
use Rattle.cb_types.specs.Slices.{is_idr}
use Rattle.cb_types.specs.declared.picture_info.Reference.{Reference}
use Rattle.marking.specs.declared.begun.Begun.{Begun}
use Rattle.access_units.specs.AccessUnits.{AccessUnit}
use Rattle.access_units.specs.Pictures.{ArePictures, Picture, has_number}

-- the pictures of the newest one's sequence, the newest first: those up to the newest IDR picture, and that one too
unfoldable pub sequence_of : List Picture → List Picture
sequence_of [] = []
sequence_of (picture ∷ before) = picture ∷ (if is_idr picture.begun.header then [] else sequence_of before)

-- ---- which pictures references are

-- A picture of the newest one's sequence has this own number, which is 16 at most.
pub record IsOfSequence (before : List Picture) (number : ℕ) : Type 0 where
  pub few : number ≤ 16
  pub there : has_number number (sequence_of before) ≡ true

-- So of each entry that is used, and isn't an absent frame.
abbrev pub AreOfSequence : List Picture → List Reference → Type 0
AreOfSequence before entries = All (λ (entry : Reference). is_unused entry ≡ false → is_absent entry ≡ false → IsOfSequence before entry.surface) entries

-- An IDR picture has no references: none of its entries is used.
abbrev pub HasNoneAtIdr : Begun → Type 0
HasNoneAtIdr begun = is_idr begun.header ≡ true → All (λ (entry : Reference). is_unused entry ≡ true) begun.info.references

-- ---- the sequence set of a sequence

-- Of pictures that are accepted, all of the newest one's sequence have its sequence set, and so its size.
abbrev pub SequencesHaveOneSet : Type 0
SequencesHaveOneSet =
    (units : List AccessUnit) (newest : Picture) (before : List Picture) → ArePictures units (newest ∷ before)
    → All (λ (picture : Picture). picture.sps ≡ newest.sps) (sequence_of (newest ∷ before))
