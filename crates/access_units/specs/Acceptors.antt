-- What was fed to an acceptor and what it gave, and what it answers next.
use Rattle.std.specs.Prelude.{◌≡◌, ℕ, ◌≤◌, ◌⊎◌, Bool, true, false, List, [], ◌∷◌, ◌++◌, length, drop, take, All, Option, Some, None, unwrap_or, ◌≢◌}
use Rattle.cb_types.specs.AcceptedInfo.{IsAccepted, IsAcceptedBySome}
use Rattle.cb_types.specs.SizeMbs.{IsWithinLimits}
use Rattle.cb_types.specs.Slices.{is_idr}
use Rattle.marking.specs.History.{AreApartFrom}
use Rattle.nal_units.specs.Settled.{Settles}
use Rattle.nal_units.specs.Units.{Units}
use Rattle.access_units.specs.AccessUnits.{AccessUnit, access_units, grouped}
use Rattle.access_units.specs.Contents.{AreTold, Told, places_of}
use Rattle.access_units.specs.Depth.{depth_of}
use Rattle.access_units.specs.Pictures.{AreOwn, ArePictures, IsPicture, IsRefused, Picture, size_in, submission_of}
use Rattle.access_units.specs.Sequences.{AreOfSequence, HasNoneAtIdr, sequence_of}
use Rattle.access_units.specs.declared.acceptor.Next.{Next}
use Rattle.access_units.specs.declared.acceptor.Next.TheVariants as next
use Rattle.access_units.specs.declared.acceptor.Unsettled.{Unsettled}

-- the bytes fed, whether the end was fed, the pictures given, of which the newest is the first, and what was settled of that one:
-- None where it isn't settled, or whether its slices came to the whole picture. All earlier ones did.
pub record Past : Type 0 where
  pub text : List ℕ
  pub ended : Bool
  pub given : List Picture
  pub outcome : Option Bool

abbrev pub no_past : Past
no_past = record { text = []; ended = false; given = []; outcome = Some true }

abbrev pub fed : Past → List ℕ → Past
fed past [] = record past { ended = true }
fed past (byte ∷ bytes) = record past { text = past.text ++ byte ∷ bytes }

abbrev pub giving : Past → Picture → Past
giving past picture = record past { given = picture ∷ past.given; outcome = None }

abbrev pub settling : Past → Bool → Past
settling past accepted = record past { outcome = Some accepted }

-- Bytes may be fed: the end wasn't, and with them there are 2^30 at most.
pub record MayFeed (past : Past) (bytes : List ℕ) : Type 0 where
  pub not_ended : past.ended ≡ false
  pub room : length (past.text ++ bytes) ≤ 1073741824

-- The next picture may be asked for: the last one given was settled.
abbrev pub MayAsk : Past → Type 0
MayAsk past = past.outcome ≢ None

-- ---- the access units that bytes settle

-- All units of a text and its broken place are known: at its end, or whatever follows.
abbrev pub IsAtAnEnd : List ℕ → Bool → List (ℕ × ℕ) → Option ℕ → Type 0
IsAtAnEnd text ended places broken =
    ((ended ≡ true) × Units text places broken)
    ⊎ ((broken ≢ None) × ((more : List ℕ) → Units (text ++ more) places broken))

-- These are the units that have ended in a front of the text, with three bytes of it or more behind each, and with something behind
-- it that front can be a whole byte stream.
abbrev pub AreFirst : List ℕ → List (ℕ × ℕ) → Type 0
AreFirst text places = (taken : ℕ) × (taken ≤ length text) × Settles (take taken text) places None

-- An access unit is settled, and behind these, the newest first: by a unit that begins another one, or where all units are known.
pub record IsSettled (text : List ℕ) (ended : Bool) (front : List AccessUnit) (au : AccessUnit) : Type 0 where
  pub told : List Told
  pub each : AreTold text told
  pub by :
      (AreFirst text (places_of told) × ((another : AccessUnit) × (grouped told ≡ another ∷ au ∷ front)))
      ⊎ ((broken : Option ℕ) × IsAtAnEnd text ended (places_of told) broken × ((later : List AccessUnit) × (access_units told broken ≡ later ++ au ∷ front)))

-- No access unit is left but a last one without a slice, of which no unit is refused.
abbrev pub IsTail : List AccessUnit → Type 0
IsTail units = (units ≡ []) ⊎ ((au : AccessUnit) × (units ≡ au ∷ []) × (au.refused ≡ None) × (au.slices ≡ []))

-- The whole text has these access units, the newest first, and behind them no more that counts.
pub record AreAll (text : List ℕ) (front : List AccessUnit) : Type 0 where
  pub told : List Told
  pub each : AreTold text told
  pub broken : Option ℕ
  pub units : Units text (places_of told) broken
  pub tail : List AccessUnit
  pub is_tail : IsTail tail
  pub split : access_units told broken ≡ tail ++ front

-- The text, which can go on, settles these access units, the newest first, and no more.
pub record AreAllSettled (text : List ℕ) (front : List AccessUnit) : Type 0 where
  pub told : List Told
  pub each : AreTold text told
  pub settles : Settles text (places_of told) None
  pub split : drop 1 (grouped told) ≡ front

-- ---- the answers

-- what is handed out of a picture
pub record Shows (unsettled : Unsettled) (picture : Picture) : Type 0 where
  pub offset : unsettled.offset ≡ picture.offset
  pub begun : unsettled.begun ≡ picture.begun
  pub size : unsettled.size ≡ size_in picture
  pub depth : unsettled.depth ≡ depth_of picture.sps
  pub references : unsettled.references ≡ picture.sps.max_num_ref_frames
  pub submission : unsettled.submission ≡ submission_of picture.slices

-- The last picture given came to no whole picture.
pub record IsFailed (past : Past) (offset : ℕ) : Type 0 where
  pub outcome : past.outcome ≡ Some false
  pub last : Picture
  pub before : List Picture
  pub given : past.given ≡ last ∷ before
  pub offset_is : offset ≡ last.offset

-- the access unit whose turn is next: it is settled, and those before it are the pictures given
pub record IsUpNext (past : Past) (au : AccessUnit) : Type 0 where
  pub front : List AccessUnit
  pub settled : IsSettled past.text past.ended front au
  pub pictures : ArePictures front past.given

-- It isn't accepted.
pub record IsStopped (past : Past) (offset : ℕ) (large : Bool) : Type 0 where
  pub outcome : past.outcome ≡ Some true
  pub au : AccessUnit
  pub up_next : IsUpNext past au
  pub refused : IsRefused past.given au
  pub offset_is : offset ≡ au.offset
  pub large_is : large ≡ unwrap_or au.refused false

-- It is this picture.
pub record IsNext (past : Past) (picture : Picture) : Type 0 where
  pub outcome : past.outcome ≡ Some true
  pub au : AccessUnit
  pub up_next : IsUpNext past au
  pub is : IsPicture past.given au picture

-- The end was fed, and all pictures were given.
pub record IsAtEnd (past : Past) : Type 0 where
  pub outcome : past.outcome ≡ Some true
  pub ended : past.ended ≡ true
  pub front : List AccessUnit
  pub all : AreAll past.text front
  pub pictures : ArePictures front past.given

-- The end wasn't fed, and no further access unit is settled.
pub record IsHungry (past : Past) : Type 0 where
  pub outcome : past.outcome ≡ Some true
  pub not_ended : past.ended ≡ false
  pub front : List AccessUnit
  pub all : AreAllSettled past.text front
  pub pictures : ArePictures front past.given

abbrev pub IsAnswer : Past → Next → Type 0
IsAnswer past next.Hungry = IsHungry past
IsAnswer past (next.Picture unsettled) = (picture : Picture) × IsNext past picture × Shows unsettled picture
IsAnswer past next.End = IsAtEnd past
IsAnswer past (next.Refused offset large) = (IsFailed past offset × (large ≡ false)) ⊎ IsStopped past offset large

-- ---- what a caller can decode a picture with

-- What a caller can decode a picture with: its info is one that a decoder takes, and so does one of Constrained Baseline with 16
-- references; its size is within the limits, and so are its depth and its own number. Its references are pictures given before, of
-- its own coded video sequence, whose pictures all have its size; an IDR picture, which begins another one, has none. No reference
-- has its own number.
pub record IsDecodable (past : Past) (unsettled : Unsettled) : Type 0 where
  pub info : IsAcceptedBySome unsettled.begun.info
  pub baseline : IsAccepted 0 16 unsettled.begun.info
  pub size : IsWithinLimits unsettled.size
  pub depth : unsettled.depth ≤ 16
  pub frame : unsettled.begun.frame ≤ 16
  pub named : AreOwn past.given unsettled.begun.info.references
  pub sequence : AreOfSequence past.given unsettled.begun.info.references
  pub one_size : is_idr unsettled.begun.header ≡ false → All (λ (picture : Picture). size_in picture ≡ unsettled.size) (sequence_of past.given)
  pub none_at_idr : HasNoneAtIdr unsettled.begun
  pub apart : AreApartFrom unsettled.begun.frame unsettled.begun.info.references

abbrev pub IsDecodableIn : Past → Next → Type 0
IsDecodableIn past (next.Picture unsettled) = IsDecodable past unsettled
IsDecodableIn past answer = Unit {0}
