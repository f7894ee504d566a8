-- Which past an acceptor stands for. Callers need only StandsFor: what they know of an acceptor comes from its calls. The rest
-- says how its private fields lie in the text.
use Rattle.std.specs.Prelude.{◌≡◌, ◌≢◌, ℕ, ◌<◌, ◌≤◌, Bool, true, false, if◌then◌else◌, not, ◌⊎◌, slice_index_or, List, [], ◌+◌, ◌-◌, ◌∷◌, ◌++◌, length, drop, take, All, Option, Some, None, IfSome}
use Rattle.std.specs.Option.{is_some}
use Rattle.nal_units.specs.Finder as finder
use Rattle.nal_units.specs.Settled.{Settles}
use Rattle.access_units.specs.AccessUnits.{AccessUnit, access_units}
use Rattle.access_units.specs.Acceptors.{IsAtAnEnd, IsNext, Past, Shows, giving}
use Rattle.access_units.specs.Contents.{AreTold, Told, WhereElse, places_of, sets_behind}
use Rattle.access_units.specs.Hands.{Holds}
use Rattle.access_units.specs.Known.{IsKnownTo}
use Rattle.access_units.specs.Pictures.{ArePictures, Picture}
use Rattle.access_units.specs.Readable.{IsReadable}
use Rattle.access_units.specs.Stands.{StandsBehind}
use Rattle.access_units.specs.declared.acceptor.Acceptor.{Acceptor}
use Rattle.access_units.specs.declared.acceptor.Next.{Next}
use Rattle.access_units.specs.declared.acceptor.Next.TheVariants as next
use Rattle.access_units.specs.declared.hand.InHand.{InHand}

-- The places stand in the text from a place on.
abbrev pub AreWithin : ℕ → ℕ → List (ℕ × ℕ) → Type 0
AreWithin from to places = All (λ (place : ℕ × ℕ). (from ≤ place.0) × (place.0 < place.1) × (place.1 ≤ to)) places

-- a unit that is found and not taken in
abbrev pub found_in : Option (ℕ × ℕ) → List (ℕ × ℕ)
found_in None = []
found_in (Some place) = place ∷ []

-- How far the text is known: where nothing more is to be found, all of it is; else the part that was looked at is.
abbrev pub IsLookedAt : Acceptor → List ℕ → Bool → List (ℕ × ℕ) → Option ℕ → Type 0
IsLookedAt a text ended places broken =
    WhereElse a.is_over (IsAtAnEnd text ended places broken)
    ((broken ≡ None) × Settles (take a.looked text) places None)

-- The access unit in hand, or the one opened behind it, is this one.
abbrev pub Keeps : Option InHand → List ℕ → List AccessUnit → Type 0
Keeps None text units = units ≡ []
Keeps (Some hand) text units = (au : AccessUnit) × (units ≡ au ∷ []) × Holds hand text au × IfSome hand.first IsReadable

-- The access unit in hand stands in the text from one place up to another.
abbrev pub Within : Option InHand → ℕ → ℕ → Type 0
Within hand from to = IfSome hand (λ held. (from ≤ held.offset) × (held.offset ≤ to) × AreWithin held.offset to held.slices.items)

-- how far the search is, as a number that falls with each unit that is taken in
abbrev pub number_if : Bool → ℕ
number_if condition = if condition then 1 else 0

abbrev pub still_to_do : Acceptor → ℕ
still_to_do a = (a.from + length a.bytes.items - a.looked) + (number_if (not a.is_over) + number_if (is_some a.found))

abbrev pub IsFurther : Acceptor → Acceptor → Type 0
IsFurther old new = still_to_do new ≤ still_to_do old

-- A place at or before the start of one of these units, or the beginning of the text: units to come stand behind it.
abbrev pub IsBehindStart : List (ℕ × ℕ) → ℕ → Type 0
IsBehindStart places place = (place ≡ 0) ⊎ ((number : ℕ) × (number < length places) × (place ≤ (slice_index_or places number (0, 0)).0))

-- What the fields of an acceptor say of its text.
pub record Reads (a : Acceptor) (text : List ℕ) (ended : Bool) (told : List Told) (broken : Option ℕ) (opened hand front : List AccessUnit) : Type 0 where
  -- the bytes that are kept, and those that were looked at
  pub size : length text ≤ 1073741824
  pub from : a.from ≤ a.looked
  pub looked : a.looked ≤ length text
  pub bytes : a.bytes.items ≡ drop a.from text
  pub ended_is : a.ended ≡ ended
  pub finder : a.is_over ≡ false → finder.StandsFor a.finder (take a.looked text)
  -- the units that were taken in, and one that is found
  pub each : AreTold text told
  pub known : IsLookedAt a text ended (places_of told ++ found_in a.found) broken
  -- no broken place is known before that unit is taken in
  pub pending : a.found ≢ None → broken ≡ None
  pub from_start : IsBehindStart (places_of told) a.from
  pub opened_only : opened ≢ [] → a.found ≡ None
  pub found_within : AreWithin a.from a.looked (found_in a.found)
  pub sets : IsKnownTo a.known (sets_behind told)
  -- the access units
  pub units : access_units told broken ≡ opened ++ (hand ++ front)
  pub in_hand : Keeps a.hand text hand
  pub is_opened : Keeps a.opened text opened
  pub some_hand : hand ≡ [] → (opened ≡ []) × (a.is_over ≡ false → (told ≡ []) × (a.from ≡ 0)) × (a.found ≢ None → told ≡ [])
  pub hand_within : Within a.hand a.from a.looked
  pub opened_within : IfSome a.opened (λ held. IfSome a.hand (λ first. first.offset ≤ held.offset) × (held.offset ≤ a.looked) × AreWithin held.offset a.looked held.slices.items)

-- What the search for units, and taking them in, leaves as it is.
pub record KeepsRest (old new : Acceptor) : Type 0 where
  pub alloc : new.alloc ≡ old.alloc
  pub bytes : new.bytes ≡ old.bytes
  pub from : new.from ≡ old.from
  pub ended : new.ended ≡ old.ended
  pub pictures : new.pictures ≡ old.pictures
  pub last_offset : new.last_offset ≡ old.last_offset
  pub has_failed : new.has_failed ≡ old.has_failed

-- what is known of the last picture given
abbrev pub IsLast : Acceptor → Option Bool → List Picture → Type 0
IsLast a outcome [] = (outcome ≡ Some true) × (a.has_failed ≡ false)
IsLast a outcome (last ∷ before) = (a.last_offset ≡ last.offset) × (a.has_failed ≡ true → outcome ≡ Some false) × (outcome ≡ Some false → a.has_failed ≡ true)

-- The acceptor stands for what was fed to it, given by it, and settled.
pub record StandsFor (a : Acceptor) (past : Past) : Type 0 where
  pub told : List Told
  pub broken : Option ℕ
  pub opened : List AccessUnit
  pub hand : List AccessUnit
  pub front : List AccessUnit
  pub reads : Reads a past.text past.ended told broken opened hand front
  pub pictures : ArePictures front past.given
  pub behind : StandsBehind a.pictures past.given
  pub last : IsLast a past.outcome past.given

-- Behind an answer the acceptor stands for what happened before, and where it is a picture for that one too.
abbrev pub StandsBehindAnswer : Acceptor → Past → Next → Type 0
StandsBehindAnswer a past (next.Picture unsettled) = (picture : Picture) × IsNext past picture × Shows unsettled picture × StandsFor a (giving past picture)
StandsBehindAnswer a past answer = StandsFor a past
