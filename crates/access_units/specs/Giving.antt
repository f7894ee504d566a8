-- The access unit in hand as a picture that can be given.
use Rattle.std.specs.Prelude.{◌≡◌, ◌≢◌, ◌≤◌, ◌⊎◌, ℕ, true, List, [], map, length, None, Some, slice_range}
use Rattle.cb_types.specs.AcceptedInfo.{IsAccepted, IsAcceptedBySome}
use Rattle.marking.specs.History.{AreApartFrom}
use Rattle.access_units.specs.AccessUnits.{AccessUnit}
use Rattle.access_units.specs.Acceptors.{Past}
use Rattle.access_units.specs.Pictures.{AreOwn, BeginsBehind, submission_of}
use Rattle.access_units.specs.Readable.{IsReadable}
use Rattle.access_units.specs.Sequences.{AreOfSequence, HasNoneAtIdr}
use Rattle.access_units.specs.declared.acceptor.Acceptor.{Acceptor}
use Rattle.access_units.specs.declared.giving.Offer.{Offer}
use Rattle.access_units.specs.declared.hand.InHand.{InHand}

-- The access unit in hand is settled, and is more than a tail: nothing is found that isn't taken in, and either another access unit
-- was opened behind it or nothing more is to be found.
pub record IsReady (a : Acceptor) : Type 0 where
  pub found : a.found ≡ None
  pub some : (held : InHand) × (a.hand ≡ Some held) × (held.refused ≡ None → held.slices.items ≡ [] → ⊥)
  pub settled : (a.opened ≢ None) ⊎ (a.is_over ≡ true)

-- the bytes of a text at places
abbrev pub bytes_at : List ℕ → List (ℕ × ℕ) → List (List ℕ)
bytes_at text places = map (λ (place : ℕ × ℕ). slice_range text place.0 place.1) places

-- A picture can begin so, with an info that a decoder takes, and no reference has its own number.
pub record IsSound (offer : Offer) : Type 0 where
  pub readable : IsReadable offer.named
  pub info : IsAcceptedBySome offer.begun.info
  pub baseline : IsAccepted 0 16 offer.begun.info
  pub frame : offer.begun.frame ≤ 16
  pub none_at_idr : HasNoneAtIdr offer.begun
  pub apart : AreApartFrom offer.begun.frame offer.begun.info.references

-- The offer is of this access unit, which is a picture.
pub record IsOfferOf (past : Past) (au : AccessUnit) (offer : Offer) : Type 0 where
  pub allowed : au.refused ≡ None
  pub first : au.first ≡ Some offer.named
  pub begins : BeginsBehind past.given offer.named offer.begun
  pub own : AreOwn past.given offer.begun.info.references
  pub sequence : AreOfSequence past.given offer.begun.info.references
  pub slices : offer.slices ≡ length au.slices
  pub submission : offer.submission ≡ submission_of au.slices
  pub fits : length (submission_of au.slices) ≤ 67108864
