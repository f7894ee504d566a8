-- What an acceptor reads where no unit was taken in.
use Rattle.std.proofs.Common.{◌≡◌, ℕ, ◌≤◌, Bool, List, Option, Some, None, sym, ap, subst, ◌∙◌, arith}
use Rattle.std.specs.Prelude.{map, slice_range, IfSome}
use Rattle.access_units.specs.AccessUnits.{AccessUnit}
use Rattle.access_units.specs.Contents.{Told, sets_behind}
use Rattle.access_units.specs.Hands.{Holds, IsUnchanged}
use Rattle.access_units.specs.Known.{IsKnownTo}
use Rattle.access_units.specs.Readable.{IsReadable}
use Rattle.access_units.specs.Sets.{Sets}
use Rattle.access_units.specs.Standing.{AreWithin, Keeps, Reads}
use Rattle.access_units.specs.Taking.{IsUnchangedIn, TakesNone}
use Rattle.access_units.specs.declared.acceptor.Acceptor.{Acceptor}
use Rattle.access_units.specs.declared.hand.InHand.{InHand}
use Rattle.access_units.specs.declared.sets.KnownSets.{KnownSets}
use Rattle.access_units.proofs.UnitFound.{within_same}

holds_same : (old new : InHand) (text : List ℕ) (au : AccessUnit) → IsUnchanged old new → Holds old text au → Holds new text au
holds_same old new text au same holds = record {
  offset = same.offset ∙ holds.offset;
  refused = same.refused ∙ holds.refused;
  slices = ap (λ (places : List (ℕ × ℕ)). map (λ (place : ℕ × ℕ). slice_range text place.0 place.1) places) same.slices ∙ holds.slices;
  first = same.first ∙ holds.first;
  last = same.last ∙ holds.last;
}

keeps_same : (old new : Option InHand) (text : List ℕ) (units : List AccessUnit) → IsUnchangedIn old new → Keeps old text units → Keeps new text units
keeps_same None None text units same keeps = keeps
keeps_same None (Some new) text units same keeps = absurd same
keeps_same (Some old) None text units same keeps = absurd same
keeps_same (Some old) (Some new) text units same keeps =
    let Readable : Option _ → Type 0 = λ first. IfSome first IsReadable in
    (keeps.0, keeps.1, holds_same old new text keeps.0 same keeps.2, subst Readable (sym same.first) keeps.3)

from_same : (old new : Option InHand) (from looked : ℕ) → IsUnchangedIn old new
    → IfSome old (λ held. (from ≤ held.offset) × (held.offset ≤ looked) × AreWithin held.offset looked held.slices.items)
    → IfSome new (λ held. (from ≤ held.offset) × (held.offset ≤ looked) × AreWithin held.offset looked held.slices.items)
from_same None None from looked same within = within
from_same None (Some new) from looked same within = absurd same
from_same (Some old) None from looked same within = absurd same
from_same (Some old) (Some new) from looked same within =
    let offset = same.offset in
    (omega (arith, within.0), omega (arith, within.1), within_same old.offset new.offset looked old.slices.items new.slices.items (sym offset) same.slices within.2)

before_same : (old new : Option InHand) (to : ℕ) → IsUnchangedIn old new → IfSome old (λ first. first.offset ≤ to) → IfSome new (λ first. first.offset ≤ to)
before_same None None to same below = below
before_same None (Some new) to same below = absurd same
before_same (Some old) None to same below = absurd same
before_same (Some old) (Some new) to same below = let offset = same.offset in omega (arith, below)

behind_same : (opened old new : Option InHand) (looked : ℕ) → IsUnchangedIn old new
    → IfSome opened (λ held. IfSome old (λ first. first.offset ≤ held.offset) × (held.offset ≤ looked) × AreWithin held.offset looked held.slices.items)
    → IfSome opened (λ held. IfSome new (λ first. first.offset ≤ held.offset) × (held.offset ≤ looked) × AreWithin held.offset looked held.slices.items)
behind_same None old new looked same within = within
behind_same (Some held) old new looked same within = (before_same old new held.offset same within.0, within.1, within.2)

none_taken : (a : Acceptor) (known : KnownSets) (h : Option InHand) (text : List ℕ) (ended : Bool) (told : List Told) (broken : Option ℕ) (opened hand front : List AccessUnit)
    → IsUnchangedIn a.hand h → ((sets : Sets) → IsKnownTo a.known sets → IsKnownTo known sets) → Reads a text ended told broken opened hand front
    → Reads (record a { known = known; hand = h; opened = a.opened }) text ended told broken opened hand front
none_taken a known h text ended told broken opened hand front same knows r = record {
  size = r.size;
  from = r.from;
  looked = r.looked;
  bytes = r.bytes;
  ended_is = r.ended_is;
  finder = r.finder;
  each = r.each;
  known = r.known;
  found_within = r.found_within;
  pending = r.pending;
  from_start = r.from_start;
  opened_only = r.opened_only;
  sets = knows (sets_behind told) r.sets;
  units = r.units;
  in_hand = keeps_same a.hand h text hand same r.in_hand;
  is_opened = r.is_opened;
  some_hand = r.some_hand;
  hand_within = from_same a.hand h a.from a.looked same r.hand_within;
  opened_within = behind_same a.opened a.hand h a.looked same r.opened_within;
}

-- Where no unit was taken in, the acceptor reads what it did.
pub reads_still : (a b : Acceptor) (text : List ℕ) (ended : Bool) (told : List Told) (broken : Option ℕ) (opened hand front : List AccessUnit)
    → TakesNone a b → b ≡ record a { known = b.known; hand = b.hand; opened = b.opened } → Reads a text ended told broken opened hand front
    → Reads b text ended told broken opened hand front
reads_still a b text ended told broken opened hand front none rest r =
    let Opened : Option InHand → Type 0 = λ o. Reads (record a { known = b.known; hand = b.hand; opened = o }) text ended told broken opened hand front in
    let Whole : Acceptor → Type 0 = λ x. Reads x text ended told broken opened hand front in
    subst Whole (sym rest) (subst Opened (sym none.opened) (none_taken a b.known b.hand text ended told broken opened hand front none.hand none.known r))
