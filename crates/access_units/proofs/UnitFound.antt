-- What an acceptor knows of the unit that it found, and of the access units in hand.
use Rattle.std.proofs.Common.{◌≡◌, ℕ, ◌+◌, ◌<◌, ◌≤◌, inl, inr, Bool, true, false, List, [], ◌∷◌, ◌++◌, length, Option, Some, None, refl, sym, ap, subst, ◌∙◌, arith, length-drop}
use Rattle.std.specs.Prelude.{take, slice_range, vec_len, IfSome}
use Rattle.std.proofs.lemmas.List.{append-nil, length-take}
use Rattle.std.proofs.lemmas.List.Elements.{All-head, All-push}
use Rattle.nal_units.specs.Settled.{Settles}
use Rattle.access_units.specs.AccessUnits.{AccessUnit, access_units, grouped}
use Rattle.access_units.specs.Acceptors.{IsAtAnEnd}
use Rattle.access_units.specs.Contents.{AreTold, Tells, Told, WhereElse, places_of, sets_behind, with_content}
use Rattle.access_units.specs.Known.{IsKnownTo}
use Rattle.access_units.specs.Standing.{AreWithin, IsLookedAt, Keeps, Reads, found_in}
use Rattle.access_units.specs.Taking.{told_at, with_place}
use Rattle.access_units.specs.declared.acceptor.Acceptor.{Acceptor}
use Rattle.access_units.specs.declared.content.Content.{Content}
use Rattle.access_units.specs.declared.content.Content.TheVariants.{Other, PictureSet, Refused, SequenceSet, Slice, TooLarge}
use Rattle.access_units.specs.declared.hand.InHand.{InHand}
use Rattle.access_units.specs.declared.sets.KnownSets.{KnownSets}
use Rattle.access_units.proofs.UnitLemmas.{AreBefore, AreInOrder, before_from_order, in_order-last, in_order-to, in_order_settled, in_order_units, places_of-cons}

-- ---- what is known of the unit that is found

-- The places of a text that is looked at are in order.
pub looked_order : (over : Bool) (text : List ℕ) (looked : ℕ) (ended : Bool) (places : List (ℕ × ℕ)) (broken : Option ℕ)
    → WhereElse over (IsAtAnEnd text ended places broken) ((broken ≡ None) × Settles (take looked text) places None) → AreInOrder 0 (length text) places
looked_order true text looked ended places broken (inl whole) = in_order_units text places broken whole.1
looked_order true text looked ended places broken (inr all) =
    let P : List ℕ → Type 0 = λ xs. AreInOrder 0 (length xs) places in
    subst P (append-nil text) (in_order_units (text ++ []) places broken (all.1 []))
looked_order false text looked ended places broken settled =
    let cut = length-take looked text in
    in_order-to 0 (length (take looked text)) (length text) places (omega arith) (in_order_settled (take looked text) places None settled.1)

-- what is known of an acceptor that found a unit
pub record Finds (a : Acceptor) (text : List ℕ) (told : List Told) (broken : Option ℕ) (hand front : List AccessUnit) (place : ℕ × ℕ) : Type 0 where
  pub low : a.from ≤ place.0
  pub some : place.0 < place.1
  pub high : place.1 ≤ a.looked
  pub whole : broken ≡ None
  pub before : AreBefore place.0 told
  pub units : grouped told ≡ hand ++ front

pub finds : (a : Acceptor) (text : List ℕ) (ended : Bool) (told : List Told) (broken : Option ℕ) (hand front : List AccessUnit) (place : ℕ × ℕ)
    → a.found ≡ Some place → Reads a text ended told broken [] hand front → Finds a text told broken hand front place
finds a text ended told broken hand front place is r =
    let Within : Option (ℕ × ℕ) → Type 0 = λ f. AreWithin a.from a.looked (found_in f) in
    let within = All-head (λ (p : ℕ × ℕ). (a.from ≤ p.0) × (p.0 < p.1) × (p.1 ≤ a.looked)) place [] (subst Within is r.found_within) in
    let whole = r.pending (λ none. (let e = sym is ∙ none in cc)) in
    let InOrder : Option (ℕ × ℕ) → Type 0 = λ f. AreInOrder 0 (length text) (places_of told ++ found_in f) in
    let order = subst InOrder is (looked_order a.is_over text a.looked ended (places_of told ++ found_in a.found) broken r.known) in
    let Of : Option ℕ → Type 0 = λ b. access_units told b ≡ hand ++ front in
    record {
      low = within.0;
      some = within.1;
      high = within.2;
      whole = whole;
      before = before_from_order 0 place.0 told (in_order-last 0 (length text) (places_of told) place order).0;
      units = subst Of whole r.units;
    }

pub looked_more : (a : Acceptor) (text : List ℕ) (ended : Bool) (told : List Told) (unit : Told) (broken : Option ℕ) (place : ℕ × ℕ) → a.found ≡ Some place → unit.place ≡ place
    → IsLookedAt a text ended (places_of told ++ found_in a.found) broken → IsLookedAt a text ended (places_of (unit ∷ told) ++ []) broken
looked_more a text ended told unit broken place is same looked =
    let e : places_of told ++ found_in a.found ≡ places_of (unit ∷ told) ++ [] =
    ap (λ (f : Option (ℕ × ℕ)). places_of told ++ found_in f) is ∙ ap (λ (p : ℕ × ℕ). places_of told ++ p ∷ []) (sym same)
    ∙ sym (places_of-cons unit told) ∙ sym (append-nil (places_of (unit ∷ told))) in
    let P : List (ℕ × ℕ) → Type 0 = λ places. IsLookedAt a text ended places broken in
    subst P e looked

pub told_more : (text : List ℕ) (told : List Told) (place : ℕ × ℕ) (content : Content) → AreTold text told → Tells (sets_behind told) (slice_range text place.0 place.1) content
    → AreTold text (told_at text place content ∷ told)
unfolding AreTold
told_more text told place content each tells = (each, refl, tells)

pub sets_more : (known : KnownSets) (text : List ℕ) (told : List Told) (place : ℕ × ℕ) (content : Content) → IsKnownTo known (with_content content (sets_behind told))
    → IsKnownTo known (sets_behind (told_at text place content ∷ told))
unfolding sets_behind
sets_more known text told place content is = is

pub units_more : (unit : Told) (told : List Told) (broken : Option ℕ) (units : List AccessUnit) → broken ≡ None → grouped (unit ∷ told) ≡ units → access_units (unit ∷ told) broken ≡ units
units_more unit told broken units whole is = let P : Option ℕ → Type 0 = λ b. access_units (unit ∷ told) b ≡ units in subst P (sym whole) is

-- ---- where the slices of an access unit lie

pub place_within : (from to : ℕ) (content : Content) (place : ℕ × ℕ) (places : List (ℕ × ℕ)) → from ≤ place.0 → place.0 < place.1 → place.1 ≤ to
    → AreWithin from to places → AreWithin from to (with_place content place places)
place_within from to (Slice named) place places low some high within = All-push (λ (p : ℕ × ℕ). (from ≤ p.0) × (p.0 < p.1) × (p.1 ≤ to)) places place within (low, some, high)
place_within from to (SequenceSet sps) place places low some high within = within
place_within from to (PictureSet pps) place places low some high within = within
place_within from to Refused place places low some high within = within
place_within from to TooLarge place places low some high within = within
place_within from to Other place places low some high within = within

-- of two equal bounds
pub within_same : (from from' to : ℕ) (places places' : List (ℕ × ℕ)) → from ≡ from' → places' ≡ places → AreWithin from to places → AreWithin from' to places'
within_same from from' to places places' same is within =
    let P : ℕ → Type 0 = λ low. AreWithin low to places' in
    let Q : List (ℕ × ℕ) → Type 0 = λ ps. AreWithin from to ps in
    subst P same (subst Q (sym is) within)

pub keeps_some : (h : Option InHand) (held : InHand) (text : List ℕ) (units : List AccessUnit) → h ≡ Some held → Keeps h text units → Keeps (Some held) text units
keeps_some h held text units is keeps = let P : Option InHand → Type 0 = λ x. Keeps x text units in subst P is keeps

pub keeps_none : (h : Option InHand) (text : List ℕ) → Keeps h text [] → h ≡ None
keeps_none None text keeps = refl
keeps_none (Some held) text keeps = absurd (let e = keeps.1 in cc)

pub keeps_first : (h : Option InHand) (text : List ℕ) (units : List AccessUnit) → h ≡ None → Keeps h text units → units ≡ []
keeps_first h text units is keeps = let P : Option InHand → Type 0 = λ x. Keeps x text units in subst P is keeps

pub if_none : (h : Option InHand) (P : InHand → Type 0) → h ≡ None → IfSome h P
if_none None P e = tt
if_none (Some held) P e = absurd (cc)

pub if_some : (h : Option InHand) (held : InHand) (P : InHand → Type 0) → h ≡ Some held → IfSome h P → P held
if_some h held P is holds = let Q : Option InHand → Type 0 = λ x. IfSome x P in subst Q is holds

-- ---- the bytes that are kept

-- What was looked at is among them.
pub looked_kept : (a : Acceptor) (text : List ℕ) (ended : Bool) (told : List Told) (broken : Option ℕ) (opened hand front : List AccessUnit) → Reads a text ended told broken opened hand front
    → a.looked ≤ a.from + vec_len a.bytes
looked_kept a text ended told broken opened hand front r = omega (arith, a.bytes.ok.0, ap length r.bytes, length-drop a.from text, r.looked, r.from)

-- a unit that is found ends there
pub found_kept : (a : Acceptor) (text : List ℕ) (ended : Bool) (told : List Told) (broken : Option ℕ) (opened hand front : List AccessUnit) (place : ℕ × ℕ) → a.found ≡ Some place
    → Reads a text ended told broken opened hand front → place.1 ≤ a.from + vec_len a.bytes
found_kept a text ended told broken opened hand front place is r =
    let Within : Option (ℕ × ℕ) → Type 0 = λ f. AreWithin a.from a.looked (found_in f) in
    let within = All-head (λ (p : ℕ × ℕ). (a.from ≤ p.0) × (p.0 < p.1) × (p.1 ≤ a.looked)) place [] (subst Within is r.found_within) in
    omega (arith, within.2, looked_kept a text ended told broken opened hand front r)
