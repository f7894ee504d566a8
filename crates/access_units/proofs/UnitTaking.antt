-- What an acceptor reads, with one unit more.
use Rattle.std.proofs.Common.{◌≡◌, ℕ, ◌<◌, ◌≤◌, ◌⊎◌, inl, inr, Bool, true, false, cond, List, [], ◌∷◌, ◌++◌, Option, Some, None, refl, sym, ap, subst, ◌∙◌, arith}
use Rattle.std.specs.Prelude.{slice_range, IfSome}
use Rattle.std.specs.Option.{is_some, option_or}
use Rattle.std.proofs.lemmas.List.Elements.{All-nil}
use Rattle.access_units.specs.AccessUnits.{AccessUnit, begins_another, empty_at, grouped, unit_alone, with_unit}
use Rattle.access_units.specs.Contents.{Tells, Told, sets_behind, with_content}
use Rattle.access_units.specs.Hands.{Holds, IsOf}
use Rattle.access_units.specs.Known.{IsKnownTo}
use Rattle.access_units.specs.Readable.{IsReadable, IsReadableContent}
use Rattle.access_units.specs.Standing.{AreWithin, Reads}
use Rattle.access_units.specs.Taking.{Begins, GoesOn, HasMore, IsAlone, Opens, ReadsOn, told_at, with_place}
use Rattle.access_units.specs.declared.acceptor.Acceptor.{Acceptor}
use Rattle.access_units.specs.declared.content.Content.{Content}
use Rattle.access_units.specs.declared.hand.InHand.{InHand}
use Rattle.access_units.specs.declared.hand.NalUnit.{NalUnit}
use Rattle.access_units.specs.declared.sets.KnownSets.{KnownSets}
use Rattle.access_units.proofs.StartLemmas.{start_more}
use Rattle.access_units.proofs.UnitLemmas.{begins_before, grouped-begun, grouped-first, grouped-more, grouped-nil, unit_alone-offset, with_unit-offset, with_unit-readable}
use Rattle.access_units.proofs.UnitFound.{finds, looked_more, told_more, sets_more, units_more, place_within, within_same, keeps_some, keeps_none, keeps_first, if_none, if_some}

-- It goes on with the access unit in hand.
more_in_hand : (a : Acceptor) (known : KnownSets) (before after : InHand) (unit : NalUnit) (text : List ℕ) (ended : Bool) (told : List Told) (broken : Option ℕ)
    (hand front : List AccessUnit) (place : ℕ × ℕ) → a.found ≡ Some place → a.hand ≡ Some before → Reads a text ended told broken [] hand front
    → IsOf unit text (told_at text place unit.content) → Tells (sets_behind told) (slice_range text place.0 place.1) unit.content → IsReadableContent unit.content
    → IsKnownTo known (with_content unit.content (sets_behind told)) → HasMore before after unit
    → ((t : List ℕ) (au : AccessUnit) (this : Told) → Holds before t au → IsOf unit t this → begins_another au this ≡ false)
    → ReadsOn (record a { found = None; known = known; hand = Some after; opened = a.opened }) text ended told broken front
more_in_hand a known before after unit text ended told broken hand front place is was r is_unit tells readable sets more same =
    let f = finds a text ended told broken hand front place is r in
    let this : Told = told_at text place unit.content in
    let held = keeps_some a.hand before text hand was r.in_hand in
    let au : AccessUnit = held.0 in
    let newest : grouped told ≡ au ∷ front = f.units ∙ ap (λ (us : List AccessUnit). us ++ front) held.1 in
    let grown = more.holds text au this held.2 is_unit in
    let offset : before.offset ≡ after.offset = held.2.offset ∙ sym (with_unit-offset au this) ∙ sym grown.offset in
    let begun : au.offset < place.0 = begins_before place.0 told au front newest f.before in
    let From = λ (h : InHand). (a.from ≤ h.offset) × (h.offset ≤ a.looked) × AreWithin h.offset a.looked h.slices.items in
    let lies = if_some a.hand before From was r.hand_within in
    let low : before.offset ≤ unit.start = (let s = is_unit.start in let o = held.2.offset in omega arith) in
    let some : unit.start < unit.end = (let s = is_unit.start in let e = is_unit.end in let some = f.some in omega arith) in
    let high : unit.end ≤ a.looked = (let e = is_unit.end in let high = f.high in omega arith) in
    let none = keeps_none a.opened text r.is_opened in
    let Readable : Option _ → Type 0 = λ first. IfSome first IsReadable in
    record {
      unit = this;
      opened = [];
      hand = with_unit au this ∷ [];
      reads = record {
        size = r.size;
        from = r.from;
        looked = r.looked;
        bytes = r.bytes;
        ended_is = r.ended_is;
        finder = r.finder;
        each = told_more text told place unit.content r.each tells;
        known = looked_more a text ended told this broken place is refl r.known;
        found_within = All-nil (λ (p : ℕ × ℕ). (a.from ≤ p.0) × (p.0 < p.1) × (p.1 ≤ a.looked));
        pending = λ found. f.whole;
        from_start = start_more this told a.from r.from_start;
        opened_only = λ some. refl;
        sets = sets_more known text told place unit.content sets;
        units = units_more this told broken (with_unit au this ∷ front) f.whole (grouped-more this told au front newest (same text au this held.2 is_unit));
        in_hand = (with_unit au this, refl, grown, subst Readable (sym grown.first) (with_unit-readable au this (subst Readable held.2.first held.3) readable));
        is_opened = r.is_opened;
        some_hand = λ e. absurd (cc);
        hand_within = (
          omega (arith, lies.0, offset),
          omega (arith, lies.1, offset),
          within_same before.offset after.offset a.looked _ after.slices.items offset more.places
              (place_within before.offset a.looked unit.content (unit.start, unit.end) before.slices.items low some high lies.2),
        );
        opened_within = if_none a.opened _ none;
      };
    }

alone_within : (from to : ℕ) (content : Content) (place : ℕ × ℕ) → from ≤ place.0 → place.0 < place.1 → place.1 ≤ to → AreWithin from to (with_place content place [])
alone_within from to content place low some high =
    place_within from to content place [] low some high (All-nil (λ (p : ℕ × ℕ). (from ≤ p.0) × (p.0 < p.1) × (p.1 ≤ to)))

-- It begins the first access unit.
first_in_hand : (a : Acceptor) (known : KnownSets) (held : InHand) (unit : NalUnit) (text : List ℕ) (ended : Bool) (told : List Told) (broken : Option ℕ)
    (hand front : List AccessUnit) (place : ℕ × ℕ) → a.found ≡ Some place → a.hand ≡ None → Reads a text ended told broken [] hand front
    → IsOf unit text (told_at text place unit.content) → Tells (sets_behind told) (slice_range text place.0 place.1) unit.content → IsReadableContent unit.content
    → IsKnownTo known (with_content unit.content (sets_behind told)) → IsAlone held unit
    → ReadsOn (record a { found = None; known = known; hand = Some held; opened = a.opened }) text ended told broken front
first_in_hand a known held unit text ended told broken hand front place is was r is_unit tells readable sets alone =
    let f = finds a text ended told broken hand front place is r in
    let this : Told = told_at text place unit.content in
    let no_hand : hand ≡ [] = keeps_first a.hand text hand was r.in_hand in
    let no_told : told ≡ [] = (r.some_hand no_hand).2 (λ none. (let e = sym is ∙ none in cc)) in
    let no_front : front ≡ [] =
    sym (f.units ∙ ap (λ (us : List AccessUnit). us ++ front) no_hand) ∙ ap grouped no_told ∙ grouped-nil in
    let grown = alone.holds text this is_unit in
    let offset : held.offset ≡ place.0 = grown.offset ∙ unit_alone-offset this in
    let low : held.offset ≤ unit.start = (let s = is_unit.start in omega arith) in
    let some : unit.start < unit.end = (let s = is_unit.start in let e = is_unit.end in let some = f.some in omega arith) in
    let high : unit.end ≤ a.looked = (let e = is_unit.end in let high = f.high in omega arith) in
    let none = keeps_none a.opened text r.is_opened in
    let Readable : Option _ → Type 0 = λ first. IfSome first IsReadable in
    let here : grouped (this ∷ told) ≡ unit_alone this ∷ front =
    ap (λ (units : List Told). grouped (this ∷ units)) no_told ∙ grouped-first this ∙ ap (λ (us : List AccessUnit). unit_alone this ∷ us) (sym no_front) in
    record {
      unit = this;
      opened = [];
      hand = unit_alone this ∷ [];
      reads = record {
        size = r.size;
        from = r.from;
        looked = r.looked;
        bytes = r.bytes;
        ended_is = r.ended_is;
        finder = r.finder;
        each = told_more text told place unit.content r.each tells;
        known = looked_more a text ended told this broken place is refl r.known;
        found_within = All-nil (λ (p : ℕ × ℕ). (a.from ≤ p.0) × (p.0 < p.1) × (p.1 ≤ a.looked));
        pending = λ found. f.whole;
        from_start = start_more this told a.from r.from_start;
        opened_only = λ some. refl;
        sets = sets_more known text told place unit.content sets;
        units = units_more this told broken (unit_alone this ∷ front) f.whole here;
        in_hand = (unit_alone this, refl, grown, subst Readable (sym grown.first) (with_unit-readable (empty_at place.0) this tt readable));
        is_opened = r.is_opened;
        some_hand = λ e. absurd (cc);
        hand_within = (
          omega (arith, f.low, offset),
          omega (arith, f.some, f.high, offset),
          within_same held.offset held.offset a.looked _ held.slices.items refl alone.places
              (alone_within held.offset a.looked unit.content (unit.start, unit.end) low some high),
        );
        opened_within = if_none a.opened _ none;
      };
    }

-- It begins an access unit behind the one in hand.
next_opened : (a : Acceptor) (known : KnownSets) (before held : InHand) (unit : NalUnit) (text : List ℕ) (ended : Bool) (told : List Told) (broken : Option ℕ)
    (hand front : List AccessUnit) (place : ℕ × ℕ) → a.found ≡ Some place → a.hand ≡ Some before → Reads a text ended told broken [] hand front
    → IsOf unit text (told_at text place unit.content) → Tells (sets_behind told) (slice_range text place.0 place.1) unit.content → IsReadableContent unit.content
    → IsKnownTo known (with_content unit.content (sets_behind told)) → IsAlone held unit
    → ((t : List ℕ) (au : AccessUnit) (this : Told) → Holds before t au → IsOf unit t this → begins_another au this ≡ true)
    → ReadsOn (record a { found = None; known = known; hand = Some before; opened = Some held }) text ended told broken front
next_opened a known before held unit text ended told broken hand front place is was r is_unit tells readable sets alone begins =
    let f = finds a text ended told broken hand front place is r in
    let this : Told = told_at text place unit.content in
    let kept = keeps_some a.hand before text hand was r.in_hand in
    let au : AccessUnit = kept.0 in
    let newest : grouped told ≡ au ∷ front = f.units ∙ ap (λ (us : List AccessUnit). us ++ front) kept.1 in
    let grown = alone.holds text this is_unit in
    let offset : held.offset ≡ place.0 = grown.offset ∙ unit_alone-offset this in
    let begun : au.offset < place.0 = begins_before place.0 told au front newest f.before in
    let first : before.offset ≡ au.offset = kept.2.offset in
    let From = λ (h : InHand). (a.from ≤ h.offset) × (h.offset ≤ a.looked) × AreWithin h.offset a.looked h.slices.items in
    let low : held.offset ≤ unit.start = (let s = is_unit.start in omega arith) in
    let some : unit.start < unit.end = (let s = is_unit.start in let e = is_unit.end in let some = f.some in omega arith) in
    let high : unit.end ≤ a.looked = (let e = is_unit.end in let high = f.high in omega arith) in
    let Readable : Option _ → Type 0 = λ first. IfSome first IsReadable in
    record {
      unit = this;
      opened = unit_alone this ∷ [];
      hand = au ∷ [];
      reads = record {
        size = r.size;
        from = r.from;
        looked = r.looked;
        bytes = r.bytes;
        ended_is = r.ended_is;
        finder = r.finder;
        each = told_more text told place unit.content r.each tells;
        known = looked_more a text ended told this broken place is refl r.known;
        found_within = All-nil (λ (p : ℕ × ℕ). (a.from ≤ p.0) × (p.0 < p.1) × (p.1 ≤ a.looked));
        pending = λ found. f.whole;
        from_start = start_more this told a.from r.from_start;
        opened_only = λ some. refl;
        sets = sets_more known text told place unit.content sets;
        units = units_more this told broken (unit_alone this ∷ au ∷ front) f.whole
            (grouped-begun this told au front newest (begins text au this kept.2 is_unit) ∙ ap (λ (us : List AccessUnit). unit_alone this ∷ us) newest);
        in_hand = (au, refl, kept.2, kept.3);
        is_opened = (unit_alone this, refl, grown, subst Readable (sym grown.first) (with_unit-readable (empty_at place.0) this tt readable));
        some_hand = λ e. absurd (cc);
        hand_within = if_some a.hand before From was r.hand_within;
        opened_within = (
          omega (arith, offset, begun, first),
          omega (arith, offset, f.some, f.high),
          within_same held.offset held.offset a.looked _ held.slices.items refl alone.places
              (alone_within held.offset a.looked unit.content (unit.start, unit.end) low some high),
        );
      };
    }

-- the acceptor by its fields

as_fields : (a b : Acceptor) (hand opened : Option InHand) (text : List ℕ) (ended : Bool) (told : List Told) (broken : Option ℕ) (front : List AccessUnit)
    → b.hand ≡ hand → b.opened ≡ opened → b ≡ record a { known = b.known; hand = b.hand; opened = b.opened }
    → ReadsOn (record a { found = None; known = b.known; hand = hand; opened = opened }) text ended told broken front
    → ReadsOn (record b { found = None }) text ended told broken front
as_fields a b hand opened text ended told broken front hand_is opened_is rest reads =
    let Hand : Option InHand → Type 0 = λ h. ReadsOn (record a { found = None; known = b.known; hand = h; opened = opened }) text ended told broken front in
    let Opened : Option InHand → Type 0 = λ o. ReadsOn (record a { found = None; known = b.known; hand = b.hand; opened = o }) text ended told broken front in
    let Whole : Acceptor → Type 0 = λ x. ReadsOn (record x { found = None }) text ended told broken front in
    subst Whole (sym rest) (subst Opened (sym opened_is) (subst Hand (sym hand_is) reads))

-- the cases of an access unit that is opened, by that in hand
opened_by : (h : Option InHand) (a b : Acceptor) (unit : NalUnit) (text : List ℕ) (ended : Bool) (told : List Told) (broken : Option ℕ)
    (hand front : List AccessUnit) (place : ℕ × ℕ) → a.hand ≡ h → a.found ≡ Some place → Reads a text ended told broken [] hand front
    → IsOf unit text (told_at text place unit.content) → Tells (sets_behind told) (slice_range text place.0 place.1) unit.content → IsReadableContent unit.content
    → IsKnownTo b.known (with_content unit.content (sets_behind told)) → Begins a.hand unit → Opens a b unit
    → b ≡ record a { known = b.known; hand = b.hand; opened = b.opened } → ReadsOn (record b { found = None }) text ended told broken front
opened_by None a b unit text ended told broken hand front place was is r is_unit tells readable sets begins opens rest =
    let Hand : Option InHand → Type 0 = λ x. b.hand ≡ option_or x (Some opens.held) in
    let Opened : Option InHand → Type 0 = λ x. b.opened ≡ cond (is_some x) (Some opens.held) a.opened in
    as_fields a b (Some opens.held) a.opened text ended told broken front (subst Hand was opens.hand) (subst Opened was opens.opened) rest
    (first_in_hand a b.known opens.held unit text ended told broken hand front place is was r is_unit tells readable sets opens.alone)
opened_by (Some before) a b unit text ended told broken hand front place was is r is_unit tells readable sets begins opens rest =
    let Hand : Option InHand → Type 0 = λ x. b.hand ≡ option_or x (Some opens.held) in
    let Opened : Option InHand → Type 0 = λ x. b.opened ≡ cond (is_some x) (Some opens.held) a.opened in
    let Begun : Option InHand → Type 0 = λ x. Begins x unit in
    as_fields a b (Some before) (Some opens.held) text ended told broken front (subst Hand was opens.hand) (subst Opened was opens.opened) rest
    (next_opened a b.known before opens.held unit text ended told broken hand front place is was r is_unit tells readable sets opens.alone (subst Begun was begins))

-- A unit that is found is taken in.
pub reads_on : (a b : Acceptor) (unit : NalUnit) (text : List ℕ) (ended : Bool) (told : List Told) (broken : Option ℕ) (hand front : List AccessUnit) (place : ℕ × ℕ)
    → a.found ≡ Some place → Reads a text ended told broken [] hand front
    → IsOf unit text (told_at text place unit.content) → Tells (sets_behind told) (slice_range text place.0 place.1) unit.content → IsReadableContent unit.content
    → IsKnownTo b.known (with_content unit.content (sets_behind told)) → GoesOn a b unit ⊎ (Begins a.hand unit × Opens a b unit)
    → b ≡ record a { known = b.known; hand = b.hand; opened = b.opened } → ReadsOn (record b { found = None }) text ended told broken front
reads_on a b unit text ended told broken hand front place is r is_unit tells readable sets (inl g) rest =
    as_fields a b (Some g.after) a.opened text ended told broken front g.hand g.opened rest
    (more_in_hand a b.known g.before g.after unit text ended told broken hand front place is g.was r is_unit tells readable sets g.more g.same)
reads_on a b unit text ended told broken hand front place is r is_unit tells readable sets (inr o) rest =
    opened_by a.hand a b unit text ended told broken hand front place refl is r is_unit tells readable sets o.0 o.1 rest
