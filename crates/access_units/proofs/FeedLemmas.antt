-- What an acceptor's fields say where bytes come, and where bytes are forgotten.
use Rattle.std.proofs.Common.{◌≡◌, ◌≢◌, ℕ, ◌+◌, ◌-◌, ◌≤◌, ◌<◌, inl, inr, Bool, true, false, cond, List, [], ◌∷◌, ◌++◌, length, Option, Some, None, refl, sym, subst, ap, ◌∙◌, arith, append_assoc, length-append}
use Rattle.std.specs.Prelude.{All, IfSome, take, drop, Vec}
use Rattle.std.specs.declared.alloc.Global.{Global}
use Rattle.std.specs.List.{AllByRecursion}
use Rattle.std.proofs.Math.Seq.{get_or-append_seam}
use Rattle.std.proofs.lemmas.List.Elements.{All-from_recursion}
use Rattle.std.proofs.lemmas.List.{append-nil, drop-append-le, drop-drop, take-append-le}
use Rattle.nal_units.specs.Finder as finder
use Rattle.nal_units.specs.Settled.{Settles}
use Rattle.nal_units.specs.Units.{Units}
use Rattle.access_units.specs.AccessUnits.{AccessUnit, access_units, added_to, begins_another, broken_off, grouped, unit_alone, with_unit}
use Rattle.access_units.specs.Acceptors.{IsAtAnEnd}
use Rattle.access_units.specs.Contents.{Told, WhereElse, places_of}
use Rattle.access_units.specs.Standing.{AreWithin, IsBehindStart, IsLookedAt, Keeps, Reads, Within, found_in}
use Rattle.access_units.specs.declared.acceptor.Acceptor.{Acceptor}
use Rattle.access_units.specs.declared.hand.InHand.{InHand}
use Rattle.access_units.proofs.StandLemmas.{none_within}
use Rattle.access_units.proofs.StartLemmas.{start_more}
use Rattle.access_units.proofs.UnitFound.{finds, looked_order}
use Rattle.access_units.proofs.UnitLemmas.{AreInOrder, AreUnitsWithin, in_order-to, before_from_order, before_within, begins_before, grouped-cons, grouped-nil, holds-append, in_order-last, places_of-cons, told-append, unit_alone-offset, with_unit-offset}

-- ---- access units begin where units do

abbrev StartIn : List Told → AccessUnit → Type 0
StartIn told au = IsBehindStart (places_of told) au.offset

lift : (unit : Told) (told : List Told) (units : List AccessUnit) → AllByRecursion (StartIn told) units → AllByRecursion (StartIn (unit ∷ told)) units
lift unit told [] all = tt
lift unit told (au ∷ units) all = (start_more unit told au.offset all.0, lift unit told units all.1)

own_start : (unit : Told) (told : List Told) → IsBehindStart (places_of (unit ∷ told)) unit.place.0
own_start unit told =
    subst (λ (places : List (ℕ × ℕ)). IsBehindStart places unit.place.0) (sym (places_of-cons unit told))
    (inr (
      length (places_of told),
      omega (arith, length-append (places_of told) (unit.place ∷ [])),
      subst (λ (p : ℕ × ℕ). unit.place.0 ≤ p.0) (sym (get_or-append_seam (places_of told) unit.place [] (0, 0))) (omega arith),
    ))

alone_start : (unit : Told) (told : List Told) → StartIn (unit ∷ told) (unit_alone unit)
alone_start unit told = subst (λ (n : ℕ). IsBehindStart (places_of (unit ∷ told)) n) (sym (unit_alone-offset unit)) (own_start unit told)

chosen : (P : AccessUnit → Type 0) (b : Bool) (alone au more : AccessUnit) (earlier : List AccessUnit) → P alone → P more → AllByRecursion P (au ∷ earlier)
    → AllByRecursion P (cond b (alone ∷ au ∷ earlier) (more ∷ earlier))
chosen P true alone au more earlier a m all = (a, all)
chosen P false alone au more earlier a m all = (m, all.1)

added_start : (unit : Told) (told : List Told) (units : List AccessUnit) → AllByRecursion (StartIn told) units → AllByRecursion (StartIn (unit ∷ told)) (added_to units unit)
added_start unit told [] all = (alone_start unit told, tt)
added_start unit told (au ∷ earlier) all =
    let up = lift unit told (au ∷ earlier) all in
    chosen (StartIn (unit ∷ told)) (begins_another au unit) (unit_alone unit) au (with_unit au unit) earlier
    (alone_start unit told)
    (subst (λ (n : ℕ). IsBehindStart (places_of (unit ∷ told)) n) (sym (with_unit-offset au unit)) up.0)
    up

grouped_start : (told : List Told) → AllByRecursion (StartIn told) (grouped told)
grouped_start [] = subst (λ (units : List AccessUnit). AllByRecursion (StartIn []) units) (sym grouped-nil) tt
grouped_start (unit ∷ told) = subst (λ (units : List AccessUnit). AllByRecursion (StartIn (unit ∷ told)) units) (sym (grouped-cons unit told)) (added_start unit told (grouped told) (grouped_start told))

broken_start : (told : List Told) (units : List AccessUnit) → AllByRecursion (StartIn told) units → AllByRecursion (StartIn told) (broken_off units)
broken_start told [] all = (inl refl, tt)
broken_start told (au ∷ units) all = all

units_start : (told : List Told) (broken : Option ℕ) → AllByRecursion (StartIn told) (access_units told broken)
units_start told None = grouped_start told
units_start told (Some at) = broken_start told (grouped told) (grouped_start told)

one_of : (P : AccessUnit → Type 0) (first : List AccessUnit) (au : AccessUnit) (last : List AccessUnit) → AllByRecursion P (first ++ au ∷ last) → P au
one_of P [] au last all = all.0
one_of P (other ∷ first) au last all = one_of P first au last all.1

-- ---- what was known stays known where bytes come

-- the units of the text lie in it
pub told_within : (a : Acceptor) (text : List ℕ) (ended : Bool) (told : List Told) (broken : Option ℕ) (found : Option (ℕ × ℕ)) → IsLookedAt a text ended (places_of told ++ found_in found) broken → AreUnitsWithin (length text) told
told_within a text ended told broken None known =
    before_within (length text) told (before_from_order 0 (length text) told
    (subst (λ (places : List (ℕ × ℕ)). AreInOrder 0 (length text) places) (append-nil (places_of told)) (looked_order a.is_over text a.looked ended (places_of told ++ []) broken known)))
told_within a text ended told broken (Some place) known =
    before_within (length text) told (before_from_order 0 (length text) told
    (let last = in_order-last 0 (length text) (places_of told) place (looked_order a.is_over text a.looked ended (places_of told ++ place ∷ []) broken known) in
    in_order-to 0 place.0 (length text) (places_of told) (omega (arith, last.1, last.2)) last.0))

known_more : (over : Bool) (text more : List ℕ) (looked : ℕ) (places : List (ℕ × ℕ)) (broken : Option ℕ) → looked ≤ length text
    → WhereElse over (IsAtAnEnd text false places broken) ((broken ≡ None) × Settles (take looked text) places None)
    → WhereElse over (IsAtAnEnd (text ++ more) false places broken) ((broken ≡ None) × Settles (take looked (text ++ more)) places None)
known_more true text more looked places broken le (inl whole) = absurd (let e : false ≡ true = whole.0 in let no : ⊥ = cc in no)
known_more true text more looked places broken le (inr all) =
    inr (all.0, λ rest. subst (λ (t : List ℕ). Units t places broken) (sym (append_assoc text more rest)) (all.1 (more ++ rest)))
known_more false text more looked places broken le settled =
    (settled.0, subst (λ (t : List ℕ). Settles t places None) (sym (take-append-le looked text more le)) settled.1)

within_text : (hand : InHand) (to : ℕ) (text : List ℕ) → AreWithin hand.offset to hand.slices.items → to ≤ length text → All (λ (place : ℕ × ℕ). place.1 ≤ length text) hand.slices.items
within_text hand to text within le = λ k d lt. let p = within k d lt in omega (arith, p.2, le)

keeps_more : (held : Option InHand) (text more : List ℕ) (from to : ℕ) (units : List AccessUnit) → IfSome held (λ (h : InHand). AreWithin h.offset to h.slices.items) → to ≤ length text → Keeps held text units → Keeps held (text ++ more) units
keeps_more None text more from to units within le keeps = keeps
keeps_more (Some h) text more from to units within le keeps =
    (keeps.0, keeps.1, holds-append h text more keeps.0 (within_text h to text within le) keeps.2, keeps.3)

slices_of : (hand : Option InHand) (from to : ℕ) → Within hand from to → IfSome hand (λ (h : InHand). AreWithin h.offset to h.slices.items)
slices_of None from to within = tt
slices_of (Some h) from to within = within.2

opened_slices : (opened hand : Option InHand) (to : ℕ) → IfSome opened (λ (h : InHand). IfSome hand (λ (first : InHand). first.offset ≤ h.offset) × (h.offset ≤ to) × AreWithin h.offset to h.slices.items) → IfSome opened (λ (h : InHand). AreWithin h.offset to h.slices.items)
opened_slices None hand to within = tt
opened_slices (Some h) hand to within = within.2

-- bytes come
pub reads_fed : (a : Acceptor) (bytes : Vec ℕ Global) (text more : List ℕ) (told : List Told) (broken : Option ℕ) (opened hand front : List AccessUnit)
    → Reads a text false told broken opened hand front → bytes.items ≡ a.bytes.items ++ more → length (text ++ more) ≤ 1073741824
    → Reads (record a { bytes = bytes }) (text ++ more) false told broken opened hand front
reads_fed a bytes text more told broken opened hand front r is size =
    record {
      size = size;
      from = r.from;
      looked = omega (arith, r.looked, length-append text more);
      bytes = is ∙ (ap (λ (list : List ℕ). list ++ more) r.bytes ∙ sym (drop-append-le a.from text more (omega (arith, r.from, r.looked))));
      ended_is = r.ended_is;
      finder = λ on. subst (λ (t : List ℕ). finder.StandsFor a.finder t) (sym (take-append-le a.looked text more r.looked)) (r.finder on);
      each = told-append text more told (told_within a text false told broken a.found r.known) r.each;
      known = known_more a.is_over text more a.looked (places_of told ++ found_in a.found) broken r.looked r.known;
      pending = r.pending;
      from_start = r.from_start;
      opened_only = r.opened_only;
      found_within = r.found_within;
      sets = r.sets;
      units = r.units;
      in_hand = keeps_more a.hand text more a.from a.looked hand (slices_of a.hand a.from a.looked r.hand_within) r.looked r.in_hand;
      is_opened = keeps_more a.opened text more a.from a.looked opened (opened_slices a.opened a.hand a.looked r.opened_within) r.looked r.is_opened;
      some_hand = r.some_hand;
      hand_within = r.hand_within;
      opened_within = r.opened_within;
    }

known_ended : (over : Bool) (text : List ℕ) (looked : ℕ) (places : List (ℕ × ℕ)) (broken : Option ℕ)
    → WhereElse over (IsAtAnEnd text false places broken) ((broken ≡ None) × Settles (take looked text) places None)
    → WhereElse over (IsAtAnEnd text true places broken) ((broken ≡ None) × Settles (take looked text) places None)
known_ended true text looked places broken (inl whole) = absurd (let e : false ≡ true = whole.0 in let no : ⊥ = cc in no)
known_ended true text looked places broken (inr all) = inr all
known_ended false text looked places broken settled = settled

-- the end comes
pub reads_ended : (a : Acceptor) (text : List ℕ) (told : List Told) (broken : Option ℕ) (opened hand front : List AccessUnit)
    → Reads a text false told broken opened hand front → Reads (record a { ended = true }) text true told broken opened hand front
reads_ended a text told broken opened hand front r =
    record {
      size = r.size;
      from = r.from;
      looked = r.looked;
      bytes = r.bytes;
      ended_is = refl;
      finder = r.finder;
      each = r.each;
      known = known_ended a.is_over text a.looked (places_of told ++ found_in a.found) broken r.known;
      pending = r.pending;
      from_start = r.from_start;
      opened_only = r.opened_only;
      found_within = r.found_within;
      sets = r.sets;
      units = r.units;
      in_hand = r.in_hand;
      is_opened = r.is_opened;
      some_hand = r.some_hand;
      hand_within = r.hand_within;
      opened_within = r.opened_within;
    }

-- ---- bytes are forgotten

none_opened_where_found : (a : Acceptor) (opened : List AccessUnit) (place : ℕ × ℕ) → (opened ≢ [] → a.found ≡ None) → a.found ≡ Some place → opened ≡ []
none_opened_where_found a [] place only is = refl
none_opened_where_found a (au ∷ opened) place only is = absurd (let e : a.found ≡ None = only (λ e. cc) in let n : Some place ≡ None = sym is ∙ e in let no : ⊥ = cc in no)

-- a unit that is found begins behind the access unit in hand
found_behind : (a : Acceptor) (held : InHand) (text : List ℕ) (ended : Bool) (told : List Told) (broken : Option ℕ) (opened hand front : List AccessUnit) (au : AccessUnit)
    → Reads a text ended told broken opened hand front → hand ≡ au ∷ [] → held.offset ≡ au.offset
    → (found : Option (ℕ × ℕ)) → a.found ≡ found → AreWithin held.offset a.looked (found_in found)
found_behind a held text ended told broken opened hand front au r is offset None found_is = none_within held.offset a.looked
found_behind a held text ended told broken opened hand front au r is offset (Some place) found_is =
    let none = none_opened_where_found a opened place r.opened_only found_is in
    let f = finds a text ended told broken hand front place found_is (subst (λ (list : List AccessUnit). Reads a text ended told broken list hand front) none r) in
    let units : grouped told ≡ au ∷ front = f.units ∙ ap (λ (list : List AccessUnit). list ++ front) is in
    let before = begins_before place.0 told au front units f.before in
    All-from_recursion (λ (p : ℕ × ℕ). (held.offset ≤ p.0) × (p.0 < p.1) × (p.1 ≤ a.looked)) (place ∷ []) ((omega (arith, before, offset), f.some, f.high), tt)

pub reads_forgot : (a : Acceptor) (bytes : Vec ℕ Global) (held : InHand) (text : List ℕ) (ended : Bool) (told : List Told) (broken : Option ℕ) (opened hand front : List AccessUnit)
    → Reads a text ended told broken opened hand front → a.hand ≡ Some held → bytes.items ≡ drop (held.offset - a.from) a.bytes.items
    → Reads (record a { bytes = bytes; from = held.offset }) text ended told broken opened hand front
reads_forgot a bytes held text ended told broken opened hand front r hand_is is =
    let keeps : Keeps (Some held) text hand = subst (λ (h : Option InHand). Keeps h text hand) hand_is r.in_hand in
    let within : Within (Some held) a.from a.looked = subst (λ (h : Option InHand). Within h a.from a.looked) hand_is r.hand_within in
    let au : AccessUnit = keeps.0 in
    let offset : held.offset ≡ au.offset = keeps.2.offset in
    let split : access_units told broken ≡ opened ++ (au ∷ front) = r.units ∙ ap (λ (list : List AccessUnit). opened ++ (list ++ front)) keeps.1 in
    let start : IsBehindStart (places_of told) au.offset = one_of (StartIn told) opened au front (subst (λ (units : List AccessUnit). AllByRecursion (StartIn told) units) split (units_start told broken)) in
    let there : a.from + (held.offset - a.from) ≡ held.offset = omega (arith, within.0) in
    record {
      size = r.size;
      from = within.1;
      looked = r.looked;
      bytes = is ∙ (ap (λ (list : List ℕ). drop (held.offset - a.from) list) r.bytes ∙ (drop-drop (held.offset - a.from) a.from text ∙ ap (λ (n : ℕ). drop n text) there));
      ended_is = r.ended_is;
      finder = r.finder;
      each = r.each;
      known = r.known;
      pending = r.pending;
      from_start = subst (λ (n : ℕ). IsBehindStart (places_of told) n) (sym offset) start;
      opened_only = r.opened_only;
      found_within = found_behind a held text ended told broken opened hand front au r keeps.1 offset a.found refl;
      sets = r.sets;
      units = r.units;
      in_hand = r.in_hand;
      is_opened = r.is_opened;
      some_hand = λ empty. absurd (let e : au ∷ [] ≡ [] = sym keeps.1 ∙ empty in let no : ⊥ = cc in no);
      hand_within = subst (λ (h : Option InHand). Within h held.offset a.looked) (sym hand_is) (omega arith, within.1, within.2);
      opened_within = r.opened_within;
    }
