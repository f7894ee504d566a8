-- What the units of a text come to, one unit after the other, and how their places lie.
use Rattle.std.proofs.Common.{◌≡◌, ℕ, ◌-◌, ◌<◌, ◌≤◌, ◌⊎◌, inl, inr, Bool, true, false, cond, List, [], ◌∷◌, ◌++◌, length, Option, Some, None, refl, sym, ap, subst, ◌∙◌, arith}
use Rattle.std.specs.Prelude.{filter, map, take, drop, slice_range, All, IfSome, replicate}
use Rattle.std.specs.List.{AllByRecursion}
use Rattle.std.specs.Option.{option_or}
use Rattle.std.proofs.lemmas.Bool.{cases_lt, cond-true, cond-false}
use Rattle.std.proofs.lemmas.List.{append-nil, drop-append-le, reverse-append, take-append-le, length-drop}
use Rattle.std.proofs.lemmas.List.Elements.{All-from_recursion, recursion_from_All}
use Rattle.nal_units.specs.Settled.{Settles}
use Rattle.nal_units.specs.Units.{Part, IsPart, Units, end_of, place, places}
use Rattle.nal_units.proofs.Streams.{length-stream}
use Rattle.access_units.specs.AccessUnits.{AccessUnit, added_to, begins_another, empty_at, grouped, has_slice, refusal_of, unit_alone, with_slice, with_unit}
use Rattle.access_units.specs.Contents.{AreTold, Told, places_of}
use Rattle.access_units.specs.Hands.{Holds}
use Rattle.access_units.specs.Readable.{IsReadable, IsReadableContent}
use Rattle.access_units.specs.declared.content.Content.{Content}
use Rattle.access_units.specs.declared.content.Content.TheVariants.{Other, PictureSet, Refused, SequenceSet, Slice, TooLarge}
use Rattle.access_units.specs.declared.content.Named.{Named}
use Rattle.access_units.specs.declared.hand.InHand.{InHand}

-- ---- the access units, with one unit more

pub grouped-nil : grouped [] ≡ []
unfolding grouped
grouped-nil = refl

pub grouped-cons : (unit : Told) (told : List Told) → grouped (unit ∷ told) ≡ added_to (grouped told) unit
unfolding grouped
grouped-cons unit told = refl

pub grouped-first : (unit : Told) → grouped (unit ∷ []) ≡ unit_alone unit ∷ []
unfolding grouped
grouped-first unit = refl

-- the unit begins another access unit
pub grouped-begun : (unit : Told) (told : List Told) (au : AccessUnit) (earlier : List AccessUnit)
    → grouped told ≡ au ∷ earlier → begins_another au unit ≡ true → grouped (unit ∷ told) ≡ unit_alone unit ∷ grouped told
grouped-begun unit told au earlier is begins =
    grouped-cons unit told ∙ ap (λ units. added_to units unit) is ∙ cond-true _ _ _ begins ∙ ap (λ units. unit_alone unit ∷ units) (sym is)

-- the unit belongs to the newest access unit
pub grouped-more : (unit : Told) (told : List Told) (au : AccessUnit) (earlier : List AccessUnit)
    → grouped told ≡ au ∷ earlier → begins_another au unit ≡ false → grouped (unit ∷ told) ≡ with_unit au unit ∷ earlier
grouped-more unit told au earlier is goes_on =
    grouped-cons unit told ∙ ap (λ units. added_to units unit) is ∙ cond-false _ _ _ goes_on

some_chosen : (b : Bool) (x y : AccessUnit) (xs ys : List AccessUnit) → cond b (x ∷ xs) (y ∷ ys) ≡ [] → ⊥
some_chosen true x y xs ys e = cc
some_chosen false x y xs ys e = cc

some_added : (units : List AccessUnit) (unit : Told) → added_to units unit ≡ [] → ⊥
some_added [] unit e = cc
some_added (au ∷ earlier) unit e = some_chosen (begins_another au unit) (unit_alone unit) (with_unit au unit) (au ∷ earlier) earlier e

-- where there are units there is an access unit
pub grouped_some : (unit : Told) (told : List Told) → grouped (unit ∷ told) ≡ [] → ⊥
grouped_some unit told e = some_added (grouped told) unit (sym (grouped-cons unit told) ∙ e)

pub grouped_none : (told : List Told) → grouped told ≡ [] → told ≡ []
grouped_none [] e = refl
grouped_none (unit ∷ told) e = absurd (grouped_some unit told e)

-- ---- an access unit, with one unit more

with_slice-offset : (au : AccessUnit) (bytes : List ℕ) (content : Content) → (with_slice au bytes content).offset ≡ au.offset
with_slice-offset au bytes (Slice named) = refl
with_slice-offset au bytes (SequenceSet sps) = refl
with_slice-offset au bytes (PictureSet pps) = refl
with_slice-offset au bytes Refused = refl
with_slice-offset au bytes TooLarge = refl
with_slice-offset au bytes Other = refl

pub with_unit-offset : (au : AccessUnit) (unit : Told) → (with_unit au unit).offset ≡ au.offset
with_unit-offset au unit = with_slice-offset (record au { refused = option_or au.refused (refusal_of unit) }) unit.bytes unit.content

pub unit_alone-offset : (unit : Told) → (unit_alone unit).offset ≡ unit.place.0
unit_alone-offset unit = with_unit-offset (empty_at unit.place.0) unit

readable_choice : (b : Bool) (x y : Option Named) → IfSome x IsReadable → IfSome y IsReadable → IfSome (cond b x y) IsReadable
readable_choice true x y hx hy = hx
readable_choice false x y hx hy = hy

with_slice-readable : (au : AccessUnit) (bytes : List ℕ) (content : Content) → IfSome au.first IsReadable → IsReadableContent content → IfSome (with_slice au bytes content).first IsReadable
with_slice-readable au bytes (Slice named) before this = readable_choice (has_slice au) au.first named before this
with_slice-readable au bytes (SequenceSet sps) before this = before
with_slice-readable au bytes (PictureSet pps) before this = before
with_slice-readable au bytes Refused before this = before
with_slice-readable au bytes TooLarge before this = before
with_slice-readable au bytes Other before this = before

-- its first header is one that reading can give
pub with_unit-readable : (au : AccessUnit) (unit : Told) → IfSome au.first IsReadable → IsReadableContent unit.content → IfSome (with_unit au unit).first IsReadable
with_unit-readable au unit before this = with_slice-readable (record au { refused = option_or au.refused (refusal_of unit) }) unit.bytes unit.content before this

-- ---- the same places in a longer text

range_more : (text more : List ℕ) (a b : ℕ) → b ≤ length text → (a < b) ⊎ (b ≤ a) → slice_range (text ++ more) a b ≡ slice_range text a b
range_more text more a b within (inl some) =
    let cut = length-drop a text in
    ap (λ xs. take (b - a) xs) (drop-append-le a text more (omega arith)) ∙ take-append-le (b - a) (drop a text) more (omega arith)
range_more text more a b within (inr none) =
    let zero_long : b - a ≡ 0 = omega arith in
    ap (λ n. take n (drop a (text ++ more))) zero_long ∙ sym (ap (λ n. take n (drop a text)) zero_long)

pub slice_range-append : (text more : List ℕ) (a b : ℕ) → b ≤ length text → slice_range (text ++ more) a b ≡ slice_range text a b
slice_range-append text more a b within = range_more text more a b within (cases_lt a b)

-- the units' places end within a length
abbrev pub AreUnitsWithin : ℕ → List Told → Type 0
AreUnitsWithin to told = AllByRecursion (λ (unit : Told). unit.place.1 ≤ to) told

pub told-append : (text more : List ℕ) (told : List Told) → AreUnitsWithin (length text) told → AreTold text told → AreTold (text ++ more) told
unfolding AreTold
told-append text more [] within each = tt
told-append text more (unit ∷ earlier) within each =
    (told-append text more earlier within.1 each.0, each.1 ∙ sym (slice_range-append text more unit.place.0 unit.place.1 within.0), each.2)

slices-append : (text more : List ℕ) (places : List (ℕ × ℕ)) → AllByRecursion (λ (place : ℕ × ℕ). place.1 ≤ length text) places
    → map (λ (place : ℕ × ℕ). slice_range (text ++ more) place.0 place.1) places ≡ map (λ (place : ℕ × ℕ). slice_range text place.0 place.1) places
slices-append text more [] within = refl
slices-append text more (place ∷ places) within =
    let here = slice_range-append text more place.0 place.1 within.0 in
    let rest = slices-append text more places within.1 in
    cc

pub holds-append : (hand : InHand) (text more : List ℕ) (au : AccessUnit) → All (λ (place : ℕ × ℕ). place.1 ≤ length text) hand.slices.items
    → Holds hand text au → Holds hand (text ++ more) au
holds-append hand text more au within holds = record {
  offset = holds.offset;
  refused = holds.refused;
  slices = slices-append text more hand.slices.items (recursion_from_All (λ (place : ℕ × ℕ). place.1 ≤ length text) hand.slices.items within) ∙ holds.slices;
  first = holds.first;
  last = holds.last;
}

-- ---- the units of a text are in order

-- The places lie one behind the other from a place up to another.
abbrev pub AreInOrder : ℕ → ℕ → List (ℕ × ℕ) → Type 0
AreInOrder from to [] = from ≤ to
AreInOrder from to (place ∷ places) = (from ≤ place.0) × (place.0 < place.1) × AreInOrder place.1 to places

in_order-from : (from from' to : ℕ) (ps : List (ℕ × ℕ)) → from' ≤ from → AreInOrder from to ps → AreInOrder from' to ps
in_order-from from from' to [] below order = omega arith
in_order-from from from' to (p ∷ ps) below order = (omega (arith, order.0), order.1, order.2)

pub in_order-to : (from to to' : ℕ) (ps : List (ℕ × ℕ)) → to ≤ to' → AreInOrder from to ps → AreInOrder from to' ps
in_order-to from to to' [] above order = omega arith
in_order-to from to to' (p ∷ ps) above order = (order.0, order.1, in_order-to p.1 to to' ps above order.2)

in_order-places : (from : ℕ) (parts : List Part) → AllByRecursion IsPart parts → AreInOrder from (end_of from parts) (places from parts)
in_order-places from [] each = omega arith
in_order-places from (part ∷ parts) each =
    let some = each.0.unit.some in
    (omega arith, omega arith, in_order-places (place from part).1 parts each.1)

filter_choice : (b : Bool) (from to : ℕ) (p : ℕ × ℕ) (ps : List (ℕ × ℕ)) → from ≤ p.0 → p.0 < p.1 → AreInOrder p.1 to ps → AreInOrder from to (cond b (p ∷ ps) ps)
filter_choice true from to p ps low some order = (low, some, order)
filter_choice false from to p ps low some order = in_order-from p.1 from to ps (omega arith) order

in_order-filter : (test : ℕ × ℕ → Bool) (from to : ℕ) (ps : List (ℕ × ℕ)) → AreInOrder from to ps → AreInOrder from to (filter test ps)
in_order-filter test from to [] order = order
in_order-filter test from to (p ∷ ps) order = filter_choice (test p) from to p (filter test ps) order.0 order.1 (in_order-filter test p.1 to ps order.2)

pub in_order_units : (text : List ℕ) (ps : List (ℕ × ℕ)) (broken : Option ℕ) → Units text ps broken → AreInOrder 0 (length text) ps
in_order_units text ps broken units =
    let len = length-stream units.parts (replicate units.run 0 ++ units.tail) 0 in
    let same = ap length units.spelled in
    let order = in_order-to 0 (end_of 0 units.parts) (length text) (places 0 units.parts) (omega arith) (in_order-places 0 units.parts units.each) in
    let P : List (ℕ × ℕ) → Type 0 = λ xs. AreInOrder 0 (length text) xs in
    subst P (sym units.placed) order

pub in_order_settled : (text : List ℕ) (ps : List (ℕ × ℕ)) (broken : Option ℕ) → Settles text ps broken → AreInOrder 0 (length text) ps
in_order_settled text ps None settles =
    let P : List (ℕ × ℕ) → Type 0 = λ xs. AreInOrder 0 (length text) xs in
    subst P (sym settles.1.3) (in_order-filter _ 0 (length text) settles.1.0 (in_order_units text settles.1.0 settles.1.1 settles.1.2))
in_order_settled text ps (Some at) settles =
    let P : List ℕ → Type 0 = λ xs. AreInOrder 0 (length xs) ps in
    subst P (append-nil text) (in_order_units (text ++ []) ps (Some at) (settles []))

-- what stands before the last place of an order, and that place itself
pub in_order-last : (from to : ℕ) (ps : List (ℕ × ℕ)) (p : ℕ × ℕ) → AreInOrder from to (ps ++ p ∷ []) → AreInOrder from p.0 ps × (p.0 < p.1) × (p.1 ≤ to)
in_order-last from to [] p order = (order.0, order.1, order.2)
in_order-last from to (q ∷ ps) p order =
    let rest = in_order-last q.1 to ps p order.2 in ((order.0, order.1, rest.0), rest.1, rest.2)

in_order-above : (from to : ℕ) (ps : List (ℕ × ℕ)) → AreInOrder from to ps → from ≤ to
in_order-above from to [] order = order
in_order-above from to (p ∷ ps) order = let rest = in_order-above p.1 to ps order.2 in omega (arith, order.0, order.1)

each_in_order : (from to : ℕ) (ps : List (ℕ × ℕ)) → AreInOrder from to ps → AllByRecursion (λ (p : ℕ × ℕ). (from ≤ p.0) × (p.0 < p.1) × (p.1 ≤ to)) ps
each_in_order from to [] order = tt
each_in_order from to (p ∷ ps) order =
    let above = in_order-above p.1 to ps order.2 in
    ((order.0, order.1, above), each_in_order from to ps (in_order-from p.1 from to ps (omega (arith, order.0, order.1)) order.2))

-- Each place of an order lies within its bounds.
pub in_order_within : (from to : ℕ) (ps : List (ℕ × ℕ)) → AreInOrder from to ps → All (λ (p : ℕ × ℕ). (from ≤ p.0) × (p.0 < p.1) × (p.1 ≤ to)) ps
in_order_within from to ps order = All-from_recursion (λ (p : ℕ × ℕ). (from ≤ p.0) × (p.0 < p.1) × (p.1 ≤ to)) ps (each_in_order from to ps order)

-- ---- and so are units, of which the newest is the first

-- The units lie one before the other, all before a place.
abbrev pub AreBefore : ℕ → List Told → Type 0
AreBefore to [] = Unit {0}
AreBefore to (unit ∷ earlier) = (unit.place.0 < unit.place.1) × (unit.place.1 ≤ to) × AreBefore unit.place.0 earlier

pub places_of-cons : (unit : Told) (told : List Told) → places_of (unit ∷ told) ≡ places_of told ++ unit.place ∷ []
places_of-cons unit told = reverse-append (unit.place ∷ []) (map (λ (u : Told). u.place) told)

pub before_from_order : (from to : ℕ) (told : List Told) → AreInOrder from to (places_of told) → AreBefore to told
before_from_order from to [] order = tt
before_from_order from to (unit ∷ earlier) order =
    let P : List (ℕ × ℕ) → Type 0 = λ xs. AreInOrder from to xs in
    let last = in_order-last from to (places_of earlier) unit.place (subst P (places_of-cons unit earlier) order) in
    (last.1, last.2, before_from_order from unit.place.0 earlier last.0)

before-within : (to to' : ℕ) (told : List Told) → to ≤ to' → AreBefore to told → AreUnitsWithin to' told
before-within to to' [] above before = tt
before-within to to' (unit ∷ earlier) above before =
    (omega (arith, before.1), before-within unit.place.0 to' earlier (omega (arith, before.0, before.1)) before.2)

pub before_within : (to : ℕ) (told : List Told) → AreBefore to told → AreUnitsWithin to told
before_within to told before = before-within to to told (omega arith) before

-- The newest access unit, where there is one, begins before a place.
abbrev pub BeginsBefore : ℕ → List AccessUnit → Type 0
BeginsBefore to [] = Unit {0}
BeginsBefore to (au ∷ earlier) = au.offset < to

begins_choice : (b : Bool) (to : ℕ) (au : AccessUnit) (unit : Told) (earlier : List AccessUnit) → au.offset < to → unit.place.0 < to
    → BeginsBefore to (cond b (unit_alone unit ∷ au ∷ earlier) (with_unit au unit ∷ earlier))
begins_choice true to au unit earlier before here = let same = unit_alone-offset unit in omega arith
begins_choice false to au unit earlier before here = let same = with_unit-offset au unit in omega arith

begins_added : (to : ℕ) (units : List AccessUnit) (unit : Told) → BeginsBefore to units → unit.place.0 < to → BeginsBefore to (added_to units unit)
begins_added to [] unit before here = let same = unit_alone-offset unit in omega arith
begins_added to (au ∷ earlier) unit before here = begins_choice (begins_another au unit) to au unit earlier before here

begins-before : (to to' : ℕ) (told : List Told) → to ≤ to' → AreBefore to told → BeginsBefore to' (grouped told)
unfolding grouped
begins-before to to' [] above before = tt
begins-before to to' (unit ∷ earlier) above before =
    begins_added to' (grouped earlier) unit (begins-before unit.place.0 to' earlier (omega (arith, before.0, before.1)) before.2) (omega (arith, before.0, before.1))

-- The newest access unit of units that lie before a place begins before it.
pub begins_before : (to : ℕ) (told : List Told) (au : AccessUnit) (earlier : List AccessUnit) → grouped told ≡ au ∷ earlier → AreBefore to told → au.offset < to
begins_before to told au earlier is before =
    let P : List AccessUnit → Type 0 = λ units. BeginsBefore to units in subst P is (begins-before to to told (omega arith) before)
