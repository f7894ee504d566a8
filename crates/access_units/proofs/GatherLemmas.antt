-- How units are gathered until the access unit in hand is settled.
use Rattle.std.proofs.Common.{◌≡◌, ◌≢◌, ℕ, ◌+◌, ◌-◌, ◌≤◌, ◌<◌, inl, inr, Bool, true, false, not, cond, List, [], ◌∷◌, ◌++◌, length, Option, Some, None, refl, sym, subst, ap, ◌∙◌, arith, length-drop}
use Rattle.std.specs.Option.{is_some}
use Rattle.std.specs.Prelude.{Ok, Result}
use Rattle.std.specs.Prelude.{map, drop, slice_range}
use Rattle.std.specs.List.{AllByRecursion}
use Rattle.std.proofs.lemmas.Bool.{and_parts}
use Rattle.std.proofs.lemmas.List.Elements.{All-head}
use Rattle.access_units.specs.AccessUnits.{AccessUnit, access_units, added_to, are_some, begins_another, begins_by, broken_off, grouped, has_slice, unit_alone, with_unit}
use Rattle.access_units.specs.Contents.{Told}
use Rattle.access_units.specs.Gathering.{HasTail, IsLookedThrough, IsThrough, ReadsFurther, Wants}
use Rattle.access_units.specs.Giving.{IsReady}
use Rattle.access_units.specs.Standing.{AreWithin, Keeps, KeepsRest, Reads, found_in, number_if, still_to_do}
use Rattle.access_units.specs.Taking.{IsReading, ReadsOn}
use Rattle.access_units.specs.declared.acceptor.Acceptor.{Acceptor}
use Rattle.access_units.specs.declared.hand.InHand.{InHand}
use Rattle.access_units.proofs.UnitFound.{keeps_first}
use Rattle.access_units.proofs.UnitLemmas.{grouped-cons, grouped-nil}

-- each reading of one acceptor goes on as one of another
abbrev pub GoesFurther : Acceptor → Acceptor → Type 0
GoesFurther old new = (text : List ℕ) (ended : Bool) (told : List Told) (broken : Option ℕ) (opened hand front : List AccessUnit) → Reads old text ended told broken opened hand front → ReadsFurther new text ended front

pub no_further : (a : Acceptor) → GoesFurther a a
no_further a text ended told broken opened hand front r = record { told = told; broken = broken; opened = opened; hand = hand; reads = r }

pub further_on : (a b c : Acceptor) → GoesFurther a b → GoesFurther b c → GoesFurther a c
further_on a b c first second text ended told broken opened hand front r =
    let mid = first text ended told broken opened hand front r in
    second text ended mid.told mid.broken mid.opened mid.hand front mid.reads

pub reading_on : (a b : Acceptor) → GoesFurther a b → IsReading a → IsReading b
reading_on a b further r =
    let mid = further r.text r.ended r.told r.broken r.opened r.hand r.front r.reads in
    record { text = r.text; ended = r.ended; told = mid.told; broken = mid.broken; opened = mid.opened; hand = mid.hand; front = r.front; reads = mid.reads }

pub rest_on : (a b c : Acceptor) → KeepsRest a b → KeepsRest b c → KeepsRest a c
rest_on a b c first second = record {
  alloc = second.alloc ∙ first.alloc;
  bytes = second.bytes ∙ first.bytes;
  from = second.from ∙ first.from;
  ended = second.ended ∙ first.ended;
  pictures = second.pictures ∙ first.pictures;
  last_offset = second.last_offset ∙ first.last_offset;
  has_failed = second.has_failed ∙ first.has_failed;
}

pub rest_same : (a : Acceptor) → KeepsRest a a
rest_same a = record { alloc = refl; bytes = refl; from = refl; ended = refl; pictures = refl; last_offset = refl; has_failed = refl }

-- what taking a unit in leaves as it is
abbrev Taken : Acceptor → Acceptor → Acceptor
Taken a b = record a { found = b.found; known = b.known; hand = b.hand; opened = b.opened }

pub rest_taken : (a b : Acceptor) → b ≡ Taken a b → KeepsRest a b
rest_taken a b is = record {
  alloc = ap (λ (x : Acceptor). x.alloc) is;
  bytes = ap (λ (x : Acceptor). x.bytes) is;
  from = ap (λ (x : Acceptor). x.from) is;
  ended = ap (λ (x : Acceptor). x.ended) is;
  pictures = ap (λ (x : Acceptor). x.pictures) is;
  last_offset = ap (λ (x : Acceptor). x.last_offset) is;
  has_failed = ap (λ (x : Acceptor). x.has_failed) is;
}

-- where a unit is taken in
pub taken_further : (a b : Acceptor) → a.opened ≡ None → a.found ≢ None
    → ((text : List ℕ) (ended : Bool) (told : List Told) (broken : Option ℕ) (hand front : List AccessUnit) → Reads a text ended told broken [] hand front → a.found ≢ None → ReadsOn b text ended told broken front)
    → GoesFurther a b
taken_further a b none some taken text ended told broken opened hand front r =
    let on = taken text ended told broken hand front (subst (λ (list : List AccessUnit). Reads a text ended told broken list hand front) (keeps_first a.opened text opened none r.is_opened) r) some in
    record { told = on.unit ∷ told; broken = broken; opened = on.opened; hand = on.hand; reads = on.reads }

some_counts : (found : Option (ℕ × ℕ)) → found ≢ None → number_if (is_some found) ≡ 1
some_counts None some = absurd (some refl)
some_counts (Some place) some = refl

pub taken_smaller : (a b : Acceptor) → a.found ≢ None → b ≡ Taken a b → b.found ≡ None → still_to_do b < still_to_do a
taken_smaller a b some is none =
    let over : b.is_over ≡ a.is_over = ap (λ (x : Acceptor). x.is_over) is in
    let looked : b.looked ≡ a.looked = ap (λ (x : Acceptor). x.looked) is in
    let from : b.from ≡ a.from = ap (λ (x : Acceptor). x.from) is in
    let size : length b.bytes.items ≡ length a.bytes.items = ap (λ (x : Acceptor). length x.bytes.items) is in
    let todo : still_to_do b ≡ (a.from + length a.bytes.items - a.looked) + (number_if (not a.is_over) + 0) =
    ap (λ (n : ℕ). n + (number_if (not b.is_over) + number_if (is_some b.found))) (ap (λ (n : ℕ). n + length b.bytes.items - b.looked) from ∙ (ap (λ (n : ℕ). a.from + n - b.looked) size ∙ ap (λ (n : ℕ). a.from + length a.bytes.items - n) looked))
    ∙ (ap (λ (o : Bool). (a.from + length a.bytes.items - a.looked) + (number_if (not o) + number_if (is_some b.found))) over
    ∙ ap (λ (f : Option (ℕ × ℕ)). (a.from + length a.bytes.items - a.looked) + (number_if (not a.is_over) + number_if (is_some f))) none) in
    let one = some_counts a.found some in
    omega (arith, todo, one)

-- ---- where no unit is to be taken in

some_opened : (held : Option InHand) (text : List ℕ) (units : List AccessUnit) → held ≢ None → Keeps held text units → units ≢ []
some_opened None text units some keeps e = some refl
some_opened (Some h) text units some keeps e = let no : keeps.0 ∷ [] ≡ [] = sym keeps.1 ∙ e in cc

pub opened_through : (a : Acceptor) → IsReading a → a.opened ≢ None → IsLookedThrough a
opened_through a r some = inl (some, r.reads.opened_only (some_opened a.opened r.text r.opened some r.reads.is_opened))

-- ---- an access unit that another one follows has a slice

some_slices : (slices : List (List ℕ)) → are_some slices ≡ true → slices ≢ []
some_slices [] some e = let no : false ≡ true = some in cc
some_slices (slice ∷ slices) some e = cc

abbrev HasSlices : AccessUnit → Type 0
HasSlices au = au.slices ≢ []

begun_slices : (au : AccessUnit) (unit : Told) → begins_another au unit ≡ true → HasSlices au
begun_slices au unit begins = some_slices au.slices (and_parts (has_slice au) (begins_by au unit.bytes unit.content) begins).0

chosen_slices : (b : Bool) (alone au more : AccessUnit) (earlier : List AccessUnit) → (b ≡ true → HasSlices au) → AllByRecursion HasSlices earlier
    → AllByRecursion HasSlices (drop 1 (cond b (alone ∷ au ∷ earlier) (more ∷ earlier)))
chosen_slices true alone au more earlier has all = (has refl, all)
chosen_slices false alone au more earlier has all = all

added_slices : (unit : Told) (units : List AccessUnit) → AllByRecursion HasSlices (drop 1 units) → AllByRecursion HasSlices (drop 1 (added_to units unit))
added_slices unit [] all = tt
added_slices unit (au ∷ earlier) all = chosen_slices (begins_another au unit) (unit_alone unit) au (with_unit au unit) earlier (begun_slices au unit) all

grouped_slices : (told : List Told) → AllByRecursion HasSlices (drop 1 (grouped told))
grouped_slices [] = subst (λ (units : List AccessUnit). AllByRecursion HasSlices (drop 1 units)) (sym grouped-nil) tt
grouped_slices (unit ∷ told) = subst (λ (units : List AccessUnit). AllByRecursion HasSlices (drop 1 units)) (sym (grouped-cons unit told)) (added_slices unit (grouped told) (grouped_slices told))

broken_slices : (units : List AccessUnit) → AllByRecursion HasSlices (drop 1 units) → AllByRecursion HasSlices (drop 1 (broken_off units))
broken_slices [] all = tt
broken_slices (au ∷ units) all = all

units_slices : (told : List Told) (broken : Option ℕ) → AllByRecursion HasSlices (drop 1 (access_units told broken))
units_slices told None = grouped_slices told
units_slices told (Some at) = broken_slices (grouped told) (grouped_slices told)

second_slices : (told : List Told) (broken : Option ℕ) (newest au : AccessUnit) (front : List AccessUnit) → access_units told broken ≡ newest ∷ au ∷ front → HasSlices au
second_slices told broken newest au front is = (subst (λ (units : List AccessUnit). AllByRecursion HasSlices (drop 1 units)) is (units_slices told broken)).0

-- ---- where it is ready

none_through : (a : Acceptor) → a.opened ≢ None → IsLookedThrough a → a.found ≡ None
none_through a some (inl opened) = opened.1
none_through a some (inr through) = absurd (some through.opened)

held_of : (held : Option InHand) (text : List ℕ) (opened : Option InHand) (told : List Told) (broken : Option ℕ) (newer hand front : List AccessUnit)
    → access_units told broken ≡ newer ++ (hand ++ front) → Keeps opened text newer → Keeps held text hand → opened ≢ None → (hand ≡ [] → newer ≡ [])
    → (h : InHand) × (held ≡ Some h) × (h.refused ≡ None → h.slices.items ≡ [] → ⊥)
held_of held text None told broken newer hand front units keeps_newer keeps some none = absurd (some refl)
held_of None text (Some newest) told broken newer hand front units keeps_newer keeps some none =
    absurd (let e : newer ≡ [] = none keeps in let no : keeps_newer.0 ∷ [] ≡ [] = sym keeps_newer.1 ∙ e in let fail : ⊥ = cc in fail)
held_of (Some h) text (Some newest) told broken newer hand front units keeps_newer keeps some none = (
  h,
  refl,
  λ refused empty.
      second_slices told broken keeps_newer.0 keeps.0 front
      (units ∙ (ap (λ (list : List AccessUnit). list ++ (hand ++ front)) keeps_newer.1 ∙ ap (λ (list : List AccessUnit). keeps_newer.0 ∷ (list ++ front)) keeps.1))
      (sym keeps.2.slices ∙ ap (λ (places : List (ℕ × ℕ)). map (λ (place : ℕ × ℕ). slice_range text place.0 place.1) places) empty),
)

pub ready_opened : (a : Acceptor) → IsReading a → IsLookedThrough a → a.opened ≢ None → IsReady a
ready_opened a r through some = record {
  found = none_through a some through;
  some = held_of a.hand r.text a.opened r.told r.broken r.opened r.hand r.front r.reads.units r.reads.is_opened r.reads.in_hand some (λ empty. (r.reads.some_hand empty).0);
  settled = inl some;
}

through_of : (a : Acceptor) → a.opened ≡ None → IsLookedThrough a → IsThrough a
through_of a none (inl opened) = absurd (opened.0 none)
through_of a none (inr through) = through

pub ready_last : (a : Acceptor) → IsLookedThrough a → a.opened ≡ None
    → (a.is_over ≡ true) × ((held : InHand) × (a.hand ≡ Some held) × (held.refused ≡ None → held.slices.items ≡ [] → ⊥)) → IsReady a
ready_last a through none last = record {
  found = (through_of a none through).found;
  some = last.1;
  settled = inr last.0;
}

pub wants_of : (a : Acceptor) → IsLookedThrough a → a.opened ≡ None → (a.is_over ≡ true → HasTail a.hand) → Wants a
wants_of a through none tail =
    let t = through_of a none through in
    record { found = t.found; opened = none; all = t.all; end = t.end; tail = tail }

-- where nothing was taken in
pub keeps_further : (a b : Acceptor)
    → ((text : List ℕ) (ended : Bool) (told : List Told) (broken : Option ℕ) (opened hand front : List AccessUnit) → Reads a text ended told broken opened hand front → Reads b text ended told broken opened hand front)
    → GoesFurther a b
keeps_further a b same text ended told broken opened hand front r = record { told = told; broken = broken; opened = opened; hand = hand; reads = same text ended told broken opened hand front r }

pub some_opened_test : (held : Option InHand) (test : Bool) → is_some held ≡ test → test ≡ true → held ≢ None
some_opened_test held test is holds none = let e : false ≡ true = ap is_some (sym none) ∙ (is ∙ holds) in cc

pub none_opened_test : (held : Option InHand) (test : Bool) → is_some held ≡ test → test ≡ false → held ≡ None
none_opened_test None test is fails = refl
none_opened_test (Some h) test is fails = absurd (let e : true ≡ false = is ∙ fails in let no : ⊥ = cc in no)

-- a unit that is found lies in what was fed
pub found_high : (a : Acceptor) (r : IsReading a) (place : ℕ × ℕ) → a.found ≡ Some place → place.1 ≤ a.from + length a.bytes.items
found_high a r place is =
    let within = All-head (λ (p : ℕ × ℕ). (a.from ≤ p.0) × (p.0 < p.1) × (p.1 ≤ a.looked)) place [] (subst (λ (f : Option (ℕ × ℕ)). AreWithin a.from a.looked (found_in f)) is r.reads.found_within) in
    let size : length a.bytes.items ≡ length r.text - a.from = ap length r.reads.bytes ∙ length-drop a.from r.text in
    omega (arith, within.2, size, r.reads.from, r.reads.looked)

pub none_opened : (a : Acceptor) (text : List ℕ) (ended : Bool) (told : List Told) (broken : Option ℕ) (opened hand front : List AccessUnit) → a.opened ≡ None → Reads a text ended told broken opened hand front → Reads a text ended told broken [] hand front
none_opened a text ended told broken opened hand front none r = subst (λ (list : List AccessUnit). Reads a text ended told broken list hand front) (keeps_first a.opened text opened none r.is_opened) r

pub ok_value : {E : Type 0} (a b : Bool) → ◌≡◌ {A = Result Bool E} (Ok a) (Ok b) → a ≡ b
ok_value a b e = cc

pub no_tail : (test : Bool) → not test ≡ true → test ≡ true → ⊥
no_tail true isnt is = let e : false ≡ true = isnt in cc
no_tail false isnt is = cc
