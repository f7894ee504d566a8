-- The access units that a text settles are the last of one list, the newest first.
use Rattle.std.proofs.Common.{◌≡◌, ℕ, ◌-◌, ◌≤◌, inl, inr, ◌⊎◌, Bool, true, false, cond, List, [], ◌∷◌, ◌++◌, length, take, drop, map, Option, refl, sym, ap, subst, ◌∙◌, append_assoc, arith}
use Rattle.std.specs.Prelude.{reverse}
use Rattle.std.specs.Option.{is_some}
use Rattle.std.proofs.Math.Seq.{take-append_seam}
use Rattle.std.proofs.lemmas.Grind.{reverse_onto}
use Rattle.std.proofs.lemmas.List.{append-nil, length-append, length-map, length-reverse, length-take-le, map-append, reverse-append, take-append-drop}
use Rattle.nal_units.specs.Units.{Units}
use Rattle.nal_units.proofs.Advancing.{text_has_units}
use Rattle.nal_units.proofs.Growing.{settled_first}
use Rattle.nal_units.proofs.Unique.{units_unique}
use Rattle.access_units.specs.AccessUnits.{AccessUnit, access_units, added_to, begins_another, broken_off, grouped, refused_at_end, unit_alone, with_unit}
use Rattle.access_units.specs.Acceptors.{AreAll, AreFirst, IsAtAnEnd, IsSettled}
use Rattle.access_units.specs.Contents.{AreTold, Told, places_of, sets_behind, Tells}
use Rattle.access_units.proofs.OneContent.{tells_one}

-- ---- the units at places tell one thing

told_of : (x y : Told) → x.place ≡ y.place → x.bytes ≡ y.bytes → x.content ≡ y.content → x ≡ y
told_of x y place bytes content = λ i. record { place = place i; bytes = bytes i; content = content i }

cons_of : {A : Type 0} (x y : A) (xs ys : List A) → x ≡ y → xs ≡ ys → x ∷ xs ≡ y ∷ ys
cons_of x y xs ys e f = ap (λ z. z ∷ xs) e ∙ ap (λ zs. y ∷ zs) f

spots_of : List Told → List (ℕ × ℕ)
spots_of told = map (λ (unit : Told). unit.place) told

told_one : (text : List ℕ) (a b : List Told) → spots_of a ≡ spots_of b → AreTold text a → AreTold text b → a ≡ b
unfolding spots_of AreTold
told_one text [] [] same is also = refl
told_one text [] (y ∷ b) same is also = absurd (cc)
told_one text (x ∷ a) [] same is also = absurd (cc)
told_one text (x ∷ a) (y ∷ b) same is also =
    let rest : spots_of a ≡ spots_of b = cc in
    let place : x.place ≡ y.place = cc in
    let earlier : a ≡ b = told_one text a b rest is.0 also.0 in
    let bytes : x.bytes ≡ y.bytes = is.1 ∙ ap (λ (p : ℕ × ℕ). take (p.1 - p.0) (drop p.0 text)) place ∙ sym also.1 in
    let told : Tells (sets_behind b) x.bytes x.content = subst (λ (e : List Told). Tells (sets_behind e) x.bytes x.content) earlier is.2 in
    let content : x.content ≡ y.content = tells_one (sets_behind b) y.bytes x.content y.content (subst (λ (u : List ℕ). Tells (sets_behind b) u x.content) bytes told) also.2 in
    cons_of x y a b (told_of x y place bytes content) earlier

told_rest : (text : List ℕ) (later a : List Told) → AreTold text (later ++ a) → AreTold text a
unfolding AreTold
told_rest text [] a each = each
told_rest text (unit ∷ later) a each = told_rest text later a each.0

-- ---- fewer units are the first of more

pub reverse_twice : {A : Type 0} (xs : List A) → reverse (reverse xs) ≡ xs
reverse_twice [] = refl
reverse_twice (x ∷ xs) = ap reverse (reverse_onto xs x []) ∙ reverse-append (reverse xs) (x ∷ []) ∙ ap (λ ys. x ∷ ys) (reverse_twice xs)

places_more : (later a : List Told) → places_of (later ++ a) ≡ places_of a ++ places_of later
places_more later a = ap reverse (map-append (λ (unit : Told). unit.place) later a) ∙ reverse-append (map (λ (unit : Told). unit.place) later) (map (λ (unit : Told). unit.place) a)

pub length_places : (a : List Told) → length (places_of a) ≡ length a
length_places a = length-reverse (map (λ (unit : Told). unit.place) a) ∙ length-map a (λ (unit : Told). unit.place)

spots_same : (a b : List Told) → places_of a ≡ places_of b → spots_of a ≡ spots_of b
unfolding spots_of
spots_same a b same = sym (reverse_twice (spots_of a)) ∙ ap reverse same ∙ reverse_twice (spots_of b)

-- the same places tell the same
pub same_units : (text : List ℕ) (a b : List Told) → AreTold text a → AreTold text b → places_of a ≡ places_of b → a ≡ b
same_units text a b is also same = told_one text a b (spots_same a b same) is also

front_same : {A : Type 0} (xs ys us vs : List A) → length xs ≡ length ys → xs ++ us ≡ ys ++ vs → xs ≡ ys
front_same xs ys us vs long same = sym (take-append_seam xs us) ∙ ap (λ (n : ℕ). take n (xs ++ us)) long ∙ ap (take (length ys)) same ∙ take-append_seam ys vs

-- These units stand first among all units of the text.
abbrev pub StandFirst : List (ℕ × ℕ) → List Told → Type 0
StandFirst all told = (later : List (ℕ × ℕ)) × (all ≡ places_of told ++ later)

pub fewer_first : (text : List ℕ) (all : List (ℕ × ℕ)) (a b : List Told) → AreTold text a → AreTold text b → StandFirst all a → StandFirst all b → length a ≤ length b → (later : List Told) × (b ≡ later ++ a)
fewer_first text all a b is also first other few =
    let n = length b - length a in
    let split : take n b ++ drop n b ≡ b = take-append-drop n b in
    let back : length (drop n b) ≡ length a = omega (arith, ap length split, length-append (take n b) (drop n b), length-take-le n b (omega arith)) in
    let long : length (places_of a) ≡ length (places_of (drop n b)) = length_places a ∙ sym back ∙ sym (length_places (drop n b)) in
    let whole : places_of b ≡ places_of (drop n b) ++ places_of (take n b) = ap places_of (sym split) ∙ places_more (take n b) (drop n b) in
    let both : places_of a ++ first.0 ≡ places_of (drop n b) ++ (places_of (take n b) ++ other.0) =
    sym first.1 ∙ other.1 ∙ ap (λ (xs : List (ℕ × ℕ)). xs ++ other.0) whole ∙ append_assoc (places_of (drop n b)) (places_of (take n b)) other.0 in
    let same = front_same (places_of a) (places_of (drop n b)) first.0 (places_of (take n b) ++ other.0) long both in
    let there = told_rest text (take n b) (drop n b) (subst (λ (told : List Told). AreTold text told) (sym split) also) in
    let one : a ≡ drop n b = same_units text a (drop n b) is there same in
    (take n b, sym split ∙ ap (λ (xs : List Told). take n b ++ xs) (sym one))

-- ---- the access units of more units

-- At least one access unit stands before these in the list.
abbrev pub EndsIn : List AccessUnit → List AccessUnit → Type 0
EndsIn all xs = (more : List AccessUnit) × (last : AccessUnit) × (all ≡ more ++ last ∷ xs)

by_test : (b : Bool) (us vs xs : List AccessUnit) → EndsIn us xs → EndsIn vs xs → EndsIn (cond b us vs) xs
by_test true us vs xs first second = first
by_test false us vs xs first second = second

added_more : (more xs : List AccessUnit) (last : AccessUnit) (unit : Told) → EndsIn (added_to (more ++ last ∷ xs) unit) xs
added_more [] xs last unit = by_test (begins_another last unit) (unit_alone unit ∷ last ∷ xs) (with_unit last unit ∷ xs) xs (unit_alone unit ∷ [], last, refl) ([], with_unit last unit, refl)
added_more (au ∷ more) xs last unit =
    by_test (begins_another au unit) (unit_alone unit ∷ au ∷ (more ++ last ∷ xs)) (with_unit au unit ∷ (more ++ last ∷ xs)) xs (unit_alone unit ∷ au ∷ more, last, refl) (with_unit au unit ∷ more, last, refl)

pub grouped_more : (later told : List Told) (xs : List AccessUnit) (last : AccessUnit) → grouped told ≡ last ∷ xs → EndsIn (grouped (later ++ told)) xs
unfolding grouped
grouped_more [] told xs last is = ([], last, is)
grouped_more (unit ∷ later) told xs last is =
    let before = grouped_more later told xs last is in
    subst (λ (units : List AccessUnit). EndsIn (added_to units unit) xs) (sym before.2) (added_more before.0 xs before.1 unit)

broken_more : (more xs : List AccessUnit) (last : AccessUnit) → EndsIn (broken_off (more ++ last ∷ xs)) xs
broken_more [] xs last = ([], refused_at_end last, refl)
broken_more (au ∷ more) xs last = (refused_at_end au ∷ more, last, refl)

pub ends_in : (later told : List Told) (broken : Option ℕ) (xs : List AccessUnit) (last : AccessUnit) → grouped told ≡ last ∷ xs → EndsIn (access_units (later ++ told) broken) xs
ends_in later told broken xs last is =
    let all = grouped_more later told xs last is in
    by_test (is_some broken) (broken_off (grouped (later ++ told))) (grouped (later ++ told)) xs
    (subst (λ (units : List AccessUnit). EndsIn (broken_off units) xs) (sym all.2) (broken_more all.0 xs all.1)) all

-- ---- what a text settles

-- the text's units and its broken place
abbrev pub all_units : List ℕ → List (ℕ × ℕ)
all_units text = (text_has_units text).0

abbrev pub broken_place : List ℕ → Option ℕ
broken_place text = (text_has_units text).1

-- By units that stand first in the text these access units are settled, or by all of them.
pub record Settle (text : List ℕ) (xs : List AccessUnit) : Type 0 where
  pub told : List Told
  pub each : AreTold text told
  pub first : StandFirst (all_units text) told
  pub by :
      ((another : AccessUnit) × (grouped told ≡ another ∷ xs))
      ⊎ ((places_of told ≡ all_units text) × ((later : List AccessUnit) × (access_units told (broken_place text) ≡ later ++ xs)))

first_units : (text : List ℕ) (told : List Told) → AreFirst text (places_of told) → StandFirst (all_units text) told
first_units text told first =
    let here : Units (take first.0 text ++ drop first.0 text) (all_units text) (broken_place text) =
    subst (λ (t : List ℕ). Units t (all_units text) (broken_place text)) (sym (take-append-drop first.0 text)) (text_has_units text).2 in
    settled_first (take first.0 text) (drop first.0 text) (places_of told) (all_units text) (broken_place text) first.2 here

pub all_first : (all : List (ℕ × ℕ)) (told : List Told) → places_of told ≡ all → StandFirst all told
all_first all told same = ([], sym same ∙ sym (append-nil (places_of told)))

at_end : (text : List ℕ) (places : List (ℕ × ℕ)) (broken : Option ℕ) → IsAtAnEnd text true places broken → Units text places broken
at_end text places broken (inl all) = all.1
at_end text places broken (inr all) = subst (λ (t : List ℕ). Units t places broken) (append-nil text) (all.1 [])

by_all : (text : List ℕ) (told : List Told) (broken : Option ℕ) (later xs : List AccessUnit) → AreTold text told → Units text (places_of told) broken → access_units told broken ≡ later ++ xs → Settle text xs
by_all text told broken later xs each units is =
    let same = units_unique text (places_of told) (all_units text) broken (broken_place text) units (text_has_units text).2 in
    record {
      told = told;
      each = each;
      first = all_first (all_units text) told same.0;
      by = inr (same.0, (later, ap (access_units told) (sym same.1) ∙ is));
    }

pub settled : (text : List ℕ) (front : List AccessUnit) (au : AccessUnit) → IsSettled text true front au → Settle text (au ∷ front)
settled text front au is = elim is.by [
  | inl first ↦ record { told = is.told; each = is.each; first = first_units text is.told first.0; by = inl first.1 }
  | inr all ↦ by_all text is.told all.0 all.2.0 (au ∷ front) is.each (at_end text (places_of is.told) all.0 all.1) all.2.1
]

pub all_settled : (text : List ℕ) (front : List AccessUnit) (w : AreAll text front) → Settle text (w.tail ++ front)
all_settled text front w = by_all text w.told w.broken [] (w.tail ++ front) w.each w.units w.split
