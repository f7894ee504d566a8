-- Names that have the places of their objects in them are all different.
use Rattle.std.proofs.Common.{◌≡◌, ℕ, zero, suc, ◌+◌, ◌%◌, ◌^◌, ◌<◌, ◌==◌, Bool, true, false, ◌||◌, List, [], ◌∷◌, ◌++◌, length, map, slice_get, Option, Some, None, refl, ap, sym, ◌∙◌, arith, length-append, eqb-true}
use Rattle.std.specs.List.{list_any}
use Rattle.std.specs.Option.{option_map}
use Rattle.std.proofs.Math.ListN.{set}
use Rattle.std.proofs.lemmas.List.{length-map}
use Rattle.std.proofs.lemmas.Option.{slice_get-map}
use Rattle.driver_model.proofs.Changes.{names}
use Rattle.driver_model.specs.declared.numbers.TheConstants.{MANY_NAMES}
use Rattle.plain_driver.specs.Numbered.{IsNumbered}
use Rattle.plain_driver.specs.States.{objects_of}
use Rattle.plain_driver.specs.declared.objects.PlainObject.{PlainObject}

some_is : (a b : PlainObject) → (let o : Option PlainObject = Some a in o ≡ Some b) → a ≡ b
some_is a b e = cc

-- each of them from this place on
abbrev AreNumberedFrom : ℕ → List PlainObject → Type 0
AreNumberedFrom from objects = (place : ℕ) (object : PlainObject) → slice_get objects place ≡ Some object → object.name % 2 ^ 29 ≡ from + place

not_equal : (a b : ℕ) → a % 2 ^ 29 < b % 2 ^ 29 → (a == b) ≡ false
not_equal a b h = by (a == b) refl where
  by : (t : Bool) → (a == b) ≡ t → t ≡ false
  by false e = refl
  by true e = let same : a ≡ b = eqb-true a b e in absurd (omega (arith, ap (λ n. n % 2 ^ 29) same))

fresh_from : (from : ℕ) (objects : List PlainObject) (name : ℕ) → AreNumberedFrom from objects → name % 2 ^ 29 ≡ from + length objects → list_any (λ object. object.name == name) (objects_of objects) ≡ false
fresh_from from [] name numbered is = refl
fresh_from from (object ∷ later) name numbered is =
    let here : object.name % 2 ^ 29 ≡ from + 0 = numbered 0 object refl in
    let other : (object.name == name) ≡ false = not_equal object.name name (omega arith) in
    let rest : list_any (λ o. o.name == name) (objects_of later) ≡ false =
    fresh_from (from + 1) later name (λ place o at. let k : o.name % 2 ^ 29 ≡ from + suc place = numbered (suc place) o at in omega arith) (omega arith) in
    ap (λ b. b || list_any (λ o. o.name == name) (objects_of later)) other ∙ rest

pub name_is_fresh : (objects : List PlainObject) (name : ℕ) → IsNumbered objects → name % 2 ^ 29 ≡ length objects → list_any (λ object. object.name == name) (objects_of objects) ≡ false
name_is_fresh objects name numbered is = fresh_from 0 objects name (λ place o at. numbered.each place o at ∙ omega arith) (is ∙ omega arith)

set_at : (objects : List PlainObject) (place other : ℕ) (old new object : PlainObject) → slice_get objects place ≡ Some old → new.name ≡ old.name → slice_get (set objects place new) other ≡ Some object
    → (was : PlainObject) × (slice_get objects other ≡ Some was) × (object.name ≡ was.name)
set_at [] place other old new object stands same at = absurd (let k : (let o : Option PlainObject = None in o ≡ Some old) = stands in cc)
set_at (first ∷ later) zero zero old new object stands same at =
    (first, refl, ap (λ (o : PlainObject). o.name) (sym (some_is new object at)) ∙ (same ∙ ap (λ (o : PlainObject). o.name) (sym (some_is first old stands))))
set_at (first ∷ later) zero (suc other) old new object stands same at = (object, at, refl)
set_at (first ∷ later) (suc place) zero old new object stands same at = (first, refl, ap (λ (o : PlainObject). o.name) (sym (some_is first object at)))
set_at (first ∷ later) (suc place) (suc other) old new object stands same at = set_at later place other old new object stands same at

length-set-is : (objects : List PlainObject) (place : ℕ) (new : PlainObject) → length (set objects place new) ≡ length objects
length-set-is [] place new = refl
length-set-is (first ∷ later) zero new = refl
length-set-is (first ∷ later) (suc place) new = ap suc (length-set-is later place new)

-- an object that is changed keeps its name
pub IsNumbered-set : (objects : List PlainObject) (place : ℕ) (old new : PlainObject) → IsNumbered objects → slice_get objects place ≡ Some old → new.name ≡ old.name → IsNumbered (set objects place new)
IsNumbered-set objects place old new numbered stands same = record {
  each = λ other object at. let was = set_at objects place other old new object stands same at in ap (λ n. n % 2 ^ 29) was.2 ∙ numbered.each other was.0 was.1;
  few = let k = length-set-is objects place new in let f = numbered.few in omega arith;
}

push_at : (objects : List PlainObject) (one : PlainObject) (from place : ℕ) (object : PlainObject) → AreNumberedFrom from objects → one.name % 2 ^ 29 ≡ from + length objects
    → slice_get (objects ++ one ∷ []) place ≡ Some object → object.name % 2 ^ 29 ≡ from + place
push_at [] one from zero object numbered is at = ap (λ (o : PlainObject). o.name % 2 ^ 29) (sym (some_is one object at)) ∙ is
push_at [] one from (suc place) object numbered is at = absurd (let k : (let o : Option PlainObject = None in o ≡ Some object) = at in cc)
push_at (first ∷ later) one from zero object numbered is at = numbered 0 object at
push_at (first ∷ later) one from (suc place) object numbered is at =
    push_at later one (from + 1) place object (λ p o a. let k : o.name % 2 ^ 29 ≡ from + suc p = numbered (suc p) o a in omega arith) (omega arith) at ∙ omega arith

pub IsNumbered-push : (objects : List PlainObject) (one : PlainObject) → IsNumbered objects → length objects < MANY_NAMES → one.name % 2 ^ 29 ≡ length objects → IsNumbered (objects ++ one ∷ [])
IsNumbered-push objects one numbered few is = record {
  each = λ place object at. push_at objects one 0 place object (λ p o a. numbered.each p o a ∙ omega arith) (is ∙ omega arith) at ∙ omega arith;
  few = omega (arith, length-append objects (one ∷ []), few);
}

-- ---- objects that keep their names

names_of : (objects : List PlainObject) → names (objects_of objects) ≡ map (λ (o : PlainObject). o.name) objects
names_of [] = refl
names_of (first ∷ later) = ap (λ rest. first.name ∷ rest) (names_of later)

name_there : (found : Option PlainObject) (name : ℕ) → option_map (λ (o : PlainObject). o.name) found ≡ Some name → (was : PlainObject) × (found ≡ Some was) × (was.name ≡ name)
name_there None name e = absurd (let k : (let o : Option ℕ = None in o ≡ Some name) = e in cc)
name_there (Some was) name e = (was, refl, number_is was.name name e) where
  number_is : (a b : ℕ) → (let o : Option ℕ = Some a in o ≡ Some b) → a ≡ b
  number_is a b k = cc

pub IsNumbered-same : (objects new : List PlainObject) → names (objects_of new) ≡ names (objects_of objects) → IsNumbered objects → IsNumbered new
IsNumbered-same objects new same numbered =
    let name : PlainObject → ℕ = λ o. o.name in
    let all : map name new ≡ map name objects = sym (names_of new) ∙ (same ∙ names_of objects) in
    record {
      each = λ place object at.
          let told : option_map name (slice_get objects place) ≡ Some object.name =
          sym (slice_get-map name objects place) ∙ (ap (λ xs. slice_get xs place) (sym all) ∙ (slice_get-map name new place ∙ ap (option_map name) at)) in
          let was = name_there (slice_get objects place) object.name told in
          ap (λ n. n % 2 ^ 29) (sym was.2) ∙ numbered.each place was.0 was.1;
      few = omega (arith, numbered.few, length-map new name, length-map objects name, ap length all);
    }
