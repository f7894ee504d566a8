-- What a name finds: the live object with this name, of the kind, at its place.
use Rattle.std.proofs.Common.{◌≡◌, ◌⊎◌, inl, inr, ℕ, zero, suc, ◌+◌, ◌==◌, Bool, true, false, ◌&&◌, if◌then◌else◌, List, [], ◌∷◌, slice_get, Option, Some, None, refl, ap, sym, ◌∙◌, subst, arith}
use Rattle.std.proofs.lemmas.Bool.{eq-eqb, eqb-true}
use Rattle.std.specs.Option.{option_map, option_or}
use Rattle.driver_model.specs.Objects.{Content, Object}
use Rattle.driver_model.specs.States.{State, Found, found_at, found_from, named}

and_both : (a b : Bool) → (a && b) ≡ true → (a ≡ true) × (b ≡ true)
and_both true b e = (refl, e)
and_both false b e = let k : false ≡ true = e in absurd cc

both_are : (a b : Bool) → a ≡ true → b ≡ true → (a && b) ≡ true
both_are true b a_is b_is = b_is
both_are false b a_is b_is = a_is

abbrev pub found_of : {T : Type 0} → ℕ → ℕ → T → Found T
found_of place device value = record { place = place; device = device; value = value }

some_is : {T : Type 0} (a b : Found T) → (let o : Option (Found T) = Some a in o ≡ Some b) → a ≡ b
some_is a b e = cc

pub object_is : (a b : Object) → (let o : Option Object = Some a in o ≡ Some b) → a ≡ b
object_is a b e = cc

module _ {T : Type 0} (as_kind : Content → Option T) (name : ℕ) where
  pub record IsNamed (found : Found T) (object : Object) : Type 0 where
    pub is_live : object.is_live ≡ true
    pub has_name : object.name ≡ name
    pub of_device : found.device ≡ object.device
    pub is_kind : as_kind object.content ≡ Some found.value

  -- an object of the list is found, whose place is counted from this one
  pub record IsFoundFrom (from : ℕ) (objects : List Object) (found : Found T) : Type 0 where
    pub number : ℕ
    pub object : Object
    pub at_place : found.place ≡ from + number
    pub stands : slice_get objects number ≡ Some object
    pub is_named : IsNamed found object

  of_kind : (place : ℕ) (object : Object) (found : Found T) (value : Option T) → as_kind object.content ≡ value
      → option_map (λ v. record { place = place; device = object.device; value = v }) value ≡ Some found
      → (found.place ≡ place) × (found.device ≡ object.device) × (as_kind object.content ≡ Some found.value)
  of_kind place object found None is e = absurd (let k : (let o : Option (Found T) = None in o ≡ Some found) = e in cc)
  of_kind place object found (Some value) is e =
      let same : found_of place object.device value ≡ found = some_is (found_of place object.device value) found e in
      (sym (ap (λ (f : Found T). f.place) same), sym (ap (λ (f : Found T). f.device) same), is ∙ ap (λ (f : Found T). Some f.value) same)

  found_at-Some : (place : ℕ) (object : Object) (found : Found T) → found_at as_kind name place object ≡ Some found → (found.place ≡ place) × IsNamed found object
  found_at-Some place object found e = by_test (object.is_live && object.name == name) refl e where
    by_test : (test : Bool) → (object.is_live && object.name == name) ≡ test
        → (if test then option_map (λ v. record { place = place; device = object.device; value = v }) (as_kind object.content) else None) ≡ Some found
        → (found.place ≡ place) × IsNamed found object
    by_test true t k =
        let both = and_both object.is_live (object.name == name) t in
        let is = of_kind place object found (as_kind object.content) refl k in
        (is.0, record { is_live = both.0; has_name = eqb-true object.name name both.1; of_device = is.1; is_kind = is.2 })
    by_test false t k = absurd (let z : (let o : Option (Found T) = None in o ≡ Some found) = k in cc)

  either_or : (one other : Option (Found T)) (found : Found T) → option_or one other ≡ Some found → (one ≡ Some found) ⊎ (other ≡ Some found)
  either_or None other found e = inr e
  either_or (Some x) other found e = inl e

  pub found_from-Some : (from : ℕ) (objects : List Object) (found : Found T) → found_from as_kind name from objects ≡ Some found → IsFoundFrom from objects found
  unfolding found_from
  found_from-Some from [] found e = absurd (let z : (let o : Option (Found T) = None in o ≡ Some found) = e in cc)
  found_from-Some from (object ∷ later) found e = elim (either_or (found_at as_kind name from object) (found_from as_kind name (from + 1) later) found e) [
    | inl here ↦
        let is = found_at-Some from object found here in
        record { number = 0; object = object; at_place = is.0 ∙ omega arith; stands = refl; is_named = is.1 }
    | inr there ↦
        let is = found_from-Some (from + 1) later found there in
        record { number = suc is.number; object = is.object; at_place = is.at_place ∙ omega arith; stands = is.stands; is_named = is.is_named }
  ]

  -- the object that a name finds in a state stands at its place there
  pub named-Some : (s : State) (found : Found T) → named s as_kind name ≡ Some found → (object : Object) × (slice_get s.objects found.place ≡ Some object) × IsNamed found object
  named-Some s found e =
      let is = found_from-Some 0 s.objects found e in
      let here : is.number ≡ found.place = omega (arith, is.at_place) in
      (is.object, subst (λ k. slice_get s.objects k ≡ Some is.object) here is.stands, is.is_named)

  -- ---- and what finds it

  -- each object of the list with this name that is live stands at this place
  abbrev pub IsOnly : List Object → ℕ → Type 0
  IsOnly objects number = (other : ℕ) (object : Object) → slice_get objects other ≡ Some object → object.is_live ≡ true → object.name ≡ name → other ≡ number

  -- no live object of the list with this name is of the kind
  abbrev pub IsMissing : List Object → Type 0
  IsMissing objects = (other : ℕ) (object : Object) → slice_get objects other ≡ Some object → object.is_live ≡ true → object.name ≡ name → as_kind object.content ≡ None

  found_at-is : (place : ℕ) (object : Object) (value : T) → object.is_live ≡ true → object.name ≡ name → as_kind object.content ≡ Some value → found_at as_kind name place object ≡ Some (found_of place object.device value)
  found_at-is place object value live named_so kind =
      ap (λ test. if test then option_map (λ v. record { place = place; device = object.device; value = v }) (as_kind object.content) else None) (both_are object.is_live (object.name == name) live (eq-eqb object.name name named_so))
      ∙ ap (λ o. option_map {U = Found T} (λ v. record { place = place; device = object.device; value = v }) o) kind

  found_at-not : (place : ℕ) (object : Object) → (object.is_live ≡ true → object.name ≡ name → as_kind object.content ≡ None) → found_at as_kind name place object ≡ None
  found_at-not place object missing = by_test (object.is_live && object.name == name) refl where
    by_test : (test : Bool) → (object.is_live && object.name == name) ≡ test
        → (if test then option_map {U = Found T} (λ v. record { place = place; device = object.device; value = v }) (as_kind object.content) else None) ≡ None
    by_test true t =
        let both = and_both object.is_live (object.name == name) t in
        ap (λ o. option_map {U = Found T} (λ v. record { place = place; device = object.device; value = v }) o) (missing both.0 (eqb-true object.name name both.1))
    by_test false t = refl

  found_from-None : (from : ℕ) (objects : List Object) → IsMissing objects → found_from as_kind name from objects ≡ None
  unfolding found_from
  found_from-None from [] missing = refl
  found_from-None from (object ∷ later) missing =
      ap (λ one. option_or one (found_from as_kind name (from + 1) later)) (found_at-not from object (missing 0 object refl))
      ∙ found_from-None (from + 1) later (λ other o at_place. missing (suc other) o at_place)

  found_from-is : (from : ℕ) (objects : List Object) (number : ℕ) (object : Object) (value : T) → slice_get objects number ≡ Some object → object.is_live ≡ true → object.name ≡ name → as_kind object.content ≡ Some value
      → IsOnly objects number → found_from as_kind name from objects ≡ Some (found_of (from + number) object.device value)
  unfolding found_from
  found_from-is from [] number object value at_place live named_so kind only = absurd (let z : (let o : Option Object = None in o ≡ Some object) = at_place in cc)
  found_from-is from (first ∷ later) zero object value at_place live named_so kind only =
      let same : first ≡ object = object_is first object at_place in
      let zeroth : from ≡ from + 0 = omega arith in
      ap (λ one. option_or one (found_from as_kind name (from + 1) later)) (ap (λ o. found_at as_kind name from o) same ∙ found_at-is from object value live named_so kind)
      ∙ ap (λ k. Some (found_of k object.device value)) zeroth
  found_from-is from (first ∷ later) (suc number) object value at_place live named_so kind only =
      let here : found_at as_kind name from first ≡ None = found_at-not from first (λ l n. let z : 0 ≡ suc number = only 0 first refl l n in absurd (omega arith)) in
      let next : from + 1 + number ≡ from + suc number = omega arith in
      ap (λ one. option_or one (found_from as_kind name (from + 1) later)) here
      ∙ (found_from-is (from + 1) later number object value at_place live named_so kind (λ other o at l n. let z : suc other ≡ suc number = only (suc other) o at l n in omega arith)
      ∙ ap (λ k. Some (found_of k object.device value)) next)

  -- A name finds the live object with this name, where no other live one has it.
  pub named-is : (s : State) (place : ℕ) (object : Object) (value : T) → slice_get s.objects place ≡ Some object → object.is_live ≡ true → object.name ≡ name → as_kind object.content ≡ Some value
      → IsOnly s.objects place → named s as_kind name ≡ Some (found_of place object.device value)
  named-is s place object value at_place live named_so kind only =
      let from_zero : 0 + place ≡ place = omega arith in
      found_from-is 0 s.objects place object value at_place live named_so kind only ∙ ap (λ k. Some (found_of k object.device value)) from_zero

  -- It finds nothing where no live object has this name and is of the kind.
  pub named-None : (s : State) → IsMissing s.objects → named s as_kind name ≡ None
  named-None s missing = found_from-None 0 s.objects missing
