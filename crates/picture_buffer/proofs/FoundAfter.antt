-- What names find where one object has other content.
use Rattle.std.proofs.Common.{◌≡◌, ◌≢◌, inl, inr, ℕ, zero, suc, ◌+◌, ◌==◌, Bool, true, false, ◌&&◌, if◌then◌else◌, List, [], ◌∷◌, slice_get, Option, Some, None, refl, ap, sym, ◌∙◌, arith}
use Rattle.std.specs.Option.{option_and_then, option_map, option_map_or, option_or}
use Rattle.std.proofs.lemmas.Bool.{cases_eq, eq-eqb}
use Rattle.std.proofs.lemmas.Bool.Decides.{nat_tests}
use Rattle.driver_model.specs.Objects.{Content, Device, Object, as_device}
use Rattle.driver_model.specs.States.{Found, State, changed_at, found_at, found_from, is_preempted, with_content}
use Rattle.driver_model.proofs.Named.{found_from-Some, object_is}
use Rattle.driver_core.proofs.ContentStands.{get_changed_other, get_changed_same}

module _ {T : Type 0} (as_kind : Content → Option T) (name : ℕ) (content : Content) where
  abbrev change : Object → Object
  change object = record object { content = content }

  abbrev found_with : ℕ → Object → Option T → Option (Found T)
  found_with place object value =
      if object.is_live && object.name == name then option_map (λ v. record { place = place; device = object.device; value = v }) value else None

  -- ---- where a name of this kind isn't concerned

  pub found_unchanged : (from place : ℕ) (objects : List Object) (one : Object) → slice_get objects place ≡ Some one → as_kind content ≡ as_kind one.content
      → found_from as_kind name from (changed_at place change objects) ≡ found_from as_kind name from objects
  unfolding found_from changed_at
  found_unchanged from place [] one at same = refl
  found_unchanged from zero (first ∷ later) one at same =
      let here : first ≡ one = object_is first one at in
      let alike : as_kind content ≡ as_kind first.content = same ∙ ap (λ (o : Object). as_kind o.content) (sym here) in
      ap (λ v. option_or (found_with from first v) (found_from as_kind name (from + 1) later)) alike
  found_unchanged from (suc place) (first ∷ later) one at same =
      ap (λ rest. option_or (found_at as_kind name from first) rest) (found_unchanged (from + 1) place later one at same)

  -- ---- where it is

  module _ (value : T) (is_kind : as_kind content ≡ Some value) where
    -- what is found at this place has this value
    abbrev pub moved : ℕ → Found T → Found T
    moved place found = if found.place == place then record found { value = value } else found

    stays : (place : ℕ) (found : Option (Found T)) → ((f : Found T) → found ≡ Some f → f.place ≢ place) → option_map (moved place) found ≡ found
    stays place None apart = refl
    stays place (Some f) apart =
        let differs : (f.place == place) ≡ false = let h = apart f refl in grind (arith, nat_tests, h) in
        ap (λ b. Some (if b then record f { value = value } else f)) differs

    map_or : (place : ℕ) (one rest : Option (Found T)) → option_map (moved place) (option_or one rest) ≡ option_or (option_map (moved place) one) (option_map (moved place) rest)
    map_or place None rest = refl
    map_or place (Some f) rest = refl

    here_moved : (place : ℕ) (object : Object) (old : Option T) (v : T) → old ≡ Some v → found_with place object (Some value) ≡ option_map (moved place) (found_with place object old)
    here_moved place object old v is =
        by_test (object.is_live && object.name == name) ∙ ap (λ o. option_map (moved place) (found_with place object o)) (sym is) where
          by_test : (b : Bool) → (if b then option_map {U = Found T} (λ w. record { place = place; device = object.device; value = w }) (Some value) else None)
              ≡ option_map (moved place) (if b then option_map (λ w. record { place = place; device = object.device; value = w }) (Some v) else None)
          by_test true =
              let same : (place == place) ≡ true = eq-eqb place place refl in
              let f : Found T = record { place = place; device = object.device; value = v } in
              sym (ap (λ b. Some (if b then record f { value = value } else f)) same)
          by_test false = refl

    later_stays : (from : ℕ) (later : List Object) → option_map (moved from) (found_from as_kind name (from + 1) later) ≡ found_from as_kind name (from + 1) later
    later_stays from later =
        stays from (found_from as_kind name (from + 1) later) (λ f e same. let is = found_from-Some as_kind name (from + 1) later f e in let at = is.at_place in omega (arith, at, same))

    at_stays : (from place : ℕ) (object : Object) (b : Bool) (old : Option T) → from ≢ place
        → option_map (moved place) (if b then option_map (λ w. record { place = from; device = object.device; value = w }) old else None) ≡ (if b then option_map (λ w. record { place = from; device = object.device; value = w }) old else None)
    at_stays from place object true (Some v) apart =
        let f : Found T = record { place = from; device = object.device; value = v } in
        let differs : (from == place) ≡ false = grind (arith, nat_tests, apart) in
        ap (λ b. Some (if b then record f { value = value } else f)) differs
    at_stays from place object true None apart = refl
    at_stays from place object false old apart = refl

    pub found_moved : (from place : ℕ) (objects : List Object) (one : Object) (v : T) → slice_get objects place ≡ Some one → as_kind one.content ≡ Some v
        → found_from as_kind name from (changed_at place change objects) ≡ option_map (moved (from + place)) (found_from as_kind name from objects)
    unfolding found_from changed_at
    found_moved from place [] one v at kind = refl
    found_moved from zero (first ∷ later) one v at kind =
        let here : first ≡ one = object_is first one at in
        let was : as_kind first.content ≡ Some v = ap (λ (o : Object). as_kind o.content) here ∙ kind in
        let from_zero : from ≡ from + 0 = omega arith in
        let rest = found_from as_kind name (from + 1) later in
        ap (λ w. option_or (found_with from first w) rest) is_kind
        ∙ (ap (λ o. option_or o rest) (here_moved from first (as_kind first.content) v was)
        ∙ (ap (λ o. option_or (option_map (moved from) (found_at as_kind name from first)) o) (sym (later_stays from later))
        ∙ (sym (map_or from (found_at as_kind name from first) rest)
        ∙ ap (λ p. option_map (moved p) (option_or (found_at as_kind name from first) rest)) from_zero)))
    found_moved from (suc place) (first ∷ later) one v at kind =
        let rest = found_from as_kind name (from + 1) later in
        let p : from + 1 + place ≡ from + suc place = omega arith in
        let apart : from ≢ from + suc place = λ e. omega (arith, e) in
        ap (λ r. option_or (found_at as_kind name from first) r) (found_moved (from + 1) place later one v at kind ∙ ap (λ q. option_map (moved q) rest) p)
        ∙ (ap (λ o. option_or o (option_map (moved (from + suc place)) rest)) (sym (at_stays from (from + suc place) first (first.is_live && first.name == name) (as_kind first.content) apart))
        ∙ sym (map_or (from + suc place) (found_at as_kind name from first) rest))

-- ---- preemption

device_by : (d : State) (place : ℕ) → Option Object → Bool
device_by d place o = option_map_or (λ (of : Device). of.is_preempted) (option_and_then (λ (x : Object). as_device x.content) o) false

-- A device that isn't preempted stays so where an object is given content of another kind.
pub still_awake : (d : State) (place device : ℕ) (content : Content) (one : Object) → slice_get d.objects place ≡ Some one → as_device content ≡ None
    → is_preempted d device ≡ false → is_preempted (with_content d place content) device ≡ false
unfolding device_by
still_awake d place device content one at kind awake = elim (cases_eq device place) [
  | inl same ↦
      let there : slice_get (changed_at place (λ (o : Object). record o { content = content }) d.objects) device ≡ Some (record one { content = content }) =
      ap (slice_get (changed_at place (λ (o : Object). record o { content = content }) d.objects)) same ∙ get_changed_same (λ (o : Object). record o { content = content }) place d.objects one at in
      ap (device_by d device) there ∙ ap (λ k. option_map_or (λ (of : Device). of.is_preempted) k false) kind
  | inr other ↦ ap (device_by d device) (get_changed_other (λ (o : Object). record o { content = content }) place device d.objects other) ∙ awake
]
