-- What names find where an object is added.
use Rattle.std.proofs.Common.{◌≡◌, ℕ, ◌+◌, ◌==◌, Bool, true, false, ◌&&◌, ◌||◌, if◌then◌else◌, List, [], ◌∷◌, ◌++◌, length, Option, Some, None, refl, ap, ◌∙◌, arith}
use Rattle.std.specs.List.{list_any}
use Rattle.std.specs.Option.{option_and_then, option_map, option_map_or, option_or}
use Rattle.std.proofs.lemmas.Bool.{eq-eqb}
use Rattle.driver_model.specs.Objects.{Content, Device, Object, as_device}
use Rattle.driver_model.specs.States.{Found, State, found_at, found_from, is_given, is_preempted, named, with_object}
use Rattle.driver_model.proofs.Named.{named-Some}

both_false : (a b : Bool) → (a || b) ≡ false → (a ≡ false) × (b ≡ false)
both_false true b e = let k : true ≡ false = e in absurd cc
both_false false b e = (refl, e)

module _ {T : Type 0} (as_kind : Content → Option T) (name : ℕ) where
  or_none : (one : Option (Found T)) → option_or one None ≡ one
  or_none None = refl
  or_none (Some f) = refl

  or_or : (a b c : Option (Found T)) → option_or a (option_or b c) ≡ option_or (option_or a b) c
  or_or None b c = refl
  or_or (Some f) b c = refl

  found_added : (from : ℕ) (objects : List Object) (one : Object)
      → found_from as_kind name from (objects ++ one ∷ []) ≡ option_or (found_from as_kind name from objects) (found_at as_kind name (from + length objects) one)
  unfolding found_from
  found_added from [] one =
      let at : from ≡ from + 0 = omega arith in
      or_none (found_at as_kind name from one) ∙ ap (λ place. found_at as_kind name place one) at
  found_added from (first ∷ later) one =
      let at : from + 1 + length later ≡ from + length (first ∷ later) = omega arith in
      let here = found_at as_kind name from first in
      let rest = found_from as_kind name (from + 1) later in
      ap (option_or here) (found_added (from + 1) later one)
      ∙ (or_or here rest (found_at as_kind name (from + 1 + length later) one)
      ∙ ap (λ place. option_or (option_or here rest) (found_at as_kind name place one)) at)

  named_added : (d : State) (one : Object) → named (with_object d one) as_kind name ≡ option_or (named d as_kind name) (found_at as_kind name (length d.objects) one)
  named_added d one =
      let at : 0 + length d.objects ≡ length d.objects = omega arith in
      found_added 0 d.objects one ∙ ap (λ place. option_or (named d as_kind name) (found_at as_kind name place one)) at

  -- What was found is found still.
  pub found_still : (d : State) (one : Object) (found : Found T) → named d as_kind name ≡ Some found → named (with_object d one) as_kind name ≡ Some found
  found_still d one found is = named_added d one ∙ ap (λ o. option_or o (found_at as_kind name (length d.objects) one)) is

  none_at : (place : ℕ) (object : Object) (live : Bool) → (object.name == name) ≡ false
      → (if live && object.name == name then option_map {U = Found T} (λ value. record { place = place; device = object.device; value = value }) (as_kind object.content) else None) ≡ None
  none_at place object true other = ap (λ b. if b then option_map {U = Found T} (λ value. record { place = place; device = object.device; value = value }) (as_kind object.content) else None) other
  none_at place object false other = refl

  none_from : (from : ℕ) (objects : List Object) → list_any (λ object. object.name == name) objects ≡ false → found_from as_kind name from objects ≡ None
  unfolding found_from
  none_from from [] fresh = refl
  none_from from (first ∷ later) fresh =
      let both = both_false (first.name == name) (list_any (λ object. object.name == name) later) fresh in
      ap (λ o. option_or o (found_from as_kind name (from + 1) later)) (none_at from first first.is_live both.0) ∙ none_from (from + 1) later both.1

  -- The object that is added is found by its name, if no other has it.
  pub found_new : (d : State) (device : ℕ) (content : Content) (value : T) → is_given d name ≡ false → as_kind content ≡ Some value
      → named (with_object d (record { name = name; device = device; is_live = true; content = content })) as_kind name ≡ Some (record { place = length d.objects; device = device; value = value })
  found_new d device content value fresh is =
      let one : Object = record { name = name; device = device; is_live = true; content = content } in
      let same : (name == name) ≡ true = eq-eqb name name refl in
      named_added d one
      ∙ (ap (λ o. option_or o (found_at as_kind name (length d.objects) one)) (none_from 0 d.objects fresh)
      ∙ (ap (λ b. if b then option_map {U = Found T} (λ v. record { place = length d.objects; device = device; value = v }) (as_kind content) else None) same
      ∙ ap (option_map {U = Found T} (λ v. record { place = length d.objects; device = device; value = v })) is))

-- ---- preemption

-- A device that a handle finds is as it was found.
pub awake_as_found : (d : State) (name : ℕ) (found : Found Device) → named d as_device name ≡ Some found → is_preempted d found.place ≡ found.value.is_preempted
awake_as_found d name found is =
    let there = named-Some as_device name d found is in
    ap (λ (o : Option Object). option_map_or (λ (of : Device). of.is_preempted) (option_and_then (λ (x : Object). as_device x.content) o) false) there.1
    ∙ ap (λ (k : Option Device). option_map_or (λ (of : Device). of.is_preempted) k false) there.2.is_kind
