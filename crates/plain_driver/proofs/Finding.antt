-- What a name finds is the first object that is called so.
use Rattle.std.proofs.Common.{◌≡◌, ℕ, ◌+◌, ◌==◌, Bool, true, false, ◌&&◌, if◌then◌else◌, List, [], ◌∷◌, map, Option, Some, None, Ok, Err, refl, ap, sym, ◌∙◌}
use Rattle.std.specs.List.{position, position_from}
use Rattle.std.specs.Option.{is_some, option_map, option_map_or, option_or}
use Rattle.std.proofs.lemmas.Iterator.Adapters.{position_from-zero}
use Rattle.vd_status.specs.declared.refusal.Refusal.{Refusal}
use Rattle.vd_status.specs.declared.refusal.Refusal.TheVariants.{DeviceMismatch, Preempted}
use Rattle.driver_model.specs.Objects.{Content, Object}
use Rattle.driver_model.specs.Refusals.{further_handle, in_use}
use Rattle.driver_model.specs.States.{State, Found, found_at, found_from, is_preempted, named}
use Rattle.plain_driver.specs.Looks.{device_at, further_at, is_called, place_of, placed, used_at}
use Rattle.driver_model.proofs.Named.{named-Some}
use Rattle.plain_driver.proofs.KindNumbers.{IsKind}

-- the first place is the same in a list whose elements are told apart by what they stand for
pub position_from-map : {X Y : Type 0} (f : X → Y) (p : Y → Bool) (from : ℕ) (xs : List X) → position_from p from (map f xs) ≡ position_from (λ x. p (f x)) from xs
position_from-map f p from [] = refl
position_from-map f p from (x ∷ xs) = ap (λ o. if p (f x) then Some from else o) (position_from-map f p (from + 1) xs)

pub position-map : {X Y : Type 0} (f : X → Y) (p : Y → Bool) (xs : List X) → position (λ x. p (f x)) xs ≡ position p (map f xs)
position-map f p xs = position_from-zero (λ x. p (f x)) xs ∙ (sym (position_from-map f p 0 xs) ∙ sym (position_from-zero p (map f xs)))

module _ {T : Type 0} (as_kind : Content → Option T) (kind : ℕ) (is_kind : IsKind as_kind kind) (name : ℕ) where
  -- the object at this place, as what its name found
  abbrev there : ℕ → Object → Option T → Option (Found T)
  there place object value = option_map (λ v. record { place = place; device = object.device; value = v }) value

  abbrev place_in : Option (Found T) → Option ℕ
  place_in found = option_map (λ f. f.place) found

  -- the place of an object that is looked at, by the tests that it passes
  place_at : (live : Bool) (place : ℕ) (object : Object) (value : Option T) → place_in (if live then there place object value else None) ≡ (if live && is_some value then Some place else None)
  place_at true place object (Some v) = refl
  place_at true place object None = refl
  place_at false place object value = refl

  place_in-or : (test : Bool) (place : ℕ) (one other : Option (Found T)) → place_in one ≡ (if test then Some place else None) → place_in (option_or one other) ≡ (if test then Some place else place_in other)
  place_in-or true place (Some f) other e = e
  place_in-or true place None other e = absurd (let k : (let o : Option ℕ = None in o ≡ Some place) = e in cc)
  place_in-or false place (Some f) other e = absurd (let k : (let o : Option ℕ = None in o ≡ Some f.place) = sym e in cc)
  place_in-or false place None other e = refl

  place_in-found_at : (place : ℕ) (object : Object) → place_in (found_at as_kind name place object) ≡ (if is_called kind name object then Some place else None)
  place_in-found_at place object =
      place_at (object.is_live && object.name == name) place object (as_kind object.content)
      ∙ ap (λ b. if (object.is_live && object.name == name) && b then Some place else None) (sym (is_kind object.content))

  place_in-found_from : (from : ℕ) (objects : List Object) → place_in (found_from as_kind name from objects) ≡ position_from (is_called kind name) from objects
  unfolding found_from
  place_in-found_from from [] = refl
  place_in-found_from from (object ∷ later) =
      place_in-or (is_called kind name object) from (found_at as_kind name from object) (found_from as_kind name (from + 1) later) (place_in-found_at from object)
      ∙ ap (λ o. if is_called kind name object then Some from else o) (place_in-found_from (from + 1) later)

  -- the place of what a name finds
  pub place_in-named : (s : State) → place_in (named s as_kind name) ≡ place_of s kind name
  place_in-named s = place_in-found_from 0 s.objects ∙ sym (position_from-zero (is_called kind name) s.objects)

  -- the device of what a name finds is that of the object at its place
  pub device_at-named : (s : State) (found : Found T) → named s as_kind name ≡ Some found → device_at s found.place ≡ found.device
  device_at-named s found e =
      let is = named-Some as_kind name s found e in
      ap (λ o. option_map_or (λ object. object.device) o 0) is.1 ∙ sym is.2.of_device

  placed-if : (test : Bool) (refusal : Refusal) (found : Found T) → placed (if test then Err refusal else Ok found) ≡ (if test then Err refusal else Ok found.place)
  placed-if true refusal found = refl
  placed-if false refusal found = refl

  placed-unless : (test : Bool) (refusal : Refusal) (found : Found T) → placed (if test then Ok found else Err refusal) ≡ (if test then Ok found.place else Err refusal)
  placed-unless true refusal found = refl
  placed-unless false refusal found = refl

  pub used_is : (s : State) (arg : ℕ) → used_at s arg (place_of s kind name) ≡ placed (in_use s arg (named s as_kind name))
  used_is s arg = by (named s as_kind name) refl where
    by : (found : Option (Found T)) → named s as_kind name ≡ found → used_at s arg (place_of s kind name) ≡ placed (in_use s arg (named s as_kind name))
    by None e = ap (used_at s arg) (sym (place_in-named s) ∙ ap place_in e) ∙ ap (λ o. placed (in_use s arg o)) (sym e)
    by (Some found) e =
        ap (used_at s arg) (sym (place_in-named s) ∙ ap place_in e)
        ∙ (ap (λ d. if is_preempted s d then Err Preempted else Ok found.place) (device_at-named s found e)
        ∙ (sym (placed-if (is_preempted s found.device) Preempted found) ∙ ap (λ o. placed (in_use s arg o)) (sym e)))

  pub further_is : (s : State) (arg device : ℕ) → further_at s arg device (place_of s kind name) ≡ placed (further_handle arg device (named s as_kind name))
  further_is s arg device = by (named s as_kind name) refl where
    by : (found : Option (Found T)) → named s as_kind name ≡ found → further_at s arg device (place_of s kind name) ≡ placed (further_handle arg device (named s as_kind name))
    by None e = ap (further_at s arg device) (sym (place_in-named s) ∙ ap place_in e) ∙ ap (λ o. placed (further_handle arg device o)) (sym e)
    by (Some found) e =
        ap (further_at s arg device) (sym (place_in-named s) ∙ ap place_in e)
        ∙ (ap (λ d. if d == device then Ok found.place else Err (DeviceMismatch arg)) (device_at-named s found e)
        ∙ (sym (placed-unless (found.device == device) (DeviceMismatch arg) found) ∙ ap (λ o. placed (further_handle arg device o)) (sym e)))
