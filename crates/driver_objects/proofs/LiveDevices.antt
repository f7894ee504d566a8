-- The live device that has a place among all objects ever made.
use Rattle.std.proofs.Common.{◌≡◌, ℕ, true, List, get_or, slice_get, Some, None, sym, ap, ◌∙◌, subst, arith}
use Rattle.std.specs.List.{list_any}
use Rattle.std.proofs.lemmas.Bool.Decides.{nat_tests}
use Rattle.std.proofs.lemmas.Option.{slice_get-get_or, slice_get_within}
use Rattle.driver_objects.specs.Kinds.{is_device, is_device_at}
use Rattle.driver_objects.specs.Listed.{IsOnly, is_at}
use Rattle.driver_objects.specs.declared.object.Object.{Object}
use Rattle.driver_objects.proofs.Lists.{one_kept, some_passes}

-- the object at the place that the search gave is the live device
pub device_there : (kept : List Object) (place index : ℕ) (object : Object) → list_any (is_device_at place) kept ≡ true → IsOnly (is_at place) kept (Some index) → slice_get kept index ≡ Some object
    → (object.is_live ≡ true) × (object.place ≡ place) × (is_device object.content ≡ true)
device_there kept place index object any only at =
    let s = some_passes (is_device_at place) kept any in
    let here : s.0 ≡ index = only.1 s.0 (record { object = s.1; stands = s.2; passes = grind (arith, s.3) }) in
    let same : s.1 ≡ object = one_kept kept index s.1 object (subst (λ i. slice_get kept i ≡ Some s.1) here s.2) at in
    let passes : is_device_at place object ≡ true = ap (is_device_at place) (sym same) ∙ s.3 in
    (grind (arith, passes), grind (arith, nat_tests, passes), grind (arith, passes))

pub device_missing : (kept : List Object) (place : ℕ) → list_any (is_device_at place) kept ≡ true → IsOnly (is_at place) kept None → ⊥
device_missing kept place any none =
    let s = some_passes (is_device_at place) kept any in
    none s.0 (record { object = s.1; stands = s.2; passes = grind (arith, s.3) })

-- what is read there
pub record ReadsDevice (kept : List Object) (place index : ℕ) (object : Object) : Type 0 where
  pub stands : slice_get kept index ≡ Some object
  pub live : object.is_live ≡ true
  pub at_place : object.place ≡ place
  pub is : is_device object.content ≡ true

pub read_device : (kept : List Object) (place index : ℕ) (default : Object) → list_any (is_device_at place) kept ≡ true → IsOnly (is_at place) kept (Some index) → ReadsDevice kept place index (get_or kept index default)
read_device kept place index default any only =
    let within = slice_get_within kept index only.0.object only.0.stands in
    let stands = slice_get-get_or kept index default within in
    let there = device_there kept place index (get_or kept index default) any only stands in
    record { stands = stands; live = there.0; at_place = there.1; is = there.2 }
