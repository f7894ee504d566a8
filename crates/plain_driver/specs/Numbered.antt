-- Names by which no two objects have the same.
use Rattle.std.specs.Prelude.{◌≡◌, ℕ, ◌%◌, ◌^◌, ◌≤◌, List, length, slice_get, Some}
use Rattle.driver_model.specs.declared.numbers.TheConstants.{MANY_NAMES}
use Rattle.plain_driver.specs.declared.objects.PlainObject.{PlainObject}

-- Each object's name has its place in the low 29 bits, and there are so few that each place fits there.
pub record IsNumbered (objects : List PlainObject) : Type 0 where
  pub each : (place : ℕ) (object : PlainObject) → slice_get objects place ≡ Some object → object.name % 2 ^ 29 ≡ place
  pub few : length objects ≤ MANY_NAMES
