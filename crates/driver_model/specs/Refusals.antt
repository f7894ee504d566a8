-- How calls look at their arguments: one thing after the other, and the first that isn't as it has to be is the refusal.
use Rattle.std.specs.Prelude.{ℕ, ◌==◌, Bool, true, false, if◌then◌else◌, Option, Some, None, Result, Ok, Err}
use Rattle.vd_status.specs.declared.refusal.Refusal.{Refusal}
use Rattle.vd_status.specs.declared.refusal.Refusal.TheVariants.{InvalidHandle, DeviceMismatch, Preempted}
use Rattle.driver_model.specs.States.{State, Found, is_preempted}

-- what a call has found so far, or why it is refused
abbrev pub Looked : Type 0 → Type 0
Looked A = Result A Refusal

-- one look behind another, as a `do` writes it
infixl 10 ◌>>=◌
abbrev pub ◌>>=◌ : {A B : Type 0} → Looked A → (A → Looked B) → Looked B
(Ok found) >>= next = next found
(Err refusal) >>= next = Err refusal

infixl 10 ◌>>◌
abbrev pub ◌>>◌ : {B : Type 0} → Looked (Unit {0}) → Looked B → Looked B
(Ok nothing) >> next = next
(Err refusal) >> next = Err refusal

-- The call is refused where the test holds.
abbrev pub refused_if : Bool → Refusal → Looked (Unit {0})
refused_if true refusal = Err refusal
refused_if false refusal = Ok tt

module _ {T : Type 0} where
  -- A handle names an object, and its device isn't preempted. The refusal says which of the
  -- call's handles it is, counted from 0.
  abbrev pub in_use : State → ℕ → Option (Found T) → Looked (Found T)
  in_use s arg None = Err (InvalidHandle arg)
  in_use s arg (Some found) = if is_preempted s found.device then Err Preempted else Ok found

  -- the first handle of a call
  abbrev pub first_handle : State → Option (Found T) → Looked (Found T)
  first_handle s found = in_use s 0 found

  -- a further handle, whose object is of the same device as the first
  abbrev pub further_handle : ℕ → ℕ → Option (Found T) → Looked (Found T)
  further_handle arg device None = Err (InvalidHandle arg)
  further_handle arg device (Some found) = if found.device == device then Ok found else Err (DeviceMismatch arg)
