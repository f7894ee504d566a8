-- Whose items they are, and what a call adds to what its caller has seen.
use Rattle.std.specs.Prelude.{◌≡◌, ℕ, Bool, true, false, if◌then◌else◌, List, [], ◌∷◌, ◌++◌, length, count_by, Ok, Err}
use Rattle.device_lock.specs.Numbers.{Knows}
use Rattle.device_lock.specs.declared.view.View.{View}
use Rattle.vd_status.specs.declared.refusal.Refusal.TheVariants.{Bitstream, Incomplete}
use Rattle.driver_model.specs.Answers.{Reply}
use Rattle.driver_model.specs.Histories.{IsLegal}
use Rattle.driver_model.specs.declared.calls.Call.{Call}
use Rattle.driver_model.specs.declared.calls.Call.TheVariants.{Mix, Render}
use Rattle.driver_model.specs.declared.items.Item.{Item}
use Rattle.driver_model.specs.declared.items.Item.TheVariants.{Called, Ended}

-- the number of the caller whose item it is
abbrev pub caller_of : Item → List ℕ
caller_of (Called entry) = entry.caller
caller_of (Ended mark) = mark.caller

-- the reply of a job that was begun: it was done, or its bitstream is at fault
abbrev pub is_of_job : Reply → Bool
is_of_job (Ok answer) = true
is_of_job (Err (Bitstream slice)) = true
is_of_job (Err (Incomplete macroblocks)) = true
is_of_job (Err _) = false

-- such a call begins a job, where it isn't refused
abbrev pub is_job : Call → Bool
is_job (Render decoder target info bytes) = true
is_job (Mix mixer structure video output) = true
is_job _ = false

abbrev pub begins_job : Item → Bool
begins_job (Called entry) = if is_job entry.call then is_of_job entry.reply else false
begins_job (Ended mark) = false

abbrev pub ends_job : Item → Bool
ends_job (Called entry) = false
ends_job (Ended mark) = true

-- The items of a caller are at rest where it has ended as many jobs as it has begun.
abbrev pub AreAtRest : List Item → Type 0
AreAtRest own = count_by begins_job own ≡ count_by ends_job own

-- What a call adds to its caller's pass: the item, at this place of the one history, which is legal and begins with all that the
-- pass had seen. All else of the pass stays.
pub record Adds (before : View Item) (item : Item) (place : ℕ) (after : View Item) : Type 0 where
  pub legal : IsLegal after.seen
  pub between : List Item
  pub seen : after.seen ≡ (before.seen ++ between) ++ item ∷ []
  pub at_place : place ≡ length (before.seen ++ between)
  pub caller : caller_of item ≡ before.number
  pub own : after.own ≡ before.own ++ item ∷ []
  pub number : after.number ≡ before.number
  pub splits : after.splits ≡ before.splits
  pub joined : after.joined ≡ before.joined
  pub share : after.share ≡ before.share
  -- The items of its number are its own, so of each pass joined into it, and where its share is the whole there are no others.
  pub knows : Knows caller_of after
