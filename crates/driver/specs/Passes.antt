-- Passes: whose they are, what they have seen, and how they are split and joined.
use Rattle.std.specs.Prelude.{◌≡◌, ◌+◌, [], ◌∷◌, ◌++◌}
use mathlib.Core.List.{IsPrefix}
use Rattle.device_lock.specs.Lists.{longer}
use Rattle.device_lock.specs.Numbers.{Knows, items_of}
use Rattle.device_lock.specs.Passes.{lock_id, pass_lock, pass_view}
use Rattle.device_lock.specs.Views.{both_shares, half}
use Rattle.device_lock.specs.declared.view.View.{View}
use Rattle.driver_model.specs.Passes.{caller_of}
use Rattle.driver_model.specs.declared.items.Item.{Item}
use Rattle.driver.specs.declared.driver.Driver.{Driver}
use Rattle.driver.specs.declared.driver.Pass.{Pass}

-- what the pass has seen, and which items of it are its own
abbrev pub view : Pass → View Item
view pass = pass_view pass.token

-- It is a pass of this driver.
abbrev pub IsOf : Pass → Driver → Type 0
IsOf pass driver = pass_lock pass.token ≡ lock_id driver.lock

-- A pass is split in two: the first goes on with its number and its items, the second begins with a number that no item has.
pub record Splits (before first second : View Item) : Type 0 where
  pub first_seen : first.seen ≡ before.seen
  pub first_number : first.number ≡ before.number
  pub first_own : first.own ≡ before.own
  pub first_joined : first.joined ≡ before.joined
  pub first_share : first.share ≡ half before.share
  pub first_splits : first.splits ≡ before.splits + 1
  pub second_seen : second.seen ≡ before.seen
  pub second_number : items_of caller_of second.number before.seen ≡ []
  pub second_own : second.own ≡ []
  pub second_joined : second.joined ≡ []
  pub second_share : second.share ≡ half before.share
  pub knows : Knows caller_of first × Knows caller_of second

-- Two passes are joined: what one of them had seen begins what the other had seen, and the longer is what both have seen.
pub record Joins (a b both : View Item) : Type 0 where
  pub seen : both.seen ≡ longer a.seen b.seen
  pub seen_a : IsPrefix a.seen both.seen
  pub seen_b : IsPrefix b.seen both.seen
  pub number : both.number ≡ a.number
  pub splits : both.splits ≡ a.splits
  pub own : both.own ≡ a.own
  pub joined : both.joined ≡ a.joined ++ record { number = b.number; own = b.own } ∷ b.joined
  pub share : both.share ≡ both_shares a.share b.share
  pub knows : Knows caller_of both
