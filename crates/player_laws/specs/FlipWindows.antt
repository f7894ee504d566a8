-- In which windows flips are.
use Rattle.std.specs.Prelude.{◌≡◌, ℕ, List, flat_map, slice_get, Some, Ok}
use Rattle.std.specs.List.{AllByRecursion}
use Rattle.driver_model.specs.FlipText.{flips_in}
use Rattle.driver_model.specs.Histories.{IsLegal}
use Rattle.driver_model.specs.declared.calls.Call.TheVariants as call
use Rattle.driver_model.specs.declared.items.Entry.{Entry}
use Rattle.driver_model.specs.declared.items.Item.{Item}
use Rattle.driver_model.specs.declared.items.Item.TheVariants.{Called}
use Rattle.driver_model.specs.declared.replies.Answer.TheVariants.{Name}
use Rattle.driver_model.specs.declared.replies.Flipped.{Flipped}

-- The history has the call that made the queue, and it named this window.
pub record IsWindowOf (history : List Item) (queue window : ℕ) : Type 0 where
  pub place : ℕ
  pub entry : Entry
  pub stands : slice_get history place ≡ Some (Called entry)
  pub device : ℕ
  pub made : entry.call ≡ call.QueueCreate device window
  pub named : entry.reply ≡ Ok (Name queue)

-- Each flip of a legal history is in the window that its queue was made for.
abbrev pub FlipsAreInTheirWindows : Type 0
FlipsAreInTheirWindows =
    (history : List Item) → IsLegal history → AllByRecursion (λ (flip : Flipped). IsWindowOf history flip.queue flip.window) (flat_map flips_in history)
