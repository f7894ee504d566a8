-- What the rule means for any two passes, in the words of the history alone.
use Rattle.std.specs.Prelude.{◌≡◌, ◌⊎◌, ℕ, ◌<◌, false, List, Option}
use mathlib.Core.List.{IsPrefix}
use Rattle.atomic_table.specs.Table.{State}
use Rattle.device_lock.specs.Lists.{At, Each}
use Rattle.device_lock.specs.Numbers.{Keeps, places}
use Rattle.device_lock.specs.Views.{IsWhole}
use Rattle.device_lock.specs.Rule.{Rule}
use Rattle.device_lock.specs.declared.view.View.{View}

module _ {T I : Type 0} (caller : I → List ℕ) (stands : T → List I → Type 0) (at_rest : List I → Type 0) where
  -- of what two passes of one lock have seen, one is a beginning of the other
  abbrev pub OneHistory : Type 0
  OneHistory = (s : State (Option T) (View I)) → Rule caller stands at_rest s → (j k : ℕ) (v w : View I) → At s.views j v → At s.views k w → IsPrefix v.seen w.seen ⊎ IsPrefix w.seen v.seen

  -- The items of a pass's number, and of each number joined into it, are those that were logged with it, in that order.
  abbrev pub InOrder : Type 0
  InOrder = (s : State (Option T) (View I)) → Rule caller stands at_rest s → (j : ℕ) (v : View I) → At s.views j v → v.spent ≡ false → Keeps caller v v.seen

  -- no item has a number that was not given
  abbrev pub AllGiven : Type 0
  AllGiven = (s : State (Option T) (View I)) → Rule caller stands at_rest s → (j : ℕ) (v : View I) → At s.views j v → Each (λ x. 0 < places s.views (caller x)) v.seen

  -- no two passes have one number
  abbrev pub OneNumber : Type 0
  OneNumber = (s : State (Option T) (View I)) → Rule caller stands at_rest s → (j k : ℕ) (v w : View I) → At s.views j v → At s.views k w → v.spent ≡ false → w.spent ≡ false → v.number ≡ w.number → j ≡ k

  -- a pass with the whole share is the only one
  abbrev pub OnePass : Type 0
  OnePass = (s : State (Option T) (View I)) → Rule caller stands at_rest s → (j k : ℕ) (v w : View I) → At s.views j v → At s.views k w → v.spent ≡ false → w.spent ≡ false → IsWhole w.share → j ≡ k
