-- What a call of a stream adds to its pass, with the states before the item and behind it.
use Rattle.std.specs.Prelude.{◌≡◌, ℕ, [], ◌∷◌, ◌++◌}
use Rattle.device_lock.specs.Numbers.{Knows, items_of}
use Rattle.device_lock.specs.declared.view.View.{View}
use Rattle.driver_model.specs.Histories.{Happens, IsStateOf}
use Rattle.driver_model.specs.Passes.{Adds, caller_of}
use Rattle.driver_model.specs.States.{State}
use Rattle.driver_model.specs.declared.items.Item.{Item}

-- The pass gains the item; in the first state it happened, and in the second one it has.
pub record Gains (before : View Item) (item : Item) (after : View Item) (s t : State) : Type 0 where
  pub place : ℕ
  pub adds : Adds before item place after
  pub knows : Knows caller_of before
  pub state : IsStateOf (before.seen ++ adds.between) s
  pub behind : IsStateOf after.seen t

-- ---- what follows

-- A call leads from one state to another one.
abbrev pub CallsLeadOn : Type 0
CallsLeadOn =
    (before after : View Item) (item : Item) (place : ℕ)
    → Adds before item place after
    → Knows caller_of before
    → (s : State) × (t : State) × Gains before item after s t

abbrev pub GainedItemsHappen : Type 0
GainedItemsHappen =
    (before after : View Item) (item : Item) (s t : State) → Gains before item after s t → Happens s item t

-- What comes between is others'.
abbrev pub OthersComeBetween : Type 0
OthersComeBetween =
    (before after : View Item) (item : Item) (place : ℕ) (adds : Adds before item place after)
    → Knows caller_of before
    → items_of caller_of before.number adds.between ≡ []

-- The own items are one more.
abbrev pub OwnItemsGrow : Type 0
OwnItemsGrow =
    (before after : View Item) (item : Item) (s t : State)
    → Gains before item after s t
    → items_of caller_of after.number after.seen ≡ items_of caller_of before.number before.seen ++ item ∷ []
