-- Histories: what was called and answered, one item after the other. A legal one is that of a driver that does one thing at a time.
use Rattle.std.specs.Prelude.{◌≡◌, true, List, [], ◌∷◌}
use Rattle.driver_model.specs.States.{State, counted, empty_state, has_note, without_note}
use Rattle.driver_model.specs.Steps.{Step}
use Rattle.driver_model.specs.declared.items.Item.{Item}
use Rattle.driver_model.specs.declared.items.Item.TheVariants.{Called, Ended}

-- One item: a call's step, or the end of a job, whose note is there and goes. Each item is counted.
abbrev pub Happens : State → Item → State → Type 0
Happens old (Called entry) new = (after : State) × Step old entry.caller entry.call entry.reply after × (new ≡ counted after)
Happens old (Ended mark) new =
    (has_note old mark.caller mark.place ≡ true) × (new ≡ counted (without_note old mark.caller mark.place))

-- The items lead from one state to the other, each from the state that those before it left.
unfoldable pub Leads : State → List Item → State → Type 0
Leads old [] new = new ≡ old
Leads old (item ∷ later) new = (between : State) × Happens old item between × Leads between later new

-- the state to which a history leads
abbrev pub IsStateOf : List Item → State → Type 0
IsStateOf history s = Leads empty_state history s

-- A history is legal where it leads to some state.
abbrev pub IsLegal : List Item → Type 0
IsLegal history = (s : State) × IsStateOf history s
