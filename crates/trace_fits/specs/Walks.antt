-- Records that fit one another: a walk along them, from a new driver on.
use Rattle.std.specs.Prelude.{◌≡◌, ◌⊎◌, ℕ, suc, ◌<◌, List, [], ◌∷◌, map, Option, Some, None, Ok, ⊤}
use Rattle.driver_model.specs.Clock as clock
use Rattle.driver_model.specs.States.{State, empty_state}
use Rattle.driver_model.specs.declared.replies.Answer.TheVariants.{Flips}
use Rattle.driver_model.specs.declared.replies.Flipped.{Flipped}
use Rattle.trace_records.specs.Traces.{flip_event, record_at}
use Rattle.trace_records.specs.declared.record.Event.{Event}
use Rattle.trace_records.specs.declared.record.Event.TheVariants.{Advance}
use Rattle.trace_records.specs.declared.record.Record.{Record}
use Rattle.trace_fits.specs.Events.{Does}

-- Where a walk stands: the driver's state, the place of the last call, the records of the latest tick's flips that have to come, and
-- how many the tick's record told of that are to come.
pub record Walk : Type 0 where
  pub state : State
  pub last : Option ℕ
  pub owed : List Record
  pub told : ℕ

-- before the first record
abbrev pub start : Walk
start = record { state = empty_state; last = None; owed = []; told = 0 }

-- No flip is to come.
abbrev pub IsAtRest : Walk → Type 0
IsAtRest walk = (walk.owed ≡ []) × (walk.told ≡ 0)

-- places of calls rise
abbrev pub IsAfter : Option ℕ → ℕ → Type 0
IsAfter None place = ⊤
IsAfter (Some last) place = last < place

-- behind a call that isn't a tick
abbrev pub moved : ℕ → State → Walk
moved place state = record { state = state; last = Some place; owed = []; told = 0 }

-- behind a tick: its flips have to come, as many as its record tells
abbrev pub ticked : ℕ → State → List Flipped → ℕ → Walk
ticked place state flips told =
    record { state = state; last = Some place; owed = map (λ flip. record_at place (flip_event flip)) flips; told = told }

-- A call comes at this place, with the state that it leaves.
abbrev pub Calls : Walk → ℕ → Event → Walk → Type 0
Calls old place (Advance device told time) new =
    (state : State) × ((flips : List Flipped)
    × clock.Advance old.state (Ok (Flips flips)) state device time
    × (new ≡ ticked place state flips told))
Calls old place event new = (state : State) × Does old.state state event × (new ≡ moved place state)

-- The flip that has to come next, and that the tick told of, comes.
pub record FlipComes (old : Walk) (next : Record) (new : Walk) : Type 0 where
  pub owed : old.owed ≡ next ∷ new.owed
  pub told : old.told ≡ suc new.told
  pub state : new.state ≡ old.state
  pub last : new.last ≡ old.last

-- While flips are to come, no call does.
pub record CallComes (old : Walk) (next : Record) (new : Walk) : Type 0 where
  pub rests : IsAtRest old
  pub after : IsAfter old.last next.place
  pub calls : Calls old next.place next.event new

-- The record can come next, and the walk then stands there.
abbrev pub Follows : Walk → Record → Walk → Type 0
Follows old next new = FlipComes old next new ⊎ CallComes old next new

-- The records can come one behind the other.
unfoldable pub Goes : Walk → List Record → Walk → Type 0
Goes old [] new = new ≡ old
Goes old (next ∷ later) new = (between : Walk) × Follows old next between × Goes between later new

-- The records fit: they can come, and no flip is missing.
abbrev pub Fits : List Record → Type 0
Fits records = (end : Walk) × Goes start records end × IsAtRest end
