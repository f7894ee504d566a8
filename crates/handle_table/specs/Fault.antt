-- Why an insert took no value.
use Rattle.std.specs.Prelude.{ℕ, ⊤, Result, Ok, Err}
use Rattle.handle_table.specs.declared.fault.InsertFault.{InsertFault}
use Rattle.handle_table.specs.declared.fault.InsertFault.TheVariants.{Full, OutOfMemory}

module _ {T : Type 0} where
  -- the value that comes back
  abbrev pub returned : InsertFault T → T
  returned (Full value live given) = value
  returned (OutOfMemory value) = value

  abbrev pub IsFull : Result ℕ (InsertFault T) → Type 0
  IsFull (Ok name) = ⊥
  IsFull (Err (Full value live given)) = ⊤
  IsFull (Err (OutOfMemory value)) = ⊥

  -- what holds of the numbers of a full table, where it is said to be full
  abbrev pub IfFull : Result ℕ (InsertFault T) → (ℕ → ℕ → Type 0) → Type 0
  IfFull (Ok name) P = ⊤
  IfFull (Err (Full value live given)) P = P live given
  IfFull (Err (OutOfMemory value)) P = ⊤
