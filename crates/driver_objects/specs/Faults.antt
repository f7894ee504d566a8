-- Why an object wasn't added.
use Rattle.std.specs.Prelude.{ℕ, Result, Ok, Err, ⊤}
use Rattle.driver_objects.specs.declared.fault.AddFault.{AddFault}
use Rattle.driver_objects.specs.declared.fault.AddFault.TheVariants.{Full, OutOfMemory}

-- what holds of the numbers of a full list, where it is said to be full
abbrev pub IfFull : Result ℕ AddFault → (ℕ → ℕ → Type 0) → Type 0
IfFull (Ok name) P = ⊤
IfFull (Err (Full live given)) P = P live given
IfFull (Err OutOfMemory) P = ⊤
