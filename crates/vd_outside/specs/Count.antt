-- Counts of faults: the cause of an answer that blames the outside.
use Rattle.std.specs.Prelude.{ℕ, ◌+◌, ◌-◌, ◌^◌, ◌≤◌, min}

-- A count, kept in a u64, rose between two moments. One that stands at its type's end counts as risen.
abbrev pub Rose : ℕ → ℕ → Type 0
Rose before now = min (before + 1) (2 ^ 64 - 1) ≤ now

-- An answer that blames the outside has its cause: it comes only where the count of faults rose.
abbrev pub HasCause : (blames : Type 0) → ℕ → ℕ → Type 0
HasCause blames before now = blames → Rose before now

-- one fault more, as a u64 counts
abbrev pub raised : ℕ → ℕ
raised count = min (count + 1) (2 ^ 64 - 1)
