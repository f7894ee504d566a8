-- Lines as they are read.
use Rattle.std.specs.Prelude.{◌≡◌, ◌≢◌, ℕ, ◌<◌, ◌≤◌, ◌^◌, List, ◌∷◌, ◌++◌, length, slice_index, decimal, nat_lt, if◌then◌else◌, Option, None, Some}
use Rattle.clock_script.specs.declared.script.ScriptLine.{ScriptLine}
use Rattle.clock_script.specs.declared.script.ScriptLine.TheVariants.{Preempt, Tick}

-- the numbers of the line fit a time and a stream
abbrev pub IsInRange : ScriptLine → Type 0
IsInRange (Tick time) = time < 2 ^ 63
IsInRange (Preempt time stream) = (time < 2 ^ 63) × (stream < 2 ^ 32)

-- a line by its operands
abbrev pub IsTickOf : ScriptLine → List ℕ → Type 0
IsTickOf line operands = (time : ℕ) × (time < 2 ^ 63) × (line ≡ Tick time) × (operands ≡ decimal time)

abbrev pub IsPreemptionOf : ScriptLine → List ℕ → Type 0
IsPreemptionOf line operands = (time : ℕ) × (stream : ℕ) × (time < 2 ^ 63) × (stream < 2 ^ 32) × (line ≡ Preempt time stream) × (operands ≡ decimal time ++ 32 ∷ decimal stream)

-- a preemption from its numbers, where there are both and the second one fits a stream
abbrev pub preemption : Option ℕ → Option ℕ → Option ScriptLine
preemption None stream = None
preemption (Some time) None = None
preemption (Some time) (Some stream) = if nat_lt stream (2 ^ 32) then Some (Preempt time stream) else None

-- one byte, or up to nineteen of which the first isn't the digit 0
pub record HasNumberForm (text : List ℕ) : Type 0 where
  pub some : 0 < length text
  pub few : length text ≤ 19
  pub first : 1 < length text → slice_index text 0 ≢ 48
