-- What is said of a text that is no script.
use Rattle.std.specs.Prelude.{ℕ, List}
use Rattle.clock_script.specs.Texts.{IsFirstBad}
use Rattle.clock_script.specs.declared.reading.ScriptFault.{ScriptFault}
use Rattle.clock_script.specs.declared.reading.ScriptFault.TheVariants.{Line, OutOfMemory}

-- a line is named exactly where it is the first bad one; for want of memory nothing is said of the text
abbrev pub Blames : ℕ → List ℕ → ScriptFault → Type 0
Blames streams text (Line number) = IsFirstBad streams number text
Blames streams text OutOfMemory = Unit {0}
