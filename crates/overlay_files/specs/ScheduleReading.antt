-- What is said of a text that isn't read as a schedule.
use Rattle.std.specs.Prelude.{ℕ, List}
use Rattle.overlay_files.specs.Schedules.{IsFirstBadCue}
use Rattle.overlay_files.specs.declared.scheduling.ScheduleFault.{ScheduleFault}
use Rattle.overlay_files.specs.declared.scheduling.ScheduleFault.TheVariants.{Line, OutOfMemory}

-- a line is named exactly where it is the first bad one; for want of memory nothing is said of the text
abbrev pub BlamesLine : List ℕ → ScheduleFault → Type 0
BlamesLine text (Line number) = IsFirstBadCue number text
BlamesLine text OutOfMemory = Unit {0}
