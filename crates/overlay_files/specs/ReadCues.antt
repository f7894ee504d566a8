-- What is read of a line of a schedule.
use Rattle.std.specs.Prelude.{◌≡◌, ℕ, ◌<◌, ◌≤◌, ◌^◌, List, ◌++◌, All, length, drop}
use Rattle.overlay_files.specs.Cues.{Cue, IsCue, most_cues}
use Rattle.overlay_files.specs.Schedules.{numbers_text}

abbrev pub IsSmall : ℕ → Type 0
IsSmall n = n < 2 ^ 63

-- the text begins with these numbers, each with a space behind it, and goes on at `end`
pub record IsNumbered (text numbers : List ℕ) (end : ℕ) : Type 0 where
  pub small : All IsSmall numbers
  pub within : end ≤ length text
  pub is : text ≡ numbers_text numbers ++ drop end text

-- the line may stand behind so many others
abbrev pub MayFollow : ℕ → Cue → Type 0
MayFollow count c = (count < most_cues) × IsCue c
