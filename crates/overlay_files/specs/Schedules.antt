-- Schedules as texts, and which line of a text is the first that is none of a schedule.
use Rattle.std.specs.Prelude.{◌≡◌, ◌≢◌, ◌<◌, ◌≤◌, ◌⊎◌, ℕ, ◌+◌, List, [], ◌∷◌, ◌++◌, All, length, flat_map, codes, decimal}
use Rattle.overlay_files.specs.declared.showing.Showing.{Showing}
use Rattle.overlay_files.specs.Cues.{Cue, IsCue, most_cues}

-- each number in decimal without leading zeros, with a space behind it
abbrev pub numbers_text : List ℕ → List ℕ
numbers_text numbers = flat_map (λ n. decimal n ++ 32 ∷ []) numbers

abbrev pub numbers_of : Showing → List ℕ
numbers_of s = s.from ∷ s.to ∷ s.stream ∷ s.x ∷ s.y ∷ []

-- a line without its line feed
abbrev pub cue_text : Cue → List ℕ
cue_text c = codes "show " ++ (numbers_text (numbers_of c.showing) ++ c.name)

-- each line is ended by a line feed
abbrev pub cues_text : List Cue → List ℕ
cues_text cues = flat_map (λ c. cue_text c ++ 10 ∷ []) cues

-- the text is these lines; the line feed of the last one may be missing
abbrev pub IsCuesText : List Cue → List ℕ → Type 0
IsCuesText cues text = (text ≡ cues_text cues) ⊎ (text ++ 10 ∷ [] ≡ cues_text cues)

-- The text is a schedule with these lines.
pub record IsSchedule (cues : List Cue) (text : List ℕ) : Type 0 where
  pub is : IsCuesText cues text
  pub each : All IsCue cues
  pub few : length cues ≤ most_cues

-- the text begins with this line, or is this line
abbrev pub BeginsWithCue : Cue → List ℕ → Type 0
BeginsWithCue c text = ((rest : List ℕ) × (text ≡ cue_text c ++ 10 ∷ rest)) ⊎ (text ≡ cue_text c)

-- The line with this number, from 1, is the first one that no schedule has there: the lines before it begin one, there is more
-- text behind them, and it begins with no further line.
pub record IsFirstBadCue (number : ℕ) (text : List ℕ) : Type 0 where
  pub before : List Cue
  pub rest : List ℕ
  pub numbered : number ≡ length before + 1
  pub each : All IsCue before
  pub few : length before ≤ most_cues
  pub front : text ≡ cues_text before ++ rest
  pub some : rest ≢ []
  pub bad : (c : Cue) → length before < most_cues → IsCue c → ¬ BeginsWithCue c rest

-- A text is a schedule with one list of lines at most, or has one first bad line at most, and not both.
pub record HaveOneSchedule : Type 0 where
  pub cues : (one other : List Cue) (text : List ℕ) → IsSchedule one text → IsSchedule other text → one ≡ other
  pub numbers : (one other : ℕ) (text : List ℕ) → IsFirstBadCue one text → IsFirstBadCue other text → one ≡ other
  pub apart : (number : ℕ) (cues : List Cue) (text : List ℕ) → IsSchedule cues text → ¬ IsFirstBadCue number text
