-- Scripts as texts, and which line of a text is the first that is none of a script.
use Rattle.std.specs.Prelude.{◌≡◌, ◌≢◌, ◌≤◌, ◌⊎◌, ℕ, ◌+◌, ◌*◌, true, List, [], ◌∷◌, ◌++◌, length, flat_map, codes, decimal}
use Rattle.clock_script.specs.declared.script.ScriptLine.{ScriptLine}
use Rattle.clock_script.specs.declared.script.ScriptLine.TheVariants.{Preempt, Tick}
use Rattle.clock_script.specs.Script.{IsLegal, may_follow}

abbrev pub line_feed : ℕ
line_feed = 10

-- numbers are in decimal and have no leading zero
abbrev pub line_text : ScriptLine → List ℕ
line_text (Tick time) = codes "tick " ++ decimal time
line_text (Preempt time stream) = codes "preempt " ++ (decimal time ++ 32 ∷ decimal stream)

-- each line is ended by a line feed
abbrev pub text_of : List ScriptLine → List ℕ
text_of lines = flat_map (λ line. line_text line ++ line_feed ∷ []) lines

-- the text is these lines; that of the last one may be missing
abbrev pub IsTextOf : List ScriptLine → List ℕ → Type 0
IsTextOf lines text = (text ≡ text_of lines) ⊎ (text ++ line_feed ∷ [] ≡ text_of lines)

-- The text is a script for so many streams, with these lines.
pub record IsScript (streams : ℕ) (lines : List ScriptLine) (text : List ℕ) : Type 0 where
  pub is : IsTextOf lines text
  pub legal : IsLegal streams lines

-- the text begins with this line, or is this line
abbrev pub BeginsWith : ScriptLine → List ℕ → Type 0
BeginsWith line text = ((rest : List ℕ) × (text ≡ line_text line ++ line_feed ∷ rest)) ⊎ (text ≡ line_text line)

-- The line with this number, from 1, is the first one that no script for so many streams has there: the lines before it begin
-- one, there is more text behind them, and it doesn't begin with a line that may follow them.
pub record IsFirstBad (streams number : ℕ) (text : List ℕ) : Type 0 where
  pub before : List ScriptLine
  pub rest : List ℕ
  pub numbered : number ≡ length before + 1
  pub legal : IsLegal streams before
  pub front : text ≡ text_of before ++ rest
  pub some : rest ≢ []
  pub bad : (line : ScriptLine) → may_follow streams before line ≡ true → ¬ BeginsWith line rest

-- A text is a script with one list of lines at most, or has one first bad line at most, and not both.
pub record HaveOneAnswer (streams : ℕ) : Type 0 where
  pub lines : (one other : List ScriptLine) (text : List ℕ) → IsScript streams one text → IsScript streams other text → one ≡ other
  pub numbers : (one other : ℕ) (text : List ℕ) → IsFirstBad streams one text → IsFirstBad streams other text → one ≡ other
  pub apart : (number : ℕ) (lines : List ScriptLine) (text : List ℕ) → IsScript streams lines text → ¬ IsFirstBad streams number text

-- how long a script for 16 streams can be: a million ticks of 25 bytes each, and 16 preemptions of 31 bytes each
abbrev pub longest_script : ℕ
longest_script = 1000000 * 25 + 16 * 31

abbrev pub ScriptsAreShort : Type 0
ScriptsAreShort = (streams : ℕ) (lines : List ScriptLine) (text : List ℕ) → streams ≤ 16 → IsScript streams lines text → length text ≤ longest_script
