-- The lines of the program's grammar, by the bytes of their words. The program's own name isn't among them.
use Rattle.std.specs.Prelude.{◌≡◌, ◌≢◌, ℕ, List, [], ◌∷◌, map}
use Rattle.std.specs.Prelude.{String, codes}
use Rattle.std.specs.String.{string_bytes}
use Rattle.vdplay.specs.declared.command_line.Command.{Command}
use Rattle.vdplay.specs.declared.command_line.Command.TheVariants.{Decode, Inspect}

-- the bytes of each word
abbrev pub texts : {A : Type 0} → List (String A) → List (List ℕ)
texts words = map string_bytes words

-- the name of a file: it isn't empty and doesn't begin with a hyphen
abbrev pub IsFileName : List ℕ → Type 0
IsFileName [] = ⊥
IsFileName (first ∷ rest) = first ≢ 45

-- the word that asks for a command
abbrev pub word_of : Command → List ℕ
word_of Decode = codes "decode"
word_of Inspect = codes "inspect"

-- decode FILE, or inspect FILE
abbrev pub IsLine : List (List ℕ) → Command → List ℕ → Type 0
IsLine words command file = (words ≡ word_of command ∷ file ∷ []) × IsFileName file

-- a line outside the grammar
abbrev pub IsNoLine : List (List ℕ) → Type 0
IsNoLine words = (command : Command) (file : List ℕ) → IsLine words command file → ⊥
