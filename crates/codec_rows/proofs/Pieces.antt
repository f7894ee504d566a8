-- A text up to a place, and what is pushed next.
use Rattle.std.proofs.Common.{◌≡◌, ℕ, ◌+◌, ◌-◌, ◌<◌, List, [], ◌∷◌, ◌++◌, length, get_or, take, drop, sym, ◌∙◌, ap, subst}
use Rattle.std.proofs.lemmas.List.{take_more, length-drop}
use Rattle.std.proofs.Math.Seq.{take-add, take-length}
use Rattle.nal_units.specs.Finder.{StandsFor}
use Rattle.nal_units.specs.declared.finder.Finder.{Finder}

rest_is : (text : List ℕ) (i : ℕ) → take (length text - i) (drop i text) ≡ drop i text
rest_is text i = ap (λ n. take n (drop i text)) (sym (length-drop i text)) ∙ take-length (drop i text)

pub rest_len : (text : List ℕ) (i : ℕ) → length (take (length text - i) (drop i text)) ≡ length text - i
rest_len text i = ap length (rest_is text i) ∙ length-drop i text

-- the text up to the next place
pub byte_on : (text : List ℕ) (i : ℕ) → i < length text → take i text ++ get_or text i 0 ∷ [] ≡ take (i + 1) text
byte_on text i inside = sym (take_more text i 0 inside)

pub piece_on : (text : List ℕ) (i n : ℕ) → take i text ++ take n (take (length text - i) (drop i text)) ≡ take (i + n) text
piece_on text i n = ap (λ s. take i text ++ take n s) (rest_is text i) ∙ sym (take-add i n text)

pub stands_on : (f : Finder) (t next : List ℕ) → t ≡ next → StandsFor f t → StandsFor f next
stands_on f t next same stands = let P : List ℕ → Type 0 = λ x. StandsFor f x in subst P same stands
