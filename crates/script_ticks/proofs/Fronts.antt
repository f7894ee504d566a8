-- What is longer than any script is decided by its front.
use Rattle.std.proofs.Common.{◌≡◌, inl, inr, ℕ, ◌+◌, ◌≤◌, true, List, [], ◌∷◌, ◌++◌, length, take, drop, refl, ap, sym, ◌∙◌, subst, arith}
use Rattle.std.proofs.Math.Seq.{take-append_seam}
use Rattle.std.proofs.lemmas.Grind.{flat_map-append}
use Rattle.std.proofs.lemmas.List.{append_assoc, append-nil, length-append, take-append-drop, take-append-le}
use Rattle.clock_script.specs.Script.{IsInOrder, may_follow}
use Rattle.clock_script.specs.Texts.{BeginsWith, line_feed, line_text, longest_script, text_of}
use Rattle.clock_script.specs.declared.script.ScriptLine.{ScriptLine}
use Rattle.clock_script.proofs.ShortScripts.{scripts_are_short}
use Rattle.script_ticks.specs.Laws.{FrontsDecide}

-- a line more that may follow
one_more : (streams : ℕ) (earlier lines : List ScriptLine) (line : ScriptLine) → IsInOrder streams earlier lines → may_follow streams (earlier ++ lines) line ≡ true → IsInOrder streams earlier (lines ++ line ∷ [])
unfolding IsInOrder
one_more streams earlier [] line order may = (subst (λ (l : List ScriptLine). may_follow streams l line ≡ true) (append-nil earlier) may, tt)
one_more streams earlier (first ∷ lines) line order may =
    (order.0, one_more streams (earlier ++ first ∷ []) lines line order.1 (subst (λ (l : List ScriptLine). may_follow streams l line ≡ true) (sym (append_assoc earlier (first ∷ []) lines)) may))

abbrev with_feed : ScriptLine → List ℕ
with_feed line = line_text line ++ line_feed ∷ []

-- the whole line is within what a script can have
line_fits : (streams : ℕ) (before : List ScriptLine) (line : ScriptLine) → streams ≤ 16 → IsInOrder streams [] before → may_follow streams before line ≡ true → length (text_of before) + length (with_feed line) ≤ longest_script
line_fits streams before line few legal may =
    let short = scripts_are_short streams (before ++ line ∷ []) (text_of (before ++ line ∷ [])) few (record { is = inl refl; legal = one_more streams [] before line legal may }) in
    let parts : text_of (before ++ line ∷ []) ≡ text_of before ++ (with_feed line ++ []) = flat_map-append (λ (l : ScriptLine). line_text l ++ line_feed ∷ []) before (line ∷ []) in
    omega (arith, short, ap length parts, length-append (text_of before) (with_feed line ++ []), ap length (append-nil (with_feed line)))

-- a text that begins with the whole line does so with its front that is no shorter
begins_in_front : (line : ScriptLine) (rest more : List ℕ) → length (with_feed line) ≤ length rest → BeginsWith line (rest ++ more) → BeginsWith line rest
begins_in_front line rest more fits (inl (later, e)) =
    let n : ℕ = length (with_feed line) in
    let whole : rest ++ more ≡ with_feed line ++ later = e ∙ sym (append_assoc (line_text line) (line_feed ∷ []) later) in
    let front : take n rest ≡ with_feed line = sym (take-append-le n rest more fits) ∙ (ap (take n) whole ∙ take-append_seam (with_feed line) later) in
    inl (drop n rest, sym (take-append-drop n rest) ∙ (ap (λ l. l ++ drop n rest) front ∙ append_assoc (line_text line) (line_feed ∷ []) (drop n rest)))
begins_in_front line rest more fits (inr e) = absurd (omega (arith, fits, ap length e, length-append rest more, length-append (line_text line) (line_feed ∷ [])))

pub fronts_decide : FrontsDecide
fronts_decide streams number front more few long bad = record {
  before = bad.before;
  rest = bad.rest ++ more;
  numbered = bad.numbered;
  legal = bad.legal;
  front = ap (λ l. l ++ more) bad.front ∙ append_assoc (text_of bad.before) bad.rest more;
  some = λ none. bad.some (first_empty bad.rest more none);
  bad = λ line may begins.
      let fits = line_fits streams bad.before line few bad.legal may in
      let within : length (with_feed line) ≤ length bad.rest = omega (arith, fits, long, ap length bad.front, length-append (text_of bad.before) bad.rest) in
      bad.bad line may (begins_in_front line bad.rest more within begins);
} where
  first_empty : (xs ys : List ℕ) → xs ++ ys ≡ [] → xs ≡ []
  first_empty [] ys e = refl
  first_empty (x ∷ xs) ys e = absurd (omega (arith, ap length e))
