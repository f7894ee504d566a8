-- A text that was read up to a place.
use Rattle.std.proofs.Common.{◌≡◌, ℕ, zero, suc, ◌+◌, ◌<◌, ◌≤◌, ◌^◌, ◌&&◌, Bool, not, eqb, inl, inr, List, [], ◌∷◌, ◌++◌, length, take, drop, true, refl, sym, ap, ap₂, subst, ◌∙◌, arith}
use Rattle.std.proofs.lemmas.Bool.Decides.{nat_tests}
use Rattle.std.proofs.lemmas.Grind.{flat_map-append}
use Rattle.std.proofs.lemmas.List.{append_assoc, append-nil, drop-drop, length-drop, take_all}
use Rattle.std.specs.Prelude.{codes, decimal}
use Rattle.clock_script.specs.Lines.{IsInRange}
use Rattle.clock_script.specs.Script.{IsInOrder, IsLegal, may_follow}
use Rattle.clock_script.specs.Texts.{BeginsWith, IsFirstBad, IsScript, line_text, text_of}
use Rattle.clock_script.specs.declared.script.ScriptLine.{ScriptLine}
use Rattle.clock_script.specs.declared.script.ScriptLine.TheVariants.{Preempt, Tick}
use Rattle.clock_script.proofs.LineTexts.{both, in_range}
use Rattle.clock_script.proofs.Parts.{IsFirst, Lacks, around, parted, whole}
use Rattle.clock_script.proofs.Preemptions.{decimal_lacks}

-- ---- lines have no line feed

lacks_cons : (byte x : ℕ) (xs : List ℕ) → (x ≡ byte → ⊥) → Lacks byte xs → Lacks byte (x ∷ xs)
lacks_cons byte x xs other lacks zero within is = other is
lacks_cons byte x xs other lacks (suc k) within is = lacks k (omega (arith, within)) is

lacks_append : (byte : ℕ) (xs ys : List ℕ) → Lacks byte xs → Lacks byte ys → Lacks byte (xs ++ ys)
lacks_append byte [] ys front back = back
lacks_append byte (x ∷ xs) ys front back = lacks_cons byte x (xs ++ ys) (front 0 (omega arith)) (lacks_append byte xs ys (λ k within. front (suc k) (omega (arith, within))) back)

abbrev is_lacking : ℕ → List ℕ → Bool
is_lacking byte [] = true
is_lacking byte (x ∷ xs) = not (eqb x byte) && is_lacking byte xs

differs : (x byte : ℕ) → not (eqb x byte) ≡ true → x ≡ byte → ⊥
differs x byte is same = grind (arith, nat_tests)

lacks_by_test : (byte : ℕ) (xs : List ℕ) → is_lacking byte xs ≡ true → Lacks byte xs
lacks_by_test byte [] is = λ k within e. omega (arith, within)
lacks_by_test byte (x ∷ xs) is = let p = both _ _ is in lacks_cons byte x xs (differs x byte p.0) (lacks_by_test byte xs p.1)

pub line_lacks : (line : ScriptLine) → IsInRange line → Lacks 10 (line_text line)
line_lacks (Tick time) range = lacks_append 10 (codes "tick ") (decimal time) (lacks_by_test 10 (codes "tick ") refl) (decimal_lacks 10 time (omega arith) range)
line_lacks (Preempt time stream) range =
    lacks_append 10 (codes "preempt ") (decimal time ++ 32 ∷ decimal stream) (lacks_by_test 10 (codes "preempt ") refl)
    (lacks_append 10 (decimal time) (32 ∷ decimal stream) (decimal_lacks 10 time (omega arith) range.0)
    (lacks_cons 10 32 (decimal stream) (λ e. omega (arith, e)) (decimal_lacks 10 stream (omega arith) (omega (arith, range.1)))))

-- ---- lines in order, with one more

in_order_push : (streams : ℕ) (earlier lines : List ScriptLine) (line : ScriptLine) → IsInOrder streams earlier lines → may_follow streams (earlier ++ lines) line ≡ true → IsInOrder streams earlier (lines ++ line ∷ [])
unfolding IsInOrder
in_order_push streams earlier [] line before may = (subst (λ (l : List ScriptLine). may_follow streams l line ≡ true) (append-nil earlier) may, tt)
in_order_push streams earlier (one ∷ lines) line before may =
    (before.0, in_order_push streams (earlier ++ one ∷ []) lines line before.1 (subst (λ (l : List ScriptLine). may_follow streams l line ≡ true) (sym (append_assoc earlier (one ∷ []) lines)) may))

text_push : (lines : List ScriptLine) (line : ScriptLine) → text_of (lines ++ line ∷ []) ≡ text_of lines ++ (line_text line ++ 10 ∷ [])
text_push lines line = flat_map-append (λ one. line_text one ++ 10 ∷ []) lines (line ∷ []) ∙ ap (λ l. text_of lines ++ l) (append-nil (line_text line ++ 10 ∷ []))

-- ---- up to a place

pub record ReadUpTo (streams : ℕ) (text : List ℕ) (at : ℕ) (lines : List ScriptLine) : Type 0 where
  pub within : at ≤ length text
  pub front : text ≡ text_of lines ++ drop at text
  pub legal : IsLegal streams lines

pub read_nothing : (streams : ℕ) (text : List ℕ) → ReadUpTo streams text 0 []
unfolding IsInOrder
read_nothing streams text = record { within = omega arith; front = refl; legal = tt }

-- the line that begins the rest is the part before its first line feed
front_is : (rest : List ℕ) (place : ℕ) (line : ScriptLine) → IsInRange line → IsFirst 10 rest place → BeginsWith line rest → take place rest ≡ line_text line
front_is rest place line range first (inl begins) =
    let p = parted 10 (line_text line) begins.0 place (line_lacks line range) (subst (λ (t : List ℕ). IsFirst 10 t place) begins.1 first) in
    ap (take place) begins.1 ∙ p.front_is
front_is rest place line range first (inr is) =
    let end = whole 10 (line_text line) place (line_lacks line range) (subst (λ (t : List ℕ). IsFirst 10 t place) is first) in
    ap (take place) is ∙ (ap (λ n. take n (line_text line)) end ∙ take_all (length (line_text line)) (line_text line) (omega arith))

pub first_bad : (streams : ℕ) (text : List ℕ) (at place : ℕ) (lines : List ScriptLine) → streams ≤ 2 ^ 32 → at < length text → ReadUpTo streams text at lines → IsFirst 10 (drop at text) place
    → ((line : ScriptLine) → may_follow streams lines line ≡ true → take place (drop at text) ≡ line_text line → ⊥) → IsFirstBad streams (length lines + 1) text
first_bad streams text at place lines few within r first bad = record {
  before = lines;
  rest = drop at text;
  numbered = refl;
  legal = r.legal;
  front = r.front;
  some = λ none. omega (arith, ap length none, length-drop at text, within);
  bad = λ line may begins. bad line may (front_is (drop at text) place line (in_range streams lines line few may) first begins);
}

pub read_last : (streams : ℕ) (text : List ℕ) (at place : ℕ) (lines : List ScriptLine) (line : ScriptLine) → ReadUpTo streams text at lines → may_follow streams lines line ≡ true
    → take place (drop at text) ≡ line_text line → place ≡ length (drop at text) → IsScript streams (lines ++ line ∷ []) text
read_last streams text at place lines line r may is end =
    let rest : drop at text ≡ line_text line = sym (take_all place (drop at text) (omega (arith, end))) ∙ is in
    record {
      is = inr (ap (λ t. t ++ 10 ∷ []) (r.front ∙ ap (λ l. text_of lines ++ l) rest) ∙ (append_assoc (text_of lines) (line_text line) (10 ∷ []) ∙ sym (text_push lines line)));
      legal = in_order_push streams [] lines line r.legal may;
    }

joined : (xs ys zs : List ℕ) → xs ++ (ys ++ 10 ∷ zs) ≡ (xs ++ (ys ++ 10 ∷ [])) ++ zs
joined xs ys zs = sym (append_assoc xs (ys ++ 10 ∷ []) zs ∙ ap (λ l. xs ++ l) (append_assoc ys (10 ∷ []) zs))

pub read_more : (streams : ℕ) (text : List ℕ) (at place : ℕ) (lines : List ScriptLine) (line : ScriptLine) → ReadUpTo streams text at lines → IsFirst 10 (drop at text) place → may_follow streams lines line ≡ true
    → take place (drop at text) ≡ line_text line → place < length (drop at text) → ReadUpTo streams text (at + (place + 1)) (lines ++ line ∷ [])
read_more streams text at place lines line r first may is inside =
    let rest : drop at text ≡ line_text line ++ 10 ∷ drop (place + 1) (drop at text) = around (drop at text) place inside ∙ ap₂ (λ l b. l ++ b ∷ drop (place + 1) (drop at text)) is (first.there inside) in
    let behind : drop (place + 1) (drop at text) ≡ drop (at + (place + 1)) text = drop-drop (place + 1) at text in
    record {
      within = omega (arith, inside, length-drop at text);
      front = r.front ∙ (ap (λ l. text_of lines ++ l) (rest ∙ ap (λ l. line_text line ++ 10 ∷ l) behind) ∙ joined (text_of lines) (line_text line) (drop (at + (place + 1)) text) ∙ ap (λ l. l ++ drop (at + (place + 1)) text) (sym (text_push lines line)));
      legal = in_order_push streams [] lines line r.legal may;
    }
