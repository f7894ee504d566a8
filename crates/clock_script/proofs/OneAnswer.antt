-- A text has one answer.
use Rattle.std.proofs.Common.{◌≡◌, ℕ, ◌+◌, ◌≤◌, ◌^◌, ◌⊎◌, inl, inr, List, [], ◌∷◌, ◌++◌, length, take, drop, get_or, true, refl, sym, ap, subst, ◌∙◌, arith}
use Rattle.std.proofs.lemmas.List.{append_assoc, append-nil, length-append}
use Rattle.std.proofs.Math.ListN.{get_or-append}
use Rattle.std.proofs.Math.Seq.{drop-append-add, get_or-append_seam, take-append_seam}
use Rattle.clock_script.specs.Lines.{IsInRange}
use Rattle.clock_script.specs.Script.{IsInOrder, IsLegal, may_follow}
use Rattle.clock_script.specs.Texts.{BeginsWith, HaveOneAnswer, IsFirstBad, IsScript, line_text, text_of}
use Rattle.clock_script.specs.declared.script.ScriptLine.{ScriptLine}
use Rattle.clock_script.specs.declared.script.ScriptLine.TheVariants.{Preempt, Tick}
use Rattle.clock_script.proofs.LineTexts.{in_range, one_line}
use Rattle.clock_script.proofs.Parts.{IsFirst, Lacks, parted}
use Rattle.clock_script.proofs.ReadUpTo.{line_lacks}

abbrev with_feed : ScriptLine → List ℕ
with_feed line = line_text line ++ 10 ∷ []

first_at : (front back : List ℕ) → Lacks 10 front → IsFirst 10 (front ++ 10 ∷ back) (length front)
first_at front back lacks = record {
  within = omega (arith, length-append front (10 ∷ back));
  before = λ k less is. lacks k less (sym (get_or-append front (10 ∷ back) 0 k less) ∙ is);
  there = λ inside. get_or-append_seam front 10 back 0;
}

-- texts that begin with lines begin with the same one
same_front : (x y : ScriptLine) (r s : List ℕ) → IsInRange x → IsInRange y → line_text x ++ 10 ∷ r ≡ line_text y ++ 10 ∷ s → (x ≡ y) × (r ≡ s)
same_front x y r s in_x in_y e =
    let n : ℕ = length (line_text x) in
    let first : IsFirst 10 (line_text y ++ 10 ∷ s) n = subst (λ (l : List ℕ). IsFirst 10 l n) e (first_at (line_text x) r (line_lacks x in_x)) in
    let p = parted 10 (line_text y) s n (line_lacks y in_y) first in
    let front : line_text x ≡ line_text y = sym (take-append_seam (line_text x) (10 ∷ r)) ∙ (ap (take n) e ∙ p.front_is) in
    let back : r ≡ s = sym (drop-append-add (line_text x) (10 ∷ r) 1) ∙ (ap (drop (n + 1)) e ∙ p.back_is) in
    (one_line x y in_x in_y front, back)

-- the longer list is the shorter one and more lines
record Longer (streams : ℕ) (earlier longer shorter : List ScriptLine) (r s : List ℕ) : Type 0 where
  next : ScriptLine
  more : List ScriptLine
  is : longer ≡ shorter ++ next ∷ more
  may : may_follow streams (earlier ++ shorter) next ≡ true
  rest : s ≡ line_text next ++ 10 ∷ (text_of more ++ r)

abbrev Compared : ℕ → List ScriptLine → List ScriptLine → List ScriptLine → List ℕ → List ℕ → Type 0
Compared streams earlier xs ys r s = ((xs ≡ ys) × (r ≡ s)) ⊎ (Longer streams earlier xs ys r s ⊎ Longer streams earlier ys xs s r)

unrolled : (x : ScriptLine) (xs : List ScriptLine) (r : List ℕ) → text_of (x ∷ xs) ++ r ≡ line_text x ++ 10 ∷ (text_of xs ++ r)
unrolled x xs r = append_assoc (with_feed x) (text_of xs) r ∙ append_assoc (line_text x) (10 ∷ []) (text_of xs ++ r)

one_more : (streams : ℕ) (earlier longer shorter : List ScriptLine) (x : ScriptLine) (r s : List ℕ) → Longer streams (earlier ++ x ∷ []) longer shorter r s → Longer streams earlier (x ∷ longer) (x ∷ shorter) r s
one_more streams earlier longer shorter x r s l = record {
  next = l.next;
  more = l.more;
  is = ap (λ ys. x ∷ ys) l.is;
  may = subst (λ (ys : List ScriptLine). may_follow streams ys l.next ≡ true) (append_assoc earlier (x ∷ []) shorter) l.may;
  rest = l.rest;
}

behind : (streams : ℕ) (earlier xs ys : List ScriptLine) (x : ScriptLine) (r s : List ℕ) → Compared streams (earlier ++ x ∷ []) xs ys r s → Compared streams earlier (x ∷ xs) (x ∷ ys) r s
behind streams earlier xs ys x r s (inl same) = inl (ap (λ l. x ∷ l) same.0, same.1)
behind streams earlier xs ys x r s (inr (inl l)) = inr (inl (one_more streams earlier xs ys x r s l))
behind streams earlier xs ys x r s (inr (inr l)) = inr (inr (one_more streams earlier ys xs x s r l))

compared : (streams : ℕ) (earlier xs ys : List ScriptLine) (r s : List ℕ) → streams ≤ 2 ^ 32 → IsInOrder streams earlier xs → IsInOrder streams earlier ys → text_of xs ++ r ≡ text_of ys ++ s → Compared streams earlier xs ys r s
unfolding IsInOrder
compared streams earlier [] [] r s few a b e = inl (refl, e)
compared streams earlier [] (y ∷ ys) r s few a b e = inr (inr (record {
  next = y;
  more = ys;
  is = refl;
  may = subst (λ (l : List ScriptLine). may_follow streams l y ≡ true) (sym (append-nil earlier)) b.0;
  rest = e ∙ unrolled y ys s;
}))
compared streams earlier (x ∷ xs) [] r s few a b e = inr (inl (record {
  next = x;
  more = xs;
  is = refl;
  may = subst (λ (l : List ScriptLine). may_follow streams l x ≡ true) (sym (append-nil earlier)) a.0;
  rest = sym e ∙ unrolled x xs r;
}))
compared streams earlier (x ∷ xs) (y ∷ ys) r s few a b e =
    let same = same_front x y (text_of xs ++ r) (text_of ys ++ s) (in_range streams earlier x few a.0) (in_range streams earlier y few b.0) (sym (unrolled x xs r) ∙ (e ∙ unrolled y ys s)) in
    let others : IsInOrder streams (earlier ++ x ∷ []) ys = subst (λ (l : ScriptLine). IsInOrder streams (earlier ++ l ∷ []) ys) (sym same.0) b.1 in
    let here = behind streams earlier xs ys x r s (compared streams (earlier ++ x ∷ []) xs ys r s few a.1 others same.1) in
    subst (λ (l : ScriptLine). Compared streams earlier (x ∷ xs) (l ∷ ys) r s) same.0 here

-- ---- lines aren't empty and don't begin with a line feed

not_nothing : (line : ScriptLine) (r s : List ℕ) → s ≡ line_text line ++ 10 ∷ r → s ≡ [] → ⊥
not_nothing (Tick time) r s is none = omega (arith, ap length (sym none ∙ is))
not_nothing (Preempt time stream) r s is none = omega (arith, ap length (sym none ∙ is))

not_feed : (line : ScriptLine) (r s : List ℕ) → s ≡ line_text line ++ 10 ∷ r → s ≡ 10 ∷ [] → ⊥
not_feed (Tick time) r s is feed = omega (arith, ap (λ l. get_or l 0 0) (sym feed ∙ is))
not_feed (Preempt time stream) r s is feed = omega (arith, ap (λ l. get_or l 0 0) (sym feed ∙ is))

-- ---- one list of lines

both_whole : (streams : ℕ) (one other : List ScriptLine) (r : List ℕ) → streams ≤ 2 ^ 32 → IsLegal streams one → IsLegal streams other → text_of one ++ [] ≡ text_of other ++ [] → one ≡ other
both_whole streams one other r few a b e = elim (compared streams [] one other [] [] few a b e) [
  | inl same ↦ same.0
  | inr l ↦ elim l [ inl more ↦ absurd (not_nothing more.next _ _ more.rest refl) | inr more ↦ absurd (not_nothing more.next _ _ more.rest refl) ]
]

one_whole : (streams : ℕ) (one other : List ScriptLine) → streams ≤ 2 ^ 32 → IsLegal streams one → IsLegal streams other → text_of one ++ 10 ∷ [] ≡ text_of other ++ [] → ⊥
one_whole streams one other few a b e = elim (compared streams [] one other (10 ∷ []) [] few a b e) [
  | inl same ↦ omega (arith, ap length same.1)
  | inr l ↦ elim l [ inl more ↦ not_nothing more.next _ _ more.rest refl | inr more ↦ not_feed more.next _ _ more.rest refl ]
]

bare : (text : List ℕ) (lines : List ScriptLine) → text ≡ text_of lines → text ≡ text_of lines ++ []
bare text lines e = e ∙ sym (append-nil (text_of lines))

one_list : (streams : ℕ) (one other : List ScriptLine) (text : List ℕ) → streams ≤ 2 ^ 32 → IsScript streams one text → IsScript streams other text → one ≡ other
one_list streams one other text few a b = elim a.is [
  | inl e ↦ elim b.is [
    | inl f ↦ both_whole streams one other [] few a.legal b.legal (sym (bare text one e) ∙ bare text other f)
    | inr f ↦ absurd (one_whole streams one other few a.legal b.legal (ap (λ t. t ++ 10 ∷ []) (sym e) ∙ bare (text ++ 10 ∷ []) other f))
  ]
  | inr e ↦ elim b.is [
    | inl f ↦ absurd (one_whole streams other one few b.legal a.legal (ap (λ t. t ++ 10 ∷ []) (sym f) ∙ bare (text ++ 10 ∷ []) one e))
    | inr f ↦ both_whole streams one other [] few a.legal b.legal (sym (bare (text ++ 10 ∷ []) one e) ∙ bare (text ++ 10 ∷ []) other f)
  ]
]

-- ---- one bad line

one_number : (streams one other : ℕ) (text : List ℕ) → streams ≤ 2 ^ 32 → IsFirstBad streams one text → IsFirstBad streams other text → one ≡ other
one_number streams one other text few a b = elim (compared streams [] a.before b.before a.rest b.rest few a.legal b.legal (sym a.front ∙ b.front)) [
  | inl same ↦ a.numbered ∙ (ap (λ (l : List ScriptLine). length l + 1) same.0 ∙ sym b.numbered)
  | inr l ↦ elim l [
    | inl more ↦ absurd (b.bad more.next more.may (inl (text_of more.more ++ a.rest, more.rest)))
    | inr more ↦ absurd (a.bad more.next more.may (inl (text_of more.more ++ b.rest, more.rest)))
  ]
]

-- ---- not both

text_ends : (line : ScriptLine) (lines : List ScriptLine) → (front : List ℕ) × (text_of (line ∷ lines) ≡ front ++ 10 ∷ [])
text_ends line [] = (line_text line, append-nil (with_feed line))
text_ends line (next ∷ lines) =
    let others = text_ends next lines in
    (with_feed line ++ others.0, ap (λ l. with_feed line ++ l) others.1 ∙ sym (append_assoc (with_feed line) others.0 (10 ∷ [])))

last_off : (xs ys : List ℕ) → xs ++ 10 ∷ [] ≡ ys ++ 10 ∷ [] → xs ≡ ys
last_off xs ys e =
    let long : length xs ≡ length ys = omega (arith, ap length e, length-append xs (10 ∷ []), length-append ys (10 ∷ [])) in
    sym (take-append_seam xs (10 ∷ [])) ∙ (ap (take (length xs)) e ∙ (ap (λ n. take n (ys ++ 10 ∷ [])) long ∙ take-append_seam ys (10 ∷ [])))

begins_cut : (line : ScriptLine) (more : List ScriptLine) (rest : List ℕ) → rest ++ 10 ∷ [] ≡ line_text line ++ 10 ∷ (text_of more ++ []) → BeginsWith line rest
begins_cut line [] rest e = inr (last_off rest (line_text line) e)
begins_cut line (next ∷ more) rest e =
    let ends = text_ends next more in
    let behind : text_of (next ∷ more) ++ [] ≡ ends.0 ++ 10 ∷ [] = append-nil (text_of (next ∷ more)) ∙ ends.1 in
    inl (ends.0, last_off rest (line_text line ++ 10 ∷ ends.0) (e ∙ (ap (λ l. line_text line ++ 10 ∷ l) behind ∙ sym (append_assoc (line_text line) (10 ∷ ends.0) (10 ∷ [])))))

not_both : (streams number : ℕ) (lines : List ScriptLine) (text : List ℕ) → streams ≤ 2 ^ 32 → IsScript streams lines text → IsFirstBad streams number text → ⊥
not_both streams number lines text few a b = elim a.is [
  | inl e ↦ elim (compared streams [] b.before lines b.rest [] few b.legal a.legal (sym b.front ∙ bare text lines e)) [
    | inl same ↦ b.some same.1
    | inr l ↦ elim l [
      | inl more ↦ not_nothing more.next _ _ more.rest refl
      | inr more ↦ b.bad more.next more.may (inl (text_of more.more ++ [], more.rest))
    ]
  ]
  | inr e ↦
      let front : text_of b.before ++ (b.rest ++ 10 ∷ []) ≡ text_of lines ++ [] = sym (append_assoc (text_of b.before) b.rest (10 ∷ [])) ∙ (ap (λ t. t ++ 10 ∷ []) (sym b.front) ∙ bare (text ++ 10 ∷ []) lines e) in
      elim (compared streams [] b.before lines (b.rest ++ 10 ∷ []) [] few b.legal a.legal front) [
        | inl same ↦ omega (arith, ap length same.1, length-append b.rest (10 ∷ []))
        | inr l ↦ elim l [
          | inl more ↦ not_nothing more.next _ _ more.rest refl
          | inr more ↦ b.bad more.next more.may (begins_cut more.next more.more b.rest more.rest)
        ]
      ]
]

pub have_one_answer : (streams : ℕ) → streams ≤ 2 ^ 32 → HaveOneAnswer streams
have_one_answer streams few = record {
  lines = λ one other text a b. one_list streams one other text few a b;
  numbers = λ one other text a b. one_number streams one other text few a b;
  apart = λ number lines text a b. not_both streams number lines text few a b;
}
