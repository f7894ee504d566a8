-- A text has one answer: a schedule or a first bad line.
use Rattle.std.proofs.Common.{◌≡◌, ℕ, ◌+◌, ◌<◌, ◌≤◌, ◌⊎◌, inl, inr, List, [], ◌∷◌, ◌++◌, length, take, drop, get_or, refl, sym, ap, subst, ◌∙◌, arith}
use Rattle.std.specs.Prelude.{All}
use Rattle.std.proofs.lemmas.List.{append_assoc, append-nil, length-append}
use Rattle.std.proofs.lemmas.List.Elements.{All-head, All-tail}
use Rattle.std.proofs.Math.ListN.{get_or-append}
use Rattle.std.proofs.Math.Seq.{drop-append-add, get_or-append_seam, take-append_seam}
use Rattle.clock_script.proofs.Parts.{IsFirst, Lacks, parted}
use Rattle.overlay_files.specs.Cues.{Cue, IsCue, most_cues}
use Rattle.overlay_files.specs.Schedules.{BeginsWithCue, HaveOneSchedule, IsFirstBadCue, IsSchedule, cue_text, cues_text}
use Rattle.overlay_files.proofs.CueTexts.{cue_lacks, one_cue}

abbrev with_feed : Cue → List ℕ
with_feed c = cue_text c ++ 10 ∷ []

first_at : (front back : List ℕ) → Lacks 10 front → IsFirst 10 (front ++ 10 ∷ back) (length front)
first_at front back lacks = record {
  within = omega (arith, length-append front (10 ∷ back));
  before = λ k less is. lacks k less (sym (get_or-append front (10 ∷ back) 0 k less) ∙ is);
  there = λ inside. get_or-append_seam front 10 back 0;
}

-- texts that begin with lines begin with the same one
same_front : (x y : Cue) (r s : List ℕ) → IsCue x → IsCue y → cue_text x ++ 10 ∷ r ≡ cue_text y ++ 10 ∷ s → (x ≡ y) × (r ≡ s)
same_front x y r s is_x is_y e =
    let n : ℕ = length (cue_text x) in
    let first : IsFirst 10 (cue_text y ++ 10 ∷ s) n = subst (λ (l : List ℕ). IsFirst 10 l n) e (first_at (cue_text x) r (cue_lacks x is_x)) in
    let p = parted 10 (cue_text y) s n (cue_lacks y is_y) first in
    let front : cue_text x ≡ cue_text y = sym (take-append_seam (cue_text x) (10 ∷ r)) ∙ (ap (take n) e ∙ p.front_is) in
    let back : r ≡ s = sym (drop-append-add (cue_text x) (10 ∷ r) 1) ∙ (ap (drop (n + 1)) e ∙ p.back_is) in
    (one_cue x y is_x is_y front, back)

-- the longer list is the shorter one and more lines
record Longer (longer shorter : List Cue) (r s : List ℕ) : Type 0 where
  next : Cue
  more : List Cue
  is : longer ≡ shorter ++ next ∷ more
  line : IsCue next
  rest : s ≡ cue_text next ++ 10 ∷ (cues_text more ++ r)

abbrev Compared : List Cue → List Cue → List ℕ → List ℕ → Type 0
Compared xs ys r s = ((xs ≡ ys) × (r ≡ s)) ⊎ (Longer xs ys r s ⊎ Longer ys xs s r)

unrolled : (x : Cue) (xs : List Cue) (r : List ℕ) → cues_text (x ∷ xs) ++ r ≡ cue_text x ++ 10 ∷ (cues_text xs ++ r)
unrolled x xs r = append_assoc (with_feed x) (cues_text xs) r ∙ append_assoc (cue_text x) (10 ∷ []) (cues_text xs ++ r)

one_more : (longer shorter : List Cue) (x : Cue) (r s : List ℕ) → Longer longer shorter r s → Longer (x ∷ longer) (x ∷ shorter) r s
one_more longer shorter x r s l = record { next = l.next; more = l.more; is = ap (λ ys. x ∷ ys) l.is; line = l.line; rest = l.rest }

behind : (xs ys : List Cue) (x : Cue) (r s : List ℕ) → Compared xs ys r s → Compared (x ∷ xs) (x ∷ ys) r s
behind xs ys x r s (inl same) = inl (ap (λ l. x ∷ l) same.0, same.1)
behind xs ys x r s (inr (inl l)) = inr (inl (one_more xs ys x r s l))
behind xs ys x r s (inr (inr l)) = inr (inr (one_more ys xs x s r l))

compared : (xs ys : List Cue) (r s : List ℕ) → All IsCue xs → All IsCue ys → cues_text xs ++ r ≡ cues_text ys ++ s → Compared xs ys r s
compared [] [] r s a b e = inl (refl, e)
compared [] (y ∷ ys) r s a b e = inr (inr (record { next = y; more = ys; is = refl; line = All-head IsCue y ys b; rest = e ∙ unrolled y ys s }))
compared (x ∷ xs) [] r s a b e = inr (inl (record { next = x; more = xs; is = refl; line = All-head IsCue x xs a; rest = sym e ∙ unrolled x xs r }))
compared (x ∷ xs) (y ∷ ys) r s a b e =
    let same = same_front x y (cues_text xs ++ r) (cues_text ys ++ s) (All-head IsCue x xs a) (All-head IsCue y ys b) (sym (unrolled x xs r) ∙ (e ∙ unrolled y ys s)) in
    let here = behind xs ys x r s (compared xs ys r s (All-tail IsCue x xs a) (All-tail IsCue y ys b) same.1) in
    subst (λ (l : Cue). Compared (x ∷ xs) (l ∷ ys) r s) same.0 here

-- ---- lines aren't empty and don't begin with a line feed

not_nothing : (c : Cue) (r s : List ℕ) → s ≡ cue_text c ++ 10 ∷ r → s ≡ [] → ⊥
not_nothing c r s is none = omega (arith, ap length (sym none ∙ is))

not_feed : (c : Cue) (r s : List ℕ) → s ≡ cue_text c ++ 10 ∷ r → s ≡ 10 ∷ [] → ⊥
not_feed c r s is feed = omega (arith, ap (λ l. get_or l 0 0) (sym feed ∙ is))

-- ---- one list of lines

both_whole : (one other : List Cue) → All IsCue one → All IsCue other → cues_text one ++ [] ≡ cues_text other ++ [] → one ≡ other
both_whole one other a b e = elim (compared one other [] [] a b e) [
  | inl same ↦ same.0
  | inr l ↦ elim l [ inl more ↦ absurd (not_nothing more.next _ _ more.rest refl) | inr more ↦ absurd (not_nothing more.next _ _ more.rest refl) ]
]

one_whole : (one other : List Cue) → All IsCue one → All IsCue other → cues_text one ++ 10 ∷ [] ≡ cues_text other ++ [] → ⊥
one_whole one other a b e = elim (compared one other (10 ∷ []) [] a b e) [
  | inl same ↦ omega (arith, ap length same.1)
  | inr l ↦ elim l [ inl more ↦ not_nothing more.next _ _ more.rest refl | inr more ↦ not_feed more.next _ _ more.rest refl ]
]

bare : (text : List ℕ) (cues : List Cue) → text ≡ cues_text cues → text ≡ cues_text cues ++ []
bare text cues e = e ∙ sym (append-nil (cues_text cues))

one_list : (one other : List Cue) (text : List ℕ) → IsSchedule one text → IsSchedule other text → one ≡ other
one_list one other text a b = elim a.is [
  | inl e ↦ elim b.is [
    | inl f ↦ both_whole one other a.each b.each (sym (bare text one e) ∙ bare text other f)
    | inr f ↦ absurd (one_whole one other a.each b.each (ap (λ t. t ++ 10 ∷ []) (sym e) ∙ bare (text ++ 10 ∷ []) other f))
  ]
  | inr e ↦ elim b.is [
    | inl f ↦ absurd (one_whole other one b.each a.each (ap (λ t. t ++ 10 ∷ []) (sym f) ∙ bare (text ++ 10 ∷ []) one e))
    | inr f ↦ both_whole one other a.each b.each (sym (bare (text ++ 10 ∷ []) one e) ∙ bare (text ++ 10 ∷ []) other f)
  ]
]

-- ---- one bad line

room : (longer shorter more : List Cue) (next : Cue) → length longer ≤ most_cues → longer ≡ shorter ++ next ∷ more → length shorter < most_cues
room longer shorter more next few is = omega (arith, few, ap length is, length-append shorter (next ∷ more))

one_number : (one other : ℕ) (text : List ℕ) → IsFirstBadCue one text → IsFirstBadCue other text → one ≡ other
one_number one other text a b = elim (compared a.before b.before a.rest b.rest a.each b.each (sym a.front ∙ b.front)) [
  | inl same ↦ a.numbered ∙ (ap (λ (l : List Cue). length l + 1) same.0 ∙ sym b.numbered)
  | inr l ↦ elim l [
    | inl more ↦ absurd (b.bad more.next (room a.before b.before more.more more.next a.few more.is) more.line (inl (cues_text more.more ++ a.rest, more.rest)))
    | inr more ↦ absurd (a.bad more.next (room b.before a.before more.more more.next b.few more.is) more.line (inl (cues_text more.more ++ b.rest, more.rest)))
  ]
]

-- ---- not both

text_ends : (c : Cue) (cues : List Cue) → (front : List ℕ) × (cues_text (c ∷ cues) ≡ front ++ 10 ∷ [])
text_ends c [] = (cue_text c, append-nil (with_feed c))
text_ends c (next ∷ cues) =
    let others = text_ends next cues in
    (with_feed c ++ others.0, ap (λ l. with_feed c ++ l) others.1 ∙ sym (append_assoc (with_feed c) others.0 (10 ∷ [])))

last_off : (xs ys : List ℕ) → xs ++ 10 ∷ [] ≡ ys ++ 10 ∷ [] → xs ≡ ys
last_off xs ys e =
    let long : length xs ≡ length ys = omega (arith, ap length e, length-append xs (10 ∷ []), length-append ys (10 ∷ [])) in
    sym (take-append_seam xs (10 ∷ [])) ∙ (ap (take (length xs)) e ∙ (ap (λ n. take n (ys ++ 10 ∷ [])) long ∙ take-append_seam ys (10 ∷ [])))

begins_cut : (c : Cue) (more : List Cue) (rest : List ℕ) → rest ++ 10 ∷ [] ≡ cue_text c ++ 10 ∷ (cues_text more ++ []) → BeginsWithCue c rest
begins_cut c [] rest e = inr (last_off rest (cue_text c) e)
begins_cut c (next ∷ more) rest e =
    let ends = text_ends next more in
    let after : cues_text (next ∷ more) ++ [] ≡ ends.0 ++ 10 ∷ [] = append-nil (cues_text (next ∷ more)) ∙ ends.1 in
    inl (ends.0, last_off rest (cue_text c ++ 10 ∷ ends.0) (e ∙ (ap (λ l. cue_text c ++ 10 ∷ l) after ∙ sym (append_assoc (cue_text c) (10 ∷ ends.0) (10 ∷ [])))))

not_both : (number : ℕ) (cues : List Cue) (text : List ℕ) → IsSchedule cues text → IsFirstBadCue number text → ⊥
not_both number cues text a b = elim a.is [
  | inl e ↦ elim (compared b.before cues b.rest [] b.each a.each (sym b.front ∙ bare text cues e)) [
    | inl same ↦ b.some same.1
    | inr l ↦ elim l [
      | inl more ↦ not_nothing more.next _ _ more.rest refl
      | inr more ↦ b.bad more.next (room cues b.before more.more more.next a.few more.is) more.line (inl (cues_text more.more ++ [], more.rest))
    ]
  ]
  | inr e ↦
      let front : cues_text b.before ++ (b.rest ++ 10 ∷ []) ≡ cues_text cues ++ [] = sym (append_assoc (cues_text b.before) b.rest (10 ∷ [])) ∙ (ap (λ t. t ++ 10 ∷ []) (sym b.front) ∙ bare (text ++ 10 ∷ []) cues e) in
      elim (compared b.before cues (b.rest ++ 10 ∷ []) [] b.each a.each front) [
        | inl same ↦ omega (arith, ap length same.1, length-append b.rest (10 ∷ []))
        | inr l ↦ elim l [
          | inl more ↦ not_nothing more.next _ _ more.rest refl
          | inr more ↦ b.bad more.next (room cues b.before more.more more.next a.few more.is) more.line (begins_cut more.next more.more b.rest more.rest)
        ]
      ]
]

pub have_one_schedule : HaveOneSchedule
have_one_schedule = record { cues = one_list; numbers = one_number; apart = not_both }
