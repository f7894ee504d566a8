-- Lines of a schedule by their texts.
use Rattle.std.proofs.Common.{◌≡◌, ℕ, zero, suc, ◌+◌, ◌<◌, ◌≤◌, ◌^◌, ◌&&◌, Bool, not, eqb, List, [], ◌∷◌, ◌++◌, length, take, drop, get_or, set, true, refl, sym, ap, ap₂, subst, ◌∙◌, arith}
use Rattle.std.specs.Prelude.{All, codes, decimal}
use Rattle.std.proofs.lemmas.Bool.Decides.{nat_tests}
use Rattle.std.proofs.lemmas.Grind.{flat_map-append}
use Rattle.std.proofs.lemmas.List.{append_assoc, append-nil, drop-drop, length-drop, length-set, length-take-le, take_all, take_more_set}
use Rattle.std.proofs.lemmas.List.Elements.{All-from_recursion, All-head, All-nil, All-push, All-tail}
use Rattle.clock_script.proofs.LineTexts.{both}
use Rattle.clock_script.proofs.Parts.{Lacks}
use Rattle.clock_script.proofs.Preemptions.{decimal_lacks}
use Rattle.overlay_files.specs.Cues.{Cue, IsCue, IsShowing, cue}
use Rattle.overlay_files.specs.Ended.{IsEnded}
use Rattle.overlay_files.specs.ReadCues.{IsNumbered, IsSmall}
use Rattle.overlay_files.specs.Schedules.{cue_text, numbers_of, numbers_text}
use Rattle.overlay_files.specs.declared.showing.Showing.{Showing}
use Rattle.overlay_files.proofs.NumberTexts.{one_field}

-- ---- numbers, each with a space behind it

unrolled : (n : ℕ) (ns r : List ℕ) → numbers_text (n ∷ ns) ++ r ≡ decimal n ++ 32 ∷ (numbers_text ns ++ r)
unrolled n ns r = append_assoc (decimal n ++ 32 ∷ []) (numbers_text ns) r ∙ append_assoc (decimal n) (32 ∷ []) (numbers_text ns ++ r)

small_head : (n : ℕ) (ns : List ℕ) → All IsSmall (n ∷ ns) → n < 2 ^ 63
small_head n ns all = All-head IsSmall n ns all

-- behind fewer numbers stands the next one
pub next_number : (done ns tail rest : List ℕ) → All IsSmall done → All IsSmall ns → length done < length ns → numbers_text done ++ tail ≡ numbers_text ns ++ rest
    → (n : ℕ) × (r : List ℕ) × (n < 2 ^ 63) × (tail ≡ decimal n ++ 32 ∷ r)
next_number [] [] tail rest all_done all_ns less e = absurd (omega (arith, less))
next_number [] (n ∷ ns) tail rest all_done all_ns less e = (n, numbers_text ns ++ rest, small_head n ns all_ns, e ∙ unrolled n ns rest)
next_number (d ∷ done) [] tail rest all_done all_ns less e = absurd (omega (arith, less))
next_number (d ∷ done) (n ∷ ns) tail rest all_done all_ns less e =
    let same = one_field (numbers_text (d ∷ done) ++ tail) (numbers_text done ++ tail) (numbers_text ns ++ rest) 32 d n (omega arith) (small_head d done all_done) (small_head n ns all_ns) (unrolled d done tail) (e ∙ unrolled n ns rest) in
    next_number done ns tail rest (All-tail IsSmall d done all_done) (All-tail IsSmall n ns all_ns) (omega (arith, less)) same.1

-- a text begins with so many numbers in one way
pub one_front : (ms ns r s : List ℕ) → All IsSmall ms → All IsSmall ns → length ms ≡ length ns → numbers_text ms ++ r ≡ numbers_text ns ++ s → (ms ≡ ns) × (r ≡ s)
one_front [] [] r s all_ms all_ns long e = (refl, e)
one_front [] (n ∷ ns) r s all_ms all_ns long e = absurd (omega (arith, long))
one_front (m ∷ ms) [] r s all_ms all_ns long e = absurd (omega (arith, long))
one_front (m ∷ ms) (n ∷ ns) r s all_ms all_ns long e =
    let same = one_field (numbers_text (m ∷ ms) ++ r) (numbers_text ms ++ r) (numbers_text ns ++ s) 32 m n (omega arith) (small_head m ms all_ms) (small_head n ns all_ns) (unrolled m ms r) (e ∙ unrolled n ns s) in
    let others = one_front ms ns r s (All-tail IsSmall m ms all_ms) (All-tail IsSmall n ns all_ns) (omega (arith, long)) same.1 in
    (ap₂ (λ (a : ℕ) (l : List ℕ). a ∷ l) same.0 others.0, others.1)

-- ---- the numbers of a line, one after the other

-- so many of the five numbers were read
pub record ReadNumbers (text values : List ℕ) (place end : ℕ) : Type 0 where
  pub five : length values ≡ 5
  pub front : IsNumbered text (take place values) end

pub numbered_none : (text values : List ℕ) → length values ≡ 5 → ReadNumbers text values 0 0
numbered_none text values five = record { five = five; front = record { small = All-nil IsSmall; within = omega arith; is = refl } }

pub numbered_all : (text values : List ℕ) (place end : ℕ) → 5 ≤ place → ReadNumbers text values place end → IsNumbered text values end
numbered_all text values place end all r = subst (λ (l : List ℕ). IsNumbered text l end) (take_all place values (omega (arith, all, r.five))) r.front

numbers_push : (ns r : List ℕ) (n : ℕ) → numbers_text ns ++ (decimal n ++ 32 ∷ r) ≡ numbers_text (ns ++ n ∷ []) ++ r
numbers_push ns r n =
    let pushed : numbers_text (ns ++ n ∷ []) ≡ numbers_text ns ++ (decimal n ++ 32 ∷ []) = flat_map-append (λ m. decimal m ++ 32 ∷ []) ns (n ∷ []) ∙ ap (λ l. numbers_text ns ++ l) (append-nil (decimal n ++ 32 ∷ [])) in
    sym (ap (λ l. l ++ r) pushed ∙ (append_assoc (numbers_text ns) (decimal n ++ 32 ∷ []) r ∙ ap (λ l. numbers_text ns ++ l) (append_assoc (decimal n) (32 ∷ []) r)))

pub numbered_more : (text values : List ℕ) (place end n e : ℕ) → place < 5 → ReadNumbers text values place end → IsEnded (drop end text) 32 n e
    → ReadNumbers text (set values place n) (place + 1) (end + e)
numbered_more text values place end n e less r field =
    let front = r.front in
    let behind : drop e (drop end text) ≡ drop (end + e) text = drop-drop e end text in
    record {
      five = length-set values place n ∙ r.five;
      front = subst (λ (l : List ℕ). IsNumbered text l (end + e)) (sym (take_more_set values place n (omega (arith, less, r.five)))) (record {
        small = All-push IsSmall (take place values) n front.small field.small;
        within = omega (arith, front.within, field.within, length-drop end text);
        is =
            front.is ∙ (ap (λ l. numbers_text (take place values) ++ l) (field.is ∙ ap (λ l. decimal n ++ 32 ∷ l) behind)
            ∙ numbers_push (take place values) (drop (end + e) text) n);
      });
    }

pub no_numbers : (text values ns rest : List ℕ) (place end : ℕ) → place < 5 → ReadNumbers text values place end → length ns ≡ 5 → All IsSmall ns
    → ((n : ℕ) (r : List ℕ) → n < 2 ^ 63 → drop end text ≡ decimal n ++ 32 ∷ r → ⊥) → text ≡ numbers_text ns ++ rest → ⊥
no_numbers text values ns rest place end less r five small none is =
    let short : length (take place values) ≡ place = length-take-le place values (omega (arith, less, r.five)) in
    let next = next_number (take place values) ns (drop end text) rest r.front.small small (omega (arith, short, less, five)) (sym r.front.is ∙ is) in
    none next.0 next.1 next.2 next.3

-- ---- lines

pub small_numbers : (s : Showing) → IsShowing s → All IsSmall (numbers_of s)
small_numbers s is =
    All-from_recursion IsSmall (numbers_of s) (omega (arith, is.times, is.last), (is.last, (omega (arith, is.stream), (omega (arith, is.x), (omega (arith, is.y), tt)))))

pub operands_of : (text operands : List ℕ) (c : Cue) → text ≡ codes "show " ++ operands → text ≡ cue_text c → operands ≡ numbers_text (numbers_of c.showing) ++ c.name
operands_of text operands c is line = ap (drop 5) (sym is ∙ line)

-- the numbers and the name of a line that the text is, by what was read of it
pub read_parts : (text operands values : List ℕ) (end : ℕ) (c : Cue) → text ≡ codes "show " ++ operands → length values ≡ 5 → IsNumbered operands values end → IsShowing c.showing → text ≡ cue_text c
    → (values ≡ numbers_of c.showing) × (drop end operands ≡ c.name)
read_parts text operands values end c is five front showing line =
    one_front values (numbers_of c.showing) (drop end operands) c.name front.small (small_numbers c.showing showing) five (sym front.is ∙ operands_of text operands c is line)

pub line_is : (text operands values name : List ℕ) (end : ℕ) (s : Showing) → text ≡ codes "show " ++ operands → IsNumbered operands values end → values ≡ numbers_of s → name ≡ drop end operands → text ≡ cue_text (cue s name)
line_is text operands values name end s is front numbers same =
    is ∙ ap (λ l. codes "show " ++ l) (front.is ∙ ap₂ (λ (l m : List ℕ). numbers_text l ++ m) numbers (sym same))

showing_is : (s t : Showing) → numbers_of s ≡ numbers_of t → s ≡ t
showing_is s t e = ap (λ (l : List ℕ). record { from = get_or l 0 0; to = get_or l 1 0; stream = get_or l 2 0; x = get_or l 3 0; y = get_or l 4 0 }) e

-- one text, one line
pub one_cue : (a b : Cue) → IsCue a → IsCue b → cue_text a ≡ cue_text b → a ≡ b
one_cue a b is_a is_b e =
    let same = one_front (numbers_of a.showing) (numbers_of b.showing) a.name b.name (small_numbers a.showing is_a.showing) (small_numbers b.showing is_b.showing) refl (ap (drop 5) e) in
    ap₂ cue (showing_is a.showing b.showing same.0) same.1

-- ---- lines have no line feed

lacks_cons : (byte x : ℕ) (xs : List ℕ) → (x ≡ byte → ⊥) → Lacks byte xs → Lacks byte (x ∷ xs)
lacks_cons byte x xs other lacks zero within is = other is
lacks_cons byte x xs other lacks (suc k) within is = lacks k (omega (arith, within)) is

lacks_append : (byte : ℕ) (xs ys : List ℕ) → Lacks byte xs → Lacks byte ys → Lacks byte (xs ++ ys)
lacks_append byte [] ys front back = back
lacks_append byte (x ∷ xs) ys front back = lacks_cons byte x (xs ++ ys) (front 0 (omega arith)) (lacks_append byte xs ys (λ k within. front (suc k) (omega (arith, within))) back)

lacks_nothing : (byte : ℕ) → Lacks byte []
lacks_nothing byte = λ k within e. omega (arith, within)

numbers_lack : (ns : List ℕ) → All IsSmall ns → Lacks 10 (numbers_text ns)
numbers_lack [] all = lacks_nothing 10
numbers_lack (n ∷ ns) all =
    lacks_append 10 (decimal n ++ 32 ∷ []) (numbers_text ns)
    (lacks_append 10 (decimal n) (32 ∷ []) (decimal_lacks 10 n (omega arith) (small_head n ns all)) (lacks_cons 10 32 [] (λ e. omega (arith, e)) (lacks_nothing 10)))
    (numbers_lack ns (All-tail IsSmall n ns all))

abbrev is_lacking : ℕ → List ℕ → Bool
is_lacking byte [] = true
is_lacking byte (x ∷ xs) = not (eqb x byte) && is_lacking byte xs

differs : (x byte : ℕ) → not (eqb x byte) ≡ true → x ≡ byte → ⊥
differs x byte is same = grind (arith, nat_tests)

lacks_by_test : (byte : ℕ) (xs : List ℕ) → is_lacking byte xs ≡ true → Lacks byte xs
lacks_by_test byte [] is = lacks_nothing byte
lacks_by_test byte (x ∷ xs) is = let p = both _ _ is in lacks_cons byte x xs (differs x byte p.0) (lacks_by_test byte xs p.1)

show_lacks : Lacks 10 (codes "show ")
show_lacks = lacks_by_test 10 (codes "show ") refl

pub cue_lacks : (c : Cue) → IsCue c → Lacks 10 (cue_text c)
cue_lacks c is =
    lacks_append 10 (codes "show ") (numbers_text (numbers_of c.showing) ++ c.name) show_lacks
    (lacks_append 10 (numbers_text (numbers_of c.showing)) c.name (numbers_lack (numbers_of c.showing) (small_numbers c.showing is.showing)) is.name.feeds)
