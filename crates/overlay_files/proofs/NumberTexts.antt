-- Numbers in a text, each ended by a byte that is no digit.
use Rattle.std.proofs.Common.{◌≡◌, ℕ, ◌+◌, ◌*◌, ◌<◌, ◌^◌, List, [], ◌∷◌, ◌++◌, length, take, drop, refl, sym, ap, ap₂, subst, ◌∙◌, arith}
use Rattle.std.specs.Prelude.{codes, decimal}
use Rattle.std.proofs.Math.ListN.{get_or-append}
use Rattle.std.proofs.Math.Seq.{drop-append-add, get_or-append_seam, take-append_seam}
use Rattle.std.proofs.lemmas.Fmt.{decimal_injective}
use Rattle.std.proofs.lemmas.List.{append_assoc, drop-drop, length-append, length-drop}
use Rattle.clock_script.proofs.Parts.{IsFirst, Parted, around, parted}
use Rattle.clock_script.proofs.Preemptions.{decimal_lacks}
use Rattle.overlay_files.specs.Ended.{IsEnded, IsHeaded}
use Rattle.overlay_files.specs.Pixels.{IsSide}
use Rattle.overlay_files.specs.Texts.{header_text}

field_parted : (text rest : List ℕ) (ending place n : ℕ) → ending < 48 → n < 2 ^ 63 → IsFirst ending text place → text ≡ decimal n ++ ending ∷ rest → Parted (decimal n ++ ending ∷ rest) (decimal n) rest place
field_parted text rest ending place n low small first is = parted ending (decimal n) rest place (decimal_lacks ending n low small) (subst (λ (t : List ℕ). IsFirst ending t place) is first)

-- the byte isn't there
pub no_ending : (text rest : List ℕ) (ending place n : ℕ) → ending < 48 → n < 2 ^ 63 → IsFirst ending text place → place ≡ length text → text ≡ decimal n ++ ending ∷ rest → ⊥
no_ending text rest ending place n low small first end is =
    omega (arith, (field_parted text rest ending place n low small first is).place_is, end, ap length is, length-append (decimal n) (ending ∷ rest))

-- no number stands in front of it
pub no_front : (text rest : List ℕ) (ending place n : ℕ) → ending < 48 → n < 2 ^ 63 → IsFirst ending text place → text ≡ decimal n ++ ending ∷ rest → take place text ≡ decimal n
no_front text rest ending place n low small first is = ap (take place) is ∙ (field_parted text rest ending place n low small first is).front_is

pub field_is : (text : List ℕ) (ending place n : ℕ) → place < length text → IsFirst ending text place → take place text ≡ decimal n → text ≡ decimal n ++ ending ∷ drop (place + 1) text
field_is text ending place n within first front = around text place within ∙ rw (front, first.there within) refl

first_ending : (ending n : ℕ) (rest : List ℕ) → ending < 48 → n < 2 ^ 63 → IsFirst ending (decimal n ++ ending ∷ rest) (length (decimal n))
first_ending ending n rest low small = record {
  within = omega (arith, length-append (decimal n) (ending ∷ rest));
  before = λ k less e. decimal_lacks ending n low small k less (sym (get_or-append (decimal n) (ending ∷ rest) 0 k less) ∙ e);
  there = λ lt. get_or-append_seam (decimal n) ending rest 0;
}

-- a text has one number in front, and one rest behind its end
pub one_field : (text r s : List ℕ) (ending m n : ℕ) → ending < 48 → m < 2 ^ 63 → n < 2 ^ 63 → text ≡ decimal m ++ ending ∷ r → text ≡ decimal n ++ ending ∷ s → (m ≡ n) × (r ≡ s)
one_field text r s ending m n low small_m small_n is_m is_n =
    let same : decimal m ++ ending ∷ r ≡ decimal n ++ ending ∷ s = sym is_m ∙ is_n in
    let p = field_parted (decimal m ++ ending ∷ r) s ending (length (decimal m)) n low small_n (first_ending ending m r low small_m) same in
    let front : decimal m ≡ decimal n = sym (take-append_seam (decimal m) (ending ∷ r)) ∙ (ap (take (length (decimal m))) same ∙ p.front_is) in
    let back : r ≡ s = sym (drop-append-add (decimal m) (ending ∷ r) 1) ∙ (ap (drop (length (decimal m) + 1)) same ∙ p.back_is) in
    (decimal_injective m n (omega (arith, small_m)) (omega (arith, small_n)) front, back)

-- ---- the first line of a bitmap's file

pub header_parts : (w h : ℕ) (rest : List ℕ) → header_text w h ++ rest ≡ codes "RGBA " ++ (decimal w ++ 32 ∷ (decimal h ++ 10 ∷ rest))
header_parts w h rest =
    ap (λ l. codes "RGBA " ++ l)
    (append_assoc (decimal w) (32 ∷ (decimal h ++ 10 ∷ [])) rest ∙ ap (λ l. decimal w ++ 32 ∷ l) (append_assoc (decimal h) (10 ∷ []) rest))

-- the operands of a text that begins with such a line
pub operands_are : (text operands rest : List ℕ) (w h : ℕ) → text ≡ codes "RGBA " ++ operands → text ≡ header_text w h ++ rest → operands ≡ decimal w ++ 32 ∷ (decimal h ++ 10 ∷ rest)
operands_are text operands rest w h is headed = ap (drop 5) (sym is ∙ (headed ∙ header_parts w h rest))

side_small : (n : ℕ) → IsSide n → n < 2 ^ 63
side_small n side = omega (arith, side.most)

-- behind the width stands no height
pub no_height : (text operands : List ℕ) (m e : ℕ) → text ≡ codes "RGBA " ++ operands → IsEnded operands 32 m e → ((n : ℕ) (rest : List ℕ) → IsSide n → drop e operands ≡ decimal n ++ 10 ∷ rest → ⊥)
    → (w h : ℕ) (rest : List ℕ) → IsSide w → IsSide h → text ≡ header_text w h ++ rest → ⊥
no_height text operands m e is width none w h rest side_w side_h headed =
    let same = one_field operands (drop e operands) (decimal h ++ 10 ∷ rest) 32 m w (omega arith) width.small (side_small w side_w) width.is (operands_are text operands rest w h is headed) in
    none h rest side_h same.1

pub no_width : (text operands : List ℕ) → text ≡ codes "RGBA " ++ operands → ((n : ℕ) (rest : List ℕ) → IsSide n → operands ≡ decimal n ++ 32 ∷ rest → ⊥)
    → (w h : ℕ) (rest : List ℕ) → IsSide w → IsSide h → text ≡ header_text w h ++ rest → ⊥
no_width text operands is none w h rest side_w side_h headed = none w (decimal h ++ 10 ∷ rest) side_w (operands_are text operands rest w h is headed)

behind_five : (operands : List ℕ) (e : ℕ) → drop (5 + e) (codes "RGBA " ++ operands) ≡ drop e operands
behind_five operands e = drop-append-add (codes "RGBA ") operands e

pub headed : (text operands : List ℕ) (w h e f : ℕ) → text ≡ codes "RGBA " ++ operands → IsSide w → IsSide h → IsEnded operands 32 w e → IsEnded (drop e operands) 10 h f → IsHeaded text w h (5 + e + f)
headed text operands w h e f is side_w side_h width height =
    let behind : drop f (drop e operands) ≡ drop (5 + e + f) text =
    drop-drop f e operands ∙ (sym (behind_five operands (e + f)) ∙ (ap (λ n. drop n (codes "RGBA " ++ operands)) (omega arith) ∙ ap (drop (5 + e + f)) (sym is))) in
    record {
      columns = side_w;
      rows = side_h;
      within = omega (arith, ap length is, height.within, width.within, length-drop e operands);
      is =
          is ∙ (ap (λ l. codes "RGBA " ++ l) (width.is ∙ ap (λ l. decimal w ++ 32 ∷ l) height.is)
          ∙ (ap (λ l. codes "RGBA " ++ (decimal w ++ 32 ∷ (decimal h ++ 10 ∷ l))) behind ∙ sym (header_parts w h (drop (5 + e + f) text))));
    }

-- a text has one first line and one rest
pub wrong_count : (text bytes : List ℕ) (w h e a b : ℕ) → IsHeaded text w h e → IsSide a → IsSide b → text ≡ header_text a b ++ bytes → length bytes ≡ 4 * (a * b) → length (drop e text) ≡ 4 * (w * h)
wrong_count text bytes w h e a b headed side_a side_b is count =
    let mine = headed.is ∙ header_parts w h (drop e text) in
    let theirs = operands_are text (decimal w ++ 32 ∷ (decimal h ++ 10 ∷ drop e text)) bytes a b mine is in
    let first = one_field (decimal w ++ 32 ∷ (decimal h ++ 10 ∷ drop e text)) (decimal h ++ 10 ∷ drop e text) (decimal b ++ 10 ∷ bytes) 32 w a (omega arith) (side_small w headed.columns) (side_small a side_a) refl theirs in
    let second = one_field (decimal h ++ 10 ∷ drop e text) (drop e text) bytes 10 h b (omega arith) (side_small h headed.rows) (side_small b side_b) refl first.1 in
    ap length second.1 ∙ (count ∙ ap₂ (λ u v. 4 * (u * v)) (sym first.0) (sym second.0))
