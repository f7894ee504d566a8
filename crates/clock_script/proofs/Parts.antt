-- Texts in two parts, with a byte between that the first one lacks.
use Rattle.std.proofs.Common.{◌≡◌, ℕ, suc, ◌+◌, ◌<◌, ◌≤◌, inl, inr, List, ◌∷◌, ◌++◌, length, take, drop, get_or, sym, ap, ◌∙◌, arith}
use Rattle.std.proofs.Math.ListN.{get_or-append}
use Rattle.std.proofs.Math.Seq.{drop-append-add, drop-cons, get_or-append_seam, take-append_seam}
use Rattle.std.proofs.lemmas.Bool.{cases_order}
use Rattle.std.proofs.lemmas.List.{length-append, take-append-drop}

-- the byte stands nowhere in the text
abbrev pub Lacks : ℕ → List ℕ → Type 0
Lacks byte text = (k : ℕ) → k < length text → get_or text k 0 ≡ byte → ⊥

-- the first place of the byte in the text, or the end
pub record IsFirst (byte : ℕ) (text : List ℕ) (place : ℕ) : Type 0 where
  pub within : place ≤ length text
  pub before : (k : ℕ) → k < place → get_or text k 0 ≡ byte → ⊥
  pub there : place < length text → get_or text place 0 ≡ byte

pub record Parted (text front back : List ℕ) (place : ℕ) : Type 0 where
  pub place_is : place ≡ length front
  pub front_is : take place text ≡ front
  pub back_is : drop (place + 1) text ≡ back

parted_at : (byte : ℕ) (front back : List ℕ) (place : ℕ) → place ≡ length front → Parted (front ++ byte ∷ back) front back place
parted_at byte front back place is = record {
  place_is = is;
  front_is = ap (λ n. take n (front ++ byte ∷ back)) is ∙ take-append_seam front (byte ∷ back);
  back_is = ap (λ n. drop (n + 1) (front ++ byte ∷ back)) is ∙ drop-append-add front (byte ∷ back) 1;
}

-- the front ends where the byte stands first
pub parted : (byte : ℕ) (front back : List ℕ) (place : ℕ) → Lacks byte front → IsFirst byte (front ++ byte ∷ back) place → Parted (front ++ byte ∷ back) front back place
parted byte front back place lacks first = elim (cases_order place (length front)) [
  | inl same ↦ parted_at byte front back place same
  | inr other ↦ elim other [
    | inl less ↦
        let inside : place < length (front ++ byte ∷ back) = omega (arith, less, length-append front (byte ∷ back)) in
        absurd (lacks place less (sym (get_or-append front (byte ∷ back) 0 place less) ∙ first.there inside))
    | inr more ↦ absurd (first.before (length front) more (get_or-append_seam front byte back 0))
  ]
]

-- a text that lacks the byte ends before it is found
pub whole : (byte : ℕ) (text : List ℕ) (place : ℕ) → Lacks byte text → IsFirst byte text place → place ≡ length text
whole byte text place lacks first = elim (cases_order place (length text)) [
  | inl same ↦ same
  | inr other ↦ elim other [ inl less ↦ absurd (lacks place less (first.there less)) | inr more ↦ absurd (omega (arith, more, first.within)) ]
]

-- a text around one of its bytes
pub around : (text : List ℕ) (place : ℕ) → place < length text → text ≡ take place text ++ get_or text place 0 ∷ drop (place + 1) text
around text place within =
    let next : suc place ≡ place + 1 = omega arith in
    sym (take-append-drop place text) ∙ ap (λ l. take place text ++ l) (drop-cons text place 0 within ∙ ap (λ n. get_or text place 0 ∷ drop n text) next)
