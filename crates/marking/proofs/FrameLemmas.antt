-- Numbers of frames, gaps, filters, and operations in turn.
use Rattle.std.proofs.Common.{◌≡◌, ℕ, suc, ◌+◌, ◌-◌, ◌<◌, ◌≤◌, Bool, true, false, cond, List, [], ◌∷◌, ◌++◌, length, take, drop, filter, get_or, Some, None, refl, sym, ap, ◌∙◌, arith, append-nil}
use Rattle.std.specs.List.{list_any}
use Rattle.std.proofs.Math.Seq.{drop-cons}
use Rattle.std.proofs.lemmas.List.{drop_all, take_more}
use Rattle.std.proofs.lemmas.List.Elements.{filter-append}
use Rattle.cb_types.specs.declared.header.Mmco.{Mmco}
use Rattle.cb_types.specs.declared.picture_info.Reference.{Reference}
use Rattle.marking.specs.Frames.{after_frame_num, filled, free_number_from, has_number, marked_absent}
use Rattle.marking.specs.Operations.{operated, operated_by_all}
use Rattle.marking.specs.declared.marks.Marks.{Marks}
use Rattle.marking.specs.declared.numbers.Numbers.{Numbers}

-- a number that a frame has
pub next_number : (frames : List Reference) (count k : ℕ) → k < count → list_any (has_number k) frames ≡ true
    → free_number_from frames (count - k) k ≡ free_number_from frames (count - (k + 1)) (k + 1)
unfolding free_number_from
next_number frames count k inside has =
    let step : count - k ≡ suc (count - (k + 1)) = omega arith in
    ap (λ (n : ℕ). free_number_from frames n k) step ∙ rw has refl

pub number_here : (frames : List Reference) (count k : ℕ) → k < count → list_any (has_number k) frames ≡ false → free_number_from frames (count - k) k ≡ k
unfolding free_number_from
number_here frames count k inside free =
    let step : count - k ≡ suc (count - (k + 1)) = omega arith in
    ap (λ (n : ℕ). free_number_from frames n k) step ∙ rw free refl

-- one more of so many that are left out
pub fill_more : (missing k : ℕ) (n : Numbers) (frames left : List Reference) → k < missing → Some left ≡ marked_absent n frames
    → filled (missing - k) n frames ≡ filled (missing - (k + 1)) (record n { frame_num = after_frame_num n.max_frame_num n.frame_num }) left
unfolding filled
fill_more missing k n frames left inside more =
    let step : missing - k ≡ suc (missing - (k + 1)) = omega arith in
    ap (λ (m : ℕ). filled m n frames) step ∙ rw (sym more) refl

pub fill_fails : (missing k : ℕ) (n : Numbers) (frames : List Reference) → k < missing → None ≡ marked_absent n frames → filled (missing - k) n frames ≡ None
unfolding filled
fill_fails missing k n frames inside none =
    let step : missing - k ≡ suc (missing - (k + 1)) = omega arith in
    ap (λ (m : ℕ). filled m n frames) step ∙ rw (sym none) refl

pub fill_none : (n : Numbers) (frames : List Reference) → filled 0 n frames ≡ Some frames
unfolding filled
fill_none n frames = refl

-- one more frame looked at
pub kept_more : (p : Reference → Bool) (frames : List Reference) (k : ℕ) (d : Reference) → k < length frames → p (get_or frames k d) ≡ true
    → filter p (take (k + 1) frames) ≡ filter p (take k frames) ++ get_or frames k d ∷ []
kept_more p frames k d inside keeps =
    let one : filter p (get_or frames k d ∷ []) ≡ get_or frames k d ∷ [] = rw keeps refl in
    ap (filter p) (take_more frames k d inside) ∙ filter-append p (take k frames) (get_or frames k d ∷ []) ∙ ap (λ (xs : List Reference). filter p (take k frames) ++ xs) one

pub kept_same : (p : Reference → Bool) (frames : List Reference) (k : ℕ) (d : Reference) → k < length frames → p (get_or frames k d) ≡ false
    → filter p (take (k + 1) frames) ≡ filter p (take k frames)
kept_same p frames k d inside drops =
    let none : filter p (get_or frames k d ∷ []) ≡ [] = rw drops refl in
    ap (filter p) (take_more frames k d inside) ∙ filter-append p (take k frames) (get_or frames k d ∷ []) ∙ ap (λ (xs : List Reference). filter p (take k frames) ++ xs) none
    ∙ append-nil (filter p (take k frames))

pub filter_length : (p : Reference → Bool) (frames : List Reference) → length (filter p frames) ≤ length frames
filter_length p [] = omega arith
filter_length p (x ∷ xs) =
    let more = filter_length p xs in
    elim (p x) as (λ b. length (cond b (x ∷ filter p xs) (filter p xs)) ≤ length (x ∷ xs)) [ true ↦ omega (arith, more) | false ↦ omega (arith, more) ]

-- operations in turn
pub next_operation : (n : Numbers) (operations : List Mmco) (k : ℕ) (d : Mmco) (m next : Marks) → k < length operations → Some next ≡ operated n m (get_or operations k d)
    → operated_by_all n (drop k operations) m ≡ operated_by_all n (drop (k + 1) operations) next
unfolding operated_by_all
next_operation n operations k d m next inside done =
    let e : suc k ≡ k + 1 = omega arith in
    ap (λ (xs : List Mmco). operated_by_all n xs m) (drop-cons operations k d inside) ∙ rw (sym done) (ap (λ (i : ℕ). operated_by_all n (drop i operations) next) e)

pub operation_fails : (n : Numbers) (operations : List Mmco) (k : ℕ) (d : Mmco) (m : Marks) → k < length operations → None ≡ operated n m (get_or operations k d)
    → operated_by_all n (drop k operations) m ≡ None
unfolding operated_by_all
operation_fails n operations k d m inside none = ap (λ (xs : List Mmco). operated_by_all n xs m) (drop-cons operations k d inside) ∙ rw (sym none) refl

pub no_operation : (n : Numbers) (operations : List Mmco) (k : ℕ) (m : Marks) → length operations ≤ k → operated_by_all n (drop k operations) m ≡ Some m
unfolding operated_by_all
no_operation n operations k m past = rw (drop_all k operations past) refl
