-- Lines one after the other.
use Rattle.std.proofs.Common.{◌≡◌, ℕ, zero, suc, ◌+◌, ◌*◌, ◌<◌, List, sym, refl, ap, ◌∙◌, add-one, arith}
use Rattle.deblock.specs.Deblocked.{after_lines}
use Rattle.deblock.specs.Lines.{Line}

pub no_lines : (r : Line → List ℕ → List ℕ) (l : ℕ → Line) (first : ℕ) (s : List ℕ) → s ≡ after_lines r l first 0 s
unfolding after_lines
no_lines r l first s = refl

pub one_more : (r : Line → List ℕ → List ℕ) (l : ℕ → Line) (first n : ℕ) (s now out : List ℕ) → now ≡ after_lines r l first n s → out ≡ r (l (first + n)) now → out ≡ after_lines r l first (n + 1) s
unfolding after_lines
one_more r l first n s now out en eo = eo ∙ (ap (r (l (first + n))) en ∙ ap (λ m. after_lines r l first m s) (sym (add-one n)))

pub more : (r : Line → List ℕ → List ℕ) (l : ℕ → Line) (first a b : ℕ) (s : List ℕ) → after_lines r l (first + a) b (after_lines r l first a s) ≡ after_lines r l first (a + b) s
unfolding after_lines
more r l first a zero s = ap (λ n. after_lines r l first n s) (let e : a ≡ a + 0 = omega arith in e)
more r l first a (suc b) s =
    let place : first + a + b ≡ first + (a + b) = omega arith in
    let next : suc (a + b) ≡ a + suc b = omega arith in
    ap (λ k. r (l k) (after_lines r l (first + a) b (after_lines r l first a s))) place
    ∙ (ap (r (l (first + (a + b)))) (more r l first a b s) ∙ ap (λ n. after_lines r l first n s) next)

-- the lines behind others, both with their samples
pub lines_more : (r : Line → List ℕ → List ℕ) (l : ℕ → Line) (first a b from total : ℕ) (s now out : List ℕ) → from ≡ first + a → total ≡ a + b → now ≡ after_lines r l first a s → out ≡ after_lines r l from b now
    → out ≡ after_lines r l first total s
lines_more r l first a b from total s now out ef et en eo =
    eo ∙ (ap (λ f. after_lines r l f b now) ef ∙ (ap (after_lines r l (first + a) b) en ∙ (more r l first a b s ∙ ap (λ n. after_lines r l first n s) (sym et))))

pub same_lines : (r : Line → List ℕ → List ℕ) (l l' : ℕ → Line) (first first' n : ℕ) (s : List ℕ) → ((k : ℕ) → k < n → l (first + k) ≡ l' (first' + k)) → after_lines r l first n s ≡ after_lines r l' first' n s
unfolding after_lines
same_lines r l l' first first' zero s same = refl
same_lines r l l' first first' (suc n) s same =
    ap (λ x. r x (after_lines r l first n s)) (same n (omega arith)) ∙ ap (r (l' (first' + n))) (same_lines r l l' first first' n s (λ k h. same k (omega arith)))

-- lines that change nothing
pub idle_lines : (r : Line → List ℕ → List ℕ) (l : ℕ → Line) (first n : ℕ) (s : List ℕ) → ((k : ℕ) → k < n → (t : List ℕ) → r (l (first + k)) t ≡ t) → s ≡ after_lines r l first n s
unfolding after_lines
idle_lines r l first zero s idle = refl
idle_lines r l first (suc n) s idle = idle_lines r l first n s (λ k h. idle k (omega arith)) ∙ sym (idle n (omega arith) (after_lines r l first n s))

-- two directions of a macroblock behind the macroblocks before it
pub both_more : (r : Line → List ℕ → List ℕ) (l : ℕ → Line) (half mb : ℕ) (s now middle out : List ℕ) → now ≡ after_lines r l 0 (2 * half * mb) s → middle ≡ after_lines r l (2 * half * mb + 0) half now → out ≡ after_lines r l (2 * half * mb + half) half middle
    → out ≡ after_lines r l 0 (2 * half * (mb + 1)) s
both_more r l half mb s now middle out en em eo =
    let n : ℕ = 2 * half * mb in
    let first : middle ≡ after_lines r l 0 (n + half) s = lines_more r l 0 n half (n + 0) (n + half) s now middle (omega arith) refl en em in
    lines_more r l 0 (n + half) half (n + half) (2 * half * (mb + 1)) s middle out (omega arith) (omega arith) first eo
