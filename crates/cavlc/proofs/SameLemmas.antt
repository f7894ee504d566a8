-- The levels and the runs say which block it is, so no block's bits begin another's.
use Rattle.std.proofs.Common.{◌≡◌, ℕ, zero, suc, ◌≤◌, List, [], ◌∷◌, ◌++◌, length, drop, reverse, sum, refl, sym, ap, ap₂, ◌∙◌, subst, arith, ℤ, pos, negsuc}
use Rattle.std.proofs.lemmas.List.{reverse-reverse}
use Rattle.bit_io.specs.Reads.{IsPrefixFree}
use Rattle.cavlc.proofs.BlockLemmas.{block_split, its_levels, its_runs, its_zeros, levels_read, sum-cons, token_read, zeros_read}
use Rattle.cavlc.proofs.CoefficientLemmas.{length-gaps}
use Rattle.cavlc.proofs.RunLemmas.{runs_bits, runs_prefix_free}
use Rattle.cavlc.specs.Blocks.{HasSpelling, block_bits, zeros_bits}
use Rattle.cavlc.specs.Coefficients.{gaps, levels, nonzero, runs, total_coeff, total_zeros, trailing_ones}
use Rattle.cavlc.specs.Levels.{levels_bits}
use Rattle.cavlc.specs.Parts.{AreRuns}

from_reversed : {X : Type 0} (xs ys : List X) → reverse xs ≡ reverse ys → xs ≡ ys
from_reversed xs ys e = sym (reverse-reverse xs) ∙ ap reverse e ∙ reverse-reverse ys

first_gap : (xs ys : List ℕ) → length xs ≡ length ys → drop 1 xs ≡ drop 1 ys → sum xs ≡ sum ys → xs ≡ ys
first_gap [] [] l e s = refl
first_gap [] (y ∷ ys) l e s = absurd (omega (arith, l))
first_gap (x ∷ xs) [] l e s = absurd (omega (arith, l))
first_gap (x ∷ xs) (y ∷ ys) l e s =
    let first : x ≡ y = omega (arith, sum-cons x xs, sum-cons y ys, s, ap sum e) in
    ap₂ (λ (z : ℕ) (zs : List ℕ). z ∷ zs) first e

gaps_from : (c : List ℤ) (n m : ℕ) (xs : List ℕ) → gaps n c ≡ m ∷ xs → n ≤ m
unfolding gaps
gaps_from [] n m xs e = cc
gaps_from (pos zero ∷ c) n m xs e = let more = gaps_from c (suc n) m xs e in omega arith
gaps_from (pos (suc k) ∷ c) n m xs e = let same : n ≡ m = cc in omega arith
gaps_from (negsuc k ∷ c) n m xs e = let same : n ≡ m = cc in omega arith

same_block : (c d : List ℤ) (n : ℕ) → length c ≡ length d → nonzero c ≡ nonzero d → gaps n c ≡ gaps n d → c ≡ d
unfolding nonzero gaps
same_block [] [] n l e f = refl
same_block [] (y ∷ d) n l e f = absurd (omega (arith, l))
same_block (x ∷ c) [] n l e f = absurd (omega (arith, l))
same_block (pos zero ∷ c) (pos zero ∷ d) n l e f = ap (λ (x : List ℤ). pos 0 ∷ x) (same_block c d (suc n) (omega (arith, l)) e f)
same_block (pos zero ∷ c) (pos (suc j) ∷ d) n l e f = absurd (omega (arith, gaps_from c (suc n) n (gaps 0 d) f))
same_block (pos zero ∷ c) (negsuc j ∷ d) n l e f = absurd (omega (arith, gaps_from c (suc n) n (gaps 0 d) f))
same_block (pos (suc k) ∷ c) (pos zero ∷ d) n l e f = absurd (omega (arith, gaps_from d (suc n) n (gaps 0 c) (sym f)))
same_block (negsuc k ∷ c) (pos zero ∷ d) n l e f = absurd (omega (arith, gaps_from d (suc n) n (gaps 0 c) (sym f)))
same_block (pos (suc k) ∷ c) (pos (suc j) ∷ d) n l e f =
    let first : pos (suc k) ≡ pos (suc j) = cc in
    let tail : nonzero c ≡ nonzero d = cc in
    let rest : gaps 0 c ≡ gaps 0 d = cc in
    ap₂ (λ (x : ℤ) (y : List ℤ). x ∷ y) first (same_block c d 0 (omega (arith, l)) tail rest)
same_block (pos (suc k) ∷ c) (negsuc j ∷ d) n l e f = let first : pos (suc k) ≡ negsuc j = cc in cc
same_block (negsuc k ∷ c) (pos (suc j) ∷ d) n l e f = let first : negsuc k ≡ pos (suc j) = cc in cc
same_block (negsuc k ∷ c) (negsuc j ∷ d) n l e f =
    let first : negsuc k ≡ negsuc j = cc in
    let tail : nonzero c ≡ nonzero d = cc in
    let rest : gaps 0 c ≡ gaps 0 d = cc in
    ap₂ (λ (x : ℤ) (y : List ℤ). x ∷ y) first (same_block c d 0 (omega (arith, l)) tail rest)

same_by_parts : (c d : List ℤ) → length c ≡ length d → levels c ≡ levels d → total_zeros c ≡ total_zeros d → runs c ≡ runs d → c ≡ d
same_by_parts c d l e f g =
    let same = from_reversed (nonzero c) (nonzero d) e in
    let count : length (gaps 0 c) ≡ length (gaps 0 d) = length-gaps 0 c ∙ ap length same ∙ sym (length-gaps 0 d) in
    same_block c d 0 l same (first_gap (gaps 0 c) (gaps 0 d) count (from_reversed (drop 1 (gaps 0 c)) (drop 1 (gaps 0 d)) g) f)

pub blocks_free : (nc : ℤ) (most : ℕ) → IsPrefixFree (HasSpelling nc most) (block_bits nc most)
blocks_free nc most v w after_v after_w h k e =
    let total = total_coeff v in
    let ones = trailing_ones v in
    let zeros = total_zeros v in
    let last = runs_bits zeros (runs v) ++ after_v in
    let next = zeros_bits most total zeros ++ last in
    let mid = levels_bits total ones (levels v) ++ next in
    let old = block_bits nc most v ++ after_v in
    let b = token_read nc most total ones w old mid after_w h.token (block_split nc most v after_v) k e in
    let l = levels_read most total ones w (levels v) mid next after_w b (its_levels nc most v h) refl in
    let z = zeros_read most total zeros w next last after_w (its_zeros nc most v h) b.of_zeros refl l.1 in
    let back : total_zeros w ≡ zeros = sym z.0 in
    let r = runs_prefix_free total zeros (runs v) (runs w) after_v after_w (its_runs nc most v h) (subst (λ (x : ℕ). AreRuns total x (runs w)) back b.of_runs)
    (z.1 ∙ ap (λ (x : ℕ). runs_bits x (runs w) ++ after_w) back) in
    (same_by_parts v w (h.size ∙ sym k.size) l.0 z.0 r.0, r.1)
