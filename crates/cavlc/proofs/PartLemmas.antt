-- A block is taken apart from its first coefficient on, and the parts are put from the end of arrays down.
use Rattle.std.proofs.Common.{◌≡◌, ◌≢◌, ℕ, suc, ◌+◌, ◌-◌, ◌<◌, ◌≤◌, Bool, List, [], ◌∷◌, ◌++◌, length, get_or, take, drop, set, reverse, sum, refl, sym, ap, ◌∙◌, arith, append_assoc, ℤ, pos}
use Rattle.std.proofs.lemmas.List.{drop-set, drop_all, drop_more, length-reverse, nil_from_length, take_at}
use Rattle.std.proofs.lemmas.List.Sums.{sum_by-cons}
use Rattle.cavlc.proofs.CoefficientLemmas.{gaps-level, gaps-zero, nonzero-level, nonzero-zero, length-runs, reverse-cons}
use Rattle.cavlc.proofs.RunLemmas.{runs_bits}
use Rattle.cavlc.proofs.TurnLemmas.{written_none}
use Rattle.cavlc.specs.Blocks.{HasRunCode, block_bits, left_behind, run_bits, token_bits, zeros_bits}
use Rattle.cavlc.specs.Coefficients.{gaps, levels, nonzero, runs, total_coeff, total_zeros, trailing_ones}
use Rattle.cavlc.specs.Levels.{levels_bits}

-- One element more stands in front of those at the end of the array.
pub put_down : {X : Type 0} (whole xs ys arr : List X) (x : X) (first : ℕ) → whole ≡ reverse xs ++ drop first arr → xs ≡ x ∷ ys → 1 ≤ first → first ≤ length arr
    → whole ≡ reverse ys ++ drop (first - 1) (set arr (first - 1) x)
put_down {X} whole xs ys arr x first e f some within =
    let back : first ≡ first - 1 + 1 = omega arith in
    e ∙ ap (λ (y : List X). reverse y ++ drop first arr) f ∙ ap (λ (y : List X). y ++ drop first arr) (reverse-cons x ys) ∙ append_assoc (reverse ys) (x ∷ []) (drop first arr)
    ∙ ap (λ (n : ℕ). reverse ys ++ x ∷ drop n arr) back ∙ ap (λ (y : List X). reverse ys ++ y) (sym (drop-set arr (first - 1) x (omega arith)))

module _ (block : List ℤ) (i : ℕ) (within : i < length block) where
  abbrev here : ℤ
  here = get_or block i (pos 0)

  nonzero_past : here ≡ pos 0 → nonzero (drop i block) ≡ nonzero (drop (i + 1) block)
  nonzero_past e = ap nonzero (drop_more block i (pos 0) within ∙ ap (λ (x : ℤ). x ∷ drop (i + 1) block) e) ∙ nonzero-zero (drop (i + 1) block)

  gaps_past : (run : ℕ) → here ≡ pos 0 → gaps run (drop i block) ≡ gaps (run + 1) (drop (i + 1) block)
  gaps_past run e =
      let more : suc run ≡ run + 1 = omega arith in
      ap (gaps run) (drop_more block i (pos 0) within ∙ ap (λ (x : ℤ). x ∷ drop (i + 1) block) e) ∙ gaps-zero run (drop (i + 1) block)
      ∙ ap (λ (x : ℕ). gaps x (drop (i + 1) block)) more

  pub nonzero_at : here ≢ pos 0 → nonzero (drop i block) ≡ here ∷ nonzero (drop (i + 1) block)
  nonzero_at h = ap nonzero (drop_more block i (pos 0) within) ∙ nonzero-level here (drop (i + 1) block) h

  pub gaps_at : (run : ℕ) → here ≢ pos 0 → gaps run (drop i block) ≡ run ∷ gaps 0 (drop (i + 1) block)
  gaps_at run h = ap (gaps run) (drop_more block i (pos 0) within) ∙ gaps-level run here (drop (i + 1) block) h

  -- a zero
  pub levels_past : (whole behind : List ℤ) → here ≡ pos 0 → whole ≡ reverse (nonzero (drop i block)) ++ behind → whole ≡ reverse (nonzero (drop (i + 1) block)) ++ behind
  levels_past whole behind e h = h ∙ ap (λ (x : List ℤ). reverse x ++ behind) (nonzero_past e)

  pub runs_past : (run : ℕ) (whole behind : List ℕ) → here ≡ pos 0 → whole ≡ reverse (gaps run (drop i block)) ++ behind → whole ≡ reverse (gaps (run + 1) (drop (i + 1) block)) ++ behind
  runs_past run whole behind e h = h ∙ ap (λ (x : List ℕ). reverse x ++ behind) (gaps_past run e)

  pub zeros_past : (run zeros whole : ℕ) → here ≡ pos 0 → whole ≡ zeros + sum (gaps run (drop i block)) → whole ≡ zeros + sum (gaps (run + 1) (drop (i + 1) block))
  zeros_past run zeros whole e h = h ∙ ap (λ (x : List ℕ). zeros + sum x) (gaps_past run e)

  -- a level
  pub zeros_at : (run zeros whole : ℕ) → here ≢ pos 0 → whole ≡ zeros + sum (gaps run (drop i block)) → whole ≡ zeros + run + sum (gaps 0 (drop (i + 1) block))
  zeros_at run zeros whole e h = h ∙ ap (λ (x : List ℕ). zeros + sum x) (gaps_at run e) ∙ ap (λ (x : ℕ). zeros + x) (sum_by-cons (λ x. x) run (gaps 0 (drop (i + 1) block))) ∙ omega arith

-- at the end
module _ (block : List ℤ) (i : ℕ) (past : length block ≤ i) where
  pub levels_end : (whole behind : List ℤ) → whole ≡ reverse (nonzero (drop i block)) ++ behind → behind ≡ whole
  unfolding nonzero
  levels_end whole behind h = sym (h ∙ ap (λ (x : List ℤ). reverse (nonzero x) ++ behind) (drop_all i block past))

  pub runs_end : (run : ℕ) (whole behind : List ℕ) → whole ≡ reverse (gaps run (drop i block)) ++ behind → behind ≡ whole
  unfolding gaps
  runs_end run whole behind h = sym (h ∙ ap (λ (x : List ℤ). reverse (gaps run x) ++ behind) (drop_all i block past))

  pub zeros_end : (run zeros whole : ℕ) → whole ≡ zeros + sum (gaps run (drop i block)) → zeros ≡ whole
  unfolding gaps
  zeros_end run zeros whole h = sym (h ∙ ap (λ (x : List ℤ). zeros + sum (gaps run x)) (drop_all i block past) ∙ omega arith)

-- all but the last
pub but_last : (xs : List ℕ) → take (length (reverse xs) - 1) (reverse xs) ≡ reverse (drop 1 xs)
but_last [] = refl
but_last (x ∷ xs) =
    let long : length (reverse xs) ≡ length (reverse (x ∷ xs)) - 1 = omega (arith, length-reverse xs, length-reverse (x ∷ xs)) in
    ap (λ (y : List ℕ). take (length (reverse (x ∷ xs)) - 1) y) (reverse-cons x xs) ∙ take_at (reverse xs) (x ∷ []) (length (reverse (x ∷ xs)) - 1) long

-- The elements of a block have been written one after the other.
module _ (nc : ℤ) (most : ℕ) (c : List ℤ) (old with_token with_levels with_zeros : List Bool)
    (token : with_token ≡ old ++ token_bits nc (total_coeff c) (trailing_ones c)) (level : with_levels ≡ with_token ++ levels_bits (total_coeff c) (trailing_ones c) (levels c))
    (zeros : with_zeros ≡ with_levels ++ zeros_bits most (total_coeff c) (total_zeros c)) where
  pub block_written : (new : List Bool) → new ≡ with_zeros ++ runs_bits (total_zeros c) (runs c) → new ≡ old ++ block_bits nc most c
  unfolding block_bits
  block_written new e =
      let t = token_bits nc (total_coeff c) (trailing_ones c) in
      let l = levels_bits (total_coeff c) (trailing_ones c) (levels c) in
      let z = zeros_bits most (total_coeff c) (total_zeros c) in
      let r = runs_bits (total_zeros c) (runs c) in
      e ∙ ap (λ (x : List Bool). x ++ r) (zeros ∙ ap (λ (x : List Bool). x ++ z) (level ∙ ap (λ (x : List Bool). x ++ l) token))
      ∙ ap (λ (x : List Bool). x ++ z ++ r) (append_assoc old t l) ∙ ap (λ (x : List Bool). x ++ r) (append_assoc old (t ++ l) z) ∙ append_assoc old (t ++ l ++ z) r

  -- the same where no run is spelled
  pub block_written_short : total_coeff c ≤ 1 → with_zeros ≡ old ++ block_bits nc most c
  block_written_short few =
      block_written with_zeros (sym (ap (λ (x : List ℕ). with_zeros ++ runs_bits (total_zeros c) x) (nil_from_length (runs c) (omega (arith, length-runs c))) ∙ nothing))
    where
      nothing : with_zeros ++ runs_bits (total_zeros c) [] ≡ with_zeros
      nothing = sym (written_none HasRunCode run_bits left_behind (total_zeros c) [] with_zeros)
