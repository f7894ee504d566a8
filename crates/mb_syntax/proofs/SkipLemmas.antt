-- Skipped macroblocks behind one another, and what their blocks count.
use Rattle.std.proofs.Common.{◌≡◌, ℕ, ◌+◌, ◌-◌, ◌<◌, ◌≤◌, List, [], ◌∷◌, ◌++◌, length, replicate, set, take, sym, ap, ◌∙◌, arith, append_assoc, pos}
use Rattle.std.proofs.lemmas.List.{get_or-replicate, replicate-append-replicate, take_more_set}
use Rattle.cavlc.specs.Coefficients.{total_coeff}
use Rattle.cb_types.specs.declared.macroblock.Macroblock.{Macroblock}
use Rattle.mb_syntax.proofs.BlockLemmas.{none_of_zeros}
use Rattle.mb_syntax.specs.Around.{IsCountOf}
use Rattle.mb_syntax.specs.Counts.{chroma_place, luma_place, total_at}
use Rattle.mb_syntax.specs.SliceData.{skipped}
use Rattle.mb_syntax.specs.declared.counts.Counts.{Counts}

skipped_more : (k first : ℕ) → first ≤ k → replicate (k - first) skipped ++ skipped ∷ [] ≡ replicate (k + 1 - first) skipped
skipped_more k first order = replicate-append-replicate (k - first) 1 skipped ∙ ap (λ (n : ℕ). replicate n skipped) (omega (arith, order))

pub one_more : (before after : List Macroblock) (k first : ℕ) → first ≤ k → after ≡ (before ++ replicate (k - first) skipped) ++ skipped ∷ [] → after ≡ before ++ replicate (k + 1 - first) skipped
one_more before after k first order e = e ∙ append_assoc before (replicate (k - first) skipped) (skipped ∷ []) ∙ ap (λ (x : List Macroblock). before ++ x) (skipped_more k first order)

pub taken_more : (xs start : List Macroblock) (k first : ℕ) → first ≤ k → k < length xs → take k xs ≡ start ++ replicate (k - first) skipped
    → take (k + 1) (set xs k skipped) ≡ start ++ replicate (k + 1 - first) skipped
taken_more xs start k first order below e = one_more start (take (k + 1) (set xs k skipped)) k first order (take_more_set xs k skipped below ∙ ap (λ (x : List Macroblock). x ++ skipped ∷ []) e)

abbrev pub nothing : Counts
nothing = record { luma = replicate 16 0; cb = replicate 4 0; cr = replicate 4 0 }

none_at : (place : ℕ) → place < 27 → 0 ≡ total_at (replicate 27 (replicate 16 (pos 0))) place
none_at place below = none_of_zeros ∙ ap total_coeff (sym (get_or-replicate 27 place (replicate 16 (pos 0)) [] below))

pub skipped_counts : IsCountOf nothing skipped
skipped_counts = record {
  luma = λ block below. get_or-replicate 16 block 0 0 below ∙ none_at (luma_place block) (omega (arith, below));
  cb = λ block below. get_or-replicate 4 block 0 0 below ∙ none_at (chroma_place 0 block) (omega (arith, below));
  cr = λ block below. get_or-replicate 4 block 0 0 below ∙ none_at (chroma_place 1 block) (omega (arith, below));
}
