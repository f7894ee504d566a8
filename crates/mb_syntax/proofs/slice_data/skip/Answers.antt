use Rattle.std.proofs.Common.{◌≡◌, ◌-◌, ◌∙◌, List, [], ◌∷◌, ◌++◌, arith, length, refl, replicate, subst}
use Rattle.cb_types.specs.declared.macroblock.Macroblock.{Macroblock}
use Rattle.std.proofs.lemmas.List.{drop-set-lt, length-append, length-replicate}
use Rattle.mb_syntax.proofs.SkipLemmas.{one_more, skipped_counts, taken_more}
use Rattle.mb_syntax.specs.Around.{AreColumns}
use Rattle.mb_syntax.specs.SliceData.{skipped}
use Rattle.mb_syntax.proofs.slice_data.skip.Goals as goal

pub loop-k-preserved : goal.loop-k-preserved
loop-k-preserved c =
    let k = c.loop-k.k in
    let first = c.args.first in (
      taken_more c.loop-k.into _ k first (omega arith) (omega arith) c.loop-k.invariant.0,
      drop-set-lt c.args.end c.loop-k.into k skipped (omega arith) ∙ c.loop-k.invariant.1,
      λ before size columns.
          let now = before ++ replicate (k - first) skipped in
          let long : length now ≡ k = omega (arith, length-append before (replicate (k - first) skipped), length-replicate (k - first) skipped, size) in
          let kept = c.keep.ensures now skipped long (c.loop-k.invariant.2 before size columns) skipped_counts in
          subst (λ (x : List Macroblock). AreColumns c.args.slice.now x c.keep.new.self) (one_more before (now ++ skipped ∷ []) k first (omega arith) refl) kept,
    )
