use Rattle.std.proofs.Common.{ap₂, arith, ◌∙◌, SFits, w32, rules, to_z-of_z, pos, Option, ℕ}
use Rattle.mb_syntax.proofs.CountLemmas.{chroma_above_is, chroma_left_is}
use Rattle.mb_syntax.specs.Counts.{mean}
use Rattle.mb_syntax.proofs.counts.Around.chroma_nc.Goals as goal
use Rattle.mb_syntax.proofs.counts.Around.chroma_nc.Goals.{then-block-eq0, else-block-eq0, then-block-lt2, else-block-lt2}

pub returns : goal.returns
returns c slice before blocks beside so_far =
    let fits : SFits w32 c.mean.result = search rules in
    let around = c.args.self.now in
    let left = chroma_left_is slice before around blocks beside c.args.counts.now c.args.plane c.args.block c.requires.plane c.requires.block so_far c.if-block-eq0.left
    (λ e. elim c.if-block-eq0.branch [
      | then-block-eq0 w ↦ w.left-is ∙ w.chroma_count-left.ensures
      | else-block-eq0 w ↦ absurd (w.if-block-eq0.false e)
    ])
    (λ n. elim c.if-block-eq0.branch [
      | then-block-eq0 w ↦ absurd (n w.if-block-eq0.true)
      | else-block-eq0 w ↦ w.left-is
    ]) in
    let up = chroma_above_is slice before around blocks beside c.args.counts.now c.args.plane c.args.block c.requires.plane c.requires.block so_far c.if-block-lt2.above
    (λ h. elim c.if-block-lt2.branch [
      | then-block-lt2 w ↦ w.above-is ∙ w.chroma_count-above.ensures
      | else-block-lt2 w ↦ absurd (omega (arith, h, w.if-block-lt2.false))
    ])
    (λ h. elim c.if-block-lt2.branch [
      | then-block-lt2 w ↦ absurd (omega (arith, h, w.if-block-lt2.true))
      | else-block-lt2 w ↦ w.above-is
    ]) in
    to_z-of_z fits ∙ c.mean.ensures ∙ ap₂ (λ (x y : Option ℕ). pos (mean x y)) left up
