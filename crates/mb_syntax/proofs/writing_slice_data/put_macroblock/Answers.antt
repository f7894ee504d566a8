use Rattle.mb_syntax.proofs.SameBlocks.{coded_spelled}
use Rattle.mb_syntax.proofs.WriteLemmas.{mb_written, pcm_counts}
use Rattle.mb_syntax.specs.MacroblockLayer.{qp_delta_bits}
use Rattle.std.proofs.Common.{◌++◌, ◌∙◌, SFits, ap, rules, sym, to_z-of_z, w32, ℤ}
use Rattle.mb_syntax.proofs.writing_slice_data.put_macroblock.Goals as goal

pub returns-then-is_pcm-clause-ok : goal.returns-then-is_pcm-clause-ok
returns-then-is_pcm-clause-ok c = λ before beside is.
    let fits : SFits w32 c.args.mb.now.qp_delta = search rules in
    mb_written c.args.slice.now before c.args.mb.now c.args.out.now c.put_kind.new.out c.put_qp_delta.new.out c.put_residual.new.out c.in_ok-put_kind.ensures.ok (c.in_ok-put_qp_delta.ensures.ok ∙ ap (λ (x : ℤ). c.put_kind.new.out ++ qp_delta_bits c.args.mb.now.kind x) (to_z-of_z fits))
    (c.in_ok-counts.ensures.ok c.args.slice.now before (coded_spelled c.args.slice.now before c.args.around.now c.args.mb.now beside is))

pub returns-then-is_pcm-clause-counts : goal.returns-then-is_pcm-clause-counts
returns-then-is_pcm-clause-counts c = pcm_counts c.args.mb.now (sym c.is_pcm.ensures ∙ c.if-is_pcm.true)

pub returns-clause-ok : goal.returns-clause-ok
returns-clause-ok c = λ before beside is.
    let fits : SFits w32 c.args.mb.now.qp_delta = search rules in
    mb_written c.args.slice.now before c.args.mb.now c.args.out.now c.put_kind.new.out c.put_qp_delta.new.out c.put_residual.new.out c.in_ok-put_kind.ensures.ok (c.in_ok-put_qp_delta.ensures.ok ∙ ap (λ (x : ℤ). c.put_kind.new.out ++ qp_delta_bits c.args.mb.now.kind x) (to_z-of_z fits))
    (c.in_ok-counts.ensures.ok c.args.slice.now before (coded_spelled c.args.slice.now before c.args.around.now c.args.mb.now beside is))
