use Rattle.std.proofs.Common.{◌∙◌, SFits, rules, to_z-of_z, w32}
use Rattle.mb_syntax.proofs.MbLemmas.{mb_read, no_blocks, no_delta, no_kind}
use Rattle.mb_syntax.specs.MacroblockLayer.{place_before}
use Rattle.mb_syntax.proofs.macroblock.read_macroblock.Goals as goal

pub returns-in_err-mb-clause-reads : goal.returns-in_err-mb-clause-reads
returns-in_err-mb-clause-reads c = rw c.from_residual.ensures (λ before beside.
    no_kind c.args.slice.now (place_before c.args.reader.now) before c.args.reader.now c.in_err-mb.ensures)

pub returns-in_err-mb-2-clause-reads : goal.returns-in_err-mb-2-clause-reads
returns-in_err-mb-2-clause-reads c = rw c.from_residual-in_err-mb-2.ensures (λ before beside.
    no_delta c.args.slice.now (place_before c.args.reader.now) before c.requires.few _ c.args.reader.now c.read_kind.new.reader c.in_ok-mb.ensures.0 c.in_ok-mb.ensures.1 c.in_err-mb-2.ensures)

pub returns-in_err-counts-clause-reads : goal.returns-in_err-counts-clause-reads
returns-in_err-counts-clause-reads c = rw c.from_residual-in_err-counts.ensures (λ before beside.
    no_blocks c.args.slice.now (place_before c.args.reader.now) before c.requires.few _ _ c.args.reader.now c.read_kind.new.reader c.read_qp_delta.new.reader
    c.in_ok-mb.ensures.0 c.in_ok-mb.ensures.1 c.in_ok-mb-2.ensures.0 c.in_ok-mb-2.ensures.1 (c.in_err-counts.ensures.reads c.args.slice.now before beside))

pub returns-then-is_pcm-clause-reads : goal.returns-then-is_pcm-clause-reads
returns-then-is_pcm-clause-reads c = λ before beside.
    let fits : SFits w32 c.in_ok-mb-2.field-0 = search rules in
    let blocks = c.in_ok-counts.ensures.reads c.args.slice.now before beside in
    mb_read c.args.slice.now (place_before c.args.reader.now) before _ _ c.read_residual.new.mb c.args.reader.now c.read_kind.new.reader c.read_qp_delta.new.reader c.read_residual.new.reader
    c.in_ok-mb.ensures.0 c.in_ok-mb.ensures.1 c.in_ok-mb-2.ensures.0 c.in_ok-mb-2.ensures.1 c.in_ok-counts.ensures.kind (c.in_ok-counts.ensures.qp_delta ∙ to_z-of_z fits) c.in_ok-counts.ensures.sizes blocks.0.1 blocks.1

pub returns-clause-reads : goal.returns-clause-reads
returns-clause-reads c = λ before beside.
    let fits : SFits w32 c.in_ok-mb-2.field-0 = search rules in
    let blocks = c.in_ok-counts.ensures.reads c.args.slice.now before beside in
    mb_read c.args.slice.now (place_before c.args.reader.now) before _ _ c.read_residual.new.mb c.args.reader.now c.read_kind.new.reader c.read_qp_delta.new.reader c.read_residual.new.reader
    c.in_ok-mb.ensures.0 c.in_ok-mb.ensures.1 c.in_ok-mb-2.ensures.0 c.in_ok-mb-2.ensures.1 c.in_ok-counts.ensures.kind (c.in_ok-counts.ensures.qp_delta ∙ to_z-of_z fits) c.in_ok-counts.ensures.sizes blocks.0.1 blocks.1
