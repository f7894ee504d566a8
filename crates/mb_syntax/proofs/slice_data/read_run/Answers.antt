use Rattle.std.proofs.Common.{ap, arith, length, refl}
use Rattle.std.proofs.lemmas.List.{length-append}
use Rattle.bit_io.specs.Codewords.{ue}
use Rattle.mb_syntax.proofs.ReadLemmas.{here_step, long_run_step, no_run_step, run_step}
use Rattle.mb_syntax.proofs.RestLemmas.{some_ue}
use Rattle.mb_syntax.proofs.slice_data.read_run.Goals as goal

pub returns-then-not-slice-clause-reads : goal.returns-then-not-slice-clause-reads
returns-then-not-slice-clause-reads c = λ at none stands.
    here_step c.args.slice.now (omega arith) at c.args.reader.now _ c.args.count c.args.columns.now none stands c.if-not-slice.true (omega arith) c.requires.within

pub returns-in_err-run-clause-reads : goal.returns-in_err-run-clause-reads
returns-in_err-run-clause-reads c = rw c.from_residual.ensures (λ at none stands.
    no_run_step c.args.slice.now (omega arith) at c.args.reader.now c.args.count c.args.columns.now none stands c.if-not-slice.false c.requires.more c.in_err-run.ensures.reads.1)

pub returns-then-run-slice-clause-reads : goal.returns-then-run-slice-clause-reads
returns-then-run-slice-clause-reads c = λ at none stands.
    long_run_step c.args.slice.now (omega arith) at c.args.reader.now c.read_ue.new.self c.in_ok-run.run' c.args.count c.args.columns.now none stands c.if-not-slice.false c.requires.more
    c.in_ok-run.ensures.reads.0 c.in_ok-run.ensures.reads.1 (omega arith)

pub returns-clause-reads : goal.returns-clause-reads
returns-clause-reads c = λ at none stands.
    run_step c.args.slice.now (omega arith) at c.args.reader.now c.read_ue.new.self c.in_ok-run.run' _ c.args.count _ c.args.columns.now c.skip.new.columns none stands c.if-not-slice.false c.requires.more
    c.in_ok-run.ensures.reads.0 c.in_ok-run.ensures.reads.1 (omega arith) refl (omega arith) (c.skip.ensures.columns at.before stands.size stands.counts)

pub returns-clause-shorter : goal.returns-clause-shorter
returns-clause-shorter c = λ p.
    let some = some_ue c.in_ok-run.run' in
    omega (arith, some, ap length c.in_ok-run.ensures.reads.1, length-append (ue c.in_ok-run.run') c.read_ue.new.self)
