use Rattle.std.proofs.Common.{◌≡◌, ◌++◌, ◌∙◌, OnOk, ap, subst, sym, arith, append-nil}
use Rattle.cavlc.specs.Blocks.{code_bits}
use Rattle.cavlc.proofs.ElementLemmas.{run_spelled, run_unspelled}
use Rattle.cavlc.proofs.elements.put_run.Goals as goal

pub returns-then-left-eq0-clause-ok : goal.returns-then-left-eq0-clause-ok
returns-then-left-eq0-clause-ok c =
    sym (append-nil c.args.out.now) ∙ ap (λ x. c.args.out.now ++ x) (sym (run_unspelled c.args.left c.args.run_before c.if-left-eq0.true))

pub returns-clause-ok : goal.returns-clause-ok
returns-clause-ok c =
    let word = ap code_bits c.run.ensures.entry ∙ sym (run_spelled c.args.left c.args.run_before (omega arith)) in
    subst (λ x. OnOk c.put_code.result (c.put_code.new.out ≡ c.args.out.now ++ x)) word c.put_code.ensures.ok
