use Rattle.std.proofs.Common.{◌-◌, ◌++◌, ◌∙◌, ap, get_or, subst, sym, ℕ}
use Rattle.cavlc.proofs.TurnLemmas.{is_at, state_more, state_none, written_more, written_none}
use Rattle.cavlc.specs.Blocks.{HasRunCode, left_behind, run_bits}
use Rattle.cavlc.proofs.writing.put_runs.Goals as goal

pub loop-run-init : goal.loop-run-init
loop-run-init c = record {
  written = written_none HasRunCode run_bits left_behind c.args.zeros c.args.runs.now c.args.out.now;
  behind = state_none HasRunCode run_bits left_behind c.args.zeros c.args.runs.now;
}

pub put_run-requires : goal.put_run-requires
put_run-requires c =
    subst (λ (x : ℕ). HasRunCode x (get_or c.args.runs.now c.loop-run.run-index 0)) (sym c.loop-run.invariant.behind)
    (is_at HasRunCode run_bits left_behind c.args.zeros c.args.runs.now c.loop-run.run-index 0 c.loop-run-test.true c.requires)

pub overflow_sub-left : goal.overflow_sub-left
overflow_sub-left c =
    let is = subst (λ (x : ℕ). HasRunCode x (get_or c.args.runs.now c.loop-run.run-index 0)) (sym c.loop-run.invariant.behind)
    (is_at HasRunCode run_bits left_behind c.args.zeros c.args.runs.now c.loop-run.run-index 0 c.loop-run-test.true c.requires) in
    is.within

pub loop-run-preserved : goal.loop-run-preserved
loop-run-preserved c =
    let before = c.loop-run.invariant in
    let runs = c.args.runs.now in
    let i = c.loop-run.run-index in
    let run = get_or runs i 0 in
    let put = c.in_ok-put_run.ensures.ok ∙ ap (λ (x : ℕ). c.loop-run.out ++ run_bits x run) before.behind in
    record {
      written = written_more HasRunCode run_bits left_behind c.args.zeros runs i 0 c.args.out.now c.loop-run.out c.put_run.new.out c.loop-run-test.true before.written put;
      behind = ap (λ (x : ℕ). x - run) before.behind ∙ sym (state_more HasRunCode run_bits left_behind c.args.zeros runs i 0 c.loop-run-test.true);
    }
