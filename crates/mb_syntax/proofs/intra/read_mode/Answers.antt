use Rattle.std.proofs.Common.{◌∙◌}
use Rattle.mb_syntax.proofs.ModeLemmas.{no_flag, no_remaining, one_bit, zero_bit}
use Rattle.mb_syntax.proofs.intra.read_mode.Goals as goal

pub returns-in_err-read_u : goal.returns-in_err-read_u
returns-in_err-read_u c = rw c.from_residual.ensures (no_flag c.args.reader.now c.in_err-read_u.ensures.reads.1)

pub returns-then-branch-eq1 : goal.returns-then-branch-eq1
returns-then-branch-eq1 c = (tt, c.in_ok-read_u.ensures.reads.1 ∙ one_bit c.in_ok-read_u.field-0 c.read_u.new.self c.if-branch-eq1.true)

pub returns-in_err-remaining : goal.returns-in_err-remaining
returns-in_err-remaining c =
    let start = c.in_ok-read_u.ensures.reads.1 ∙ zero_bit c.in_ok-read_u.field-0 c.read_u.new.self c.in_ok-read_u.ensures.reads.0 c.if-branch-eq1.false in
    rw c.from_residual-in_err-remaining.ensures (no_remaining c.args.reader.now c.read_u.new.self start c.in_err-remaining.ensures.reads.1)

pub returns : goal.returns
returns c =
    let start = c.in_ok-read_u.ensures.reads.1 ∙ zero_bit c.in_ok-read_u.field-0 c.read_u.new.self c.in_ok-read_u.ensures.reads.0 c.if-branch-eq1.false in
    let rest = c.in_ok-remaining.ensures.reads.1 in
    (c.in_ok-remaining.ensures.reads.0, rw (← rest) start)
