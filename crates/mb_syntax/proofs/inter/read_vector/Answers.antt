use Rattle.std.proofs.Common.{SFits, rules, to_z-of_z, w32}
use Rattle.mb_syntax.proofs.InterLemmas.{no_x, no_y, vector_read}
use Rattle.mb_syntax.proofs.inter.read_vector.Goals as goal

pub returns-in_err-x : goal.returns-in_err-x
returns-in_err-x c = rw c.from_residual.ensures (no_x c.args.reader.now c.in_err-x.ensures.reads.1)

pub returns-in_err-y : goal.returns-in_err-y
returns-in_err-y c = rw c.from_residual-in_err-y.ensures (no_y c.in_ok-x.x c.args.reader.now c.read_se.new.self c.in_ok-x.ensures.reads.0 c.in_ok-x.ensures.reads.1 c.in_err-y.ensures.reads.1)

pub returns : goal.returns
returns c =
    let x_fits : SFits w32 c.in_ok-x.x = search rules in
    let y_fits : SFits w32 c.in_ok-y.y = search rules in
    rw (to_z-of_z x_fits, to_z-of_z y_fits) (vector_read c.in_ok-x.x c.in_ok-y.y c.args.reader.now c.read_se.new.self c.read_se-2.new.self
    c.in_ok-x.ensures.reads.0 c.in_ok-x.ensures.reads.1 c.in_ok-y.ensures.reads.0 c.in_ok-y.ensures.reads.1)
