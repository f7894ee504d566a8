use Rattle.std.proofs.Common.{SFits, rules, sym, to_z-of_z, w32}
use Rattle.slice_header.proofs.numbers_reading.read_qp_delta.Goals as goal

pub returns : goal.returns
returns c =
    let least : SFits w32 c.least_qp_delta-least.result = search rules in
    let greatest : SFits w32 c.greatest_qp_delta-greatest.result = search rules in
    rw (sym c.least_qp_delta-least.ensures, sym c.greatest_qp_delta-greatest.ensures) (rw (to_z-of_z least, to_z-of_z greatest) at c.read_se_between.ensures)
