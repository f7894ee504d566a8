use Rattle.std.proofs.Common.{refl, arith}
use Rattle.output_order.specs.OutputOrder.{nothing_yet, put_all_in_order}
use Rattle.access_units.specs.Pictures.{ordered, periods}
use Rattle.access_units.specs.Stands.{HaveOwnNumbers}
use Rattle.access_units.proofs.pictures.Pictures.new.Goals as goal

pub returns : goal.returns
unfolding ordered periods HaveOwnNumbers put_all_in_order
returns c = record {
  marker = c.new.ensures;
  history = nothing_yet;
  waiting = c.new-2.ensures;
  ordered = record { pushed = refl; period = refl; nothing_settled = refl; not_ended = refl; depth = tt };
  numbers = tt;
  last = refl;
  count = refl;
  few = omega arith;
}
