use Rattle.player_laws.proofs.TextOrder as order
use Rattle.player_laws.proofs.laws.ordered_flips_are_written.Goals as goal

pub returns : goal.returns
returns c = record { written = order.ordered_flips_are_written; more = order.texts_go_on }
