use Rattle.driver_model.proofs.FlipOrder as order
use Rattle.driver_model.proofs.StreamFlips as streams
use Rattle.driver_model.proofs.laws.streams_settle_the_text.Goals as goal

pub returns : goal.returns
returns c = record { settled = order.streams_settle_the_text; shown = streams.streams_show_the_script }
