use Rattle.decoder_render.proofs.RenamedAccepted.{accepted_apart, renamed_accepted, widest_takes, widest_takes_renamed}
use Rattle.decoder_render.proofs.laws.renamed_infos_are_accepted.Goals as goal

pub returns : goal.returns
returns c = record { renamed = renamed_accepted; apart = accepted_apart; widest = widest_takes; widest_renamed = widest_takes_renamed }
