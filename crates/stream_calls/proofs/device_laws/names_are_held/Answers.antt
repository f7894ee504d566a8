use Rattle.stream_calls.proofs.Holding as holding
use Rattle.stream_calls.proofs.device_laws.names_are_held.Goals as goal

pub returns : goal.returns
returns c = record { first = holding.no_names_are_held_first; set = holding.held_names_are_a_set }
