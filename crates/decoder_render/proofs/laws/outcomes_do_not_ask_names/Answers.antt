use Rattle.decoder_render.proofs.RenamedInfos.{renamed_back, renamed_outcome}
use Rattle.decoder_render.proofs.laws.outcomes_do_not_ask_names.Goals as goal

pub returns : goal.returns
returns c = record { outcome = renamed_outcome; back = renamed_back }
