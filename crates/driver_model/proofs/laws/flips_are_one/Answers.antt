use Rattle.driver_model.proofs.ScriptFlips as flips
use Rattle.driver_model.proofs.laws.flips_are_one.Goals as goal

pub returns : goal.returns
returns c = record { one = flips.flips_are_one; text = flips.scripts_have_one_text }
