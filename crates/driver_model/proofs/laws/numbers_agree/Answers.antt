use Rattle.driver_model.proofs.Agree as agree
use Rattle.driver_model.proofs.laws.numbers_agree.Goals as goal

pub returns : goal.returns
returns c = record { sizes = agree.limits_are_one; weights = agree.one_profile_takes_weights }
