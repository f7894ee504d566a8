use Rattle.driver_model.proofs.SizedSteps as steps
use Rattle.driver_model.proofs.laws.objects_are_sized.Goals as goal

pub returns : goal.returns
returns c = record { objects = steps.objects_are_sized; matrices = steps.matrices_are_whole }
