use Rattle.driver_model.proofs.SoundSteps as steps
use Rattle.driver_model.proofs.laws.queues_are_sound.Goals as goal

pub returns : goal.returns
returns c = steps.states_are_sound
