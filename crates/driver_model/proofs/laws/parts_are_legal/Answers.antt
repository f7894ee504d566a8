use Rattle.driver_model.proofs.PartAlike as alike
use Rattle.driver_model.proofs.PartHistories as histories
use Rattle.driver_model.proofs.laws.parts_are_legal.Goals as goal

pub returns : goal.returns
returns c = record {
  legal = histories.parts_are_legal;
  devices = histories.devices_have_their_kind;
  fronts = histories.parts_begin_alike;
  states = alike.parts_have_the_device;
}
