use Rattle.player_laws.proofs.Devices as devices
use Rattle.player_laws.proofs.laws.calls_stay_on_one_device.Goals as goal

pub returns : goal.returns
returns c = record {
  steps = devices.steps_stay_on_one_device;
  others = devices.others_leave_the_device;
  names = devices.names_are_of_the_device;
  objects = devices.objects_stay;
}
