use Rattle.driver_objects.specs.Kept.{kept_of}
use Rattle.driver_objects.proofs.LiveDevices.{device_missing, read_device}
use Rattle.driver_objects.proofs.kinds.device_at.Goals as goal

pub device_in-requires : goal.device_in-requires
device_in-requires c =
    let read = read_device (kept_of c.args.objects.now) c.args.place c.in-Some.index c.index-kept-index.result c.requires c.in-Some.ensures in
    rw c.kept.ensures read.is

pub unreachable-requires : goal.unreachable-requires
unreachable-requires c = device_missing (kept_of c.args.objects.now) c.args.place c.requires c.in-None.ensures

pub returns : goal.returns
returns c =
    let read = read_device (kept_of c.args.objects.now) c.args.place c.in-Some.index c.index-kept-index.result c.requires c.in-Some.ensures in
    record { index = c.in-Some.index; object = _; stands = read.stands; live = read.live; at_place = read.at_place; has = rw c.kept.ensures at c.device_in.ensures }
