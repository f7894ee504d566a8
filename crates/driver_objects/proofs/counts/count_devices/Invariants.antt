use Rattle.std.proofs.Common.{◌≡◌, ◌&&◌, take}
use Rattle.std.specs.List.{count_by}
use Rattle.driver_objects.specs.Kinds.{is_device}
use Rattle.driver_objects.specs.declared.object.Object.{Object}
use Rattle.driver_objects.proofs.counts.count_devices.Given as goal

abbrev pub invariant-loop-object : goal.invariant-loop-object
invariant-loop-object l = l.devices ≡ count_by (λ (object : Object). object.is_live && is_device object.content) (take l.object-index l.kept)
