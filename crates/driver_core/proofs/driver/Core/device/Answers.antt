use Rattle.driver_model.specs.Objects as model
use Rattle.driver_model.specs.declared.numbers.TheConstants as number
use Rattle.driver_core.proofs.Handles.{called_kind, called_within, device_by_kind, found_err, found_ok}
use Rattle.driver_core.proofs.ModelKinds.{device_is, device_kind, device_other}
use Rattle.driver_core.proofs.driver.Core.device.Goals as goal

pub content-requires : goal.content-requires
content-requires c = called_within c.args.self.now number.DEVICE c.args.name c.in-Ok.index c.in-Ok.ensures.0

pub device_in-requires : goal.device_in-requires
device_in-requires c = device_by_kind _ (called_kind c.args.self.now number.DEVICE c.args.name c.in-Ok.index c.in-Ok.ensures.0 _ c.content.ensures)

pub returns-in-Ok-clause-finds : goal.returns-in-Ok-clause-finds
returns-in-Ok-clause-finds c =
    found_ok model.as_device (λ of. model.DeviceObject of) number.DEVICE device_kind device_other device_is c.args.self.now c.args.arg c.args.name c.in-Ok.index _ c.in-Ok.ensures (rw c.device_in.ensures at c.content.ensures)

pub returns-in-Ok-clause-has : goal.returns-in-Ok-clause-has
returns-in-Ok-clause-has c = rw c.device_in.ensures at c.content.ensures

pub returns-in-Err : goal.returns-in-Err
returns-in-Err c =
    record { finds = tt; has = tt; refuses = found_err model.as_device (λ of. model.DeviceObject of) number.DEVICE device_kind device_other device_is c.args.self.now c.args.arg c.args.name c.in-Err.refusal c.in-Err.ensures }
