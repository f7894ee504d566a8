use Rattle.std.proofs.Common.{◌≡◌, false, arith}
use Rattle.cb_types.specs.References.{is_absent, is_unused}
use Rattle.driver_core.proofs.SeenSurfaces.{entry_seen}
use Rattle.driver_core.proofs.driver.Core.reference.Goals as goal

pub returns-in-Ok-clause-sees : goal.returns-in-Ok-clause-sees
returns-in-Ok-clause-sees c =
    let used : is_unused c.args.entry ≡ false = grind (arith, c.is_unused.ensures, c.if-is_unused.false) in
    let there : is_absent c.args.entry ≡ false = grind (arith, c.is_absent.ensures, c.if-is_absent.false) in
    entry_seen c.args.self.now c.args.device c.args.arg c.args.entry used there c.in-Ok.index c.in-Ok.ensures.video c.in-Ok.ensures.sees
