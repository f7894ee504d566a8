use Rattle.plain_driver.specs.States.{decoder_of}
use Rattle.plain_driver.proofs.RenderLooks.{info_accepted, info_refused}
use Rattle.plain_driver.proofs.renders.info_taken.Goals as goal

pub returns-in-None : goal.returns-in-None
returns-in-None c = info_accepted (decoder_of c.args.decoder) c.args.info.now c.in-None.ensures

pub returns-in-Some : goal.returns-in-Some
returns-in-Some c = info_refused (decoder_of c.args.decoder) c.args.info.now c.in-Some.field c.in-Some.ensures
