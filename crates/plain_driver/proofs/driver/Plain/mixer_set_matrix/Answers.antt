use Rattle.std.proofs.Common.{inr}
use Rattle.driver_model.specs.Objects.{as_mixer}
use Rattle.plain_driver.specs.States.{mixer_of, state_of}
use Rattle.plain_driver.proofs.Goes.{at_below, at_some}
use Rattle.plain_driver.proofs.SurfaceSteps.{mixer_set_matrix}
use Rattle.plain_driver.proofs.driver.Plain.mixer_set_matrix.Goals as goal

pub mixer_in-requires : goal.mixer_in-requires
mixer_in-requires c = at_some as_mixer c.args.mixer (state_of c.args.self.now) c.in_ok-place.place c.in_ok-place.ensures

pub put-requires : goal.put-requires
put-requires c = at_below as_mixer c.args.mixer c.args.self.now c.in_ok-place.place c.in_ok-place.ensures

pub returns : goal.returns
returns c = λ caller. inr (mixer_set_matrix (state_of c.args.self.now) c.args.mixer c.in_ok-place.place (mixer_of c.mixer_in.result) c.args.matrix (state_of c.put.new.self) c.in_ok-place.ensures c.mixer_in.ensures c.put.ensures)
