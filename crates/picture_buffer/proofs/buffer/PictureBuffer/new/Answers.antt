use Rattle.picture_buffer.specs.Making.{HasMade}
use Rattle.picture_buffer.proofs.MakingSteps.{pictures_made, rests_when_made, zeros_made}
use Rattle.picture_buffer.proofs.buffer.PictureBuffer.new.Goals as goal

pub returns-clause-stands : goal.returns-clause-stands
returns-clause-stands c =
    let core = c.make_surfaces.new.core in
    let decoder = c.in_ok-device.decoder in
    let made : HasMade core c.in_ok-device.device decoder c.args.size c.in_ok-surfaces.surfaces 17 = c.in_ok-surfaces.ensures decoder c.in_ok-device.ensures in (
      pictures_made core c.in_ok-device.device decoder c.args.size c.in_ok-surfaces.surfaces made,
      record { state = made.state; rests = rests_when_made core c.in_ok-device.device decoder c.args.size c.in_ok-surfaces.surfaces made },
      zeros_made core c.in_ok-device.device decoder c.args.size c.in_ok-surfaces.surfaces made,
    )
