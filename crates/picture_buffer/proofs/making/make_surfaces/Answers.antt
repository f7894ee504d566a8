use Rattle.std.proofs.Common.{◌≡◌, ◌<◌, length, refl, ◌∙◌, subst, arith}
use Rattle.std.proofs.Math.ListN.{length-set}
use Rattle.picture_buffer.specs.Making.{HasMade}
use Rattle.picture_buffer.proofs.MakingSteps.{none_made, one_more_made}
use Rattle.picture_buffer.proofs.making.make_surfaces.Goals as goal

pub loop-number-init : goal.loop-number-init
loop-number-init c = record { handles = refl; made = λ decoder. none_made c.args.core.now c.args.device decoder c.args.size _ }

pub loop-number-preserved : goal.loop-number-preserved
loop-number-preserved c =
    let within : c.loop-number.number < length c.loop-number.surfaces = omega arith in
    record {
      handles = length-set c.loop-number.surfaces c.loop-number.number c.in_ok-surfaces.field-0 ∙ c.loop-number.invariant.handles;
      made =
          one_more_made c.args.core.now c.loop-number.core c.make_surface.new.core c.args.device c.args.size c.loop-number.surfaces c.loop-number.number c.in_ok-surfaces.field-0 within
          c.in_ok-surfaces.ensures c.loop-number.invariant.made;
    }

pub returns : goal.returns
returns c = λ decoder at_first.
    let all : c.loop-number.number ≡ 17 = omega arith in
    subst (λ n. HasMade c.loop-number.core c.args.device decoder c.args.size c.loop-number.surfaces n) all (c.loop-number.invariant.made decoder at_first)
