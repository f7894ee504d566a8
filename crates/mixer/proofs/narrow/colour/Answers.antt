use Rattle.std.proofs.Common.{ap, ◌∙◌, ◌+ℤ◌}
use Rattle.std.specs.Int.{int_shr}
use Rattle.vd_plane.specs.SampleArray.{nearest}
use Rattle.mixer.proofs.NarrowSums.{colour_is}
use Rattle.mixer.proofs.Pixels.{product_is}
use Rattle.mixer.proofs.narrow.colour.Goals as goal

pub returns : goal.returns
returns c =
    colour_is c.product.result c.args.shared c.clamp.result c.product.ensures.bound c.requires.shared c.clamp.ensures.value
    ∙ ap (λ z. nearest 256 (int_shr (z +ℤ c.args.shared) 8)) (product_is c.args.of_y c.product.result c.args.y c.ranges.of_y c.product.ensures.value)
