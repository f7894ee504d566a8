use Rattle.std.proofs.Common.{rules, w32, w64}
use Rattle.std.proofs.lemmas.Int.{to_z-of_z}
use Rattle.mixer.proofs.Pixels.{colour_under, four_are}
use Rattle.mixer.proofs.wide.pixel.Goals as goal

pub returns : goal.returns
returns c =
    let colours = c.args.colours.now in
    four_are _ _ _ _ _ _ 255
    (colour_under colours.first c.args.y c.args.cb c.args.cr _ _ _ _ (to_z-of_z w32 colours.first.of_y (search rules)) (to_z-of_z w64 c.shared.result (search rules)) c.shared.ensures.value c.colour.ensures)
    (colour_under colours.second c.args.y c.args.cb c.args.cr _ _ _ _ (to_z-of_z w32 colours.second.of_y (search rules)) (to_z-of_z w64 c.shared-2.result (search rules)) c.shared-2.ensures.value c.colour-2.ensures)
    (colour_under colours.third c.args.y c.args.cb c.args.cr _ _ _ _ (to_z-of_z w32 colours.third.of_y (search rules)) (to_z-of_z w64 c.shared-3.result (search rules)) c.shared-3.ensures.value c.colour-3.ensures)
