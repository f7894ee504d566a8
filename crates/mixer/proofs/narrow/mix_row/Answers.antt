use Rattle.std.proofs.Common.{◌∙◌, arith}
use Rattle.mixer.specs.Colours.{in_row}
use Rattle.mixer.proofs.Pixels.{four_bytes, pixel_more}
use Rattle.mixer.proofs.narrow.mix_row.Goals as goal

pub loop-x-preserved : goal.loop-x-preserved
loop-x-preserved c = pixel_more (in_row c.args.colours.now c.args.luma.now c.args.cb.now c.args.cr.now) c.loop-x.x _ c.loop-x.out c.copy_from_slice.new.self (omega arith) (omega arith) c.loop-x.invariant (four_bytes c.copy_from_slice.new.self _ _ _ _ (c.copy_from_slice.ensures.after ∙ c.pixel-pixel.ensures))
