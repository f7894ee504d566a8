use Rattle.std.proofs.Common.{◌+◌, ◌-◌, ◌*◌}
use Rattle.decoder_render.proofs.halves.+halves.Given as goal

abbrev pub decreases-construct_part : goal.decreases-construct_part
decreases-construct_part g l = 4 * (l.to - l.from)

abbrev pub decreases-both_halves : goal.decreases-both_halves
decreases-both_halves g l = 4 * (l.to - l.from) - 1

abbrev pub decreases-both_halves-front : goal.decreases-both_halves-front
decreases-both_halves-front g l = 4 * (l.middle - l.from) + 1

abbrev pub decreases-both_halves-back : goal.decreases-both_halves-back
decreases-both_halves-back g l = 4 * (l.to - l.middle) + 1
