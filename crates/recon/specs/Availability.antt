-- Which neighbours intra prediction may use. H.264, 8.3.1.1, 8.3.1.2, 8.3.3 and 8.3.4.
use Rattle.std.specs.Prelude.{ℕ, Bool, not, ◌&&◌, if◌then◌else◌, List, Option, Some, None}
use Rattle.cb_types.specs.declared.macroblock.Macroblock.{Macroblock}
use Rattle.motion.specs.Border.{macroblock_at}
use Rattle.motion.specs.Kinds.{is_intra}
use Rattle.motion.specs.declared.around.Around.{Around}

-- an available macroblock, but with constrained_intra_pred_flag only an intra one
abbrev pub usable : Bool → List Macroblock → Option ℕ → Option ℕ
usable constrained macroblocks None = None
usable constrained macroblocks (Some number) =
    if constrained && not (is_intra (macroblock_at macroblocks number).kind) then None else Some number

abbrev pub usable_around : Bool → List Macroblock → Around → Around
usable_around constrained macroblocks around = record {
  left = usable constrained macroblocks around.left;
  above = usable constrained macroblocks around.above;
  above_right = usable constrained macroblocks around.above_right;
  above_left = usable constrained macroblocks around.above_left;
}
