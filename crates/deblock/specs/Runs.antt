-- Lines of a plane that stand equally far apart, as those of an edge do.
use Rattle.std.specs.Prelude.{ℕ, ◌+◌, ◌*◌, ◌/◌, ◌%◌, Bool, if◌then◌else◌, List, slice_index}
use Rattle.deblock.specs.declared.edges.Run.{Run}
use Rattle.deblock.specs.declared.line.Filter.{Filter}
use Rattle.deblock.specs.declared.thresholds.Indexes.{Indexes}
use Rattle.deblock.specs.Lines.{Line, line_of}
use Rattle.deblock.specs.Thresholds.{filter_by}

-- number k of the lines, all of which are filtered alike
abbrev pub same_line : Run → Filter → ℕ → Line
same_line run filter k = line_of (run.first + k * run.along) run.step filter

-- number k of the lines, so many of which have the strength of a place of the edge
abbrev pub run_line : Run → Indexes → List ℕ → ℕ → ℕ → Line
run_line run indexes strengths lines k = line_of (run.first + k * run.along) run.step (filter_by indexes.a indexes.b (slice_index strengths (k / lines)))

-- the lines of an edge of a macroblock, in a plane whose macroblocks are so many samples wide and high, in a picture so many
-- macroblocks wide
abbrev pub edge_run : ℕ → ℕ → ℕ → Bool → ℕ → Run
edge_run side width mb is_vertical edge =
    let stride = side * width in
    let corner = side * (mb / width) * stride + side * (mb % width) in
    if is_vertical then record { first = corner + 4 * edge; step = 1; along = stride } else record { first = corner + 4 * edge * stride; step = stride; along = 1 }
