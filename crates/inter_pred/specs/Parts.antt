-- The samples of which those at quarter places are means, two each at most.
use Rattle.std.specs.Prelude.{ℕ, ◌+◌, ◌*◌, List, slice_index, Option, None, Some}
use Rattle.inter_pred.specs.declared.parts.Part.{Part}
use Rattle.inter_pred.specs.declared.parts.Part.TheVariants.{Whole, WholeRight, WholeBelow, Across, AcrossBelow, Down, DownRight, Centre}
use Rattle.inter_pred.specs.declared.parts.Parts.{Parts}
use Rattle.inter_pred.specs.Luma.{Near, b, h, j, m, mean, s}

-- the sample of one kind
unfoldable pub part_at : Part → Near → ℕ
part_at Whole n = n 2 2
part_at WholeRight n = n 3 2
part_at WholeBelow n = n 2 3
part_at Across n = b n
part_at AcrossBelow n = s n
part_at Down n = h n
part_at DownRight n = m n
part_at Centre n = j n

-- a sample, or its mean with one of a second kind
abbrev pub mean_with : ℕ → Option Part → Near → ℕ
mean_with u None n = u
mean_with u (Some second) n = mean u (part_at second n)

-- the one part, or the mean of both
abbrev pub mean_of : Parts → Near → ℕ
mean_of parts n = mean_with (part_at parts.first n) parts.second n

-- the samples that stand in rows, so many from the start of one to that of the next, from a place of a slice on
abbrev pub near_in : List ℕ → ℕ → ℕ → Near
near_in samples stride place c r = slice_index samples (place + r * stride + c)
