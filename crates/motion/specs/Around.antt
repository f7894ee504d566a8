-- Which macroblocks of a slice lie beside one of them. The macroblocks of a slice are numbered from 0, which is its first one.
use Rattle.std.specs.Prelude.{ℕ, ◌+◌, ◌-◌, ◌<◌, nat_le, if◌then◌else◌, Option, Some, None}
use Rattle.std.specs.Option.{ForSome}
use Rattle.cb_types.specs.Neighbours.{neighbour}
use Rattle.motion.specs.declared.around.Around.{Around}

-- H.264, 6.4.8: the macroblock of this address is available where it is of the slice, that is from the slice's first address on,
-- since each neighbour is before its macroblock. It is named by its number in the slice.
abbrev pub in_slice : ℕ → Option ℕ → Option ℕ
in_slice first None = None
in_slice first (Some address) = if nat_le first address then Some (address - first) else None

-- H.264, 6.4.9: A, B, C and D of the macroblock of this number, in a slice that begins at this address of a picture so many
-- macroblocks wide
unfoldable pub around_of : ℕ → ℕ → ℕ → Around
around_of first width number = record {
  left = in_slice first (neighbour width (first + number) 0);
  above = in_slice first (neighbour width (first + number) 1);
  above_right = in_slice first (neighbour width (first + number) 2);
  above_left = in_slice first (neighbour width (first + number) 3);
}

-- each neighbour is before the macroblock of this number
pub record AreBefore (number : ℕ) (around : Around) : Type 0 where
  pub left : ForSome around.left (λ k. k < number)
  pub above : ForSome around.above (λ k. k < number)
  pub above_right : ForSome around.above_right (λ k. k < number)
  pub above_left : ForSome around.above_left (λ k. k < number)
