-- Where 4x4 luma blocks lie. Places are counted in blocks.
use Rattle.std.specs.Prelude.{ℕ, ◌+◌, ◌*◌, ◌/◌, ◌%◌}

-- H.264, 6.4.3: luma blocks are numbered by quarters of the macroblock, and inside each quarter left to right and top to bottom
abbrev pub block_column : ℕ → ℕ
block_column block = 2 * (block / 4 % 2) + block % 2

abbrev pub block_row : ℕ → ℕ
block_row block = 2 * (block / 8) + block / 2 % 2

-- the number of the block at this column and row of its macroblock
abbrev pub block_at : ℕ → ℕ → ℕ
block_at column row = 8 * (row / 2) + 4 * (column / 2) + 2 * (row % 2) + column % 2

-- The blocks of a picture in the order in which they are decoded, 16 to a macroblock: the number of the block at this column
-- and row of a picture so many macroblocks wide. A block is earlier than another where its number is less.
abbrev pub block_order : ℕ → ℕ → ℕ → ℕ
block_order width column row = 16 * (row / 4 * width + column / 4) + block_at (column % 4) (row % 4)
