-- The samples beside a 4x4 luma block, where intra prediction may use them. H.264, 8.3.1.2 and 6.4.11.4.
use Rattle.std.specs.Prelude.{ℕ, ◌+◌, ◌-◌, ◌*◌, ◌==◌, nat_lt, if◌then◌else◌, List, [], ◌∷◌, take, drop, slice_index, Option, Some, None}
use Rattle.std.specs.Option.{option_map}
use Rattle.cb_types.specs.Blocks.{block_at, block_column, block_row}
use Rattle.vd_plane.specs.Tiles.{sample_in_rows}
use Rattle.recon.specs.declared.edges.Edges.{Edges}
use Rattle.recon.specs.declared.sides.Sides.{Sides}

-- the luma sample of the macroblock itself in column x of row y
abbrev pub own : List ℕ → ℕ → ℕ → ℕ
own luma x y = sample_in_rows 16 luma x y

-- the four samples of the macroblock from one on, downwards and to the right
abbrev pub four_down : List ℕ → ℕ → ℕ → List ℕ
four_down luma x y = own luma x y ∷ own luma x (y + 1) ∷ own luma x (y + 2) ∷ own luma x (y + 3) ∷ []

abbrev pub four_across : List ℕ → ℕ → ℕ → List ℕ
four_across luma x y = own luma x y ∷ own luma (x + 1) y ∷ own luma (x + 2) y ∷ own luma (x + 3) y ∷ []

-- the four samples of an edge beside the k-th of its blocks
abbrev pub beside : ℕ → Option (List ℕ) → Option (List ℕ)
beside k edge = option_map (λ samples. take 4 (drop (4 * k) samples)) edge

-- The sides of the block in a column and a row of blocks, of a macroblock with these luma samples. Inside the macroblock the block above
-- and right is available where it is earlier, and there is none yet right of the macroblock.
abbrev pub left_side : Edges → List ℕ → ℕ → ℕ → Option (List ℕ)
left_side edges luma column row = if column == 0 then beside row edges.left else Some (four_down luma (4 * column - 1) (4 * row))

abbrev pub top_side : Edges → List ℕ → ℕ → ℕ → Option (List ℕ)
top_side edges luma column row = if row == 0 then beside column edges.top else Some (four_across luma (4 * column) (4 * row - 1))

abbrev pub right_side : Edges → List ℕ → ℕ → ℕ → Option (List ℕ)
right_side edges luma column row =
    if row == 0 then (if column == 3 then edges.right else beside (column + 1) edges.top)
    else (if column == 3 then None
    else (if nat_lt (block_at (column + 1) (row - 1)) (block_at column row) then Some (four_across luma (4 * column + 4) (4 * row - 1))
    else None))

abbrev pub corner_side : Edges → List ℕ → ℕ → ℕ → Option ℕ
corner_side edges luma column row =
    if column == 0 then (if row == 0 then edges.corner else option_map (λ samples. slice_index samples (4 * row - 1)) edges.left)
    else (if row == 0 then option_map (λ samples. slice_index samples (4 * column - 1)) edges.top
    else Some (own luma (4 * column - 1) (4 * row - 1)))

unfoldable pub sides_of : Edges → List ℕ → ℕ → Sides
sides_of edges luma block =
    let column = block_column block in
    let row = block_row block in
    record {
      left = left_side edges luma column row;
      top = top_side edges luma column row;
      right = right_side edges luma column row;
      corner = corner_side edges luma column row;
    }
