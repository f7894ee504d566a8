-- The prediction modes of Intra4x4 blocks. H.264, 8.3.1.1.
use Rattle.std.specs.Prelude.{ℕ, zero, suc, ◌+◌, ◌-◌, ◌==◌, nat_lt, min, Bool, if◌then◌else◌, List, [], ◌∷◌, ◌++◌, replicate, slice_index, slice_index_or, Option, Some, None}
use Rattle.std.specs.Option.{option_map}
use Rattle.cb_types.specs.Blocks.{block_at, block_column, block_row}
use Rattle.cb_types.specs.declared.macroblock.Macroblock.{Macroblock}
use Rattle.cb_types.specs.declared.macroblock.MbKind.{MbKind}
use Rattle.cb_types.specs.declared.macroblock.MbKind.TheVariants.{Skip, Pcm, Intra4, Intra16, Whole, Wide, Tall, Four, FourFirst}
use Rattle.cb_types.specs.declared.macroblock.Mode.{Mode}
use Rattle.cb_types.specs.declared.macroblock.Mode.TheVariants.{Predicted, Remaining}
use Rattle.motion.specs.Around.{around_of}
use Rattle.motion.specs.Border.{macroblock_at}
use Rattle.recon.specs.Availability.{usable}

-- the predicted mode: the lesser one of the blocks left and above, and 2 where one of them may not be used
abbrev pub lesser : Option ℕ → Option ℕ → ℕ
lesser (Some left) (Some above) = min left above
lesser (Some left) None = 2
lesser None above = 2

-- The mode of the block left of one, and of the block above it: a block of the neighbouring macroblock, whose modes are given where
-- it may be used, or an earlier one of the macroblock itself.
abbrev pub left_mode : Option (List ℕ) → List ℕ → ℕ → Option ℕ
left_mode left modes block =
    if block_column block == 0 then option_map (λ theirs. slice_index theirs (block_at 3 (block_row block))) left
    else Some (slice_index modes (block_at (block_column block - 1) (block_row block)))

abbrev pub above_mode : Option (List ℕ) → List ℕ → ℕ → Option ℕ
above_mode above modes block =
    if block_row block == 0 then option_map (λ theirs. slice_index theirs (block_at (block_column block) 3)) above
    else Some (slice_index modes (block_at (block_column block) (block_row block - 1)))

abbrev pub predicted_mode : Option (List ℕ) → Option (List ℕ) → List ℕ → ℕ → ℕ
predicted_mode left above modes block = lesser (left_mode left modes block) (above_mode above modes block)

-- the predicted mode, or the one of the other eight that is spelled
abbrev pub chosen : Mode → ℕ → ℕ
chosen Predicted predicted = predicted
chosen (Remaining mode) predicted = if nat_lt mode predicted then mode else mode + 1

abbrev pub spelled_at : List Mode → ℕ → Mode
spelled_at spelled block = slice_index_or spelled block Predicted

-- the modes of the first blocks of an Intra4x4 macroblock
unfoldable pub first_modes : List Mode → Option (List ℕ) → Option (List ℕ) → ℕ → List ℕ
first_modes spelled left above zero = []
first_modes spelled left above (suc block) =
    let modes = first_modes spelled left above block in
    modes ++ chosen (spelled_at spelled block) (predicted_mode left above modes block) ∷ []

-- the modes of a macroblock's blocks as they count for its neighbours: 2 for those of other kinds than Intra4x4
abbrev pub all_dc : List ℕ
all_dc = replicate 16 2

unfoldable pub modes_of : MbKind → Option (List ℕ) → Option (List ℕ) → List ℕ
modes_of Skip left above = all_dc
modes_of (Pcm samples) left above = all_dc
modes_of (Intra4 modes chroma pattern) left above = first_modes modes left above 16
modes_of (Intra16 mode chroma pattern) left above = all_dc
modes_of (Whole part pattern) left above = all_dc
modes_of (Wide parts pattern) left above = all_dc
modes_of (Tall parts pattern) left above = all_dc
modes_of (Four subs pattern) left above = all_dc
modes_of (FourFirst subs pattern) left above = all_dc

-- of these modes of macroblocks, those of one that may be used
abbrev pub modes_in : List (List ℕ) → Option ℕ → Option (List ℕ)
modes_in before number = option_map (λ k. slice_index_or before k []) number

-- the modes of the macroblock behind those with these modes, in a slice that begins at this address of a picture so many macroblocks wide
abbrev pub next_modes : Bool → ℕ → ℕ → List Macroblock → List (List ℕ) → ℕ → List ℕ
next_modes constrained first width macroblocks before number =
    let around = around_of first width number in
    modes_of (macroblock_at macroblocks number).kind
    (modes_in before (usable constrained macroblocks around.left))
    (modes_in before (usable constrained macroblocks around.above))

-- the modes of the slice's first macroblocks
unfoldable pub slice_modes : Bool → ℕ → ℕ → List Macroblock → ℕ → List (List ℕ)
slice_modes constrained first width macroblocks zero = []
slice_modes constrained first width macroblocks (suc number) =
    let before = slice_modes constrained first width macroblocks number in
    before ++ next_modes constrained first width macroblocks before number ∷ []
