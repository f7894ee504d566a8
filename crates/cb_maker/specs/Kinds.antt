-- The kind of a macroblock, drawn: what stands in macroblock_layer up to mb_qp_delta (H.264, 7.3.5), in the order in
-- which it is spelled. Prediction modes are such as the samples beside the macroblock allow: those of the same slice.
use Rattle.std.specs.Prelude.{ℕ, ◌+◌, ◌*◌, ◌==◌, nat_le, nat_lt, Bool, false, ◌&&◌, ◌||◌, if◌then◌else◌, List, [], ◌∷◌, slice_index, Option, Some, None, pos}
use Rattle.cb_types.specs.Blocks.{block_column, block_row}
use Rattle.cb_types.specs.Neighbours.{neighbour_a, neighbour_b, neighbour_d}
use Rattle.cb_types.specs.declared.macroblock.MbKind.{MbKind}
use Rattle.cb_types.specs.declared.macroblock.MbKind.TheVariants.{Skip, Pcm, Intra4, Intra16, Whole, Wide, Tall, Four, FourFirst}
use Rattle.cb_types.specs.declared.macroblock.Mode.{Mode}
use Rattle.cb_types.specs.declared.macroblock.Mode.TheVariants.{Predicted, Remaining}
use Rattle.cb_types.specs.declared.macroblock.Part.{Part}
use Rattle.cb_types.specs.declared.macroblock.Sub.{Sub}
use Rattle.cb_types.specs.declared.macroblock.Vector.{Vector}
use Rattle.mb_syntax.specs.Kinds.{sub_parts}
use Rattle.mb_syntax.specs.declared.slice.Slice.{Slice}
use Rattle.slice_header.specs.Lists.{padded}
use Rattle.cb_maker.specs.Draws.{Drawn, Made, ◌>>=◌, draw, draw_around, each_below}

-- ---- intra kinds

-- a macroblock beside another is of the slice, where it is there
abbrev pub is_of_slice : Slice → Option ℕ → Bool
is_of_slice slice None = false
is_of_slice slice (Some mb) = nat_le slice.first mb

abbrev pub has_left : Slice → ℕ → Bool
has_left slice mb = is_of_slice slice (neighbour_a slice.width mb)

abbrev pub has_above : Slice → ℕ → Bool
has_above slice mb = is_of_slice slice (neighbour_b slice.width mb)

-- all that the prediction of a whole macroblock may look at: left, above, above and left
abbrev pub has_all : Slice → ℕ → Bool
has_all slice mb = has_left slice mb && has_above slice mb && is_of_slice slice (neighbour_d slice.width mb)

-- the block to the left of this luma block and the one above it are of the slice
abbrev pub has_both : Slice → ℕ → ℕ → Bool
has_both slice mb block =
    (nat_lt 0 (block_column block) || has_left slice mb) && (nat_lt 0 (block_row block) || has_above slice mb)

-- prev_intra4x4_pred_mode_flag and rem_intra4x4_pred_mode of a luma block
unfoldable pub drawn_mode : Slice → ℕ → ℕ → Drawn Mode
drawn_mode slice mb block =
    if has_both slice mb block
    then (do
      remains ← draw 2
      if remains == 0 then Made Predicted else (do
        mode ← draw 8
        Made (Remaining mode)))
    else Made Predicted

-- intra_chroma_pred_mode: DC where the others can't be had
unfoldable pub drawn_chroma_mode : Slice → ℕ → Drawn ℕ
drawn_chroma_mode slice mb = if has_all slice mb then draw 4 else Made 0

-- Intra16x16PredMode: DC where the others can't be had
unfoldable pub drawn_intra16_mode : Slice → ℕ → Drawn ℕ
drawn_intra16_mode slice mb = if has_all slice mb then draw 4 else Made 2

unfoldable pub drawn_pcm : Drawn MbKind
drawn_pcm = do
  samples ← each_below 384 (λ place. draw 256)
  Made (Pcm samples)

unfoldable pub drawn_intra4 : Slice → ℕ → Drawn MbKind
drawn_intra4 slice mb = do
  modes ← each_below 16 (drawn_mode slice mb)
  chroma ← drawn_chroma_mode slice mb
  pattern ← draw 48
  Made (Intra4 modes chroma pattern)

-- mb_type has the mode and the pattern: all luma is coded where luma is 1, or none
unfoldable pub drawn_intra16 : Slice → ℕ → Drawn MbKind
drawn_intra16 slice mb = do
  mode ← drawn_intra16_mode slice mb
  luma ← draw 2
  chroma_pattern ← draw 3
  chroma ← drawn_chroma_mode slice mb
  Made (Intra16 mode chroma (15 * luma + 16 * chroma_pattern))

-- ---- inter kinds

-- mvd_l0
unfoldable pub drawn_vector : Drawn Vector
drawn_vector = do
  x ← draw_around 4
  y ← draw_around 1
  Made (record { x = x; y = y })

-- ref_idx_l0, drawn even where one entry is active and it isn't spelled
unfoldable pub drawn_reference : Slice → Drawn ℕ
drawn_reference slice = draw slice.active

unfoldable pub drawn_whole : Slice → Drawn MbKind
drawn_whole slice = do
  reference ← drawn_reference slice
  delta ← drawn_vector
  pattern ← draw 48
  Made (Whole (record { reference = reference; delta = delta }) pattern)

-- the two parts of a macroblock: their references, then their vectors
unfoldable pub drawn_parts : Slice → Drawn (List Part)
drawn_parts slice = do
  reference ← drawn_reference slice
  other_reference ← drawn_reference slice
  delta ← drawn_vector
  other_delta ← drawn_vector
  let first : Part = record { reference = reference; delta = delta }
  let second : Part = record { reference = other_reference; delta = other_delta }
  Made (first ∷ second ∷ [])

unfoldable pub drawn_wide : Slice → Drawn MbKind
drawn_wide slice = do
  parts ← drawn_parts slice
  pattern ← draw 48
  Made (Wide parts pattern)

unfoldable pub drawn_tall : Slice → Drawn MbKind
drawn_tall slice = do
  parts ← drawn_parts slice
  pattern ← draw 48
  Made (Tall parts pattern)

-- sub_mb_type of a quarter: the first alone may have four parts
unfoldable pub drawn_sub_kind : ℕ → Drawn ℕ
drawn_sub_kind quarter = if quarter == 0 then draw 4 else draw 3

-- a sub-macroblock's vectors; those that its type doesn't have are 0
unfoldable pub drawn_deltas : ℕ → Drawn (List Vector)
drawn_deltas kind = do
  deltas ← each_below (sub_parts kind) (λ part. drawn_vector)
  Made (padded 4 (record { x = pos 0; y = pos 0 }) deltas)

unfoldable pub drawn_sub : ℕ → ℕ → Drawn Sub
drawn_sub kind reference = do
  deltas ← drawn_deltas kind
  Made (record { reference = reference; kind = kind; deltas = deltas })

-- four sub-macroblocks: their types, then their references, then their vectors
unfoldable pub drawn_four : Slice → Drawn MbKind
drawn_four slice = do
  kinds ← each_below 4 drawn_sub_kind
  references ← each_below 4 (λ quarter. drawn_reference slice)
  subs ← each_below 4 (λ quarter. drawn_sub (slice_index kinds quarter) (slice_index references quarter))
  pattern ← draw 48
  Made (Four subs pattern)

-- the same with the first entry for all
unfoldable pub drawn_four_first : Drawn MbKind
drawn_four_first = do
  kinds ← each_below 4 drawn_sub_kind
  subs ← each_below 4 (λ quarter. drawn_sub (slice_index kinds quarter) 0)
  pattern ← draw 48
  Made (FourFirst subs pattern)

-- ---- all kinds

unfoldable pub drawn_in_i : Slice → ℕ → ℕ → Drawn MbKind
drawn_in_i slice mb number =
    if number == 0 then drawn_pcm
    else (if nat_lt number 10 then drawn_intra16 slice mb
    else drawn_intra4 slice mb)

unfoldable pub drawn_in_p : Slice → ℕ → ℕ → Drawn MbKind
drawn_in_p slice mb number =
    if nat_lt number 7 then Made Skip
    else (if nat_lt number 10 then drawn_whole slice
    else (if nat_lt number 12 then drawn_wide slice
    else (if nat_lt number 14 then drawn_tall slice
    else (if nat_lt number 16 then drawn_four slice
    else (if number == 16 then drawn_four_first
    else (if number == 17 then drawn_intra4 slice mb
    else (if number == 18 then drawn_intra16 slice mb
    else drawn_pcm)))))))

-- the kind of the macroblock with this address
unfoldable pub drawn_kind : Slice → ℕ → Drawn MbKind
drawn_kind slice mb = do
  number ← draw 20
  if slice.is_p then drawn_in_p slice mb number else drawn_in_i slice mb number
