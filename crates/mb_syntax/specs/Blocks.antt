-- H.264, 7.3.5.3: the codewords of a macroblock's blocks of levels.
use Rattle.std.specs.Prelude.{◌≡◌, ℕ, ◌-◌, ◌/◌, ◌%◌, ◌^◌, nat_le, nat_lt, ◌==◌, Bool, true, false, if◌then◌else◌, List, [], ◌∷◌, ◌++◌, length, replicate, ℤ, pos}
use Rattle.cb_types.specs.declared.macroblock.Macroblock.{Macroblock}
use Rattle.cb_types.specs.declared.macroblock.MbKind.{MbKind}
use Rattle.cavlc.specs.Blocks.{HasSpelling, block_bits}
use Rattle.cavlc.specs.Turns.{AreInTurn, in_turn}
use Rattle.mb_syntax.specs.Counts.{nc_at}
use Rattle.mb_syntax.specs.Kinds.{is_intra16, pattern_of}
use Rattle.mb_syntax.specs.declared.slice.Slice.{Slice}

-- whether the block at this place in the order of spelling is coded: the four low bits of the pattern are for the quarters
-- of the luma, the rest for chroma, 1 for its DC levels alone and 2 for all
unfoldable pub is_coded : MbKind → ℕ → Bool
is_coded kind place =
    let pattern = pattern_of kind in
    if place == 0 then is_intra16 kind
    else (if nat_lt place 17 then pattern / 2 ^ ((place - 1) / 4) % 2 == 1
    else (if nat_lt place 19 then nat_le 1 (pattern / 16)
    else pattern / 16 == 2))

-- how many levels it can have: those of Intra16x16 luma and of chroma AC are without their DC level
unfoldable pub most_levels : MbKind → ℕ → ℕ
most_levels kind place =
    if place == 0 then 16
    else (if nat_lt place 17 then (if is_intra16 kind then 15 else 16)
    else (if nat_lt place 19 then 4
    else 15))

-- the bits of the block behind these of its macroblock
unfoldable pub next_block_bits : Slice → List Macroblock → MbKind → List (List ℤ) → List ℤ → List Bool
next_block_bits slice before kind blocks block =
    let place = length blocks in
    if is_coded kind place then block_bits (nc_at slice before blocks place) (most_levels kind place) block else []

-- The block behind these has a spelling; one that isn't coded is all 0.
pub record IsNextBlock (slice : Slice) (before : List Macroblock) (kind : MbKind) (blocks : List (List ℤ)) (block : List ℤ) : Type 0 where
  pub coded : is_coded kind (length blocks) ≡ true → HasSpelling (nc_at slice before blocks (length blocks)) (most_levels kind (length blocks)) block
  pub not_coded : is_coded kind (length blocks) ≡ false → block ≡ replicate 16 (pos 0)

abbrev pub block_behind : List (List ℤ) → List ℤ → List (List ℤ)
block_behind blocks block = blocks ++ block ∷ []

-- the bits of the blocks of a macroblock of this kind, behind these macroblocks of the slice
abbrev pub residual_bits : Slice → List Macroblock → MbKind → List (List ℤ) → List Bool
residual_bits slice before kind blocks = in_turn (next_block_bits slice before kind) block_behind [] blocks

abbrev pub AreBlocks : Slice → List Macroblock → MbKind → List (List ℤ) → Type 0
AreBlocks slice before kind blocks = AreInTurn (IsNextBlock slice before kind) block_behind [] blocks
