-- H.264, 7.3.4: the codewords of a slice's macroblocks, skipped ones among them.
use Rattle.std.specs.Prelude.{◌≡◌, ◌≢◌, ℕ, suc, ◌+◌, ◌≤◌, ◌⊎◌, ◌==◌, Bool, if◌then◌else◌, IsTrue, List, [], ◌∷◌, ◌++◌, length, replicate, pos}
use Rattle.bit_io.specs.Codewords.{ue}
use Rattle.bit_io.specs.Trailing.{trailing_bits}
use Rattle.cavlc.specs.Turns.{AreInTurn, in_turn, state_behind}
use Rattle.cb_types.specs.declared.header.Header.{Header}
use Rattle.cb_types.specs.declared.macroblock.ChromaLevels.{ChromaLevels}
use Rattle.cb_types.specs.declared.macroblock.DcLevels.{DcLevels}
use Rattle.cb_types.specs.declared.macroblock.Levels.{Levels}
use Rattle.cb_types.specs.declared.macroblock.Macroblock.{Macroblock}
use Rattle.cb_types.specs.declared.macroblock.MbKind.TheVariants.{Skip}
use Rattle.cb_types.specs.declared.picture_info.PictureInfo.{PictureInfo}
use Rattle.cb_types.specs.declared.size.SizeMbs.{SizeMbs}
use Rattle.mb_syntax.specs.Kinds.{is_skip}
use Rattle.mb_syntax.specs.MacroblockLayer.{IsCoded, mb_bits, place_before}
use Rattle.mb_syntax.specs.Slice.{slice_of}
use Rattle.mb_syntax.specs.declared.slice.Slice.{Slice}

-- a skipped macroblock: there is nothing of it but its place
abbrev pub skipped : Macroblock
skipped =
    let zeros : Levels = record { 0 = replicate 16 (pos 0) } in
    let dc : DcLevels = record { 0 = replicate 4 (pos 0) } in
    let plane : ChromaLevels = record { 0 = replicate 4 zeros } in
    record { kind = Skip; qp_delta = pos 0; luma_dc = replicate 16 (pos 0); luma = replicate 16 zeros; chroma_dc = replicate 2 dc; chroma = replicate 2 plane }

pub record IsSkipped (slice : Slice) (mb : Macroblock) : Type 0 where
  pub in_p : IsTrue slice.is_p
  pub same : mb ≡ skipped

-- The macroblock behind these of the slice has a spelling.
abbrev pub HasSpelling : Slice → List Macroblock → Macroblock → Type 0
HasSpelling slice before mb = IsSkipped slice mb ⊎ IsCoded slice before mb

abbrev pub mb_behind : List Macroblock → Macroblock → List Macroblock
mb_behind before mb = before ++ mb ∷ []

-- The list of macroblocks has a spelling: it isn't empty, it ends within the picture, and each macroblock has one.
pub record IsSliceData (slice : Slice) (mbs : List Macroblock) : Type 0 where
  pub some : 1 ≤ length mbs
  pub within : length mbs ≤ slice.left
  pub each : AreInTurn (HasSpelling slice) mb_behind [] mbs

-- How far a slice is spelled: its macroblocks so far, how many of the last of them are skipped and not yet counted by a run, and
-- the place in the payload.
pub record SoFar : Type 0 where
  pub before : List Macroblock
  pub run : ℕ
  pub place : ℕ

-- the start of a slice's data at a place of the payload
abbrev pub start : ℕ → SoFar
start place = record { before = []; run = 0; place = place }

-- mb_skip_run, before each macroblock of a P slice that isn't skipped
abbrev pub run_bits : Slice → SoFar → List Bool
run_bits slice at = if slice.is_p then ue at.run else []

-- the bits of the next macroblock: a skipped one has none of its own
abbrev pub next_bits : Slice → SoFar → Macroblock → List Bool
next_bits slice at mb =
    if is_skip mb.kind then [] else run_bits slice at ++ mb_bits slice (at.place + length (run_bits slice at)) at.before mb

abbrev pub behind : Slice → SoFar → Macroblock → SoFar
behind slice at mb = record {
  before = at.before ++ mb ∷ [];
  run = if is_skip mb.kind then suc at.run else 0;
  place = at.place + length (next_bits slice at mb);
}

-- the last mb_skip_run: it is there where the slice ends in skipped macroblocks
abbrev pub last_run : SoFar → List Bool
last_run at = if at.run == 0 then [] else ue at.run

-- A P slice that ends in a macroblock that isn't skipped may have a last run of 0 behind it.
pub record IsOptionalRun (slice : Slice) (at : SoFar) (run : List Bool) : Type 0 where
  pub either : (run ≡ []) ⊎ (run ≡ ue 0)
  pub where_some : run ≢ [] → IsTrue slice.is_p × (at.run ≡ 0)

-- what ends the slice data: the last run, and rbsp_slice_trailing_bits
abbrev pub end_bits : SoFar → List Bool → List Bool
end_bits at run = let last = last_run at ++ run in last ++ trailing_bits (at.place + length last)

-- the bits of macroblocks from there on to the end of the slice
unfoldable pub bits_from : Slice → SoFar → List Macroblock → List Bool → List Bool
bits_from slice at mbs run = in_turn (next_bits slice) (behind slice) at mbs ++ end_bits (state_behind (behind slice) at mbs) run

-- The bits are those of these macroblocks from there on to the end of the slice.
pub record IsRest (slice : Slice) (at : SoFar) (bits : List Bool) (mbs : List Macroblock) : Type 0 where
  pub within : length at.before + length mbs ≤ slice.left
  pub each : AreInTurn (HasSpelling slice) mb_behind at.before mbs
  pub last : (run : List Bool) × IsOptionalRun slice (state_behind (behind slice) at mbs) run × (bits ≡ bits_from slice at mbs run)

-- The bits at a place of the payload are these macroblocks and the trailing bits.
abbrev pub Spells : Slice → ℕ → List Macroblock → List Bool → Type 0
Spells slice place mbs bits = (1 ≤ length mbs) × IsRest slice (start place) bits mbs

-- the bits of a slice's macroblocks and its trailing bits from a place of the payload on, without a last run of 0
abbrev pub slice_bits : Slice → ℕ → List Macroblock → List Bool
slice_bits slice place mbs = bits_from slice (start place) mbs []

-- The last bits of a payload are these macroblocks of a slice with this header, and the trailing bits.
abbrev pub AreSliceData : PictureInfo → Header → SizeMbs → List Bool → List Macroblock → Type 0
AreSliceData info header size bits mbs = Spells (slice_of info header size) (place_before bits) mbs bits
