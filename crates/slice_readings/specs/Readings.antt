-- What a payload can be read as.
use Rattle.std.specs.Prelude.{◌≡◌, ℕ, Bool, List, ◌++◌, Option, ℤ}
use Rattle.cavlc.specs.Blocks.{HasSpelling, block_bits}
use Rattle.cb_types.specs.declared.header.Header.{Header}
use Rattle.cb_types.specs.declared.header.UnitHead.{UnitHead}
use Rattle.cb_types.specs.declared.macroblock.Macroblock.{Macroblock}
use Rattle.cb_types.specs.declared.picture_info.PictureInfo.{PictureInfo}
use Rattle.cb_types.specs.declared.size.SizeMbs.{SizeMbs}
use Rattle.decoder_render.specs.Parsed.{CanParse}
use Rattle.decoder_render.specs.Slices.{SpellsSlice}
use Rattle.element_tables.specs.Syntax.{Takes}
use Rattle.mb_syntax.specs.SliceData.{AreSliceData}
use Rattle.slice_header.specs.Spelling.{slice_header}

-- A block that is spelled with an nC, and has so many coefficients at most, begins the bits (H.264, 9.2).
abbrev pub BeginsWithBlock : ℤ → ℕ → List Bool → Type 0
BeginsWithBlock nc most bits =
    (block : List ℤ) × HasSpelling nc most block × ((rest : List Bool) × (bits ≡ block_bits nc most block ++ rest))

-- A header of a unit with this first byte begins the bits (7.3.3).
abbrev pub BeginsWithHeader : UnitHead → PictureInfo → List Bool → Type 0
BeginsWithHeader head info bits =
    (header : Header) × (rest : List Bool) × Takes (slice_header head info) bits header rest

-- The bits are some macroblocks of a slice with this header, and the trailing bits (7.3.4).
abbrev pub AreSomeSliceData : PictureInfo → Header → SizeMbs → List Bool → Type 0
AreSomeSliceData info header size bits = (mbs : List Macroblock) × AreSliceData info header size bits mbs

-- some header and macroblocks that the payload spells
abbrev pub SpellsSome : PictureInfo → SizeMbs → List ℕ → Type 0
SpellsSome info size payload = (header : Header) × (mbs : List Macroblock) × SpellsSlice info size payload header mbs

-- some slice that the payload spells, which fits its picture behind so many macroblocks, and whose edits name references
abbrev pub ParsesAsSome : PictureInfo → SizeMbs → Option Header → ℕ → List ℕ → Type 0
ParsesAsSome info size first covered payload =
    (header : Header) × (list : List (Option ℕ)) × (mbs : List Macroblock)
    × CanParse info size first covered payload header list mbs
