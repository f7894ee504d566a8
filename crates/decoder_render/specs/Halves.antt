-- What is constructed of a picture's slices in a part of its marks and tiles, whatever is constructed beside it in the other parts.
use Rattle.std.specs.Prelude.{◌≡◌, ℕ, ◌+◌, ◌-◌, ◌<◌, ◌≤◌, ◌^◌, List, length, take, drop, Option, Some, None}
use Rattle.cb_types.specs.declared.mark.MbMark.{MbMark}
use Rattle.recon.specs.Conditions.{IsSlice}
use Rattle.recon.specs.Laws.{AreWhole}
use Rattle.recon.specs.Rebuilt.{AreRebuilt, StopsWithin}
use Rattle.recon.specs.References.{pictures_of}
use Rattle.recon.specs.Slice.{Slice, slice_of}
use Rattle.vd_plane.specs.declared.tile.Tile.{Tile}
use Rattle.decoder_render.specs.Parsed.{macroblocks_of, slice_at, start_of}
use Rattle.decoder_render.specs.declared.halves.Source.{Source}
use Rattle.decoder_render.specs.declared.parsing.ParsedSlice.{ParsedSlice}

-- The marks and tiles of the macroblocks from one of the picture on.
pub record Part : Type 0 where
  pub start : ℕ
  pub marks : List MbMark
  pub tiles : List Tile

abbrev pub part_from : ℕ → List MbMark → List Tile → Part
part_from start marks tiles = record { start = start; marks = marks; tiles = tiles }

-- what the slice of this number has of a list that begins at a macroblock
abbrev pub own : {A : Type 0} → List ParsedSlice → ℕ → ℕ → List A → List A
own slices start number xs = take (slice_at slices number).count (drop (start_of slices number - start) xs)

-- the slice of this number, with its macroblocks
abbrev pub numbered : Source → ℕ → Slice
numbered source number =
    let slice = slice_at source.slices.now number in
    slice_of source.info.now slice.header slice.list.entries (pictures_of source.refs.now) source.size (macroblocks_of source.slices.now source.macroblocks.now number)

-- The slice of this number is constructed in the part, or stops there at a macroblock that can't be constructed.
abbrev pub IsBuilt : Source → Part → ℕ → Type 0
IsBuilt source part number =
    let slices = source.slices.now in
    AreRebuilt (numbered source number) (own slices part.start number part.marks) (own slices part.start number part.tiles) (slice_at slices number).count

abbrev pub Stops : Source → Part → ℕ → Type 0
Stops source part number =
    let slices = source.slices.now in
    StopsWithin (numbered source number) (own slices part.start number part.marks) (own slices part.start number part.tiles) (slice_at slices number).count

-- The slices from one number up to another are constructed in the part.
abbrev pub AreBuilt : Source → Part → ℕ → ℕ → Type 0
AreBuilt source part from to = (number : ℕ) → from ≤ number → number < to → IsBuilt source part number

pub record StopsFirst (source : Source) (part : Part) (from to number : ℕ) : Type 0 where
  pub after : from ≤ number
  pub below : number < to
  pub before : AreBuilt source part from number
  pub stops : Stops source part number

-- This is the first of them that stops. None does where it is none.
abbrev pub IsFirstStop : Source → Part → ℕ → ℕ → Option ℕ → Type 0
IsFirstStop source part from to None = AreBuilt source part from to
IsFirstStop source part from to (Some number) = StopsFirst source part from to number

-- The slice of this number begins where those before it end, has macroblocks, and is one that can be constructed.
pub record IsSliceAt (source : Source) (number : ℕ) : Type 0 where
  pub first : (slice_at source.slices.now number).header.first_mb ≡ start_of source.slices.now number
  pub end : start_of source.slices.now number + (slice_at source.slices.now number).count ≤ length source.macroblocks.now
  pub slice : IsSlice (numbered source number) (slice_at source.slices.now number).count

-- The part has room for the slices from one number up to another.
pub record CanBuild (source : Source) (from to : ℕ) (part : Part) : Type 0 where
  pub some : from < to
  pub slices : to ≤ length source.slices.now
  pub few : to < 2 ^ 32
  pub each : (number : ℕ) → number < to → IsSliceAt source number
  pub start : part.start ≡ start_of source.slices.now from
  pub room : start_of source.slices.now to ≤ part.start + length part.marks
  pub tiles : length part.tiles ≡ length part.marks
  pub whole : AreWhole part.marks part.tiles (length part.marks)
