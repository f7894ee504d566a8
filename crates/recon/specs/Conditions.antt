-- What the construction of a slice asks of what was parsed. Each is a range that the syntax gives.
use Rattle.std.specs.Prelude.{ℕ, ◌+◌, ◌<◌, ◌≤◌, All, pos, negsuc, ◌+ℤ◌, ◌≤ℤ◌, unsigned_abs, slice_index_or, None}
use Rattle.std.specs.Option.{ForSome}
use Rattle.cb_types.specs.AcceptedInfo.{IsAcceptedBySome}
use Rattle.cb_types.specs.SizeMbs.{IsWithinLimits, macroblocks}
use Rattle.cb_types.specs.declared.header.EntryWeights.{EntryWeights}
use Rattle.cb_types.specs.declared.header.Header.{Header}
use Rattle.cb_types.specs.declared.header.Weight.{Weight}
use Rattle.cb_types.specs.declared.header.Weights.{Weights}
use Rattle.cb_types.specs.declared.macroblock.ChromaLevels.{ChromaLevels}
use Rattle.cb_types.specs.declared.macroblock.DcLevels.{DcLevels}
use Rattle.cb_types.specs.declared.macroblock.Levels.{Levels}
use Rattle.cb_types.specs.declared.macroblock.Macroblock.{Macroblock}
use Rattle.cb_types.specs.declared.macroblock.MbKind.{MbKind}
use Rattle.cb_types.specs.declared.macroblock.MbKind.TheVariants.{Skip, Pcm, Intra4, Intra16, Whole, Wide, Tall, Four, FourFirst}
use Rattle.cb_types.specs.declared.macroblock.Mode.{Mode}
use Rattle.cb_types.specs.declared.macroblock.Mode.TheVariants.{Predicted, Remaining}
use Rattle.cb_types.specs.declared.macroblock.Part.{Part}
use Rattle.cb_types.specs.declared.macroblock.Sub.{Sub}
use Rattle.cb_types.specs.declared.picture_info.PictureInfo.{PictureInfo}
use Rattle.int_transform.specs.Bounds.{AreWithin}
use Rattle.motion.specs.Border.{macroblock_at}
use Rattle.recon.specs.References.{ArePlaces}
use Rattle.recon.specs.Slice.{Slice}

pub record IsWeight (weight : Weight) : Type 0 where
  pub of_weight : unsigned_abs weight.weight ≤ 128
  pub of_offset : unsigned_abs weight.offset ≤ 128

pub record IsEntry (entry : EntryWeights) : Type 0 where
  pub of_luma : ForSome entry.luma IsWeight
  pub of_chroma : ForSome entry.chroma (All IsWeight)

-- an entry without weights
abbrev pub unweighted : EntryWeights
unweighted = record { luma = None; chroma = None }

pub record AreWeights (weights : Weights) : Type 0 where
  pub luma : weights.luma_denom ≤ 7
  pub chroma : weights.chroma_denom ≤ 7
  pub each : (entry : ℕ) → entry < 16 → IsEntry (slice_index_or weights.entries entry unweighted)

-- 26 plus the two differences of the quantizer is 0 to 51, and the filter's offsets are -6 to 6 before they are doubled
pub record IsHeaderRange (info : PictureInfo) (header : Header) : Type 0 where
  pub least_qp : pos 0 ≤ℤ (pos 26 +ℤ info.pic_init_qp_minus26 +ℤ header.qp_delta)
  pub greatest_qp : (pos 26 +ℤ info.pic_init_qp_minus26 +ℤ header.qp_delta) ≤ℤ pos 51
  pub alpha : unsigned_abs header.alpha_half ≤ 6
  pub beta : unsigned_abs header.beta_half ≤ 6
  pub weights : AreWeights header.weights

abbrev pub IsModeRange : Mode → Type 0
IsModeRange Predicted = Unit {0}
IsModeRange (Remaining mode) = mode < 8

abbrev pub IsPartRange : Part → Type 0
IsPartRange part = part.reference < 16

abbrev pub IsSubRange : Sub → Type 0
IsSubRange sub = sub.reference < 16

abbrev pub IsKindRange : MbKind → Type 0
IsKindRange Skip = Unit {0}
IsKindRange (Pcm samples) = Unit {0}
IsKindRange (Intra4 modes chroma pattern) = All IsModeRange modes
IsKindRange (Intra16 mode chroma pattern) = Unit {0}
IsKindRange (Whole part pattern) = IsPartRange part
IsKindRange (Wide parts pattern) = All IsPartRange parts
IsKindRange (Tall parts pattern) = All IsPartRange parts
IsKindRange (Four subs pattern) = All IsSubRange subs
IsKindRange (FourFirst subs pattern) = All IsSubRange subs

abbrev pub AreLevels : Levels → Type 0
AreLevels levels = AreWithin 4096 levels.0

abbrev pub AreDcLevels : DcLevels → Type 0
AreDcLevels levels = AreWithin 4096 levels.0

abbrev pub AreChromaLevels : ChromaLevels → Type 0
AreChromaLevels levels = All AreLevels levels.0

-- a macroblock: no level is greater than 4,096, and mb_qp_delta is -26 to 25
pub record IsMacroblockRange (mb : Macroblock) : Type 0 where
  pub kind : IsKindRange mb.kind
  pub least_delta : negsuc 25 ≤ℤ mb.qp_delta
  pub greatest_delta : mb.qp_delta ≤ℤ pos 25
  pub luma_dc : AreWithin 4096 mb.luma_dc
  pub luma : All AreLevels mb.luma
  pub chroma_dc : All AreDcLevels mb.chroma_dc
  pub chroma : All AreChromaLevels mb.chroma

-- so many macroblocks from the slice's first one on
pub record IsSlice (slice : Slice) (count : ℕ) : Type 0 where
  pub info : IsAcceptedBySome slice.info
  pub header : IsHeaderRange slice.info slice.header
  pub size : IsWithinLimits slice.size
  pub inside : slice.header.first_mb + count ≤ macroblocks slice.size
  pub list : ArePlaces slice.info slice.list
  pub each : (number : ℕ) → number < count → IsMacroblockRange (macroblock_at slice.macroblocks number)
