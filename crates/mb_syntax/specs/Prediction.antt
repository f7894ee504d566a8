-- H.264, 7.3.5, 7.3.5.1 and 7.3.5.2: the codewords of a macroblock up to its coded block pattern, and which kinds have some.
use Rattle.std.specs.Prelude.{◌≡◌, ℕ, ◌+◌, ◌-◌, ◌/◌, ◌%◌, ◌<◌, ◌≤◌, ◌⊎◌, ◌==◌, Bool, true, false, if◌then◌else◌, IsTrue, List, [], ◌∷◌, ◌++◌, All, drop, length, replicate, take, pos}
use Rattle.std.specs.List.{flat_map}
use Rattle.bit_io.specs.Bits.{bits_of, u}
use Rattle.bit_io.specs.Codewords.{IsSe, se, te, ue}
use Rattle.cb_tables.specs.CodedBlockPattern.{pattern_code_at}
use Rattle.cb_types.specs.declared.macroblock.MbKind.{MbKind}
use Rattle.cb_types.specs.declared.macroblock.MbKind.TheVariants.{Skip, Pcm, Intra4, Intra16, Whole, Wide, Tall, Four, FourFirst}
use Rattle.cb_types.specs.declared.macroblock.Mode.{Mode}
use Rattle.cb_types.specs.declared.macroblock.Mode.TheVariants.{Predicted, Remaining}
use Rattle.cb_types.specs.declared.macroblock.Part.{Part}
use Rattle.cb_types.specs.declared.macroblock.Sub.{Sub}
use Rattle.cb_types.specs.declared.macroblock.Vector.{Vector}
use Rattle.mb_syntax.specs.Kinds.{mb_type, sub_parts}
use Rattle.mb_syntax.specs.declared.slice.Slice.{Slice}

-- the zero bits from a place in the payload up to the next whole byte: pcm_alignment_zero_bit
abbrev pub alignment : ℕ → List Bool
alignment place = replicate ((8 - place % 8) % 8) false

-- prev_intra4x4_pred_mode_flag and rem_intra4x4_pred_mode
abbrev pub mode_bits : Mode → List Bool
mode_bits Predicted = true ∷ []
mode_bits (Remaining mode) = false ∷ u mode 3

-- coded_block_pattern, me(v)
abbrev pub pattern_bits : Bool → ℕ → List Bool
pattern_bits intra pattern = ue (pattern_code_at pattern intra)

-- ref_idx_l0, where more than one entry is active
abbrev pub reference_bits : Slice → ℕ → List Bool
reference_bits slice reference = if slice.active == 1 then [] else te reference (slice.active - 1)

-- mvd_l0
abbrev pub vector_bits : Vector → List Bool
vector_bits vector = se vector.x ++ se vector.y

abbrev pub part_reference_bits : Slice → Part → List Bool
part_reference_bits slice part = reference_bits slice part.reference

abbrev pub part_vector_bits : Part → List Bool
part_vector_bits part = vector_bits part.delta

abbrev pub sub_kind_bits : Sub → List Bool
sub_kind_bits sub = ue sub.kind

abbrev pub sub_reference_bits : Slice → Sub → List Bool
sub_reference_bits slice sub = reference_bits slice sub.reference

abbrev pub sub_vector_bits : Sub → List Bool
sub_vector_bits sub = flat_map vector_bits (take (sub_parts sub.kind) sub.deltas)

-- what stands behind mb_type, up to the coded block pattern; the place is that of the bit behind mb_type in the payload
unfoldable pub prediction_bits : Slice → ℕ → MbKind → List Bool
prediction_bits slice place Skip = []
prediction_bits slice place (Pcm samples) = alignment place ++ bits_of samples
prediction_bits slice place (Intra4 modes chroma pattern) = flat_map mode_bits modes ++ ue chroma ++ pattern_bits true pattern
prediction_bits slice place (Intra16 mode chroma pattern) = ue chroma
prediction_bits slice place (Whole part pattern) =
    part_reference_bits slice part ++ part_vector_bits part ++ pattern_bits false pattern
prediction_bits slice place (Wide parts pattern) =
    flat_map (part_reference_bits slice) parts ++ flat_map part_vector_bits parts ++ pattern_bits false pattern
prediction_bits slice place (Tall parts pattern) =
    flat_map (part_reference_bits slice) parts ++ flat_map part_vector_bits parts ++ pattern_bits false pattern
prediction_bits slice place (Four subs pattern) =
    flat_map sub_kind_bits subs ++ flat_map (sub_reference_bits slice) subs ++ flat_map sub_vector_bits subs ++ pattern_bits false pattern
prediction_bits slice place (FourFirst subs pattern) =
    flat_map sub_kind_bits subs ++ flat_map sub_vector_bits subs ++ pattern_bits false pattern

-- a macroblock's codewords up to its coded block pattern, of a macroblock that isn't skipped
abbrev pub kind_bits : Slice → ℕ → MbKind → List Bool
kind_bits slice place kind = let type = ue (mb_type slice.is_p kind) in type ++ prediction_bits slice (place + length type) kind

-- Which values have a spelling.

abbrev pub IsMode : Mode → Type 0
IsMode Predicted = Unit {0}
IsMode (Remaining mode) = mode < 8

-- an entry of the slice's list, the first where it isn't spelled
abbrev pub IsReference : Slice → ℕ → Type 0
IsReference slice reference = reference < slice.active

pub record IsVector (vector : Vector) : Type 0 where
  pub x : IsSe vector.x
  pub y : IsSe vector.y

pub record IsPart (slice : Slice) (part : Part) : Type 0 where
  pub reference : IsReference slice part.reference
  pub delta : IsVector part.delta

abbrev pub IsZeroVector : Vector → Type 0
IsZeroVector vector = (vector.x ≡ pos 0) × (vector.y ≡ pos 0)

-- a sub-macroblock: the vectors that its type doesn't have are 0
pub record IsSub (slice : Slice) (sub : Sub) : Type 0 where
  pub kind : sub.kind ≤ 3
  pub reference : IsReference slice sub.reference
  pub size : length sub.deltas ≡ 4
  pub spelled : All IsVector (take (sub_parts sub.kind) sub.deltas)
  pub others : All IsZeroVector (drop (sub_parts sub.kind) sub.deltas)

-- a sub-macroblock of P_8x8ref0
pub record IsFirstSub (slice : Slice) (sub : Sub) : Type 0 where
  pub spelling : IsSub slice sub
  pub first : sub.reference ≡ 0

-- the patterns of Intra_16x16, which mb_type spells
pub record IsIntra16 (mode chroma pattern : ℕ) : Type 0 where
  pub of_mode : mode ≤ 3
  pub of_chroma : chroma ≤ 3
  pub luma : (pattern % 16 ≡ 0) ⊎ (pattern % 16 ≡ 15)
  pub chroma_pattern : pattern / 16 ≤ 2

pub record AreParts (slice : Slice) (parts : List Part) (pattern : ℕ) : Type 0 where
  pub size : length parts ≡ 2
  pub each : All (IsPart slice) parts
  pub of_pattern : pattern ≤ 47

abbrev pub AreModes : List Mode → Type 0
AreModes modes = (length modes ≡ 16) × All IsMode modes

-- the samples of I_PCM
abbrev pub AreSamples : List ℕ → Type 0
AreSamples samples = (length samples ≡ 384) × All (λ byte. byte < 256) samples

-- The kind of a macroblock that isn't skipped has a spelling. Inter kinds stand in P slices alone.
abbrev pub IsKind : Slice → MbKind → Type 0
IsKind slice Skip = ⊥
IsKind slice (Pcm samples) = AreSamples samples
IsKind slice (Intra4 modes chroma pattern) = AreModes modes × (chroma ≤ 3) × (pattern ≤ 47)
IsKind slice (Intra16 mode chroma pattern) = IsIntra16 mode chroma pattern
IsKind slice (Whole part pattern) = IsTrue slice.is_p × IsPart slice part × (pattern ≤ 47)
IsKind slice (Wide parts pattern) = IsTrue slice.is_p × AreParts slice parts pattern
IsKind slice (Tall parts pattern) = IsTrue slice.is_p × AreParts slice parts pattern
IsKind slice (Four subs pattern) = IsTrue slice.is_p × (length subs ≡ 4) × All (IsSub slice) subs × (pattern ≤ 47)
IsKind slice (FourFirst subs pattern) = IsTrue slice.is_p × (length subs ≡ 4) × All (IsFirstSub slice) subs × (pattern ≤ 47)

-- a kind with this mb_type
abbrev pub IsKindOf : Slice → ℕ → MbKind → Type 0
IsKindOf slice number kind = IsKind slice kind × (mb_type slice.is_p kind ≡ number)
