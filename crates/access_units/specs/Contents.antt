-- What a NAL unit of a file tells, by its type (H.264, 7.4.1): a slice, a parameter set, or nothing that this decoder reads.
use Rattle.std.specs.Prelude.{◌≡◌, ℕ, ◌/◌, ◌%◌, ◌⊎◌, ◌==◌, nat_le, Bool, ◌||◌, ◌&&◌, true, false, List, [], ◌∷◌, length, drop, map, reverse, slice_index, slice_range, Option, Some, None}
use Rattle.bit_io.specs.Payload.{IsAllowedBefore, payload}
use Rattle.cb_types.specs.declared.header.UnitHead.{UnitHead}
use Rattle.bit_io.specs.Bits.{bits_of}
use Rattle.element_tables.specs.Syntax.{Takes}
use Rattle.marking.specs.HeaderInfo.{header_info}
use Rattle.param_sets.specs.Pps as picture
use Rattle.param_sets.specs.Sps as sequence
use Rattle.slice_header.specs.Spelling.{slice_header}
use Rattle.access_units.specs.Sets.{Sets, no_sets, picture_set, sequence_set, with_picture_set, with_sequence_set}
use Rattle.access_units.specs.declared.content.Content.{Content}
use Rattle.access_units.specs.declared.content.Content.TheVariants.{Other, PictureSet, Refused, SequenceSet, Slice, TooLarge}
use Rattle.access_units.specs.declared.content.Named.{Named}

-- ---- the first byte (7.3.1)

abbrev pub first_byte : List ℕ → ℕ
first_byte unit = slice_index unit 0

-- forbidden_zero_bit is 1
abbrev pub has_first_bit : List ℕ → Bool
has_first_bit unit = nat_le 128 (first_byte unit)

abbrev pub head_of : List ℕ → UnitHead
head_of unit = record { ref_idc = first_byte unit / 32 % 4; unit_type = first_byte unit % 32 }

abbrev pub type_of : List ℕ → ℕ
type_of unit = first_byte unit % 32

-- a slice of an IDR picture or of another one, without data partitioning
abbrev pub is_slice : List ℕ → Bool
is_slice unit = type_of unit == 1 || type_of unit == 5

-- a slice with data partitioning
abbrev pub is_partition : List ℕ → Bool
is_partition unit = nat_le 2 (type_of unit) && nat_le (type_of unit) 4

-- the payload behind the first byte
abbrev pub rbsp : List ℕ → List ℕ
rbsp unit = drop 1 (payload unit)

-- No byte of the unit is forbidden, so that it has a payload (7.4.1).
abbrev pub IsAllowed : List ℕ → Type 0
IsAllowed unit = IsAllowedBefore unit (length unit)

-- ---- a slice

-- The elements of this header are spelled in the unit, by the sets that it names, and these are known.
pub record IsNamed (sets : Sets) (unit : List ℕ) (named : Named) : Type 0 where
  pub allowed : IsAllowed unit
  pub pps : picture_set sets named.header.pps ≡ Some named.pps
  pub sps : sequence_set sets named.pps.seq_parameter_set_id ≡ Some named.sps
  pub rest : List Bool
  pub elements : Takes (slice_header (head_of unit) (header_info named.sps named.pps)) (bits_of (rbsp unit)) named.header rest

-- A slice has no header where a byte of it is forbidden, where the sets that it names aren't known, or where it spells none.
abbrev pub HasHeader : Sets → List ℕ → Option Named → Type 0
HasHeader sets unit (Some named) = IsNamed sets unit named
HasHeader sets unit None = (named : Named) → ¬ IsNamed sets unit named

-- ---- a parameter set

abbrev pub IsSequenceSet : List ℕ → Content → Type 0
IsSequenceSet unit (SequenceSet sps) = IsAllowed unit × sequence.IsSpsOf (rbsp unit) sps
IsSequenceSet unit TooLarge = IsAllowed unit × sequence.IsTooLarge (rbsp unit)
IsSequenceSet unit Refused = IsAllowed unit → sequence.IsBadSps (rbsp unit) ⊎ sequence.LeavesBaseline (rbsp unit)
IsSequenceSet unit content = ⊥

abbrev pub IsPictureSet : List ℕ → Content → Type 0
IsPictureSet unit (PictureSet pps) = IsAllowed unit × picture.IsPpsOf (rbsp unit) pps
IsPictureSet unit Refused = IsAllowed unit → picture.IsBadPps (rbsp unit) ⊎ picture.LeavesBaseline (rbsp unit)
IsPictureSet unit content = ⊥

-- ---- a unit

abbrev pub IsSlice : Sets → List ℕ → Content → Type 0
IsSlice sets unit (Slice named) = HasHeader sets unit named
IsSlice sets unit content = ⊥

-- one statement where a condition holds, and another one where it doesn't
abbrev pub WhereElse : Bool → Type 0 → Type 0 → Type 0
WhereElse true holds else_holds = holds
WhereElse false holds else_holds = else_holds

-- What a unit tells where these sets are known. A unit with its first bit set is refused: a set isn't read then, but the header
-- of a slice still says where access units begin. So is a slice with data partitioning. All other types are passed over.
abbrev pub Tells : Sets → List ℕ → Content → Type 0
Tells sets unit content =
    WhereElse (is_slice unit) (IsSlice sets unit content)
    (WhereElse (has_first_bit unit || is_partition unit) (content ≡ Refused)
    (WhereElse (type_of unit == 7) (IsSequenceSet unit content)
    (WhereElse (type_of unit == 8) (IsPictureSet unit content)
    (content ≡ Other))))

-- a unit of a file: its place, its bytes, and what it tells
pub record Told : Type 0 where
  pub place : ℕ × ℕ
  pub bytes : List ℕ
  pub content : Content

abbrev pub with_content : Content → Sets → Sets
with_content (SequenceSet sps) sets = with_sequence_set sps sets
with_content (PictureSet pps) sets = with_picture_set pps sets
with_content content sets = sets

-- the sets that are known behind these units, of which the newest is the first
unfoldable pub sets_behind : List Told → Sets
sets_behind [] = no_sets
sets_behind (unit ∷ earlier) = with_content unit.content (sets_behind earlier)

-- These units stand in the text, the newest first, and each tells what it does behind those before it.
unfoldable pub AreTold : List ℕ → List Told → Type 0
AreTold text [] = Unit {0}
AreTold text (unit ∷ earlier) =
    AreTold text earlier × (unit.bytes ≡ slice_range text unit.place.0 unit.place.1) × Tells (sets_behind earlier) unit.bytes unit.content

-- the places of these units in the order of the text
abbrev pub places_of : List Told → List (ℕ × ℕ)
places_of told = reverse (map (λ (unit : Told). unit.place) told)
