-- How the NAL units of a file make access units. H.264, 7.4.1.2.3 and 7.4.1.2.4.
use Rattle.std.specs.Prelude.{ℕ, ◌==◌, nat_le, Bool, true, false, not, ◌&&◌, ◌||◌, if◌then◌else◌, List, [], ◌∷◌, ◌++◌, ℤ, Option, Some, None}
use Rattle.std.specs.Option.{is_some, option_or}
use Rattle.std.specs.Ordering.{int_eq}
use Rattle.cb_types.specs.Slices.{is_idr}
use Rattle.cb_types.specs.declared.header.Header.{Header}
use Rattle.access_units.specs.Contents.{Told, has_first_bit, type_of}
use Rattle.access_units.specs.declared.content.Content.{Content}
use Rattle.access_units.specs.declared.content.Content.TheVariants.{Refused, Slice, TooLarge}
use Rattle.access_units.specs.declared.content.Named.{Named}

-- an access unit
pub record AccessUnit : Type 0 where
  -- the place of the first byte of its first unit
  pub offset : ℕ
  -- None where no unit of it is refused and the text isn't broken behind its last one, or else whether what refuses it first is a
  -- sequence set of too large pictures
  pub refused : Option Bool
  -- the bytes of its slices, in order
  pub slices : List (List ℕ)
  -- the headers of its first slice and of its last, each None where there is no slice, or where that slice has no header
  pub first : Option Named
  pub last : Option Named

-- no unit yet, where the first one begins at a place
abbrev pub empty_at : ℕ → AccessUnit
empty_at offset = record { offset = offset; refused = None; slices = []; first = None; last = None }

abbrev pub are_some : List (List ℕ) → Bool
are_some [] = false
are_some (slice ∷ slices) = true

abbrev pub has_slice : AccessUnit → Bool
has_slice au = are_some au.slices

-- ---- where an access unit begins

-- an access unit delimiter, a parameter set, SEI, or a type from 14 to 18 (7.4.1.2.3)
abbrev pub stands_before_slices : ℕ → Bool
stands_before_slices unit_type = (nat_le 6 unit_type && nat_le unit_type 9) || (nat_le 14 unit_type && nat_le unit_type 18)

abbrev pub is_same_flag : Bool → Bool → Bool
is_same_flag a b = if a then b else not b

abbrev pub are_same_ints : List ℤ → List ℤ → Bool
are_same_ints (a0 ∷ a1 ∷ []) (b0 ∷ b1 ∷ []) = int_eq a0 b0 && int_eq a1 b1
are_same_ints a b = false

-- Two slices that follow one another are of one primary coded picture by their headers (7.4.1.2.4).
abbrev pub are_of_one_picture : Header → Header → Bool
are_of_one_picture a b =
    a.frame_num == b.frame_num
    && a.pps == b.pps
    && is_same_flag (a.head.ref_idc == 0) (b.head.ref_idc == 0)
    && is_same_flag (is_idr a) (is_idr b)
    && (not (is_idr a) || a.idr_pic_id == b.idr_pic_id)
    && a.poc_lsb == b.poc_lsb
    && int_eq a.delta_bottom b.delta_bottom
    && are_same_ints a.delta_poc b.delta_poc

-- A slice goes on with the picture of the slice before where both have headers and these say so.
abbrev pub goes_on : Option Named → Option Named → Bool
goes_on (Some before) (Some named) = are_of_one_picture before.header named.header
goes_on before named = false

abbrev pub begins_by : AccessUnit → List ℕ → Content → Bool
begins_by au unit (Slice named) = not (goes_on au.last named)
begins_by au unit content = stands_before_slices (type_of unit)

-- The unit begins an access unit behind this one, which it can do only once that has a slice.
abbrev pub begins_another : AccessUnit → Told → Bool
begins_another au unit = has_slice au && begins_by au unit.bytes unit.content

-- ---- the access units of units

abbrev pub refusal_in : Content → Option Bool
refusal_in Refused = Some false
refusal_in TooLarge = Some true
refusal_in content = None

abbrev pub refusal_of : Told → Option Bool
refusal_of unit = if has_first_bit unit.bytes then Some false else refusal_in unit.content

abbrev pub with_slice : AccessUnit → List ℕ → Content → AccessUnit
with_slice au unit (Slice named) = record au { slices = au.slices ++ unit ∷ []; first = if has_slice au then au.first else named; last = named }
with_slice au unit content = au

-- the access unit with one unit more
abbrev pub with_unit : AccessUnit → Told → AccessUnit
with_unit au unit = with_slice (record au { refused = option_or au.refused (refusal_of unit) }) unit.bytes unit.content

abbrev pub unit_alone : Told → AccessUnit
unit_alone unit = with_unit (empty_at unit.place.0) unit

abbrev pub added_to : List AccessUnit → Told → List AccessUnit
added_to [] unit = unit_alone unit ∷ []
added_to (au ∷ earlier) unit = if begins_another au unit then unit_alone unit ∷ au ∷ earlier else with_unit au unit ∷ earlier

-- the access units of these units; both lists have the newest first
unfoldable pub grouped : List Told → List AccessUnit
grouped [] = []
grouped (unit ∷ earlier) = added_to (grouped earlier) unit

-- ---- behind a broken place

abbrev pub refused_at_end : AccessUnit → AccessUnit
refused_at_end au = record au { refused = option_or au.refused (Some false) }

-- A place at which the text isn't a byte stream refuses the access unit of the unit before it. Where no unit stands before it,
-- it counts as one at the beginning of the text.
abbrev pub broken_off : List AccessUnit → List AccessUnit
broken_off [] = refused_at_end (empty_at 0) ∷ []
broken_off (au ∷ earlier) = refused_at_end au ∷ earlier

-- the access units of a text with these units and this broken place, the newest first
abbrev pub access_units : List Told → Option ℕ → List AccessUnit
access_units told broken = if is_some broken then broken_off (grouped told) else grouped told
