-- The bytes of a made stream.
use Rattle.std.specs.Prelude.{◌≡◌, ℕ, ◌+◌, ◌*◌, Bool, List, [], ◌∷◌, ◌++◌, flat_map, length, replicate}
use Rattle.std.specs.List.{AllZip}
use Rattle.bit_io.specs.Bits.{bits_of, u}
use Rattle.bit_io.specs.Escaped.{escaped}
use Rattle.cb_types.specs.declared.header.UnitHead.{UnitHead}
use Rattle.element_tables.specs.Syntax.{Spells}
use Rattle.mb_syntax.specs.Slice.{slice_of}
use Rattle.mb_syntax.specs.SliceData.{slice_bits}
use Rattle.nal_units.specs.ByteStream.{start_code}
use Rattle.slice_header.specs.Spelling.{slice_header}
use Rattle.cb_maker.specs.Slices.{MadeSlice, slices_of}
use Rattle.cb_maker.specs.declared.stream.TheConstants.{INFO, SIZE}

-- supplemental information of a user's own (H.264, D.1.7): sixteen bytes
abbrev pub information : List ℕ
information = 0x06 ∷ 0x05 ∷ 0x10 ∷ replicate 16 0x41 ++ 0x80 ∷ []

-- the sequence set: pictures of 22 by 18 macroblocks, order count type 2, three references, and a VUI
abbrev pub sequence_set : List ℕ
sequence_set =
    0x67 ∷ 0x42 ∷ 0xC0 ∷ 0x1E ∷ 0xD9 ∷ 0x01 ∷ 0x60 ∷ 0x96 ∷ 0x80 ∷ 0x78 ∷ 0xC1 ∷ 0x92 ∷ 0x40 ∷ []

-- the picture set: all is 0, and slices control the deblocking filter
abbrev pub picture_set : List ℕ
picture_set = 0x68 ∷ 0xCE ∷ 0x3C ∷ 0x80 ∷ []

-- a unit's first byte (H.264, 7.3.1)
abbrev pub first_byte : UnitHead → ℕ
first_byte head = 32 * head.ref_idc + head.unit_type

-- The unit spells the slice: its first byte, the header, and the macroblocks with the trailing bits, escaped.
pub record IsSliceUnit (slice : MadeSlice) (unit : List ℕ) : Type 0 where
  pub payload : List ℕ
  pub spelled : unit ≡ escaped payload
  pub elements : List Bool
  pub header : Spells (slice_header slice.header.head INFO) elements slice.header
  pub bits : bits_of payload ≡ u (first_byte slice.header.head) 8 ++ elements
      ++ slice_bits (slice_of INFO slice.header SIZE) (8 + length elements) slice.mbs

-- the units, each behind 00 00 00 01
abbrev pub stream_of : List (List ℕ) → List ℕ
stream_of units = flat_map (λ unit. start_code ++ unit) units

-- The text is the stream that is made from this number.
pub record IsMade (number : ℕ) (text : List ℕ) : Type 0 where
  pub units : List (List ℕ)
  pub slices : AllZip IsSliceUnit (slices_of number) units
  pub joined : text ≡ stream_of (information ∷ sequence_set ∷ picture_set ∷ units)
