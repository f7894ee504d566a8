-- How a unit spells a slice (H.264, 7.3.1, 7.3.2.8, 7.3.3 and 7.3.4).
use Rattle.std.specs.Prelude.{◌≡◌, ℕ, ◌+◌, ◌*◌, ◌<◌, ◌≤◌, Bool, List, length, drop, slice_index}
use Rattle.bit_io.specs.Bits.{bits_of}
use Rattle.cb_types.specs.declared.header.Header.{Header}
use Rattle.cb_types.specs.declared.header.UnitHead.{UnitHead}
use Rattle.cb_types.specs.declared.macroblock.Macroblock.{Macroblock}
use Rattle.cb_types.specs.declared.picture_info.PictureInfo.{PictureInfo}
use Rattle.cb_types.specs.declared.size.SizeMbs.{SizeMbs}
use Rattle.element_tables.specs.Syntax.{Takes}
use Rattle.mb_syntax.specs.SliceData.{AreSliceData}
use Rattle.slice_header.specs.Spelling.{slice_header}

-- The first byte of a unit: forbidden_zero_bit, which is 0, nal_ref_idc in two bits and nal_unit_type in five.
pub record IsFirstByte (payload : List ℕ) (head : UnitHead) : Type 0 where
  pub some : 1 ≤ length payload
  pub ref_idc : head.ref_idc < 4
  pub unit_type : head.unit_type < 32
  pub byte : slice_index payload 0 ≡ 32 * head.ref_idc + head.unit_type

-- The bits behind the first byte of a payload.
abbrev pub bits_behind : List ℕ → List Bool
bits_behind payload = bits_of (drop 1 payload)

-- The payload is the first byte, the elements of the header, and the macroblocks with the trailing bits, with nothing else.
pub record SpellsSlice (info : PictureInfo) (size : SizeMbs) (payload : List ℕ) (header : Header) (mbs : List Macroblock) : Type 0 where
  pub first : IsFirstByte payload header.head
  pub rest : List Bool
  pub elements : Takes (slice_header header.head info) (bits_behind payload) header rest
  pub macroblocks : AreSliceData info header size rest mbs
