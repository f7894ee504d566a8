-- A payload spells one slice at most.
use Rattle.std.proofs.Common.{◌≡◌, ℕ, ◌+◌, ◌*◌, Bool, List, sym, ap, ◌∙◌, subst, arith}
use Rattle.cb_types.specs.SizeMbs.{IsWithinLimits}
use Rattle.cb_types.specs.declared.header.Header.{Header}
use Rattle.cb_types.specs.declared.header.UnitHead.{UnitHead}
use Rattle.cb_types.specs.declared.macroblock.Macroblock.{Macroblock}
use Rattle.cb_types.specs.declared.picture_info.PictureInfo.{PictureInfo}
use Rattle.cb_types.specs.declared.size.SizeMbs.{SizeMbs}
use Rattle.element_tables.specs.Syntax.{Takes}
use Rattle.element_tables.proofs.Unique.{takes_same}
use Rattle.mb_syntax.specs.SliceData.{AreSliceData}
use Rattle.mb_syntax.proofs.ReadLemmas.{one_slice_data}
use Rattle.slice_header.specs.Conditions.{HasRanges}
use Rattle.slice_header.specs.Spelling.{slice_header}
use Rattle.slice_header.proofs.Found.{found_header}
use Rattle.decoder_render.specs.Slices.{IsFirstByte, SpellsSlice, bits_behind}

head_made : ℕ → ℕ → UnitHead
head_made a b = record { ref_idc = a; unit_type = b }

pub same_head : (payload : List ℕ) (head other : UnitHead) → IsFirstByte payload head → IsFirstByte payload other → head ≡ other
unfolding head_made
same_head payload head other is also =
    let byte : 32 * head.ref_idc + head.unit_type ≡ 32 * other.ref_idc + other.unit_type = sym is.byte ∙ also.byte in
    let small = is.unit_type in
    let small' = also.unit_type in
    let idc : head.ref_idc ≡ other.ref_idc = omega (arith, byte, small, small') in
    let kind : head.unit_type ≡ other.unit_type = omega (arith, byte, small, small') in
    ap (λ a. head_made a head.unit_type) idc ∙ ap (λ b. head_made other.ref_idc b) kind

pub record AreSame (header other : Header) (mbs others : List Macroblock) : Type 0 where
  pub of_header : header ≡ other
  pub of_macroblocks : mbs ≡ others

pub same_slice : (info : PictureInfo) (size : SizeMbs) (payload : List ℕ) (header other : Header) (mbs others : List Macroblock) → HasRanges info → IsWithinLimits size
    → SpellsSlice info size payload header mbs → SpellsSlice info size payload other others → AreSame header other mbs others
same_slice info size payload header other mbs others ranges limits is also =
    let head = same_head payload header.head other.head is.first also.first in
    let moved = subst (λ (h : UnitHead). Takes (slice_header h info) (bits_behind payload) other also.rest) (sym head) also.elements in
    let same = takes_same (slice_header header.head info) (bits_behind payload) is.rest also.rest header other is.elements moved in
    let a = subst (λ (h : Header). AreSliceData info h size also.rest others) (sym same.0) also.macroblocks in
    let b = subst (λ (bits : List Bool). AreSliceData info header size bits others) (sym same.1) a in
    record {
      of_header = same.0;
      of_macroblocks = one_slice_data info header size is.rest mbs others limits (found_header header.head info (bits_behind payload) header is.rest ranges is.elements).0.active is.macroblocks b;
    }
