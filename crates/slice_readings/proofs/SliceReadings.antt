-- What a payload can be read as is few.
use Rattle.std.proofs.Common.{◌≡◌, ℕ, ◌+◌, ◌*◌, ◌<◌, inl, inr, Bool, true, false, List, Option, Some, None, length, refl, sym, ap, ap₂, subst}
use Rattle.std.specs.Prelude.{slice_index, unwrap_or}
use Rattle.cb_types.specs.Slices.{is_idr, is_p}
use Rattle.cb_types.specs.declared.header.Header.{Header}
use Rattle.cb_types.specs.declared.header.UnitHead.{UnitHead}
use Rattle.cb_types.specs.declared.macroblock.Macroblock.{Macroblock}
use Rattle.cb_types.specs.declared.picture_info.PictureInfo.{PictureInfo}
use Rattle.cb_types.specs.declared.size.SizeMbs.{SizeMbs}
use Rattle.decoder_render.specs.Slices.{IsFirstByte, SpellsSlice, bits_behind}
use Rattle.element_tables.specs.Syntax.{Takes}
use Rattle.finite.specs.Decided.{Decided}
use Rattle.finite.specs.Finite.{Finite}
use Rattle.finite.proofs.Deciding.{always, both, decided_as, either, implies, negated}
use Rattle.finite.proofs.Equal.{at_most, equal_booleans, equal_numbers}
use Rattle.finite.proofs.Numbers.{numbers_below}
use Rattle.finite.proofs.Sets.{narrower, onto, pairs}
use Rattle.mb_syntax.specs.SliceData.{AreSliceData}
use Rattle.ref_lists.specs.ReferenceList.{reference_list}
use Rattle.slice_header.specs.AcceptedSlices.{IsAcceptedSlice, IsIdrSlice}
use Rattle.slice_header.specs.Spelling.{slice_header}
use Rattle.slice_readings.proofs.SliceDataChoices.{slice_data_few}
use Rattle.slice_readings.proofs.TableReadings.{takes_few}
use Rattle.slice_readings.specs.Readings.{ParsesAsSome, SpellsSome}

-- ---- the first byte

abbrev head_of : ℕ × ℕ → UnitHead
head_of t = record { ref_idc = t.0; unit_type = t.1 }

IsHead : UnitHead → Type 0
IsHead head = (head.ref_idc < 4) × (head.unit_type < 32)

heads_few : Finite IsHead
unfolding IsHead
heads_few = onto IsHead head_of (pairs (numbers_below 4) (λ ref_idc h. numbers_below 32)) (λ t h. h) (λ head h. ((head.ref_idc, head.unit_type), h, refl))

first_bytes_few : (payload : List ℕ) → Finite (IsFirstByte payload)
unfolding IsHead
first_bytes_few payload = narrower (IsFirstByte payload) heads_few
    (λ head is. decided_as (λ h. record { some = h.0; ref_idc = is.0; unit_type = is.1; byte = h.1 }) (λ h. (h.some, h.byte))
    (both (at_most 1 (length payload)) (λ h. equal_numbers (slice_index payload 0) (32 * head.ref_idc + head.unit_type))))
    (λ head h. (h.ref_idc, h.unit_type))

equal_heads : (a b : UnitHead) → Decided (a ≡ b)
equal_heads a b =
    decided_as (λ h. ap₂ (λ (x y : ℕ). head_of (x, y)) h.0 h.1) (λ e. (ap (λ (h : UnitHead). h.ref_idc) e, ap (λ (h : UnitHead). h.unit_type) e))
    (both (equal_numbers a.ref_idc b.ref_idc) (λ h. equal_numbers a.unit_type b.unit_type))

-- ---- the header behind it

-- a header of a unit with this first byte, and the bits behind it
record IsRead (info : PictureInfo) (payload : List ℕ) (head : UnitHead) (p : Header × List Bool) : Type 0 where
  takes : Takes (slice_header head info) (bits_behind payload) p.0 p.1
  same_head : p.0.head ≡ head

headers_few : (info : PictureInfo) (payload : List ℕ) (head : UnitHead) → Finite (IsRead info payload head)
headers_few info payload head = narrower (IsRead info payload head) (takes_few (slice_header head info) (bits_behind payload))
    (λ p takes. decided_as (λ e. record { takes = takes; same_head = e }) (λ h. h.same_head) (equal_heads p.0.head head)) (λ p h. h.takes)

-- ---- the slice

abbrev Reading : Type 0
Reading = UnitHead × ((Header × List Bool) × List Macroblock)

Reads : PictureInfo → SizeMbs → List ℕ → Reading → Type 0
Reads info size payload t = IsFirstByte payload t.0 × (IsRead info payload t.0 t.1.0 × AreSliceData info t.1.0.0 size t.1.0.1 t.1.1)

readings_few : (info : PictureInfo) (size : SizeMbs) (payload : List ℕ) → Finite (Reads info size payload)
unfolding Reads
readings_few info size payload =
    pairs (first_bytes_few payload) (λ head h. pairs (headers_few info payload head) (λ p h. slice_data_few info p.0 size p.1))

abbrev slice_read : Reading → Header × List Macroblock
slice_read t = (t.1.0.0, t.1.1)

pub slices_few : (info : PictureInfo) (size : SizeMbs) (payload : List ℕ)
    → Finite (λ (s : Header × List Macroblock). SpellsSlice info size payload s.0 s.1)
unfolding Reads
slices_few info size payload = onto (λ (s : Header × List Macroblock). SpellsSlice info size payload s.0 s.1) slice_read (readings_few info size payload)
    (λ t h. spells t.0 t.1.0.0 t.1.0.1 t.1.1 h.0 h.1.0 h.1.1)
    (λ s h. ((s.0.head, ((s.0, h.rest), s.1)), (h.first, (record { takes = h.elements; same_head = refl }, h.macroblocks)), refl))
  where
    spells : (head : UnitHead) (header : Header) (rest : List Bool) (mbs : List Macroblock) → IsFirstByte payload head
        → IsRead info payload head (header, rest)
        → AreSliceData info header size rest mbs → SpellsSlice info size payload header mbs
    spells head header rest mbs first read macroblocks = record {
      first = subst (IsFirstByte payload) (sym read.same_head) first;
      rest = rest;
      elements = subst (λ (head : UnitHead). Takes (slice_header head info) (bits_behind payload) header rest) (sym read.same_head) read.takes;
      macroblocks = macroblocks;
    }

pub spells_decided : (info : PictureInfo) (size : SizeMbs) (payload : List ℕ) → Decided (SpellsSome info size payload)
spells_decided info size payload =
    decided_as (λ found. (found.0.0, found.0.1, found.1)) (λ found. ((found.0, found.1), found.2, tt))
    ((slices_few info size payload).find (λ s. Unit {0}) (λ s h. always tt))

-- ---- a slice that its picture can have

idr_decided : (header : Header) → Decided (IsIdrSlice header)
idr_decided header =
    decided_as (λ h. record { intra = h.0; frame_num = h.1.0; reference = h.1.1 }) (λ h. (h.intra, (h.frame_num, h.reference)))
    (both (equal_booleans (is_p header) false) (λ h. both (equal_numbers header.frame_num 0) (λ h. negated (equal_numbers header.head.ref_idc 0))))

accepted_decided : (info : PictureInfo) (first : Header) (covered : ℕ) (header : Header) → Decided (IsAcceptedSlice info first covered header)
accepted_decided info first covered header =
    decided_as
    (λ h. record {
      frame_num = h.0;
      reference = (h.1.0, h.1.1.0);
      unit_type = h.1.1.1.0;
      idr = h.1.1.1.1.0;
      alike = h.1.1.1.1.1.0;
      pps = h.1.1.1.1.1.1.0;
      first_mb = h.1.1.1.1.1.1.1;
    })
    (λ h. (h.frame_num, (h.reference.0, (h.reference.1, (h.unit_type, (h.idr, (h.alike, (h.pps, h.first_mb))))))))
    (both (equal_numbers header.frame_num info.frame_num)
    (λ h. both (implies (equal_booleans info.is_reference true) (λ h. negated (equal_numbers header.head.ref_idc 0)))
    (λ h. both (implies (negated (equal_numbers header.head.ref_idc 0)) (λ h. equal_booleans info.is_reference true))
    (λ h. both (either (equal_numbers header.head.unit_type 1) (equal_numbers header.head.unit_type 5))
    (λ h. both (implies (equal_booleans (is_idr header) true) (λ h. idr_decided header))
    (λ h. both (equal_numbers header.head.unit_type first.head.unit_type)
    (λ h. both (equal_numbers header.pps first.pps) (λ h. equal_numbers header.first_mb covered))))))))

listed_decided : {A : Type 0} (found : Option A) → Decided ((a : A) × (found ≡ Some a))
listed_decided None = inr (λ h. let none : None ≡ Some h.0 = h.1 in absurd cc)
listed_decided (Some a) = inl (a, refl)

pub parses_decided : (info : PictureInfo) (size : SizeMbs) (first : Option Header) (covered : ℕ) (payload : List ℕ)
    → Decided (ParsesAsSome info size first covered payload)
parses_decided info size first covered payload =
    decided_as
    (λ found. (found.0.0, found.2.1.0, found.0.1, record { spelled = found.1; fits = found.2.0; listed = found.2.1.1 }))
    (λ found. ((found.0, found.2), found.3.spelled, (found.3.fits, (found.1, found.3.listed))))
    ((slices_few info size payload).find
    (λ s. IsAcceptedSlice info (unwrap_or first s.0) covered s.0 × ((list : List (Option ℕ)) × (reference_list info s.0 ≡ Some list)))
    (λ s h. both (accepted_decided info (unwrap_or first s.0) covered s.0) (λ h. listed_decided (reference_list info s.0))))
