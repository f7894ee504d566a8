-- What a marker stands for, from picture to picture.
use Rattle.std.proofs.Common.{◌≡◌, ℕ, ◌+◌, ◌*◌, ◌^◌, ◌<◌, ◌≤◌, Bool, true, false, nat_lt, if◌then◌else◌, List, [], ◌∷◌, ◌++◌, get_or, ℤ, pos, negsuc, ◌-ℤ◌, ◌≤ℤ◌, Option, Some, None, Result, Ok, Err, refl, sym, ap, ◌∙◌, arith, lit<}
use mir.Syntax.{w32}
use mir.Val.{SFits}
use Rattle.std.proofs.Math.Nat.{pow-le-pow_right}
use Rattle.std.specs.Int.{int_min}
use Rattle.std.specs.Option.{option_and_then}
use Rattle.std.proofs.lemmas.Int.{clamps, ints}
use Rattle.cb_types.specs.declared.header.Header.{Header}
use Rattle.param_sets.specs.declared.pps.Pps.{Pps}
use Rattle.param_sets.specs.declared.sps.Sps.{Sps}
use Rattle.marking.specs.Begun.{begun_by, begun_of, begun_or_fault, counts_of, frames_before, is_gap_fault, last_frame_num_after, lsb_after, msb_after, settled_by, marker_after, max_frame_num, numbers_of, or_refused, settled_of, settled_with}
use Rattle.marking.specs.History.{HasRanges, Picture, after_picture, after_pictures, no_pictures}
use Rattle.marking.specs.declared.begun.Begun.{Begun}
use Rattle.marking.specs.declared.begun.MarkFault.{MarkFault}
use Rattle.marking.specs.declared.begun.MarkFault.TheVariants.{Gap, Refused}
use Rattle.marking.specs.declared.marks.Marks.{Marks}
use Rattle.marking.specs.Frames.{before_frame_num, free_number}
use Rattle.marking.specs.Operations.{marks_after}
use Rattle.marking.specs.OrderCounts.{frame_num_offset, is_reference}
use Rattle.cb_types.specs.Slices.{is_idr}
use Rattle.cb_types.specs.declared.picture_info.Reference.{Reference}
use Rattle.marking.specs.declared.counts.Counts.{Counts}
use Rattle.marking.specs.declared.counts.Orders.{Orders}
use Rattle.marking.specs.declared.marker.Marker.{Marker}
use Rattle.marking.specs.declared.marker.Settled.{Settled}
use Rattle.marking.specs.declared.numbers.Numbers.{Numbers}
use Rattle.marking.proofs.SomeLemmas.{and_then_some, map_some}

pub after_none : after_pictures [] no_pictures ≡ Some no_pictures
unfolding after_pictures
after_none = refl

abbrev begun_ok : Begun → Result Begun MarkFault
begun_ok b = Ok b

abbrev begun_err : MarkFault → Result Begun MarkFault
begun_err fault = Err fault

abbrev settled_ok : Settled → Result Settled MarkFault
settled_ok s = Ok s

abbrev settled_err : MarkFault → Result Settled MarkFault
settled_err fault = Err fault

ok_same : (a b : Begun) → begun_ok a ≡ begun_ok b → a ≡ b
ok_same a b e = cc

err_ok : (fault : MarkFault) (b : Begun) → begun_err fault ≡ begun_ok b → ⊥
err_ok fault b e = cc

settled_same : (a b : Settled) → settled_ok a ≡ settled_ok b → a ≡ b
settled_same a b e = cc

err_settled : (fault : MarkFault) (b : Settled) → settled_err fault ≡ settled_ok b → ⊥
err_settled fault b e = cc

alone : (o : Option Marker) → option_and_then (λ (m : Marker). Some m) o ≡ o
alone None = refl
alone (Some m) = refl

by_first : (f g h : Marker → Option Marker) → ((m : Marker) → f m ≡ option_and_then h (g m)) → (o : Option Marker) → option_and_then f o ≡ option_and_then h (option_and_then g o)
by_first f g h same None = refl
by_first f g h same (Some m) = same m

-- one more picture behind these
pub after_push : (pictures : List Picture) (picture : Picture) (start : Marker) → after_pictures (pictures ++ picture ∷ []) start ≡ option_and_then (after_picture picture) (after_pictures pictures start)
unfolding after_pictures
after_push [] picture start = alone (after_picture picture start)
after_push (first ∷ pictures) picture start = by_first (λ (m : Marker). after_pictures (pictures ++ picture ∷ []) m) (after_pictures pictures) (after_picture picture) (after_push pictures picture) (after_picture first start)

pub after_more : (pictures : List Picture) (picture : Picture) (start marker next : Marker) → after_pictures pictures start ≡ Some marker → after_picture picture marker ≡ Some next
    → after_pictures (pictures ++ picture ∷ []) start ≡ Some next
after_more pictures picture start marker next here step = after_push pictures picture start ∙ ap (option_and_then (after_picture picture)) here ∙ step

-- ---- what is known of a picture that began

pub ok_inv : (sps : Sps) (pps : Pps) (header : Header) (begun : Begun) (r : Result Settled MarkFault) → begun_or_fault sps pps header r ≡ Ok begun
    → (s : Settled) × (r ≡ Ok s) × (begun_by sps pps header s ≡ begun)
ok_inv sps pps header begun (Ok s) e = (s, refl, ok_same (begun_by sps pps header s) begun e)
ok_inv sps pps header begun (Err fault) e = absurd (err_ok fault begun e)

gap_inv : (gap : Bool) (r : Result Settled MarkFault) (s : Settled) → (if gap then Err Gap else r) ≡ Ok s → r ≡ Ok s
gap_inv true r s e = absurd (err_settled Gap s e)
gap_inv false r s e = e

refused_inv : (o : Option Settled) (s : Settled) → or_refused o ≡ Ok s → o ≡ Some s
refused_inv None s e = absurd (err_settled Refused s e)
refused_inv (Some t) s e = ap (λ (x : Settled). Some x) (settled_same t s e)

pub settled_inv : (marker : Marker) (sps : Sps) (header : Header) (s : Settled) → settled_of marker sps header ≡ Ok s
    → (counts : Counts) × (counts_of marker sps header ≡ Some counts) × (settled_with marker (numbers_of sps header) header counts ≡ Some s)
unfolding settled_of
settled_inv marker sps header s e =
    let o = option_and_then (settled_with marker (numbers_of sps header) header) (counts_of marker sps header) in
    and_then_some (settled_with marker (numbers_of sps header) header) (counts_of marker sps header) s
    (refused_inv o s (gap_inv (is_gap_fault marker sps header) (or_refused o) s e))

counts_kept : (marker : Marker) (n : Numbers) (header : Header) (counts : Counts) (s : Settled) → settled_with marker n header counts ≡ Some s → s.counts ≡ counts
unfolding settled_with
counts_kept marker n header counts s e =
    let first = and_then_some (λ (frames : List Reference). settled_by header counts frames n marker.indices) (frames_before marker n header) s e in
    let frames = first.0 in
    let number = free_number frames in
    let second = map_some (λ (marks : Marks). record { frames = frames; number = number; counts = counts; marks = marks })
    (marks_after n (record { number = number; frame_num = n.frame_num; counts = counts }) header frames marker.indices header.marking) s first.2 in
    ap (λ (t : Settled). t.counts) (sym second.2)

-- ---- the numbers behind a picture

top_low : (t : ℤ) (l : ℕ) → SFits w32 t → l < 2 ^ 32 → negsuc (2 ^ 33) ≤ℤ (t -ℤ pos l)
top_low t l f h = omega (arith, ints)

top_high : (t : ℤ) (l : ℕ) → SFits w32 t → l < 2 ^ 32 → (t -ℤ pos l) ≤ℤ pos (2 ^ 32)
top_high t l f h = omega (arith, ints)

rest_low : (t b : ℤ) → SFits w32 t → SFits w32 b → pos 0 ≤ℤ (t -ℤ int_min t b)
rest_low t b f g = omega (arith, ints, clamps)

rest_high : (t b : ℤ) → SFits w32 t → SFits w32 b → (t -ℤ int_min t b) ≤ℤ pos (2 ^ 32)
rest_high t b f g = omega (arith, ints, clamps)

last_small : (n : Numbers) (header : Header) (is_reset : Bool) → n.frame_num < n.max_frame_num → n.max_frame_num ≤ 2 ^ 16 → last_frame_num_after n header is_reset < 2 ^ 16
last_small n header is_reset below small =
    let some : 0 < n.max_frame_num = omega arith in
    let less : before_frame_num n.max_frame_num n.frame_num < n.max_frame_num = omega arith in
    elim (is_reference header) as (λ r. (if r then (if is_reset then 0 else n.frame_num) else before_frame_num n.max_frame_num n.frame_num) < 2 ^ 16) [
      | true ↦ elim is_reset as (λ b. (if b then 0 else n.frame_num) < 2 ^ 16) [ true ↦ omega arith | false ↦ omega arith ]
      | false ↦ omega (arith, less)
    ]

abbrev IsMsb : ℤ → Type 0
IsMsb z = (negsuc (2 ^ 33) ≤ℤ z) × (z ≤ℤ pos (2 ^ 32))

abbrev IsLsb : ℤ → Type 0
IsLsb z = (pos 0 ≤ℤ z) × (z ≤ℤ pos (2 ^ 32))

msb_small : (header : Header) (counts : Counts) (is_reset : Bool) (old : ℤ) → IsMsb old → SFits w32 counts.top → header.poc_lsb < 2 ^ 32
    → IsMsb (if is_reference header then msb_after is_reset header counts else old)
msb_small header counts is_reset old kept top lsb =
    elim (is_reference header) as (λ r. IsMsb (if r then msb_after is_reset header counts else old)) [
      | true ↦ elim is_reset as (λ b. IsMsb (msb_after b header counts)) [ true ↦ (omega (arith, ints), omega (arith, ints)) | false ↦ (top_low counts.top header.poc_lsb top lsb, top_high counts.top header.poc_lsb top lsb) ]
      | false ↦ kept
    ]

lsb_small : (header : Header) (counts : Counts) (is_reset : Bool) (old : ℤ) → IsLsb old → SFits w32 counts.top → SFits w32 counts.bottom → header.poc_lsb < 2 ^ 32
    → IsLsb (if is_reference header then lsb_after is_reset header counts else old)
lsb_small header counts is_reset old kept top bottom lsb =
    elim (is_reference header) as (λ r. IsLsb (if r then lsb_after is_reset header counts else old)) [
      | true ↦ elim is_reset as (λ b. IsLsb (lsb_after b header counts)) [ true ↦ (rest_low counts.top counts.bottom top bottom, rest_high counts.top counts.bottom top bottom) | false ↦ (omega (arith, ints), omega (arith, ints)) ]
      | false ↦ kept
    ]

frame_num_small : (is_reset : Bool) (frame_num : ℕ) → frame_num < 2 ^ 16 → (if is_reset then 0 else frame_num) < 2 ^ 16
frame_num_small true frame_num h = omega arith
frame_num_small false frame_num h = h

offset_small : (max : ℕ) (orders : Orders) (header : Header) (count : ℕ) → max ≤ 2 ^ 16 → orders.offset ≤ 65536 * count → frame_num_offset max orders header ≤ 65536 * (count + 1)
offset_small max orders header count small kept =
    elim (is_idr header) as (λ i. (if i then 0 else if nat_lt header.frame_num orders.before_frame_num then orders.offset + max else orders.offset) ≤ 65536 * (count + 1)) [
      | true ↦ omega arith
      | false ↦ elim (nat_lt header.frame_num orders.before_frame_num) as (λ b. (if b then orders.offset + max else orders.offset) ≤ 65536 * (count + 1)) [ true ↦ omega arith | false ↦ omega arith ]
    ]

reset_offset : (is_reset : Bool) (offset count : ℕ) → offset ≤ 65536 * count → (if is_reset then 0 else offset) ≤ 65536 * count
reset_offset true offset count h = omega arith
reset_offset false offset count h = h

pub ranges_after : (marker : Marker) (n : Numbers) (header : Header) (s : Settled) (count : ℕ) → HasRanges marker count → n.frame_num < n.max_frame_num → n.max_frame_num ≤ 2 ^ 16
    → n.frame_num ≡ header.frame_num → s.marks.indices ≤ 16 → SFits w32 s.counts.top → SFits w32 s.counts.bottom → header.poc_lsb < 2 ^ 32
    → HasRanges (marker_after marker n header s) (count + 1)
ranges_after marker n header s count r below small same few top bottom lsb =
    let msb = msb_small header s.counts s.marks.is_reset marker.orders.msb (r.msb_least, r.msb_most) top lsb in
    let last = lsb_small header s.counts s.marks.is_reset marker.orders.lsb (r.lsb_least, r.lsb_most) top bottom lsb in
    record {
      indices = few;
      last_frame_num = last_small n header s.marks.is_reset below small;
      msb_least = msb.0;
      msb_most = msb.1;
      lsb_least = last.0;
      lsb_most = last.1;
      before_frame_num = frame_num_small s.marks.is_reset header.frame_num (omega arith);
      offset = reset_offset s.marks.is_reset (frame_num_offset n.max_frame_num marker.orders header) (count + 1) (offset_small n.max_frame_num marker.orders header count small r.offset);
    }

-- ---- a picture is finished

info_log2 : (sps : Sps) (pps : Pps) (header : Header) (s : Settled) (begun : Begun) → begun_by sps pps header s ≡ begun → begun.info.log2_max_frame_num_minus4 ≡ sps.log2_max_frame_num_minus4
info_log2 sps pps header s begun e = sym (ap (λ (b : Begun). b.info.log2_max_frame_num_minus4) e)

info_frames : (sps : Sps) (pps : Pps) (header : Header) (s : Settled) (begun : Begun) → begun_by sps pps header s ≡ begun → begun.info.num_ref_frames ≡ sps.max_num_ref_frames
info_frames sps pps header s begun e = sym (ap (λ (b : Begun). b.info.num_ref_frames) e)

info_counts : (sps : Sps) (pps : Pps) (header : Header) (s : Settled) (begun : Begun) → begun_by sps pps header s ≡ begun → begun.info.field_order_cnt ≡ s.counts.top ∷ s.counts.bottom ∷ []
info_counts sps pps header s begun e = sym (ap (λ (b : Begun). b.info.field_order_cnt) e)

-- the numbers and the counts of the info
abbrev pub info_numbers : Begun → Numbers
info_numbers begun = record { max_frame_num = 2 ^ (begun.info.log2_max_frame_num_minus4 + 4); frame_num = begun.header.frame_num; max_num_ref_frames = begun.info.num_ref_frames }

abbrev pub counts_in : Begun → Counts
counts_in begun = record { top = get_or begun.info.field_order_cnt 0 (pos 0); bottom = get_or begun.info.field_order_cnt 1 (pos 0) }

abbrev count_pair : ℤ → ℤ → Counts
count_pair top bottom = record { top = top; bottom = bottom }

abbrev number_parts : ℕ → ℕ → ℕ → Numbers
number_parts max frame_num most = record { max_frame_num = max; frame_num = frame_num; max_num_ref_frames = most }

-- what is settled of the picture again
pub settled_again : (marker : Marker) (sps : Sps) (pps : Pps) (begun : Begun) → begun_of marker sps pps begun.header ≡ Ok begun
    → (s : Settled) × (settled_of marker sps begun.header ≡ Ok s) × (settled_with marker (info_numbers begun) begun.header (counts_in begun) ≡ Some s)
    × (info_numbers begun ≡ numbers_of sps begun.header) × (s.counts ≡ counts_in begun)
settled_again marker sps pps begun e =
    let header = begun.header in
    let first = ok_inv sps pps header begun (settled_of marker sps header) e in
    let s = first.0 in
    let second = settled_inv marker sps header s first.1 in
    let kept = counts_kept marker (numbers_of sps header) header second.0 s second.2 in
    let log2 = info_log2 sps pps header s begun first.2 in
    let frames = info_frames sps pps header s begun first.2 in
    let counts : counts_in begun ≡ s.counts =
    ap (λ (xs : List ℤ). count_pair (get_or xs 0 (pos 0)) (get_or xs 1 (pos 0))) (info_counts sps pps header s begun first.2) in
    let numbers : info_numbers begun ≡ numbers_of sps header =
    ap (λ (k : ℕ). number_parts (2 ^ (k + 4)) header.frame_num begun.info.num_ref_frames) log2
    ∙ ap (λ (k : ℕ). number_parts (2 ^ (sps.log2_max_frame_num_minus4 + 4)) header.frame_num k) frames in (
      s,
      first.1,
      ap (λ (n : Numbers). settled_with marker n header (counts_in begun)) numbers ∙ ap (λ (k : Counts). settled_with marker (numbers_of sps header) header k) (counts ∙ kept) ∙ second.2,
      numbers,
      sym counts,
    )

pow_small : (k : ℕ) → k ≤ 16 → 2 ^ k ≤ 2 ^ 16
pow_small k few = pow-le-pow_right (lit< tt) few

pub max_small : (sps : Sps) → sps.log2_max_frame_num_minus4 ≤ 12 → max_frame_num sps ≤ 2 ^ 16
max_small sps few = pow_small (sps.log2_max_frame_num_minus4 + 4) (omega arith)

pub none_settled : (s : Settled) → None ≡ Some s → ⊥
none_settled s e = cc
