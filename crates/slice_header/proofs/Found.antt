-- Whole headers, as they are read.
use Rattle.std.proofs.Common.{◌≡◌, List, Bool, ◌++◌, Option, None, Some, Err, refl, ap, subst}
use Rattle.cb_types.specs.declared.header.Header.{Header}
use Rattle.cb_types.specs.declared.header.UnitHead.{UnitHead}
use Rattle.cb_types.specs.declared.picture_info.PictureInfo.{PictureInfo}
use Rattle.element_tables.specs.declared.elements.Stop.{Stop}
use Rattle.element_tables.specs.Syntax.{Appends, Gives, Takes}
use Rattle.element_tables.proofs.Tables.{made_is, takes_parts}
use Rattle.element_tables.proofs.Unique.{takes_or_stops, takes_same}
use Rattle.slice_header.specs.Conditions.{HasRanges, active_of, has_weights, is_p_type}
use Rattle.slice_header.specs.Headers.{AddsReadable, BeginsNoHeader, IsHeader, ReadsHeader}
use Rattle.slice_header.specs.Spelling.{slice_header}
use Rattle.slice_header.proofs.Actives.{active_most}
use Rattle.slice_header.proofs.PartRanges.{filter_range, marking_range, numbers_range, orders_range, present_range, present_weights}
use Rattle.slice_header.proofs.Quantizer.{qp_high, qp_low}

pub none_begins : (head : UnitHead) (info : PictureInfo) (old new : List Bool) (stop : Stop) → Gives (slice_header head info) old (Err stop) new → BeginsNoHeader head info old
none_begins head info old new stop given = λ header rest taken. takes_or_stops (slice_header head info) old rest header stop taken given.answer

pub found_header : (head : UnitHead) (info : PictureInfo) (whole : List Bool) (header : Header) (rest : List Bool) → HasRanges info → Takes (slice_header head info) whole header rest → IsHeader info header × (header.head ≡ head)
unfolding slice_header
found_header head info whole header rest ranges h =
    let a = takes_parts _ h in
    let b = takes_parts _ a.3 in
    let c = takes_parts _ b.3 in
    let d = takes_parts _ c.3 in
    let e = takes_parts _ d.3 in
    let f = takes_parts _ e.3 in
    let in_a = numbers_range head info whole a.0 a.1 a.2 in
    let in_b = orders_range info a.1 b.0 b.1 b.2 in
    let in_c = present_range info (is_p_type a.0.slice_type) b.1 c.0 c.1 ranges c.2 in
    let most = active_most info c.0.active_override ranges in_c.references.active_override in
    let in_d = present_weights (active_of info c.0.active_override) (has_weights info a.0.slice_type) c.1 d.0 d.1 most d.2 in
    let in_e = marking_range head d.1 e.0 e.1 e.2 in
    let in_f = filter_range info e.1 f.0 f.1 f.2 in
    subst (λ (x : Header). IsHeader info x × (x.head ≡ head)) (made_is f.3) (
      record {
        first_mb = in_a.first_mb;
        slice_type = in_a.slice_type;
        pps = in_a.pps;
        frame_num = in_a.frame_num;
        idr_pic_id = in_a.idr_pic_id;
        idr_pic_id_absent = in_a.idr_pic_id_absent;
        poc_lsb = in_b.poc_lsb;
        poc_lsb_absent = in_b.poc_lsb_absent;
        delta_bottom = in_b.delta_bottom;
        delta_bottom_absent = in_b.delta_bottom_absent;
        delta_poc = in_b.delta_poc;
        active_override = in_c.references.active_override;
        active = most;
        active_override_absent = in_c.active_override_absent;
        edited_absent = in_c.edited_absent;
        edit_count = in_c.references.edits.few;
        edits = in_c.references.edits.list;
        edits_absent = in_c.references.edits_absent;
        weights = in_d.0;
        weights_absent = in_d.1;
        marking = in_e;
        qp_least = qp_low info.pic_init_qp_minus26 f.0.qp_delta ranges.qp_least ranges.qp_most in_f.delta.0;
        qp_most = qp_high info.pic_init_qp_minus26 f.0.qp_delta ranges.qp_least ranges.qp_most in_f.delta.1;
        deblock_idc = in_f.idc.0;
        deblock_idc_absent = in_f.idc.1;
        alpha_least = in_f.alpha.0.0;
        alpha_most = in_f.alpha.0.1;
        alpha_absent = in_f.alpha.1;
        beta_least = in_f.beta.0.0;
        beta_most = in_f.beta.0.1;
        beta_absent = in_f.beta.1;
      },
      refl,
    )

-- where a header begins the bits, a read finds it
pub found_once : (head : UnitHead) (info : PictureInfo) (whole : List Bool) (header : Header) (rest : List Bool) (found : Option Header) (left : List Bool) → Takes (slice_header head info) whole header rest
    → ReadsHeader head info whole found left → (found ≡ Some header) × (left ≡ rest)
found_once head info whole header rest (Some other) left mine theirs =
    let same = takes_same (slice_header head info) whole left rest other header theirs mine in
    (ap Some same.0, same.1)
found_once head info whole header rest None left mine theirs = absurd (theirs.1 header rest mine)

pub reads_back : (info : PictureInfo) (header : Header) (old new : List Bool) → Appends (slice_header header.head info) header old new → AddsReadable info header old new
reads_back info header old new h =
    (h.added, h.parts, λ rest found left read. found_once header.head info (h.added ++ rest) header rest found left (record { front = h.added; spelled = h.spelled; parts = refl }) read)
