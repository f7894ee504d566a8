use Rattle.std.proofs.Common.{◌≡◌, ℕ, ◌+◌, ◌<◌, ◌^◌, ℤ, pos, Some, None, get_or, refl, ap, ◌∙◌, rules}
use mir.Syntax.{w32}
use mir.Val.{SFits, of_z, to_z}
use Rattle.std.proofs.lemmas.Int.{to_z-of_z}
use Rattle.marking.specs.Begun.{marker_after, settled_with}
use Rattle.marking.proofs.HistoryLemmas.{counts_in, info_numbers, none_settled, settled_again}
use Rattle.marking.proofs.StandsLemmas.{stands_after}
use Rattle.marking.proofs.marker.Marker.finish.Goals as goal

pub returns-in-Some : goal.returns-in-Some
returns-in-Some c = λ pictures sps pps stands may e.
    let marker = c.args.self.now in
    let begun = c.args.begun.now in
    let header = begun.header in
    let settled = c.in-Some.settled in
    let t : ℤ = get_or begun.info.field_order_cnt 0 (pos 0) in
    let b : ℤ = get_or begun.info.field_order_cnt 1 (pos 0) in
    let top : SFits w32 t = search rules in
    let bottom : SFits w32 b = search rules in
    let lsb : header.poc_lsb < 2 ^ 32 = search rules in
    let max : ℕ = 2 ^ (begun.info.log2_max_frame_num_minus4 + 4) in
    let found : Some settled ≡ settled_with marker (info_numbers begun) header (counts_in begun) =
    c.in-Some.ensures.value
    ∙ ap (λ (m : ℕ). settled_with marker (record { max_frame_num = m; frame_num = header.frame_num; max_num_ref_frames = c.from.result }) header (record { top = to_z w32 (of_z w32 t); bottom = to_z w32 (of_z w32 b) })) c.max_frame_num.ensures.value
    ∙ ap (λ (m : ℕ). settled_with marker (record { max_frame_num = max; frame_num = header.frame_num; max_num_ref_frames = m }) header (record { top = to_z w32 (of_z w32 t); bottom = to_z w32 (of_z w32 b) })) c.from.ensures
    ∙ ap (λ (x : ℤ). settled_with marker (info_numbers begun) header (record { top = x; bottom = to_z w32 (of_z w32 b) })) (to_z-of_z w32 t top)
    ∙ ap (λ (x : ℤ). settled_with marker (info_numbers begun) header (record { top = t; bottom = x })) (to_z-of_z w32 b bottom) in
    let step : c.take.new.self ≡ marker_after marker (info_numbers begun) header settled =
    c.take.ensures refl
    ∙ ap (λ (m : ℕ). marker_after marker (record { max_frame_num = m; frame_num = header.frame_num; max_num_ref_frames = c.from.result }) header settled) c.max_frame_num.ensures.value
    ∙ ap (λ (m : ℕ). marker_after marker (record { max_frame_num = max; frame_num = header.frame_num; max_num_ref_frames = m }) header settled) c.from.ensures in
    stands_after marker c.take.new.self pictures sps pps begun settled stands may e
    found step c.in-Some.ensures.indices top bottom lsb

pub returns-in_default : goal.returns-in_default
returns-in_default c = λ pictures sps pps stands may e.
    let marker = c.args.self.now in
    let begun = c.args.begun.now in
    let header = begun.header in
    let t : ℤ = get_or begun.info.field_order_cnt 0 (pos 0) in
    let b : ℤ = get_or begun.info.field_order_cnt 1 (pos 0) in
    let top : SFits w32 t = search rules in
    let bottom : SFits w32 b = search rules in
    let max : ℕ = 2 ^ (begun.info.log2_max_frame_num_minus4 + 4) in
    let found : None ≡ settled_with marker (info_numbers begun) header (counts_in begun) =
    c.in_default.ensures.value
    ∙ ap (λ (m : ℕ). settled_with marker (record { max_frame_num = m; frame_num = header.frame_num; max_num_ref_frames = c.from.result }) header (record { top = to_z w32 (of_z w32 t); bottom = to_z w32 (of_z w32 b) })) c.max_frame_num.ensures.value
    ∙ ap (λ (m : ℕ). settled_with marker (record { max_frame_num = max; frame_num = header.frame_num; max_num_ref_frames = m }) header (record { top = to_z w32 (of_z w32 t); bottom = to_z w32 (of_z w32 b) })) c.from.ensures
    ∙ ap (λ (x : ℤ). settled_with marker (info_numbers begun) header (record { top = x; bottom = to_z w32 (of_z w32 b) })) (to_z-of_z w32 t top)
    ∙ ap (λ (x : ℤ). settled_with marker (info_numbers begun) header (record { top = t; bottom = x })) (to_z-of_z w32 b bottom) in
    let again = settled_again marker sps pps begun e in
    absurd (none_settled again.0 (found ∙ again.2))
