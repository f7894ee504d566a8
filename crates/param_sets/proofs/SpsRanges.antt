-- What is read lies in the ranges of an accepted sequence set.
use Rattle.std.proofs.Common.{◌≡◌, ◌≢◌, ℕ, zero, suc, ◌-◌, ◌^◌, ◌<◌, ◌≤◌, ℤ, pos, Bool, true, false, eqb, ne_eqb, List, ◌++◌, inl, inr, All, length, drop, replicate, refl, sym, ap, subst, ◌∙◌, arith}
use Rattle.std.proofs.lemmas.List.{drop_at, length-append, length-replicate, take_at}
use Rattle.std.proofs.lemmas.List.Elements.{All-cons, All-nil}
use Rattle.bit_io.specs.Codewords.{IsSe, IsUe}
use Rattle.cb_types.specs.SizeMbs.{IsWithinLimits}
use Rattle.param_sets.specs.Accepted.{AreOffsets, IsAcceptedSps}
use Rattle.param_sets.specs.Parts.{crop_of, cycle_of, frames, sps_of, start}
use Rattle.param_sets.specs.Sps.{cropping, cycle, no_cropping, no_cycle, offsets, seq_parameter_set_data, size_of}
use Rattle.element_tables.specs.Syntax.{Takes, any, only, only_flag, present, se, times, ue, up_to}
use Rattle.param_sets.specs.declared.sps.Sps.{Sps}
use Rattle.param_sets.specs.declared.sps_parts.Cropping.{Cropping}
use Rattle.param_sets.specs.declared.sps_parts.Cycle.{Cycle}
use Rattle.param_sets.specs.declared.sps_parts.Frames.{Frames}
use Rattle.param_sets.specs.declared.sps_parts.Start.{Start}
use Rattle.param_sets.proofs.Grouped.{grouped_sps, takes_sps}
use Rattle.element_tables.proofs.OneElement.{flag_range, se_range, u_range, ue_range}
use Rattle.element_tables.proofs.Rules.{flag_one, only_one, up_to_most}
use Rattle.element_tables.proofs.Tables.{made_is, takes_parts, takes_present}

pub record InStart (s : Start) : Type 0 where
  pub profile_idc : s.profile_idc ≡ 66
  pub constraints : s.constraints.0 < 2 ^ 8
  pub level_idc : s.level_idc < 2 ^ 8
  pub seq_parameter_set_id : s.seq_parameter_set_id ≤ 31
  pub log2_max_frame_num_minus4 : s.log2_max_frame_num_minus4 ≤ 12
  pub pic_order_cnt_type : s.pic_order_cnt_type ≤ 2

pub start_range : (whole : List Bool) (s : Start) (rest : List Bool) → Takes start whole s rest → InStart s
unfolding start
start_range whole s rest h =
    let a = takes_parts _ h in
    let b = takes_parts _ a.3 in
    let c = takes_parts _ b.3 in
    let d = takes_parts _ c.3 in
    let e = takes_parts _ d.3 in
    let f = takes_parts _ e.3 in
    subst InStart (made_is f.3) (record {
      profile_idc = only_one a.0 66 (u_range 8 (only 66) a.2.front a.0 a.2.spelled).1;
      constraints = (u_range 8 any b.2.front b.0 b.2.spelled).0;
      level_idc = (u_range 8 any c.2.front c.0 c.2.spelled).0;
      seq_parameter_set_id = up_to_most d.0 31 (ue_range (up_to 31) d.2.front d.0 d.2.spelled).1;
      log2_max_frame_num_minus4 = up_to_most e.0 12 (ue_range (up_to 12) e.2.front e.0 e.2.spelled).1;
      pic_order_cnt_type = up_to_most f.0 2 (ue_range (up_to 2) f.2.front f.0 f.2.spelled).1;
    })

-- ---- offsets

spelled_range : (n : ℕ) (whole : List Bool) (xs : List ℤ) (rest : List Bool) → Takes (times n (se any)) whole xs rest → (length xs ≡ n) × All IsSe xs
unfolding times
spelled_range zero whole xs rest h = subst (λ (z : List ℤ). (length z ≡ 0) × All IsSe z) (made_is h) (refl, All-nil IsSe)
spelled_range (suc n) whole xs rest h =
    let a = takes_parts _ h in
    let b = takes_parts _ a.3 in
    let others = spelled_range n a.1 b.0 b.1 b.2 in
    let first = (se_range any a.2.front a.0 a.2.spelled).0 in
    subst (λ (z : List ℤ). (length z ≡ suc n) × All IsSe z) (made_is b.3) (ap suc others.0, All-cons IsSe a.0 b.0 first others.1)

offsets_range : (count : ℕ) (whole : List Bool) (xs : List ℤ) (rest : List Bool) → count ≤ 255 → Takes (offsets count) whole xs rest → AreOffsets count xs
unfolding offsets
offsets_range count whole xs rest most h =
    let a = takes_parts _ h in
    let spelled = spelled_range count whole a.0 a.1 a.2 in
    let zeros = replicate (255 - count) (pos 0) in
    let places : length (a.0 ++ zeros) ≡ 255 = omega (arith, length-append a.0 zeros, length-replicate (255 - count) (pos 0), spelled.0) in
    subst (AreOffsets count) (made_is a.3) (record {
      places = places;
      most = most;
      spelled = subst (All IsSe) (sym (take_at a.0 zeros count spelled.0)) spelled.1;
      others = drop_at a.0 zeros count spelled.0;
    })

pub record InCycle (c : Cycle) : Type 0 where
  pub non_ref : IsSe c.offset_for_non_ref_pic
  pub bottom : IsSe c.offset_for_top_to_bottom_field
  pub offsets : AreOffsets c.num_ref_frames_in_pic_order_cnt_cycle c.offset_for_ref_frame

cycle_range : (whole : List Bool) (s : Cycle) (rest : List Bool) → Takes cycle whole s rest → InCycle s
unfolding cycle
cycle_range whole s rest h =
    let a = takes_parts _ h in
    let b = takes_parts _ a.3 in
    let c = takes_parts _ b.3 in
    let d = takes_parts _ c.3 in
    let e = takes_parts _ d.3 in
    let most = up_to_most d.0 255 (ue_range (up_to 255) d.2.front d.0 d.2.spelled).1 in
    subst InCycle (made_is e.3) (record {
      non_ref = (se_range any b.2.front b.0 b.2.spelled).0;
      bottom = (se_range any c.2.front c.0 c.2.spelled).0;
      offsets = offsets_range d.0 d.1 e.0 e.1 most e.2;
    })

no_cycle_range : InCycle no_cycle
no_cycle_range = record {
  non_ref = omega arith;
  bottom = omega arith;
  offsets = record { places = refl; most = omega arith; spelled = All-nil IsSe; others = refl };
}

apart : (b : Bool) → b ≡ true → b ≡ false → ⊥
apart b e f = cc

lsb_range : (condition : Bool) (whole : List Bool) (v : ℕ) (rest : List Bool) → Takes (present condition (ue (up_to 12)) 0) whole v rest → (v ≤ 12) × (condition ≡ false → v ≡ 0)
lsb_range condition whole v rest h =
    elim (takes_present (ue (up_to 12)) 0 condition whole v rest h) [
      | inl there ↦ (up_to_most v 12 (ue_range (up_to 12) there.1.front v there.1.spelled).1, λ e. absurd (apart condition there.0 e))
      | inr absent ↦ (omega (arith, absent.1), λ e. sym absent.1)
    ]

present_cycle_range : (condition : Bool) (whole : List Bool) (s : Cycle) (rest : List Bool) → Takes (present condition cycle no_cycle) whole s rest → InCycle s × (condition ≡ false → s ≡ no_cycle)
present_cycle_range condition whole s rest h =
    elim (takes_present cycle no_cycle condition whole s rest h) [
      | inl there ↦ (cycle_range whole s rest there.1, λ e. absurd (apart condition there.0 e))
      | inr absent ↦ (subst InCycle absent.1 no_cycle_range, λ e. sym absent.1)
    ]

pub record InFrames (f : Frames) : Type 0 where
  pub max_num_ref_frames : f.max_num_ref_frames ≤ 16
  pub width : IsUe f.pic_width_in_mbs_minus1
  pub height : IsUe f.pic_height_in_map_units_minus1
  pub frame_mbs_only_flag : f.frame_mbs_only_flag ≡ true

pub frames_range : (whole : List Bool) (f : Frames) (rest : List Bool) → Takes frames whole f rest → InFrames f
unfolding frames
frames_range whole f rest h =
    let a = takes_parts _ h in
    let b = takes_parts _ a.3 in
    let c = takes_parts _ b.3 in
    let d = takes_parts _ c.3 in
    let e = takes_parts _ d.3 in
    let g = takes_parts _ e.3 in
    let i = takes_parts _ g.3 in
    subst InFrames (made_is i.3) (record {
      max_num_ref_frames = up_to_most a.0 16 (ue_range (up_to 16) a.2.front a.0 a.2.spelled).1;
      width = (ue_range any c.2.front c.0 c.2.spelled).0;
      height = (ue_range any d.2.front d.0 d.2.spelled).0;
      frame_mbs_only_flag = flag_one true e.0 (flag_range (only_flag true) e.2.front e.0 e.2.spelled);
    })

pub record InCropping (c : Cropping) : Type 0 where
  pub left : IsUe c.left
  pub right : IsUe c.right
  pub top : IsUe c.top
  pub bottom : IsUe c.bottom

cropping_range : (whole : List Bool) (s : Cropping) (rest : List Bool) → Takes cropping whole s rest → InCropping s
unfolding cropping
cropping_range whole s rest h =
    let a = takes_parts _ h in
    let b = takes_parts _ a.3 in
    let c = takes_parts _ b.3 in
    let d = takes_parts _ c.3 in
    subst InCropping (made_is d.3) (record {
      left = (ue_range any a.2.front a.0 a.2.spelled).0;
      right = (ue_range any b.2.front b.0 b.2.spelled).0;
      top = (ue_range any c.2.front c.0 c.2.spelled).0;
      bottom = (ue_range any d.2.front d.0 d.2.spelled).0;
    })

present_cropping_range : (condition : Bool) (whole : List Bool) (s : Cropping) (rest : List Bool) → Takes (present condition cropping no_cropping) whole s rest → InCropping s × (condition ≡ false → s ≡ no_cropping)
present_cropping_range condition whole s rest h =
    elim (takes_present cropping no_cropping condition whole s rest h) [
      | inl there ↦ (cropping_range whole s rest there.1, λ e. absurd (apart condition there.0 e))
      | inr absent ↦ (subst InCropping absent.1 (record { left = omega arith; right = omega arith; top = omega arith; bottom = omega arith }), λ e. sym absent.1)
    ]

-- ---- the whole set

record InSet (s : Sps) : Type 0 where
  width : IsUe s.pic_width_in_mbs_minus1
  height : IsUe s.pic_height_in_map_units_minus1
  accepted : IsWithinLimits (size_of s) → IsAcceptedSps s

set_range : (whole : List Bool) (s : Sps) (vui : Bool) (rest : List Bool) → Takes grouped_sps whole (s, vui) rest → InSet s
unfolding grouped_sps
set_range whole s vui rest h =
    let a = takes_parts _ h in
    let lsb = takes_parts _ a.3 in
    let cycle = takes_parts _ lsb.3 in
    let c = takes_parts _ cycle.3 in
    let crop = takes_parts _ c.3 in
    let f = takes_parts _ crop.3 in
    let first = start_range whole a.0 a.1 a.2 in
    let in_lsb = lsb_range (eqb a.0.pic_order_cnt_type 0) a.1 lsb.0 lsb.1 lsb.2 in
    let in_cycle = present_cycle_range (eqb a.0.pic_order_cnt_type 1) lsb.1 cycle.0 cycle.1 cycle.2 in
    let sizes = frames_range cycle.1 c.0 c.1 c.2 in
    let in_crop = present_cropping_range c.0.frame_cropping_flag c.1 crop.0 crop.1 crop.2 in
    let made : sps_of a.0 lsb.0 cycle.0 c.0 crop.0 ≡ s = ap (λ (p : Sps × Bool). p.0) (made_is f.3) in
    subst InSet made (record {
      width = sizes.width;
      height = sizes.height;
      accepted = λ within. record {
        profile_idc = first.profile_idc;
        constraints = first.constraints;
        level_idc = first.level_idc;
        seq_parameter_set_id = first.seq_parameter_set_id;
        log2_max_frame_num_minus4 = first.log2_max_frame_num_minus4;
        pic_order_cnt_type = first.pic_order_cnt_type;
        log2_max_pic_order_cnt_lsb_minus4 = in_lsb.0;
        lsb_absent = λ other. in_lsb.1 (ne_eqb a.0.pic_order_cnt_type 0 other);
        offset_for_non_ref_pic = in_cycle.0.non_ref;
        offset_for_top_to_bottom_field = in_cycle.0.bottom;
        offset_for_ref_frame = in_cycle.0.offsets;
        cycle_absent = λ other.
            let none = in_cycle.1 (ne_eqb a.0.pic_order_cnt_type 1 other) in
            record {
              delta_pic_order_always_zero_flag = ap (λ (x : Cycle). x.delta_pic_order_always_zero_flag) none;
              offset_for_non_ref_pic = ap (λ (x : Cycle). x.offset_for_non_ref_pic) none;
              offset_for_top_to_bottom_field = ap (λ (x : Cycle). x.offset_for_top_to_bottom_field) none;
              num_ref_frames_in_pic_order_cnt_cycle = ap (λ (x : Cycle). x.num_ref_frames_in_pic_order_cnt_cycle) none;
            };
        max_num_ref_frames = sizes.max_num_ref_frames;
        size = within;
        frame_mbs_only_flag = sizes.frame_mbs_only_flag;
        frame_crop_left_offset = in_crop.0.left;
        frame_crop_right_offset = in_crop.0.right;
        frame_crop_top_offset = in_crop.0.top;
        frame_crop_bottom_offset = in_crop.0.bottom;
        cropping_absent = λ off.
            let none = in_crop.1 off in
            record {
              left = ap (λ (x : Cropping). x.left) none;
              right = ap (λ (x : Cropping). x.right) none;
              top = ap (λ (x : Cropping). x.top) none;
              bottom = ap (λ (x : Cropping). x.bottom) none;
            };
      };
    })

pub sps_accepted : (whole : List Bool) (s : Sps) (vui : Bool) (rest : List Bool) → Takes seq_parameter_set_data whole (s, vui) rest → IsWithinLimits (size_of s) → IsAcceptedSps s
sps_accepted whole s vui rest h within = (set_range whole s vui rest (takes_sps whole (s, vui) rest h)).accepted within

-- the size in macroblocks fits 32 bits
pub size_fits : (whole : List Bool) (s : Sps) (vui : Bool) (rest : List Bool) → Takes seq_parameter_set_data whole (s, vui) rest → ((size_of s).width < 2 ^ 32) × ((size_of s).height < 2 ^ 32)
size_fits whole s vui rest h =
    let r = set_range whole s vui rest (takes_sps whole (s, vui) rest h) in
    let w = r.width in
    let t = r.height in
    (omega (arith, w), omega (arith, t))

-- ---- absent parts

abbrev made_cycle : Bool → ℤ → ℤ → ℕ → List ℤ → Cycle
made_cycle f x y n zs = record { delta_pic_order_always_zero_flag = f; offset_for_non_ref_pic = x; offset_for_top_to_bottom_field = y; num_ref_frames_in_pic_order_cnt_cycle = n; offset_for_ref_frame = zs }

cycle_same : (f : Bool) (x y : ℤ) (n : ℕ) (zs : List ℤ) → f ≡ false → x ≡ pos 0 → y ≡ pos 0 → n ≡ 0 → zs ≡ replicate 255 (pos 0) → made_cycle f x y n zs ≡ no_cycle
cycle_same f x y n zs e g h i j =
    ap (λ (z : Bool). made_cycle z x y n zs) e ∙ ap (λ (z : ℤ). made_cycle false z y n zs) g ∙ ap (λ (z : ℤ). made_cycle false (pos 0) z n zs) h
    ∙ ap (λ (z : ℕ). made_cycle false (pos 0) (pos 0) z zs) i ∙ ap (λ (z : List ℤ). made_cycle false (pos 0) (pos 0) 0 z) j

pub cycle_is_absent : (s : Sps) → IsAcceptedSps s → s.pic_order_cnt_type ≢ 1 → cycle_of s ≡ no_cycle
cycle_is_absent s accepted other =
    let none = accepted.cycle_absent other in
    let count = none.num_ref_frames_in_pic_order_cnt_cycle in
    let zeros : drop 0 s.offset_for_ref_frame ≡ replicate (255 - 0) (pos 0) = subst (λ (n : ℕ). drop n s.offset_for_ref_frame ≡ replicate (255 - n) (pos 0)) count accepted.offset_for_ref_frame.others in
    cycle_same s.delta_pic_order_always_zero_flag s.offset_for_non_ref_pic s.offset_for_top_to_bottom_field s.num_ref_frames_in_pic_order_cnt_cycle s.offset_for_ref_frame
    none.delta_pic_order_always_zero_flag none.offset_for_non_ref_pic none.offset_for_top_to_bottom_field count zeros

abbrev made_crop : ℕ → ℕ → ℕ → ℕ → Cropping
made_crop l r t b = record { left = l; right = r; top = t; bottom = b }

crop_same : (l r t b : ℕ) → l ≡ 0 → r ≡ 0 → t ≡ 0 → b ≡ 0 → made_crop l r t b ≡ no_cropping
crop_same l r t b e f g h = ap (λ (z : ℕ). made_crop z r t b) e ∙ ap (λ (z : ℕ). made_crop 0 z t b) f ∙ ap (λ (z : ℕ). made_crop 0 0 z b) g ∙ ap (λ (z : ℕ). made_crop 0 0 0 z) h

pub crop_is_absent : (s : Sps) → IsAcceptedSps s → s.frame_cropping_flag ≡ false → crop_of s ≡ no_cropping
crop_is_absent s accepted off =
    let none = accepted.cropping_absent off in
    crop_same s.frame_crop_left_offset s.frame_crop_right_offset s.frame_crop_top_offset s.frame_crop_bottom_offset none.left none.right none.top none.bottom
