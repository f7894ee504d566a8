-- The tables at worked values: the sets of a stream of one macroblock.
use Rattle.std.proofs.Common.{Bool, true, false, List, [], ◌∷◌, replicate, pos, refl, inr, arith}
use Rattle.bit_io.specs.Bits as bits
use Rattle.bit_io.specs.Codewords as codewords
use Rattle.param_sets.specs.Pps.{IsPpsOf, pic_parameter_set_data}
use Rattle.param_sets.specs.Sps.{IsSpsOf, seq_parameter_set_data}
use Rattle.element_tables.specs.Syntax.{flag, present, se, u, ue, ◌>>=◌}
use Rattle.param_sets.specs.declared.pps.Pps.{Pps}
use Rattle.param_sets.specs.declared.sps.Sps.{Sps}

abbrev pps : Pps
pps = record {
  pic_parameter_set_id = 0;
  seq_parameter_set_id = 0;
  entropy_coding_mode_flag = false;
  bottom_field_pic_order_in_frame_present_flag = false;
  num_slice_groups_minus1 = 0;
  num_ref_idx_l0_default_active_minus1 = 0;
  num_ref_idx_l1_default_active_minus1 = 0;
  weighted_pred_flag = false;
  weighted_bipred_idc = 0;
  pic_init_qp_minus26 = pos 0;
  pic_init_qs_minus26 = pos 0;
  chroma_qp_index_offset = pos 0;
  deblocking_filter_control_present_flag = true;
  constrained_intra_pred_flag = false;
  redundant_pic_cnt_present_flag = false;
}

pps_is : IsPpsOf (0xCE ∷ 0x3C ∷ 0x80 ∷ []) pps
unfolding pic_parameter_set_data u ue se flag ◌>>=◌ bits.u bits.bits_of codewords.exponent codewords.ue codewords.se
pps_is =
    let front : List Bool = true ∷ true ∷ false ∷ false ∷ true ∷ true ∷ true ∷ false ∷ false ∷ false ∷ true ∷ true ∷ true ∷ true ∷ false ∷ false ∷ [] in
    let rest : List Bool = true ∷ replicate 7 false in (
      rest,
      record {
        front = front;
        spelled = (
          0,
          true ∷ false ∷ false ∷ true ∷ true ∷ true ∷ false ∷ false ∷ false ∷ true ∷ true ∷ true ∷ true ∷ false ∷ false ∷ [],
          omega arith,
          refl,
          refl,
          (
            0,
            false ∷ false ∷ true ∷ true ∷ true ∷ false ∷ false ∷ false ∷ true ∷ true ∷ true ∷ true ∷ false ∷ false ∷ [],
            omega arith,
            refl,
            refl,
            (
              0,
              false ∷ true ∷ true ∷ true ∷ false ∷ false ∷ false ∷ true ∷ true ∷ true ∷ true ∷ false ∷ false ∷ [],
              omega arith,
              refl,
              refl,
              (
                0,
                true ∷ true ∷ true ∷ false ∷ false ∷ false ∷ true ∷ true ∷ true ∷ true ∷ false ∷ false ∷ [],
                omega arith,
                refl,
                refl,
                (
                  0,
                  true ∷ true ∷ false ∷ false ∷ false ∷ true ∷ true ∷ true ∷ true ∷ false ∷ false ∷ [],
                  omega arith,
                  refl,
                  refl,
                  (
                    0,
                    true ∷ false ∷ false ∷ false ∷ true ∷ true ∷ true ∷ true ∷ false ∷ false ∷ [],
                    omega arith,
                    refl,
                    refl,
                    (
                      0,
                      false ∷ false ∷ false ∷ true ∷ true ∷ true ∷ true ∷ false ∷ false ∷ [],
                      omega arith,
                      refl,
                      refl,
                      (
                        0,
                        false ∷ false ∷ true ∷ true ∷ true ∷ true ∷ false ∷ false ∷ [],
                        omega arith,
                        refl,
                        refl,
                        (
                          0,
                          true ∷ true ∷ true ∷ true ∷ false ∷ false ∷ [],
                          omega arith,
                          refl,
                          refl,
                          (
                            pos 0,
                            true ∷ true ∷ true ∷ false ∷ false ∷ [],
                            omega arith,
                            refl,
                            refl,
                            (
                              pos 0,
                              true ∷ true ∷ false ∷ false ∷ [],
                              omega arith,
                              refl,
                              refl,
                              (
                                pos 0,
                                true ∷ false ∷ false ∷ [],
                                omega arith,
                                refl,
                                refl,
                                (
                                  1,
                                  false ∷ false ∷ [],
                                  omega arith,
                                  refl,
                                  refl,
                                  (
                                    0,
                                    false ∷ [],
                                    omega arith,
                                    refl,
                                    refl,
                                    (
                                      0,
                                      [],
                                      omega arith,
                                      refl,
                                      refl,
                                      (refl, refl),
                                    ),
                                  ),
                                ),
                              ),
                            ),
                          ),
                        ),
                      ),
                    ),
                  ),
                ),
              ),
            ),
          ),
        );
        parts = refl;
      },
      (7, omega arith, refl),
    )

abbrev sps : Sps
sps = record {
  profile_idc = 66;
  constraints = record { 0 = 0xC0 };
  level_idc = 10;
  seq_parameter_set_id = 0;
  log2_max_frame_num_minus4 = 0;
  pic_order_cnt_type = 2;
  log2_max_pic_order_cnt_lsb_minus4 = 0;
  delta_pic_order_always_zero_flag = false;
  offset_for_non_ref_pic = pos 0;
  offset_for_top_to_bottom_field = pos 0;
  num_ref_frames_in_pic_order_cnt_cycle = 0;
  offset_for_ref_frame = replicate 255 (pos 0);
  max_num_ref_frames = 1;
  gaps_in_frame_num_value_allowed_flag = false;
  pic_width_in_mbs_minus1 = 0;
  pic_height_in_map_units_minus1 = 0;
  frame_mbs_only_flag = true;
  direct_8x8_inference_flag = false;
  frame_cropping_flag = false;
  frame_crop_left_offset = 0;
  frame_crop_right_offset = 0;
  frame_crop_top_offset = 0;
  frame_crop_bottom_offset = 0;
}

sps_is : IsSpsOf (0x42 ∷ 0xC0 ∷ 0x0A ∷ 0xDA ∷ 0x71 ∷ []) sps
unfolding seq_parameter_set_data u ue se flag present ◌>>=◌ bits.u bits.bits_of codewords.exponent codewords.ue codewords.se
sps_is =
    let front : List Bool = false ∷ true ∷ false ∷ false ∷ false ∷ false ∷ true ∷ false ∷ true ∷ true ∷ false ∷ false ∷ false ∷ false ∷ false ∷ false ∷ false ∷ false ∷ false ∷ false ∷ true ∷ false ∷ true ∷ false ∷ true ∷ true ∷ false ∷ true ∷ true ∷ false ∷ true ∷ false ∷ false ∷ true ∷ true ∷ true ∷ false ∷ false ∷ false ∷ [] in
    let rest : List Bool = true ∷ [] in (
      (
        false,
        rest,
        record {
          front = front;
          spelled = (
            66,
            true ∷ true ∷ false ∷ false ∷ false ∷ false ∷ false ∷ false ∷ false ∷ false ∷ false ∷ false ∷ true ∷ false ∷ true ∷ false ∷ true ∷ true ∷ false ∷ true ∷ true ∷ false ∷ true ∷ false ∷ false ∷ true ∷ true ∷ true ∷ false ∷ false ∷ false ∷ [],
            omega arith,
            refl,
            refl,
            (
              0xC0,
              false ∷ false ∷ false ∷ false ∷ true ∷ false ∷ true ∷ false ∷ true ∷ true ∷ false ∷ true ∷ true ∷ false ∷ true ∷ false ∷ false ∷ true ∷ true ∷ true ∷ false ∷ false ∷ false ∷ [],
              omega arith,
              refl,
              refl,
              (
                10,
                true ∷ true ∷ false ∷ true ∷ true ∷ false ∷ true ∷ false ∷ false ∷ true ∷ true ∷ true ∷ false ∷ false ∷ false ∷ [],
                omega arith,
                refl,
                refl,
                (
                  0,
                  true ∷ false ∷ true ∷ true ∷ false ∷ true ∷ false ∷ false ∷ true ∷ true ∷ true ∷ false ∷ false ∷ false ∷ [],
                  omega arith,
                  refl,
                  refl,
                  (
                    0,
                    false ∷ true ∷ true ∷ false ∷ true ∷ false ∷ false ∷ true ∷ true ∷ true ∷ false ∷ false ∷ false ∷ [],
                    omega arith,
                    refl,
                    refl,
                    (
                      2,
                      false ∷ true ∷ false ∷ false ∷ true ∷ true ∷ true ∷ false ∷ false ∷ false ∷ [],
                      omega arith,
                      refl,
                      refl,
                      (
                        1,
                        false ∷ true ∷ true ∷ true ∷ false ∷ false ∷ false ∷ [],
                        omega arith,
                        refl,
                        refl,
                        (
                          0,
                          true ∷ true ∷ true ∷ false ∷ false ∷ false ∷ [],
                          omega arith,
                          refl,
                          refl,
                          (
                            0,
                            true ∷ true ∷ false ∷ false ∷ false ∷ [],
                            omega arith,
                            refl,
                            refl,
                            (
                              0,
                              true ∷ false ∷ false ∷ false ∷ [],
                              omega arith,
                              refl,
                              refl,
                              (
                                1,
                                false ∷ false ∷ false ∷ [],
                                omega arith,
                                refl,
                                refl,
                                (
                                  0,
                                  false ∷ false ∷ [],
                                  omega arith,
                                  refl,
                                  refl,
                                  (
                                    0,
                                    false ∷ [],
                                    omega arith,
                                    refl,
                                    refl,
                                    (
                                      0,
                                      [],
                                      omega arith,
                                      refl,
                                      refl,
                                      (refl, refl),
                                    ),
                                  ),
                                ),
                              ),
                            ),
                          ),
                        ),
                      ),
                    ),
                  ),
                ),
              ),
            ),
          );
          parts = refl;
        },
        inr (0, omega arith, refl),
      ),
      record { some_column = omega arith; columns = omega arith; some_row = omega arith; rows = omega arith; count = omega arith },
    )
