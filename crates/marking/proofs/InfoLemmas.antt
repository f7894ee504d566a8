-- The info of a picture that begins is one that a decoder takes.
use Rattle.std.proofs.Common.{◌≡◌, ℕ, zero, suc, ◌-◌, ◌<◌, Bool, true, false, not, ◌&&◌, ◌||◌, if◌then◌else◌, eqb, List, [], ◌∷◌, ◌++◌, length, replicate, pos, negsuc, refl, arith}
use Rattle.std.specs.Prelude.{int_le}
use Rattle.std.specs.List.{list_all}
use Rattle.std.proofs.lemmas.Bool.{and_from, and_parts, eq-eqb, le-leb, lt-ltb, or_left, or_right}
use Rattle.std.proofs.lemmas.List.Elements.{All-from_recursion}
use Rattle.std.proofs.lemmas.List.Folds.{list_all-append}
use Rattle.cb_types.specs.AcceptedInfo.{IsAccepted, accepted_fields, are_all_apart, are_apart, is_reference_accepted, is_same_kind, takes_weights}
use Rattle.cb_types.specs.References.{is_absent, is_unused}
use Rattle.cb_types.specs.Slices.{is_idr}
use Rattle.cb_types.specs.declared.header.Header.{Header}
use Rattle.cb_types.specs.declared.picture_info.Reference.{Reference}
use Rattle.cb_types.specs.declared.picture_info.TheConstants.{UNUSED_SURFACE}
use Rattle.param_sets.specs.Accepted.{IsAcceptedPps, IsAcceptedSps}
use Rattle.param_sets.specs.declared.pps.Pps.{Pps}
use Rattle.param_sets.specs.declared.sps.Sps.{Sps}
use Rattle.marking.specs.Begun.{info_of, max_frame_num, references_of, unused}
use Rattle.marking.specs.History.{AreMarked}
use Rattle.marking.specs.declared.counts.Counts.{Counts}
use Rattle.marking.proofs.CountLemmas.{le_yes}

not_false : (b : Bool) → b ≡ false → not b ≡ true
not_false true e = grind arith
not_false false e = refl

zero_test : (n : ℕ) → n ≡ 0 → eqb n 0 ≡ true
zero_test n e = eq-eqb n 0 e

unused_behind : (x : Reference) → are_apart x unused ≡ true
unused_behind x = or_left (is_unused x || true) (not (is_same_kind x unused && eqb x.frame_idx 0) && (is_absent x || not (eqb x.surface UNUSED_SURFACE))) (or_right (is_unused x) true refl)

-- ---- the references

unused_accepted : (k n : ℕ) → list_all (is_reference_accepted k) (replicate n unused) ≡ true
unused_accepted k zero = refl
unused_accepted k (suc n) = unused_accepted k n

apart_from_unused : (x : Reference) (n : ℕ) → list_all (are_apart x) (replicate n unused) ≡ true
apart_from_unused x zero = refl
apart_from_unused x (suc n) = and_from (are_apart x unused) (list_all (are_apart x) (replicate n unused)) (unused_behind x) (apart_from_unused x n)

unused_apart : (n : ℕ) → are_all_apart (replicate n unused) ≡ true
unfolding are_all_apart
unused_apart zero = refl
unused_apart (suc n) = and_from (list_all (are_apart unused) (replicate n unused)) (are_all_apart (replicate n unused)) (apart_from_unused unused n) (unused_apart n)

filled_apart : (frames : List Reference) (n : ℕ) → are_all_apart frames ≡ true → are_all_apart (frames ++ replicate n unused) ≡ true
unfolding are_all_apart
filled_apart [] n e = unused_apart n
filled_apart (x ∷ xs) n e =
    let both = and_parts (list_all (are_apart x) xs) (are_all_apart xs) e in
    and_from (list_all (are_apart x) (xs ++ replicate n unused)) (are_all_apart (xs ++ replicate n unused))
    (rw (list_all-append (are_apart x) xs (replicate n unused)) (and_from (list_all (are_apart x) xs) (list_all (are_apart x) (replicate n unused)) both.0 (apart_from_unused x n)))
    (filled_apart xs n both.1)

filled_accepted : (k : ℕ) (frames : List Reference) (n : ℕ) → list_all (is_reference_accepted k) frames ≡ true → list_all (is_reference_accepted k) (frames ++ replicate n unused) ≡ true
filled_accepted k frames n e =
    rw (list_all-append (is_reference_accepted k) frames (replicate n unused)) (and_from (list_all (is_reference_accepted k) frames) (list_all (is_reference_accepted k) (replicate n unused)) e (unused_accepted k n))

abbrev AreTaken : ℕ → List Reference → Type 0
AreTaken k references = (list_all (is_reference_accepted k) references && are_all_apart references) ≡ true

taken_filled : (k : ℕ) (frames : List Reference) → AreMarked k frames → AreTaken k (frames ++ replicate (16 - length frames) unused)
taken_filled k frames h =
    let n = 16 - length frames in
    and_from (list_all (is_reference_accepted k) (frames ++ replicate n unused)) (are_all_apart (frames ++ replicate n unused)) (filled_accepted k frames n h.accepted) (filled_apart frames n h.apart)

taken_none : (k : ℕ) → AreTaken k ([] ++ replicate 16 unused)
taken_none k = and_from (list_all (is_reference_accepted k) (replicate 16 unused)) (are_all_apart (replicate 16 unused)) (unused_accepted k 16) (unused_apart 16)

references_taken : (k : ℕ) (header : Header) (frames : List Reference) → (is_idr header ≡ false → AreMarked k frames) → AreTaken k (references_of header frames)
references_taken k header frames h =
    elim (is_idr header) as (λ b. (b ≡ false → AreMarked k frames) → (let used = if b then [] else frames in AreTaken k (used ++ replicate (16 - length used) unused))) [
      | true ↦ λ m. taken_none k
      | false ↦ λ m. taken_filled k frames (m refl)
    ] h

-- ---- the fields

pub info_accepted : (sps : Sps) (pps : Pps) (header : Header) (counts : Counts) (frames : List Reference) → IsAcceptedSps sps → IsAcceptedPps pps → header.frame_num < max_frame_num sps
    → (is_idr header ≡ false → AreMarked (max_frame_num sps) frames) → IsAccepted 0 sps.max_num_ref_frames (info_of sps pps header counts (references_of header frames))
info_accepted sps pps header counts frames s p below h =
    let info = info_of sps pps header counts (references_of header frames) in
    let frame_nums = max_frame_num sps in
    λ field within. All-from_recursion (λ b. b ≡ true) (accepted_fields 0 sps.max_num_ref_frames info) (
      le-leb sps.max_num_ref_frames 16 s.max_num_ref_frames,
      (
        refl,
        (
          refl,
          (
            le-leb sps.max_num_ref_frames sps.max_num_ref_frames (omega arith),
            (
              refl,
              (
                or_left (not pps.weighted_pred_flag) (takes_weights 0) (not_false pps.weighted_pred_flag p.weighted_pred_flag),
                (
                  zero_test pps.weighted_bipred_idc p.weighted_bipred_idc,
                  (
                    s.frame_mbs_only_flag,
                    (
                      refl,
                      (
                        not_false pps.entropy_coding_mode_flag p.entropy_coding_mode_flag,
                        (
                          not_false pps.redundant_pic_cnt_present_flag p.redundant_pic_cnt_present_flag,
                          (
                            and_from (int_le (negsuc 11) pps.chroma_qp_index_offset) (int_le pps.chroma_qp_index_offset (pos 12)) (le_yes (negsuc 11) pps.chroma_qp_index_offset p.chroma_least) (le_yes pps.chroma_qp_index_offset (pos 12) p.chroma_most),
                            (
                              and_from (int_le (negsuc 25) pps.pic_init_qp_minus26) (int_le pps.pic_init_qp_minus26 (pos 25)) (le_yes (negsuc 25) pps.pic_init_qp_minus26 p.qp_least) (le_yes pps.pic_init_qp_minus26 (pos 25) p.qp_most),
                              (
                                le-leb pps.num_ref_idx_l0_default_active_minus1 15 p.num_ref_idx_l0_default_active_minus1,
                                (
                                  le-leb sps.log2_max_frame_num_minus4 12 s.log2_max_frame_num_minus4,
                                  (
                                    le-leb sps.pic_order_cnt_type 2 s.pic_order_cnt_type,
                                    (
                                      le-leb sps.log2_max_pic_order_cnt_lsb_minus4 12 s.log2_max_pic_order_cnt_lsb_minus4,
                                      (
                                        lt-ltb header.frame_num frame_nums below,
                                        (
                                          refl,
                                          (
                                            references_taken frame_nums header frames h,
                                            tt,
                                          ),
                                        ),
                                      ),
                                    ),
                                  ),
                                ),
                              ),
                            ),
                          ),
                        ),
                      ),
                    ),
                  ),
                ),
              ),
            ),
          ),
        ),
      ),
    ) field false within
