-- Signed elements in a range have codewords.
use Rattle.std.proofs.Common.{ℕ, ◌+◌, ◌^◌, ◌<◌, ◌≤◌, ℤ, pos, negsuc, ◌≤ℤ◌, ◌-ℤ◌, arith}
use Rattle.std.proofs.lemmas.Int.{ints}
use Rattle.std.proofs.Math.Nat.{pow-le-pow_right}
use Rattle.bit_io.specs.Codewords.{IsSe, IsUe}
use Rattle.cb_types.specs.AcceptedInfo.{max_frame_num}
use Rattle.cb_types.specs.declared.picture_info.PictureInfo.{PictureInfo}
use Rattle.slice_header.specs.Conditions.{HasRanges}
use Rattle.slice_header.specs.Spelling.{greatest_qp_delta, least_qp_delta}

within : (v : ℤ) → negsuc 999 ≤ℤ v → v ≤ℤ pos 999 → IsSe v
within v low high = omega (arith, ints)

pub offset_value : (v : ℤ) → negsuc 5 ≤ℤ v → v ≤ℤ pos 6 → IsSe v
offset_value v low high = omega (arith, ints)

pub byte_value : (v : ℤ) → negsuc 127 ≤ℤ v → v ≤ℤ pos 127 → IsSe v
byte_value v low high = omega (arith, ints)

far : (init v : ℤ) → negsuc 25 ≤ℤ init → init ≤ℤ pos 25 → (negsuc 25 -ℤ init) ≤ℤ v → v ≤ℤ (pos 25 -ℤ init) → (negsuc 999 ≤ℤ v) × (v ≤ℤ pos 999)
far init v least most low high = (omega (arith, ints), omega (arith, ints))

pub delta_value : (info : PictureInfo) (v : ℤ) → HasRanges info → least_qp_delta info ≤ℤ v → v ≤ℤ greatest_qp_delta info → IsSe v
delta_value info v ranges low high =
    let ends = far info.pic_init_qp_minus26 v ranges.qp_least ranges.qp_most low high in
    within v ends.0 ends.1

-- a difference of picture numbers is below MaxFrameNum, and that has 16 bits at most
pub wide : (info : PictureInfo) (v : ℕ) → HasRanges info → v < max_frame_num info → IsUe v
wide info v ranges lt =
    let bits : info.log2_max_frame_num_minus4 + 4 ≤ 16 = omega (arith, ranges.frame_num_bits) in
    let some : 0 < 2 = omega arith in
    let most : max_frame_num info ≤ 2 ^ 16 = pow-le-pow_right some bits in
    omega (arith, lt, most)
