-- The info by which slice headers are read is one that a decoder takes.
use Rattle.std.proofs.Common.{ℕ, ◌<◌, ◌+◌, [], pos, refl, arith}
use Rattle.std.proofs.lemmas.Nat.{pow_pos}
use Rattle.cb_types.specs.AcceptedInfo.{IsAccepted, are_all_apart}
use Rattle.param_sets.specs.Accepted.{IsAcceptedPps, IsAcceptedSps}
use Rattle.param_sets.specs.declared.pps.Pps.{Pps}
use Rattle.param_sets.specs.declared.sps.Sps.{Sps}
use Rattle.marking.specs.HeaderInfo.{header_info, no_header}
use Rattle.marking.specs.Begun.{max_frame_num}
use Rattle.marking.specs.History.{AreMarked}
use Rattle.marking.proofs.InfoLemmas.{info_accepted}

none_marked : (k : ℕ) → AreMarked k []
unfolding are_all_apart
none_marked k = record { most = omega arith; used = refl; accepted = refl; apart = refl }

some_number : (sps : Sps) → 0 < max_frame_num sps
some_number sps = pow_pos (sps.log2_max_frame_num_minus4 + 4)

pub header_info_accepted : (sps : Sps) (pps : Pps) → IsAcceptedSps sps → IsAcceptedPps pps → IsAccepted 0 sps.max_num_ref_frames (header_info sps pps)
header_info_accepted sps pps s p =
    info_accepted sps pps no_header (record { top = pos 0; bottom = pos 0 }) [] s p (some_number sps) (λ other. none_marked (max_frame_num sps))
