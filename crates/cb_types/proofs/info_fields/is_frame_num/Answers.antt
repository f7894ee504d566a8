use Rattle.std.proofs.Common.{◌+◌, ◌≤◌, ◌^◌, arith, sym, ◌∙◌}
use Rattle.std.proofs.Math.Pow.{pow_mono}
use Rattle.std.proofs.lemmas.Bool.{le-leb, lt-ltb}
use Rattle.cb_types.specs.AcceptedInfo.{max_frame_num}
use Rattle.cb_types.proofs.info_fields.is_frame_num.Goals as goal

pub returns-then-bits-ge12 : goal.returns-then-bits-ge12
returns-then-bits-ge12 c =
    let bits = c.args.info.now.log2_max_frame_num_minus4 in
    let large : 2 ^ 16 ≤ 2 ^ (bits + 4) = let few : 16 ≤ bits + 4 = omega arith in pow_mono few in
    le-leb 12 bits c.if-bits-ge12.true ∙ sym (lt-ltb c.args.number (max_frame_num c.args.info.now) (omega arith))
