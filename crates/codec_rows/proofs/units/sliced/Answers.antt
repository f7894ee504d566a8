use Rattle.std.proofs.Common.{take, arith}
use Rattle.codec_rows.proofs.Pieces.{rest_len, piece_on, stands_on}
use Rattle.codec_rows.proofs.units.sliced.Goals as goal

pub loop-place-preserved-in-Nothing : goal.loop-place-preserved-in-Nothing
loop-place-preserved-in-Nothing c =
    let text = c.args.text.now in
    let i = c.loop-place.place in
    let n = c.push_slice-taken.result.0 in
    let rest = rest_len text i in
    let taken = c.push_slice-taken.ensures.taken in
    record {
      within = omega arith;
      stands = stands_on c.push_slice-taken.new.self _ _ (piece_on text i n) (c.push_slice-taken.ensures.stands (take i text) c.loop-place.invariant.stands);
    }

pub loop-place-preserved : goal.loop-place-preserved
loop-place-preserved c =
    let text = c.args.text.now in
    let i = c.loop-place.place in
    let n = c.push_slice-taken.result.0 in
    let rest = rest_len text i in
    let taken = c.push_slice-taken.ensures.taken in
    record {
      within = omega arith;
      stands = stands_on c.push_slice-taken.new.self _ _ (piece_on text i n) (c.push_slice-taken.ensures.stands (take i text) c.loop-place.invariant.stands);
    }
