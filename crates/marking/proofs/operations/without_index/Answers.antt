use Rattle.std.proofs.Common.{Bool, not, List, length, take, ap, arith}
use Rattle.std.proofs.lemmas.List.{length-take-le}
use Rattle.cb_types.specs.declared.picture_info.Reference.{Reference}
use Rattle.marking.specs.Frames.{is_long_at}
use Rattle.marking.proofs.FrameLemmas.{filter_length}
use Rattle.marking.proofs.operations.without_index.Goals as goal

pub push-requires : goal.push-requires
push-requires c =
    let p : Reference → Bool = λ frame. not (is_long_at c.args.index frame) in
    let few = filter_length p (take c.loop-place.place c.args.frames) in
    let many = ap (λ (xs : List Reference). length xs) c.loop-place.invariant in
    let long = length-take-le c.loop-place.place c.args.frames (omega (arith, c.loop-place-test.true, c.len-place-end.ensures.value)) in
    omega (arith, few, many, long, c.loop-place-test.true, c.len-place-end.ensures.most)
