use Rattle.std.proofs.Common.{◌+◌, take, sym, arith, None}
use Rattle.std.proofs.lemmas.List.{append-nil}
use Rattle.nal_units.specs.declared.finder.Found.TheVariants as found
use Rattle.decoder_render.proofs.Pieces.{rest_len, piece_on, stands_on, settles_on, broken_text, whole_text}
use Rattle.decoder_render.proofs.submission.units_of.Goals as goal

pub returns-in-Broken : goal.returns-in-Broken
returns-in-Broken c =
    let text = c.args.text.now in
    let i = c.loop-place.place in
    let n = c.push_slice-taken.result.0 in
    let u = c.loop-place.units.items in
    broken_text text (i + n) u c.in-Broken.at
    (settles_on _ (take (i + n) text) u u c.push_slice-taken.result.1 (found.Broken c.in-Broken.at) (piece_on text i n) c.in-Broken.is (append-nil u)
    (c.push_slice-taken.ensures.settles (take i text) u c.loop-place.invariant.stands c.loop-place.invariant.settles))

pub loop-place-preserved-in-Nothing : goal.loop-place-preserved-in-Nothing
loop-place-preserved-in-Nothing c =
    let text = c.args.text.now in
    let i = c.loop-place.place in
    let n = c.push_slice-taken.result.0 in
    let u = c.loop-place.units.items in
    let rest = rest_len text i in
    let taken = c.push_slice-taken.ensures.taken in
    record {
      within = omega arith;
      stands = stands_on c.push_slice-taken.new.self _ _ (piece_on text i n) (c.push_slice-taken.ensures.stands (take i text) c.loop-place.invariant.stands);
      settles = settles_on _ (take (i + n) text) u u c.push_slice-taken.result.1 found.Nothing (piece_on text i n) c.in-Nothing.is (append-nil u)
          (c.push_slice-taken.ensures.settles (take i text) u c.loop-place.invariant.stands c.loop-place.invariant.settles);
    }

pub loop-place-preserved : goal.loop-place-preserved
loop-place-preserved c =
    let text = c.args.text.now in
    let i = c.loop-place.place in
    let n = c.push_slice-taken.result.0 in
    let u = c.loop-place.units.items in
    let rest = rest_len text i in
    let taken = c.push_slice-taken.ensures.taken in
    record {
      within = omega arith;
      stands = stands_on c.push_slice-taken.new.self _ _ (piece_on text i n) (c.push_slice-taken.ensures.stands (take i text) c.loop-place.invariant.stands);
      settles = settles_on _ (take (i + n) text) u _ c.push_slice-taken.result.1 (found.Unit c.in-Unit.start c.in-Unit.end) (piece_on text i n) c.in-Unit.is
          (sym c.in_ok-push-in-Unit.ensures.items)
          (c.push_slice-taken.ensures.settles (take i text) u c.loop-place.invariant.stands c.loop-place.invariant.settles);
    }

pub returns : goal.returns
returns c =
    let text = c.args.text.now in
    let i = c.loop-place.place in
    let u = c.loop-place.units.items in
    let within = c.loop-place.invariant.within in
    whole_text c.ended.result _ _ text i _ _ (omega arith) (c.finish.ensures (take i text) u None c.loop-place.invariant.stands c.loop-place.invariant.settles) c.ended.ensures.units c.ended.ensures.broken
