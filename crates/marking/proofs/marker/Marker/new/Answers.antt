use Rattle.std.proofs.Common.{List, [], Some, ◌∙◌, ap, subst, sym, arith}
use Rattle.std.proofs.lemmas.Int.{ints}
use Rattle.cb_types.specs.declared.picture_info.Reference.{Reference}
use Rattle.marking.specs.History.{no_pictures}
use Rattle.marking.specs.History.{AreMarked, AreNamed}
use Rattle.marking.proofs.HistoryLemmas.{after_none}
use Rattle.marking.proofs.MarkedLemmas.{no_frames}
use Rattle.marking.proofs.StandsLemmas.{surfaces_named}
use Rattle.marking.proofs.marker.Marker.new.Goals as goal

pub returns : goal.returns
returns c = record {
  after = after_none ∙ ap (λ (xs : List Reference). Some (record no_pictures { frames = xs })) (sym c.new.ensures);
  frames = subst (AreMarked 0) (sym c.new.ensures) no_frames;
  named = subst (AreNamed []) (sym c.new.ensures) (surfaces_named [] [] tt);
  ranges = record {
    indices = omega arith;
    last_frame_num = omega arith;
    msb_least = omega (arith, ints);
    msb_most = omega (arith, ints);
    lsb_least = omega (arith, ints);
    lsb_most = omega (arith, ints);
    before_frame_num = omega arith;
    offset = omega arith;
  };
}
