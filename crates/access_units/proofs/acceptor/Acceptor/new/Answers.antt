use Rattle.std.proofs.Common.{[], None, inl, refl, arith}
use Rattle.access_units.proofs.NewLemmas.{none_told, no_pictures, no_units, sets_of_none}
use Rattle.access_units.proofs.StandLemmas.{none_within}
use Rattle.access_units.proofs.acceptor.Acceptor.new.Goals as goal

pub returns : goal.returns
returns c = record {
  told = [];
  broken = None;
  opened = [];
  hand = [];
  front = [];
  reads = record {
    size = omega arith;
    from = omega arith;
    looked = omega arith;
    bytes = c.new.ensures.items;
    ended_is = refl;
    finder = λ on. c.new-2.ensures.stands;
    each = none_told [];
    known = (refl, c.new-2.ensures.settles);
    pending = λ some. refl;
    from_start = inl refl;
    opened_only = λ some. refl;
    found_within = none_within 0 0;
    sets = sets_of_none c.new-3.result c.new-3.ensures;
    units = no_units;
    in_hand = refl;
    is_opened = refl;
    some_hand = λ empty. (refl, (λ on. (refl, refl)), λ some. refl);
    hand_within = tt;
    opened_within = tt;
  };
  pictures = no_pictures;
  behind = c.new-4.ensures;
  last = (refl, refl);
}
