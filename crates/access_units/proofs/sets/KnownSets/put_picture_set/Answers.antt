use Rattle.std.proofs.Common.{◌≡◌, ℕ, ◌++◌, ◌∷◌, [], List, ap, subst, sym, ◌∙◌, rules, All}
use Rattle.std.specs.List.{find}
use Rattle.std.proofs.lemmas.Iterator.{YieldsList-from_slice}
use Rattle.std.proofs.lemmas.Iterator.Search.{position_from_yields_List}
use Rattle.std.proofs.lemmas.List.Elements.{All-push, All-set}
use Rattle.param_sets.specs.Accepted.{IsAcceptedPps}
use Rattle.param_sets.specs.declared.pps.Pps.{Pps}
use Rattle.access_units.proofs.SetsLemmas.{has, on_err, put_behind, put_over}
use Rattle.access_units.proofs.sets.KnownSets.put_picture_set.Goals as goal
use borrow.Author.Tests.{tests}

abbrev number : Pps → ℕ
number pps = pps.pic_parameter_set_id

pub returns-in-Some-clause-put : goal.returns-in-Some-clause-put
returns-in-Some-clause-put c = λ sets known.
    let items = c.args.self.now.picture.items in
    let pps = c.args.pps.now in
    let found = position_from_yields_List (has number (number pps)) _ _ c.position.result c.position.ensures.ran (YieldsList-from_slice items (c.iter.ensures.rest ∙ c.deref.ensures.value)) (λ x b q k. search (rules, tests)) in
    record {
      picture = put_over number items sets.picture pps c.in-Some.place (sym found ∙ c.in-Some.is) known.picture;
      sequence = known.sequence;
      picture_accepted = All-set IsAcceptedPps items c.in-Some.place pps c.requires known.picture_accepted;
      sequence_accepted = known.sequence_accepted;
    }

pub returns-in_ok-push-in-None-clause-put : goal.returns-in_ok-push-in-None-clause-put
returns-in_ok-push-in-None-clause-put c = λ sets known.
    let items = c.args.self.now.picture.items in
    let pps = c.args.pps.now in
    let found = position_from_yields_List (has number (number pps)) _ _ c.position.result c.position.ensures.ran (YieldsList-from_slice items (c.iter.ensures.rest ∙ c.deref.ensures.value)) (λ x b q k. search (rules, tests)) in
    let pushed : c.push.new.self.items ≡ items ++ pps ∷ [] = c.in_ok-push-in-None.ensures.items in
    record {
      picture = λ id. ap (find (has number id)) pushed ∙ put_behind number items sets.picture pps (sym found ∙ c.in-None.is) known.picture id;
      sequence = known.sequence;
      picture_accepted = subst (λ (xs : List Pps). All IsAcceptedPps xs) (sym pushed) (All-push IsAcceptedPps items pps known.picture_accepted c.requires);
      sequence_accepted = known.sequence_accepted;
    }

pub returns-in_err-push-in-None-clause-untouched : goal.returns-in_err-push-in-None-clause-untouched
returns-in_err-push-in-None-clause-untouched c = on_err c.from_residual.result _ (λ sets known.
    let items = c.args.self.now.picture.items in
    let kept : c.push.new.self.items ≡ items = c.in_err-push-in-None.ensures.items in
    record {
      picture = λ id. ap (find (has number id)) kept ∙ known.picture id;
      sequence = known.sequence;
      picture_accepted = subst (λ (xs : List Pps). All IsAcceptedPps xs) (sym kept) known.picture_accepted;
      sequence_accepted = known.sequence_accepted;
    })
