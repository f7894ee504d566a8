use Rattle.std.proofs.Common.{◌≡◌, ℕ, ◌++◌, ◌∷◌, [], List, ap, subst, sym, ◌∙◌, rules, All}
use Rattle.std.specs.List.{find}
use Rattle.std.proofs.lemmas.Iterator.{YieldsList-from_slice}
use Rattle.std.proofs.lemmas.Iterator.Search.{position_from_yields_List}
use Rattle.std.proofs.lemmas.List.Elements.{All-push, All-set}
use Rattle.param_sets.specs.Accepted.{IsAcceptedSps}
use Rattle.param_sets.specs.declared.sps.Sps.{Sps}
use Rattle.access_units.proofs.SetsLemmas.{has, on_err, put_behind, put_over}
use Rattle.access_units.proofs.sets.KnownSets.put_sequence_set.Goals as goal
use borrow.Author.Tests.{tests}

abbrev number : Sps → ℕ
number sps = sps.seq_parameter_set_id

pub returns-in-Some-clause-put : goal.returns-in-Some-clause-put
returns-in-Some-clause-put c = λ sets known.
    let items = c.args.self.now.sequence.items in
    let sps = c.args.sps.now in
    let found = position_from_yields_List (has number (number sps)) _ _ c.position.result c.position.ensures.ran (YieldsList-from_slice items (c.iter.ensures.rest ∙ c.deref.ensures.value)) (λ x b q k. search (rules, tests)) in
    record {
      sequence = put_over number items sets.sequence sps c.in-Some.place (sym found ∙ c.in-Some.is) known.sequence;
      picture = known.picture;
      sequence_accepted = All-set IsAcceptedSps items c.in-Some.place sps c.requires known.sequence_accepted;
      picture_accepted = known.picture_accepted;
    }

pub returns-in_ok-push-in-None-clause-put : goal.returns-in_ok-push-in-None-clause-put
returns-in_ok-push-in-None-clause-put c = λ sets known.
    let items = c.args.self.now.sequence.items in
    let sps = c.args.sps.now in
    let found = position_from_yields_List (has number (number sps)) _ _ c.position.result c.position.ensures.ran (YieldsList-from_slice items (c.iter.ensures.rest ∙ c.deref.ensures.value)) (λ x b q k. search (rules, tests)) in
    let pushed : c.push.new.self.items ≡ items ++ sps ∷ [] = c.in_ok-push-in-None.ensures.items in
    record {
      sequence = λ id. ap (find (has number id)) pushed ∙ put_behind number items sets.sequence sps (sym found ∙ c.in-None.is) known.sequence id;
      picture = known.picture;
      sequence_accepted = subst (λ (xs : List Sps). All IsAcceptedSps xs) (sym pushed) (All-push IsAcceptedSps items sps known.sequence_accepted c.requires);
      picture_accepted = known.picture_accepted;
    }

pub returns-in_err-push-in-None-clause-untouched : goal.returns-in_err-push-in-None-clause-untouched
returns-in_err-push-in-None-clause-untouched c = on_err c.from_residual.result _ (λ sets known.
    let items = c.args.self.now.sequence.items in
    let kept : c.push.new.self.items ≡ items = c.in_err-push-in-None.ensures.items in
    record {
      sequence = λ id. ap (find (has number id)) kept ∙ known.sequence id;
      picture = known.picture;
      sequence_accepted = subst (λ (xs : List Sps). All IsAcceptedSps xs) (sym kept) known.sequence_accepted;
      picture_accepted = known.picture_accepted;
    })
