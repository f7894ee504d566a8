use Rattle.std.proofs.Common.{ℕ, ◌∙◌, rules, Bor}
use Rattle.std.proofs.lemmas.Iterator.{YieldsList-from_slice}
use Rattle.std.proofs.lemmas.Iterator.Search.{find_from_yields_List}
use Rattle.param_sets.specs.declared.pps.Pps.{Pps}
use Rattle.access_units.specs.Sets.{picture_set}
use Rattle.access_units.proofs.SetsLemmas.{found_is, has}
use Rattle.access_units.proofs.sets.KnownSets.picture_set.Goals as goal
use borrow.Author.Tests.{tests}

abbrev number : Pps → ℕ
number pps = pps.pic_parameter_set_id

pub returns-clause-value : goal.returns-clause-value
returns-clause-value c = λ sets known.
    let found = find_from_yields_List (has number c.args.id) _ _ c.find.result c.find.ensures.ran (YieldsList-from_slice c.args.self.now.picture.items (c.iter.ensures.rest ∙ c.deref.ensures.value)) (λ x b q k. search (rules, tests)) in
    found_is (λ (x : Bor Pps). x.now) c.find.result (picture_set sets c.args.id) (found ∙ known.picture c.args.id)
