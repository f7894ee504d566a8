use Rattle.std.proofs.Common.{ℕ, ◌∙◌, rules, Bor}
use Rattle.std.proofs.lemmas.Iterator.{YieldsList-from_slice}
use Rattle.std.proofs.lemmas.Iterator.Search.{find_from_yields_List}
use Rattle.param_sets.specs.declared.sps.Sps.{Sps}
use Rattle.access_units.specs.Sets.{sequence_set}
use Rattle.access_units.proofs.SetsLemmas.{found_is, has}
use Rattle.access_units.proofs.sets.KnownSets.sequence_set.Goals as goal
use borrow.Author.Tests.{tests}

abbrev number : Sps → ℕ
number sps = sps.seq_parameter_set_id

pub returns-clause-value : goal.returns-clause-value
returns-clause-value c = λ sets known.
    let found = find_from_yields_List (has number c.args.id) _ _ c.find.result c.find.ensures.ran (YieldsList-from_slice c.args.self.now.sequence.items (c.iter.ensures.rest ∙ c.deref.ensures.value)) (λ x b q k. search (rules, tests)) in
    found_is (λ (x : Bor Sps). x.now) c.find.result (sequence_set sets c.args.id) (found ∙ known.sequence c.args.id)
