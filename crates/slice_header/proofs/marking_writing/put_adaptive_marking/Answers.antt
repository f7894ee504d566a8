use Rattle.std.proofs.Common.{refl, take, true}
use Rattle.std.proofs.lemmas.Result.{on_ok_weaker}
use Rattle.cb_types.specs.declared.header.Marking.TheVariants.{Operations, Sliding}
use Rattle.cb_types.specs.declared.header.Mmco.TheVariants.{Reset}
use Rattle.element_tables.specs.Syntax.{any}
use Rattle.element_tables.proofs.OneElement.{flag_appended}
use Rattle.element_tables.proofs.Tables.{appends_present, appends_then}
use Rattle.slice_header.specs.Lists.{padded}
use Rattle.slice_header.specs.Spelling.{later_marking, operations}
use Rattle.slice_header.proofs.marking_writing.put_adaptive_marking.Goals as goal

pub returns-clause-ok : goal.returns-clause-ok
unfolding later_marking
returns-clause-ok c =
    on_ok_weaker c.put_operations.result (λ e. appends_then _ (flag_appended any true _ _ refl c.in_ok-put_flag.ensures.ok)
    (appends_present operations Sliding (Operations c.args.count (padded 64 Reset (take c.args.count c.args.list.now))) true _ _ refl e)) c.put_operations.ensures.ok
