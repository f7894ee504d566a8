use Rattle.std.proofs.Common.{◌∙◌, sym, subst}
use Rattle.cb_tables.specs.Codes.{IsCode}
use Rattle.cb_tables.proofs.RunLemmas.{run_entry, run_is_code}
use Rattle.cb_tables.proofs.run_before.run.Goals as goal

pub returns-clause-entry : goal.returns-clause-entry
returns-clause-entry c = c.code_of.ensures ∙ run_entry c.args.left c.args.run c.min.result c.min.ensures

pub returns-clause-code : goal.returns-clause-code
returns-clause-code c = subst IsCode (sym (c.code_of.ensures ∙ run_entry c.args.left c.args.run c.min.result c.min.ensures)) (run_is_code c.args.left c.args.run c.requires)
