use Rattle.std.proofs.Common.{◌∙◌, sym, subst}
use Rattle.cb_tables.specs.Codes.{IsCode}
use Rattle.cb_tables.proofs.ZerosLemmas.{zeros_entry, zeros_code}
use Rattle.cb_tables.proofs.total_zeros.zeros.Goals as goal

pub returns-clause-entry : goal.returns-clause-entry
returns-clause-entry c = c.code_of.ensures ∙ zeros_entry c.args.total c.args.zeros

pub returns-clause-code : goal.returns-clause-code
returns-clause-code c = subst IsCode (sym (c.code_of.ensures ∙ zeros_entry c.args.total c.args.zeros)) (zeros_code c.args.total c.args.zeros c.requires)
