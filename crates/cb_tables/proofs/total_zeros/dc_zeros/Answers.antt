use Rattle.std.proofs.Common.{◌∙◌, sym, subst}
use Rattle.cb_tables.specs.Codes.{IsCode}
use Rattle.cb_tables.proofs.ZerosLemmas.{dc_entry, dc_code}
use Rattle.cb_tables.proofs.total_zeros.dc_zeros.Goals as goal

pub returns-clause-entry : goal.returns-clause-entry
returns-clause-entry c = c.code_of.ensures ∙ dc_entry c.args.total c.args.zeros

pub returns-clause-code : goal.returns-clause-code
returns-clause-code c = subst IsCode (sym (c.code_of.ensures ∙ dc_entry c.args.total c.args.zeros)) (dc_code c.args.total c.args.zeros c.requires)
