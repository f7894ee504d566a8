use Rattle.std.proofs.Common.{◌∙◌}
use Rattle.cb_tables.proofs.ScaleLemmas.{scale_entry}
use Rattle.cb_tables.proofs.scaling.level_scale.Goals as goal

pub returns : goal.returns
returns c = c.from.ensures ∙ scale_entry c.args.rem c.args.place c.requires.rem c.requires.place
