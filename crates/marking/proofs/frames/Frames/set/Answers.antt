use Rattle.std.proofs.Common.{List, set, ap, ◌∙◌}
use Rattle.cb_types.specs.declared.picture_info.Reference.{Reference}
use Rattle.marking.proofs.PlaceLemmas.{take_set}
use Rattle.marking.proofs.frames.Frames.set.Goals as goal

pub returns : goal.returns
returns c = take_set c.self.inside.count c.self.inside.entries c.args.place c.args.one ∙ ap (λ (xs : List Reference). set xs c.args.place c.args.one) c.self.view_is
