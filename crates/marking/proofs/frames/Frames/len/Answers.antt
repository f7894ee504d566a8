use Rattle.std.proofs.Common.{List, length, sym, ap, ◌∙◌, arith}
use Rattle.std.proofs.lemmas.List.{length-take-le}
use Rattle.cb_types.specs.declared.picture_info.Reference.{Reference}
use Rattle.marking.proofs.frames.Frames.len.Goals as goal

pub returns-clause-value : goal.returns-clause-value
returns-clause-value c =
    let long = c.self.invariant.1 in
    sym (ap (λ (xs : List Reference). length xs) (sym c.self.view_is) ∙ length-take-le c.self.inside.count c.self.inside.entries (omega (arith, c.self.invariant.0, long)))
