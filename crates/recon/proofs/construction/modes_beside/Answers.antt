use Rattle.std.proofs.Common.{◌∙◌, Some, refl, sym, ap}
use Rattle.recon.specs.Modes.{modes_in}
use Rattle.recon.proofs.construction.modes_beside.Goals as goal

pub returns-in-Some : goal.returns-in-Some
returns-in-Some c = λ before columns short low.
    ap Some (c.at.ensures c.args.first before c.in-Some.k columns refl (short c.in-Some.k c.in-Some.is) (low c.in-Some.k c.in-Some.is)) ∙ ap (modes_in before) (sym c.in-Some.is)
