use Rattle.std.proofs.Common.{arith, subst}
use Rattle.nal_units.specs.Finder.{IsPhase}
use Rattle.nal_units.specs.declared.finder.Phase.{Phase}
use Rattle.nal_units.proofs.Steps.{inside_len}
use Rattle.nal_units.proofs.finder.next.Goals as goal

pub inside-requires-clause-pending : goal.inside-requires-clause-pending
inside-requires-clause-pending c =
    let known = c.requires.known in
    let P : Phase → Type 0 = λ ph. IsPhase ph known.0 known.1 in
    let len = inside_len known.0 known.1 c.in-Inside.start c.in-Inside.zeros (subst P c.in-Inside.is known.2) in
    omega arith
