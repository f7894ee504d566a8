use Rattle.std.proofs.Common.{inl, inr}
use Rattle.access_units.proofs.ContentLemmas.{tells_slice}
use Rattle.access_units.proofs.content.content_of.Goals as goal
use Rattle.access_units.proofs.content.content_of.Goals.{then-unit_type-eq1-via-then-unit_type-eq1, then-unit_type-eq1-via-else-unit_type-eq1+then-unit_type-eq5}

pub returns-then-unit_type-eq1-clause-told : goal.returns-then-unit_type-eq1-clause-told
returns-then-unit_type-eq1-clause-told c = λ sets known.
    tells_slice sets c.args.unit.now c.in_ok-header_of.field-0
    (elim c.then-unit_type-eq1.branch [
      | then-unit_type-eq1-via-then-unit_type-eq1 w ↦ inl w.if-unit_type-eq1.true
      | then-unit_type-eq1-via-else-unit_type-eq1+then-unit_type-eq5 w ↦ inr w.if-unit_type-eq5.true
    ])
    (c.in_ok-header_of.ensures.told sets known)
