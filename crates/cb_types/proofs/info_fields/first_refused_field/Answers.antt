use Rattle.std.proofs.Common.{◌≡◌, ◌<◌, Bool, true, false, List, get_or, subst, arith}
use Rattle.cb_types.proofs.info_fields.first_refused_field.Goals as goal

pub returns-then-not-is_accepted : goal.returns-then-not-is_accepted
returns-then-not-is_accepted c = record {
  within = c.loop-field-test.true;
  refused = subst (λ (fields : List Bool). get_or fields c.loop-field.field false ≡ false) c.accepted_fields-accepted.ensures c.if-not-is_accepted.true;
  first = λ earlier before. subst (λ (fields : List Bool). get_or fields earlier false ≡ true) c.accepted_fields-accepted.ensures (c.loop-field.invariant earlier before);
}

pub returns : goal.returns
returns c = λ field within.
    let before : field < c.loop-field.field = omega (arith, c.loop-field-test.false) in
    subst (λ (fields : List Bool). get_or fields field false ≡ true) c.accepted_fields-accepted.ensures (c.loop-field.invariant field before)
