use Rattle.std.proofs.Common.{SFits, rules, to_z-of_z, w32}
use Rattle.std.proofs.lemmas.Result.{err_from_is_err_and}
use Rattle.element_tables.specs.Syntax.{between}
use Rattle.element_tables.proofs.OneElement.{se_accepted, se_refused, se_stopped}
use Rattle.element_tables.proofs.Rules.{between_above, between_below, between_is}
use Rattle.element_tables.proofs.elements.read_se_between.Goals as goal
use Rattle.element_tables.proofs.elements.read_se_between.Goals.{else-least-value-via-then-least-value+else-value-greatest, else-least-value-via-else-least-value}

pub returns-in_err-value : goal.returns-in_err-value
returns-in_err-value c =
    let p = err_from_is_err_and c.from_residual.result c.from_residual.ensures.1 in
    rw (p.1, p.2) (se_stopped (between c.args.least c.args.greatest) c.in_err-value.field-0.0 c.args.reader.now c.read_se.new.reader c.in_err-value.ensures)

pub returns-then-value-greatest : goal.returns-then-value-greatest
returns-then-value-greatest c =
    let v = c.in_ok-value.value in
    let fits : SFits w32 v = search rules in
    let least_fits : SFits w32 c.args.least = search rules in
    let greatest_fits : SFits w32 c.args.greatest = search rules in
    let low = rw (to_z-of_z fits, to_z-of_z least_fits) at c.if-least-value.true in
    let high = rw (to_z-of_z fits, to_z-of_z greatest_fits) at c.if-value-greatest.true in
    rw (to_z-of_z fits) (se_accepted (between c.args.least c.args.greatest) v c.args.reader.now c.read_se.new.reader (between_is c.args.least c.args.greatest v low high) c.in_ok-value.ensures)

pub returns-else-least-value : goal.returns-else-least-value
returns-else-least-value c =
    let v = c.in_ok-value.value in
    let fits : SFits w32 v = search rules in
    let least_fits : SFits w32 c.args.least = search rules in
    let greatest_fits : SFits w32 c.args.greatest = search rules in
    se_refused (between c.args.least c.args.greatest) v _ c.args.reader.now c.read_se.new.reader
    (elim c.else-least-value.branch [
      | else-least-value-via-then-least-value+else-value-greatest w ↦
          let high = rw (to_z-of_z fits, to_z-of_z greatest_fits) at w.if-value-greatest.false in
          between_above c.args.least c.args.greatest v high
      | else-least-value-via-else-least-value w ↦
          let low = rw (to_z-of_z fits, to_z-of_z least_fits) at w.if-least-value.false in
          between_below c.args.least c.args.greatest v low
    ])
    c.in_ok-value.ensures
