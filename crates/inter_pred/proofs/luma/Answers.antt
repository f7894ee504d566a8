use Rattle.std.proofs.Common.{FitsSigned, w64, sym, ◌∙◌, rules}
use Rattle.inter_pred.proofs.Moved.{fraction_is, luma_from, luma_whole, whole_is}
use Rattle.inter_pred.proofs.luma.Goals as goal

pub returns-then-below-eq0 : goal.returns-then-below-eq0
returns-then-below-eq0 c i j across down =
    let x_fits = c.ranges.x in
    let y_fits = c.ranges.y in
    let right_fits : FitsSigned w64 c.rem_euclid-right.result = search rules in
    let below_fits : FitsSigned w64 c.rem_euclid-below.result = search rules in
    let column_fits : FitsSigned w64 c.div_euclid-column.result = search rules in
    let row_fits : FitsSigned w64 c.div_euclid-row.result = search rules in
    let right = fraction_is 4 c.args.x c.rem_euclid-right.result x_fits right_fits c.rem_euclid-right.ensures.value in
    let below = fraction_is 4 c.args.y c.rem_euclid-below.result y_fits below_fits c.rem_euclid-below.ensures.value in
    let column = whole_is 4 c.args.x c.div_euclid-column.result x_fits column_fits c.div_euclid-column.ensures in
    let row = whole_is 4 c.args.y c.div_euclid-row.result y_fits row_fits c.div_euclid-row.ensures in
    let from = luma_from c.args.plane.now c.args.x c.args.y _ _ _ _ i j column row right below in
    c.copy.ensures i j across down ∙ (sym (luma_whole c.args.plane.now _ _ _ _ c.if-right-eq0.true c.if-below-eq0.true) ∙ from)

pub returns-else-right-eq0 : goal.returns-else-right-eq0
returns-else-right-eq0 c i j across down =
    let x_fits = c.ranges.x in
    let y_fits = c.ranges.y in
    let right_fits : FitsSigned w64 c.rem_euclid-right.result = search rules in
    let below_fits : FitsSigned w64 c.rem_euclid-below.result = search rules in
    let column_fits : FitsSigned w64 c.div_euclid-column.result = search rules in
    let row_fits : FitsSigned w64 c.div_euclid-row.result = search rules in
    let right = fraction_is 4 c.args.x c.rem_euclid-right.result x_fits right_fits c.rem_euclid-right.ensures.value in
    let below = fraction_is 4 c.args.y c.rem_euclid-below.result y_fits below_fits c.rem_euclid-below.ensures.value in
    let column = whole_is 4 c.args.x c.div_euclid-column.result x_fits column_fits c.div_euclid-column.ensures in
    let row = whole_is 4 c.args.y c.div_euclid-row.result y_fits row_fits c.div_euclid-row.ensures in
    let from = luma_from c.args.plane.now c.args.x c.args.y _ _ _ _ i j column row right below in
    c.predict.ensures i j across down ∙ (c.made_of.ensures _ ∙ from)
