use Rattle.std.proofs.Common.{ℕ, List, ap, ◌∙◌}
use Rattle.intra_pred.specs.Luma4.{diagonal_down_left, vertical_left}
use Rattle.intra_pred.specs.Sides.{block4}
use Rattle.intra_pred.proofs.Samples4.{down_left, down_of_horizontal, down_right, horizontal, left_of_vertical, mean, right_of_vertical, up_of_horizontal, vertical}
use Rattle.intra_pred.proofs.luma4.predict4.Goals as goal

pub returns-in_ok-top-in-0-clause-samples : goal.returns-in_ok-top-in-0-clause-samples
returns-in_ok-top-in-0-clause-samples c = vertical _ _ _ c.args.right _ _ _ c.in-0.is c.in_ok-top-in-0.was c.vertical.ensures

pub returns-in_ok-left-in-1-clause-samples : goal.returns-in_ok-left-in-1-clause-samples
returns-in_ok-left-in-1-clause-samples c = horizontal _ _ _ c.args.right _ _ _ c.in-1.is c.in_ok-left-in-1.was c.horizontal.ensures

pub returns-in_ok-top-in-3-clause-samples : goal.returns-in_ok-top-in-3-clause-samples
returns-in_ok-top-in-3-clause-samples c = down_left _ _ _ c.args.right _ _ _ c.in-3.is c.in_ok-top-in-3.was (c.diagonal_down_left.ensures ∙ ap (λ (e : List ℕ). block4 (diagonal_down_left e)) c.eight.ensures)

pub returns-in_ok-corner-in-4-clause-samples : goal.returns-in_ok-corner-in-4-clause-samples
returns-in_ok-corner-in-4-clause-samples c = down_right _ _ _ c.args.right _ _ _ _ _ c.in-4.is c.in_ok-left-in-4.was c.in_ok-top-in-4.was c.in_ok-corner-in-4.was c.diagonal_down_right.ensures

pub returns-in_ok-corner-in-5-clause-samples : goal.returns-in_ok-corner-in-5-clause-samples
returns-in_ok-corner-in-5-clause-samples c = right_of_vertical _ _ _ c.args.right _ _ _ _ _ c.in-5.is c.in_ok-left-in-5.was c.in_ok-top-in-5.was c.in_ok-corner-in-5.was c.vertical_right.ensures

pub returns-in_ok-corner-in-6-clause-samples : goal.returns-in_ok-corner-in-6-clause-samples
returns-in_ok-corner-in-6-clause-samples c = down_of_horizontal _ _ _ c.args.right _ _ _ _ _ c.in-6.is c.in_ok-left-in-6.was c.in_ok-top-in-6.was c.in_ok-corner-in-6.was c.horizontal_down.ensures

pub returns-in_ok-top-in-7-clause-samples : goal.returns-in_ok-top-in-7-clause-samples
returns-in_ok-top-in-7-clause-samples c = left_of_vertical _ _ _ c.args.right _ _ _ c.in-7.is c.in_ok-top-in-7.was (c.vertical_left.ensures ∙ ap (λ (e : List ℕ). block4 (vertical_left e)) c.eight-in-7.ensures)

pub returns-in_ok-left-in-8-clause-samples : goal.returns-in_ok-left-in-8-clause-samples
returns-in_ok-left-in-8-clause-samples c = up_of_horizontal _ _ _ c.args.right _ _ _ c.in-8.is c.in_ok-left-in-8.was c.horizontal_up.ensures

pub returns-in-2-clause-samples : goal.returns-in-2-clause-samples
returns-in-2-clause-samples c = mean _ _ _ c.args.right c.args.corner _ c.in-2.is c.mean.ensures
