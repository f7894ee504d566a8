use Rattle.std.proofs.Common.{◌≡◌, ◌^◌, pos, lit<, lit≤, ◌∙◌, arith}
use Rattle.int_transform.specs.Residual.{scale_at}
use Rattle.int_transform.proofs.BlockRows.{block_is, entry_is, first_row, fourth_row, level_kept, scale_kept, second_row, third_row}
use Rattle.int_transform.proofs.Whole.{kept, kept_within}
use Rattle.int_transform.proofs.blocks.full.Goals as goal

pub scaled-fourth-requires-clause-level : goal.scaled-fourth-requires-clause-level
scaled-fourth-requires-clause-level c = level_kept _ 8 c.requires.ac (omega arith)

pub returns-clause-samples : goal.returns-clause-samples
returns-clause-samples c =
    let qp = c.args.qp in
    let ac = c.args.ac.now in
    let small = c.requires.qp in
    let even : kept c.scale-even.result ≡ pos (scale_at qp 0) = scale_kept qp 0 _ small (lit≤ tt) c.scale-even.ensures.value in
    let odd : kept c.scale-odd.result ≡ pos (scale_at qp 5) = scale_kept qp 5 _ small (lit≤ tt) c.scale-odd.ensures.value in
    let mixed : kept c.scale-mixed.result ≡ pos (scale_at qp 1) = scale_kept qp 1 _ small (lit≤ tt) c.scale-mixed.ensures.value in
    let dc : kept c.args.dc ≡ c.args.dc = kept_within (2 ^ 27) _ (lit< tt) c.requires.dc in
    let second = entry_is qp 1 _ _ _ small (lit≤ tt) (c.requires.ac 1 (pos 0) (omega arith)) c.scale-mixed.ensures.value c.scaled-second.ensures.within c.scaled-second.ensures.value in
    let third = entry_is qp 0 _ _ _ small (lit≤ tt) (c.requires.ac 2 (pos 0) (omega arith)) c.scale-even.ensures.value c.scaled-third.ensures.within c.scaled-third.ensures.value in
    let fourth = entry_is qp 1 _ _ _ small (lit≤ tt) (c.requires.ac 8 (pos 0) (omega arith)) c.scale-mixed.ensures.value c.scaled-fourth.ensures.within c.scaled-fourth.ensures.value in
    λ row column hr hc.
    c.columns.ensures.samples row column hr hc ∙ block_is ac c.args.dc qp _ _ _ _
    (first_row ac c.args.dc qp _ _ _ _ dc mixed even c.row.ensures.is)
    (second_row ac c.args.dc qp _ _ _ _ second odd mixed c.row-2.ensures.is)
    (third_row ac c.args.dc qp _ _ _ _ third mixed even c.row-3.ensures.is)
    (fourth_row ac c.args.dc qp _ _ _ _ fourth odd mixed c.row-4.ensures.is)
    row column
