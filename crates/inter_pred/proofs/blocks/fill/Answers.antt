use Rattle.std.proofs.Common.{◌+◌, ◌*◌, get_or, sym, ap, ◌∙◌, arith}
use Rattle.inter_pred.specs.Luma.{Near, b, h, m, s}
use Rattle.inter_pred.specs.Parts.{near_in, part_at}
use Rattle.inter_pred.proofs.Parted.{half_at}
use Rattle.inter_pred.proofs.blocks.fill.Goals as goal

pub returns-in-Whole : goal.returns-in-Whole
unfolding part_at
returns-in-Whole c i j across down =
    let xs = c.args.window.now in
    let n : Near = near_in xs c.args.stride (j * c.args.stride + i) in
    let same = sym (ap (λ p. part_at p n) c.in-Whole.is) in
    c.copy_rows.ensures i j across down ∙ (ap (λ k. get_or xs k 0) (omega arith) ∙ same)

pub returns-in-WholeRight : goal.returns-in-WholeRight
unfolding part_at
returns-in-WholeRight c i j across down =
    let xs = c.args.window.now in
    let n : Near = near_in xs c.args.stride (j * c.args.stride + i) in
    let same = sym (ap (λ p. part_at p n) c.in-WholeRight.is) in
    c.copy_rows-in-WholeRight.ensures i j across down ∙ (ap (λ k. get_or xs k 0) (omega arith) ∙ same)

pub returns-in-WholeBelow : goal.returns-in-WholeBelow
unfolding part_at
returns-in-WholeBelow c i j across down =
    let xs = c.args.window.now in
    let n : Near = near_in xs c.args.stride (j * c.args.stride + i) in
    let same = sym (ap (λ p. part_at p n) c.in-WholeBelow.is) in
    c.copy_rows-in-WholeBelow.ensures i j across down ∙ (ap (λ k. get_or xs k 0) (omega arith) ∙ same)

pub returns-in-Across : goal.returns-in-Across
unfolding part_at b
returns-in-Across c i j across down =
    let xs = c.args.window.now in
    let n : Near = near_in xs c.args.stride (j * c.args.stride + i) in
    let same = sym (ap (λ p. part_at p n) c.in-Across.is) in
    c.half_rows.ensures i j across down ∙ (half_at xs 1 (2 * c.args.stride + j * c.args.stride + i) (j * c.args.stride + i + 2 * c.args.stride + 0) (j * c.args.stride + i + 2 * c.args.stride + 1) (j * c.args.stride + i + 2 * c.args.stride + 2) (j * c.args.stride + i + 2 * c.args.stride + 3) (j * c.args.stride + i + 2 * c.args.stride + 4) (j * c.args.stride + i + 2 * c.args.stride + 5) (omega arith) (omega arith) (omega arith) (omega arith) (omega arith) (omega arith) ∙ same)

pub returns-in-AcrossBelow : goal.returns-in-AcrossBelow
unfolding part_at s
returns-in-AcrossBelow c i j across down =
    let xs = c.args.window.now in
    let n : Near = near_in xs c.args.stride (j * c.args.stride + i) in
    let same = sym (ap (λ p. part_at p n) c.in-AcrossBelow.is) in
    c.half_rows-in-AcrossBelow.ensures i j across down ∙ (half_at xs 1 (3 * c.args.stride + j * c.args.stride + i) (j * c.args.stride + i + 3 * c.args.stride + 0) (j * c.args.stride + i + 3 * c.args.stride + 1) (j * c.args.stride + i + 3 * c.args.stride + 2) (j * c.args.stride + i + 3 * c.args.stride + 3) (j * c.args.stride + i + 3 * c.args.stride + 4) (j * c.args.stride + i + 3 * c.args.stride + 5) (omega arith) (omega arith) (omega arith) (omega arith) (omega arith) (omega arith) ∙ same)

pub returns-in-Down : goal.returns-in-Down
unfolding part_at h
returns-in-Down c i j across down =
    let xs = c.args.window.now in
    let n : Near = near_in xs c.args.stride (j * c.args.stride + i) in
    let same = sym (ap (λ p. part_at p n) c.in-Down.is) in
    c.half_rows-in-Down.ensures i j across down ∙ (half_at xs c.args.stride (2 + j * c.args.stride + i) (j * c.args.stride + i + 0 * c.args.stride + 2) (j * c.args.stride + i + 1 * c.args.stride + 2) (j * c.args.stride + i + 2 * c.args.stride + 2) (j * c.args.stride + i + 3 * c.args.stride + 2) (j * c.args.stride + i + 4 * c.args.stride + 2) (j * c.args.stride + i + 5 * c.args.stride + 2) (omega arith) (omega arith) (omega arith) (omega arith) (omega arith) (omega arith) ∙ same)

pub returns-in-DownRight : goal.returns-in-DownRight
unfolding part_at m
returns-in-DownRight c i j across down =
    let xs = c.args.window.now in
    let n : Near = near_in xs c.args.stride (j * c.args.stride + i) in
    let same = sym (ap (λ p. part_at p n) c.in-DownRight.is) in
    c.half_rows-in-DownRight.ensures i j across down ∙ (half_at xs c.args.stride (3 + j * c.args.stride + i) (j * c.args.stride + i + 0 * c.args.stride + 3) (j * c.args.stride + i + 1 * c.args.stride + 3) (j * c.args.stride + i + 2 * c.args.stride + 3) (j * c.args.stride + i + 3 * c.args.stride + 3) (j * c.args.stride + i + 4 * c.args.stride + 3) (j * c.args.stride + i + 5 * c.args.stride + 3) (omega arith) (omega arith) (omega arith) (omega arith) (omega arith) (omega arith) ∙ same)
