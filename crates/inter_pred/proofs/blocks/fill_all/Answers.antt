use Rattle.std.proofs.Common.{◌+◌, ◌*◌, sym, ap, ◌∙◌}
use Rattle.inter_pred.specs.Luma.{Near, mean}
use Rattle.inter_pred.specs.Parts.{mean_with, near_in, part_at}
use Rattle.inter_pred.proofs.blocks.fill_all.Goals as goal

pub returns-in-Some : goal.returns-in-Some
returns-in-Some c i j across down =
    let n : Near = near_in c.args.window.now c.args.stride (j * c.args.stride + i) in
    c.mix.ensures i j across down
    ∙ (ap (λ u. mean u (part_at c.in-Some.second n)) (c.fill.ensures i j across down) ∙ sym (ap (λ o. mean_with (part_at c.args.parts.first n) o n) c.in-Some.is))
