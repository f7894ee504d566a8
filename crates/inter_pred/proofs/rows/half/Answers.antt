use Rattle.std.proofs.Common.{◌+◌, ◌-◌, ◌/◌, min, ap, ◌∙◌, arith}
use Rattle.inter_pred.proofs.Sums.{half-raised}
use Rattle.inter_pred.proofs.rows.half.Goals as goal

pub returns : goal.returns
returns c =
    c.min.ensures ∙ (ap (λ n. min n 255) c.saturating_sub.ensures ∙ (ap (λ n. min ((n + 16) / 32 - 80) 255) c.raised.ensures
    ∙ half-raised c.args.e c.args.f c.args.g c.args.h c.args.i c.args.j (omega arith) (omega arith)))
