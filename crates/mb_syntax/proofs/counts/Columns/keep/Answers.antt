use Rattle.std.proofs.Common.{◌+◌, ◌%◌, ◌++◌, ◌∷◌, [], set, subst, ℕ}
use Rattle.mb_syntax.proofs.CountLemmas.{keeps}
use Rattle.mb_syntax.specs.Around.{AreColumns}
use Rattle.mb_syntax.proofs.counts.Columns.keep.Goals as goal

pub returns : goal.returns
returns c before mb e are is =
    let slice = c.args.slice.now in
    subst (λ (n : ℕ). AreColumns slice (before ++ mb ∷ []) (record { counts = set c.args.self.now.counts ((slice.first + n) % slice.width) c.args.counts })) e
    (keeps slice before c.args.self.now c.requires.some are c.args.counts mb c.requires.few is)
