use Rattle.std.proofs.Common.{subst, sym}
use Rattle.frame_pacer.specs.Paced.{IsLast}
use Rattle.frame_pacer.proofs.Pacing.{is_last}
use Rattle.frame_pacer.proofs.pacer.Pacer.last.Goals as goal

pub returns : goal.returns
returns c = λ script stream period count paced.
    subst (IsLast script stream period count) (sym c.in_time.ensures) (is_last c.args.self.now script stream period count paced)
