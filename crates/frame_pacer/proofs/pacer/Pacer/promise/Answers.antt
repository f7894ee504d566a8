use Rattle.std.proofs.Common.{ap, ◌∙◌}
use Rattle.std.specs.Option.{unwrap_or}
use Rattle.frame_pacer.specs.Paced.{no_time}
use Rattle.frame_pacer.proofs.Pacing.{promised_first, promised_later}
use Rattle.frame_pacer.proofs.pacer.Pacer.promise.Goals as goal

pub returns-then-self-eq0 : goal.returns-then-self-eq0
returns-then-self-eq0 c = λ script stream period count paced. promised_first c.args.self.now script stream period count paced c.if-self-eq0.true

pub returns : goal.returns
returns c = λ script stream period count paced.
    c.unwrap_or.ensures ∙ (ap (λ t. unwrap_or t no_time) c.in_time.ensures ∙ promised_later c.args.self.now script stream period count paced c.if-self-eq0.false)
