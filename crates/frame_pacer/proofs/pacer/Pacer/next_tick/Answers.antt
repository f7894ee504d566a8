use Rattle.std.proofs.Common.{◌∙◌, sym}
use Rattle.frame_pacer.proofs.Pacing.{next_after, next_is, no_next}
use Rattle.frame_pacer.proofs.pacer.Pacer.next_tick.Goals as goal

pub returns-in-Some : goal.returns-in-Some
returns-in-Some c = λ script stream period count paced.
    c.tick_behind.ensures script stream period count paced (next_after script period count c.in-Some.tick (sym paced.tick ∙ c.in-Some.is))

pub returns-in-None : goal.returns-in-None
returns-in-None c = λ script stream period count paced.
    c.tick_behind-in-None.ensures script stream period count paced (sym (next_is script period count))

pub returns-in-None-2 : goal.returns-in-None-2
returns-in-None-2 c = λ script stream period count paced.
    sym (no_next c.args.self.now script stream period count paced c.if-self-eq0.false c.in-None-2.is)
