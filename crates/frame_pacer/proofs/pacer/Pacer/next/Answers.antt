use Rattle.std.proofs.Common.{◌∙◌, ap, sym, subst, ◌+◌}
use Rattle.frame_pacer.specs.Paced.{IsSettled, settled_time}
use Rattle.frame_pacer.proofs.Pacing.{is_settled}
use Rattle.frame_pacer.proofs.pacer.Pacer.next.Goals as goal

pub returns-clause-settled : goal.returns-clause-settled
returns-clause-settled c = λ script stream period count paced.
    let next = c.next_tick-tick.ensures script stream period count paced in
    subst (IsSettled script stream period count) (sym (c.settled-shown.ensures ∙ ap (λ t. settled_time t c.next_tick-tick.result) c.in_time.ensures))
    (is_settled c.args.self.now script stream period count c.next_tick-tick.result paced next)

pub returns-clause-paced : goal.returns-clause-paced
returns-clause-paced c = λ script stream period count paced. record {
  of_script = paced.of_script;
  of_period = paced.of_period;
  preempted = paced.preempted;
  counted = ap (λ n. n + 1) paced.counted;
  tick = c.next_tick-tick.ensures script stream period count paced;
}
