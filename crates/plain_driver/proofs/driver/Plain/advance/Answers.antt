use Rattle.std.proofs.Common.{◌≡◌, ◌∙◌, Bool, ap, false, inr, map, sym, true}
use Rattle.std.specs.List.{list_any}
use Rattle.std.specs.Option.{is_some}
use Rattle.driver_model.specs.Clock.{all_due, flip_of, is_tick_held}
use Rattle.driver_model.specs.Objects.{as_device}
use Rattle.driver_model.specs.States.{is_out}
use Rattle.plain_driver.specs.States.{device_of, state_of}
use Rattle.plain_driver.specs.Ticking.{due_of, flipped_of, with_all_shown}
use Rattle.plain_driver.specs.declared.queues.Places.{Places}
use Rattle.plain_driver.proofs.ClockSteps.{advance-at, advances, held_is, waits_for_tick}
use Rattle.plain_driver.proofs.Goes.{at_below}
use Rattle.plain_driver.proofs.driver.Plain.advance.Goals as goal

pub returns-then-is_tick_held-clause-waits : goal.returns-then-is_tick_held-clause-waits
returns-then-is_tick_held-clause-waits c =
    let s = state_of c.args.self.now in
    let dues = c.in-Ok-all_due.dues.items in
    let test : Places → Bool = λ due. is_out s due.surface in
    let held : is_tick_held s c.in-Ok.on c.args.time ≡ true =
    sym (held_is s c.in-Ok.on c.args.time dues c.in-Ok-all_due.ensures) ∙ (ap (list_any test) (sym c.deref.ensures.value) ∙ (sym c.is_tick_held.ensures ∙ c.if-is_tick_held.true)) in
    waits_for_tick s c.args.device c.args.time c.in-Ok.on c.in-Ok.ensures held

pub device_in-is_preempted-requires : goal.device_in-is_preempted-requires
device_in-is_preempted-requires c = ap is_some (advance-at (state_of c.args.self.now) c.args.device c.args.time c.in-Ok.on c.in-Ok.ensures).content

pub put-requires : goal.put-requires
put-requires c = at_below as_device c.args.device c.args.self.now c.in-Ok.on (advance-at (state_of c.args.self.now) c.args.device c.args.time c.in-Ok.on c.in-Ok.ensures).first

pub returns-clause-step : goal.returns-clause-step
returns-clause-step c =
    let s = state_of c.args.self.now in
    let dues = c.in-Ok-all_due.dues.items in
    let test : Places → Bool = λ due. is_out s due.surface in
    let home : is_tick_held s c.in-Ok.on c.args.time ≡ false =
    sym (held_is s c.in-Ok.on c.args.time dues c.in-Ok-all_due.ensures) ∙ (ap (list_any test) (sym c.deref.ensures.value) ∙ (sym c.is_tick_held.ensures ∙ c.if-is_tick_held.false)) in
    let shown : map flipped_of c.in-Ok-flips.flips.items ≡ map (flip_of s c.args.time) (all_due s c.in-Ok.on c.args.time) =
    c.in-Ok-flips.ensures ∙ ap (map (flip_of s c.args.time)) (ap (map due_of) c.deref-2.ensures.value ∙ c.in-Ok-all_due.ensures) in
    λ caller. inr (advances s c.args.device c.args.time c.in-Ok.on (device_of c.device_in-is_preempted.result) (map flipped_of c.in-Ok-flips.flips.items) (state_of c.put.new.self) (state_of c.show_all.new.self)
    c.in-Ok.ensures c.device_in-is_preempted.ensures home shown c.put.ensures
    (c.show_all.ensures ∙ ap (with_all_shown (state_of c.put.new.self) c.args.time) (ap (map due_of) c.deref-3.ensures.value ∙ c.in-Ok-all_due.ensures)))
