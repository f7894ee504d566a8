use Rattle.std.proofs.Common.{◌+◌, ℕ, List, arith, subst}
use Rattle.std.proofs.lemmas.List.{take_rest}
use Rattle.clock_script.proofs.Parts.{IsFirst}
use Rattle.clock_script.proofs.Preemptions.{IsNumberOf, no_space, preemption_read}
use Rattle.clock_script.proofs.lines.read_preemption.Goals as goal

pub returns-then-space-text : goal.returns-then-space-text
returns-then-space-text c = λ time stream range is.
    let first : IsFirst 32 c.args.text.now c.find-space.result = record { within = c.find-space.ensures.within; before = c.find-space.ensures.before; there = c.find-space.ensures.there } in
    no_space c.args.text.now c.find-space.result time stream range first c.if-space-text.true is

pub returns : goal.returns
returns c =
    let first : IsFirst 32 c.args.text.now c.find-space.result = record { within = c.find-space.ensures.within; before = c.find-space.ensures.before; there = c.find-space.ensures.there } in
    rw c.preemption.ensures (preemption_read c.args.text.now c.find-space.result c.read_number.result c.read_number-2.result (omega (arith, c.if-space-text.false, c.find-space.ensures.within)) first c.read_number.ensures (subst (λ (t : List ℕ). IsNumberOf t c.read_number-2.result) (take_rest c.args.text.now (c.find-space.result + 1)) c.read_number-2.ensures))
