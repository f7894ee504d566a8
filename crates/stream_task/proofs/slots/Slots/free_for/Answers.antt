use Rattle.std.proofs.Common.{◌≡◌, length, slice_index_or, None, true, not, rules, arith, ap, ◌∙◌}
use Rattle.std.specs.Option.{is_some}
use Rattle.stream_task.proofs.Free.{none_taken}
use Rattle.stream_task.proofs.slots.Slots.free_for.Goals as goal

pub unreachable-requires : goal.unreachable-requires
unreachable-requires c =
    let slots = c.args.self.now in
    let places : length slots.waits ≡ 34 = first_of (search rules, omega arith) in
    let numbers : length slots.of_number ≡ 17 = first_of (search rules, omega arith) in
    let last : is_some (slice_index_or slots.waits (slice_index_or slots.of_number c.args.number 0) None) ≡ true =
    c.is_none.ensures ∙ ap not c.if-is_none.false in
    none_taken slots.of_number slots.waits c.args.number places numbers c.requires.number c.requires.few last
    (λ k under. c.loop-surface.invariant k (omega (arith, under, c.loop-surface-test.false)))
