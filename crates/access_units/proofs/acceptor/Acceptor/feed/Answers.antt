use Rattle.std.specs.Prelude.{Err, Ok, OnErr, Result}
use Rattle.access_units.specs.Acceptors.{Past}
use Rattle.access_units.specs.Standing.{StandsFor}
use Rattle.access_units.proofs.FeedStands.{empty_bytes, some_bytes, stands_ended, stands_fed, stands_unfed}
use Rattle.access_units.proofs.acceptor.Acceptor.feed.Goals as goal

on_err : {T E : Type 0} (r : Result T E) (P : Type 0) → P → OnErr r P
on_err (Ok value) P holds = tt
on_err (Err fault) P holds = holds

pub returns-then-is_empty-clause-fed : goal.returns-then-is_empty-clause-fed
returns-then-is_empty-clause-fed c = λ past s may. stands_ended c.args.self.now past c.args.bytes.now (empty_bytes c.args.bytes.now c.if-is_empty.ensures) s may

pub returns-in_err-extend_from_slice-clause-untouched : goal.returns-in_err-extend_from_slice-clause-untouched
returns-in_err-extend_from_slice-clause-untouched c =
    on_err c.from_residual.result ((past : Past) → StandsFor c.args.self.now past → StandsFor (record (c.forget.new.self) { bytes = c.extend_from_slice.new.self }) past)
    (λ past s. stands_unfed c.args.self.now c.forget.new.self c.extend_from_slice.new.self past s c.forget.ensures.reads c.forget.ensures.rest c.in_err-extend_from_slice.ensures.items)

pub returns-clause-fed : goal.returns-clause-fed
returns-clause-fed c = λ past s may.
    stands_fed c.args.self.now c.forget.new.self c.extend_from_slice.new.self past c.args.bytes.now (some_bytes c.args.bytes.now c.if-is_empty.ensures) s may c.forget.ensures.reads c.forget.ensures.rest c.in_ok-extend_from_slice.ensures.items
