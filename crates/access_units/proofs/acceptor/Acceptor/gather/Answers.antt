use Rattle.std.proofs.Common.{true, sym}
use Rattle.access_units.proofs.GatherLemmas.{further_on, keeps_further, ok_value, ready_last, ready_opened, reading_on, rest_on, rest_taken, some_opened_test, none_opened_test, taken_further}
use Rattle.access_units.proofs.acceptor.Acceptor.gather.Goals as goal

pub wants_unit-requires : goal.wants_unit-requires
wants_unit-requires c = reading_on c.args.self.now c.loop-self.self c.loop-self.invariant.further c.requires

pub take_in-requires : goal.take_in-requires
take_in-requires c =
    reading_on c.args.self.now c.wants_unit.new.self (further_on c.args.self.now c.loop-self.self c.wants_unit.new.self c.loop-self.invariant.further c.wants_unit.ensures.reads) c.requires

pub loop-self-preserved : goal.loop-self-preserved
loop-self-preserved c =
    let wanted = c.wants_unit.ensures.yes c.loop-self-test.true in
    record {
      further = further_on c.args.self.now c.wants_unit.new.self c.take_in.new.self
          (further_on c.args.self.now c.loop-self.self c.wants_unit.new.self c.loop-self.invariant.further c.wants_unit.ensures.reads)
          (taken_further c.wants_unit.new.self c.take_in.new.self wanted.0 wanted.1 c.in_ok-take_in.ensures.taken);
      rest = rest_on c.args.self.now c.wants_unit.new.self c.take_in.new.self
          (rest_on c.args.self.now c.loop-self.self c.wants_unit.new.self c.loop-self.invariant.rest c.wants_unit.ensures.rest)
          (rest_taken c.wants_unit.new.self c.take_in.new.self c.take_in.ensures.rest);
    }

pub returns-in_err-take_in-clause-reads : goal.returns-in_err-take_in-clause-reads
returns-in_err-take_in-clause-reads c =
    further_on c.args.self.now c.wants_unit.new.self c.take_in.new.self
    (further_on c.args.self.now c.loop-self.self c.wants_unit.new.self c.loop-self.invariant.further c.wants_unit.ensures.reads)
    (keeps_further c.wants_unit.new.self c.take_in.new.self c.in_err-take_in.ensures.untouched)

pub returns-then-is_some-clause-reads : goal.returns-then-is_some-clause-reads
returns-then-is_some-clause-reads c =
    further_on c.args.self.now c.loop-self.self c.wants_unit.new.self c.loop-self.invariant.further c.wants_unit.ensures.reads

pub returns-then-is_some-clause-ready : goal.returns-then-is_some-clause-ready
returns-then-is_some-clause-ready c = λ e.
    ready_opened c.wants_unit.new.self
    (reading_on c.args.self.now c.wants_unit.new.self (further_on c.args.self.now c.loop-self.self c.wants_unit.new.self c.loop-self.invariant.further c.wants_unit.ensures.reads) c.requires)
    (c.wants_unit.ensures.no c.loop-self-test.false)
    (some_opened_test c.wants_unit.new.self.opened c.is_some.result (sym c.is_some.ensures) c.if-is_some.true)

pub returns-clause-reads : goal.returns-clause-reads
returns-clause-reads c =
    further_on c.args.self.now c.loop-self.self c.wants_unit.new.self c.loop-self.invariant.further c.wants_unit.ensures.reads

pub returns-clause-ready : goal.returns-clause-ready
returns-clause-ready c = λ e.
    ready_last c.wants_unit.new.self (c.wants_unit.ensures.no c.loop-self-test.false)
    (none_opened_test c.wants_unit.new.self.opened c.is_some.result (sym c.is_some.ensures) c.if-is_some.false)
    (c.has_last.ensures.yes (ok_value c.has_last.result true e))
