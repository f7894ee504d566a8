use Rattle.std.proofs.Common.{◌-◌}
use Rattle.access_units.proofs.LookLemmas.{look_broken, look_nothing, look_unit, pushed, pushed_stands, slice_is, slice_of}
use Rattle.access_units.proofs.acceptor.Acceptor.look.Goals as goal

pub at_end-found-requires : goal.at_end-found-requires
at_end-found-requires c =
    let it = c.requires.reads in
    pushed_stands c.args.self.now it.0 it.2 c.push_slice-taken.result.0 c.push_slice-taken.result.1 c.push_slice-taken.new.self
    (pushed c.args.self.now it.0 it.1 it.2 it.3 it.4 it.5 (slice_of c.deref.result.now (c.args.self.now.looked - c.args.self.now.from)) c.push_slice-taken.result.0 c.push_slice-taken.result.1 c.push_slice-taken.new.self
    (slice_is c.deref.result.now c.args.self.now.bytes.items (c.args.self.now.looked - c.args.self.now.from) c.deref.ensures.value) it.6 c.requires.nothing c.requires.on c.push_slice-taken.ensures.taken c.push_slice-taken.ensures.all c.push_slice-taken.ensures.stands c.push_slice-taken.ensures.settles)
    it.6.size

pub returns-in-Nothing-clause-reads : goal.returns-in-Nothing-clause-reads
returns-in-Nothing-clause-reads c = λ text ended told broken hand front r.
    look_nothing c.args.self.now c.at_end-found.new.self text ended told broken hand front c.push_slice-taken.result.0 c.push_slice-taken.result.1 c.at_end-found.result c.push_slice-taken.new.self
    r c.requires.nothing c.requires.on
    (pushed c.args.self.now text ended told broken hand front (slice_of c.deref.result.now (c.args.self.now.looked - c.args.self.now.from)) c.push_slice-taken.result.0 c.push_slice-taken.result.1 c.push_slice-taken.new.self
    (slice_is c.deref.result.now c.args.self.now.bytes.items (c.args.self.now.looked - c.args.self.now.from) c.deref.ensures.value) r c.requires.nothing c.requires.on c.push_slice-taken.ensures.taken c.push_slice-taken.ensures.all c.push_slice-taken.ensures.stands c.push_slice-taken.ensures.settles)
    c.at_end-found.ensures.kept c.at_end-found.ensures.units c.in-Nothing.is

pub returns-in-Unit-clause-reads : goal.returns-in-Unit-clause-reads
returns-in-Unit-clause-reads c = λ text ended told broken hand front r.
    look_unit c.args.self.now c.at_end-found.new.self text ended told broken hand front c.push_slice-taken.result.0 c.push_slice-taken.result.1 c.at_end-found.result c.push_slice-taken.new.self c.in-Unit.start c.in-Unit.end
    r c.requires.nothing c.requires.on
    (pushed c.args.self.now text ended told broken hand front (slice_of c.deref.result.now (c.args.self.now.looked - c.args.self.now.from)) c.push_slice-taken.result.0 c.push_slice-taken.result.1 c.push_slice-taken.new.self
    (slice_is c.deref.result.now c.args.self.now.bytes.items (c.args.self.now.looked - c.args.self.now.from) c.deref.ensures.value) r c.requires.nothing c.requires.on c.push_slice-taken.ensures.taken c.push_slice-taken.ensures.all c.push_slice-taken.ensures.stands c.push_slice-taken.ensures.settles)
    c.at_end-found.ensures.kept c.at_end-found.ensures.units c.in-Unit.is

pub returns-in-Broken-clause-reads : goal.returns-in-Broken-clause-reads
returns-in-Broken-clause-reads c = λ text ended told broken hand front r.
    look_broken c.args.self.now c.at_end-found.new.self c.break_off.new.self text ended told broken hand front c.push_slice-taken.result.0 c.push_slice-taken.result.1 c.at_end-found.result c.push_slice-taken.new.self c.in-Broken.at
    r c.requires.nothing c.requires.on
    (pushed c.args.self.now text ended told broken hand front (slice_of c.deref.result.now (c.args.self.now.looked - c.args.self.now.from)) c.push_slice-taken.result.0 c.push_slice-taken.result.1 c.push_slice-taken.new.self
    (slice_is c.deref.result.now c.args.self.now.bytes.items (c.args.self.now.looked - c.args.self.now.from) c.deref.ensures.value) r c.requires.nothing c.requires.on c.push_slice-taken.ensures.taken c.push_slice-taken.ensures.all c.push_slice-taken.ensures.stands c.push_slice-taken.ensures.settles)
    c.at_end-found.ensures.kept c.at_end-found.ensures.units c.in-Broken.is
    c.break_off.ensures.hand c.break_off.ensures.within c.break_off.ensures.kept
