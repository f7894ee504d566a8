use Rattle.std.proofs.Common.{◌≤◌, length, arith, rules}
use Rattle.bit_io.proofs.WriteLemmas.{nonempty, filled, unfilled}
use Rattle.bit_io.proofs.writer.fill.Goals as goal

pub overflow_sub-len : goal.overflow_sub-len
overflow_sub-len c =
    let within : c.args.len ≤ length c.args.bytes.now.items = search rules in
    nonempty c.args.bytes.now.items c.args.len c.args.free within c.requires.free c.if-free-gt0.true

pub index_mut-requires : goal.index_mut-requires
index_mut-requires c =
    let within : c.args.len ≤ length c.args.bytes.now.items = search rules in
    omega (arith, nonempty c.args.bytes.now.items c.args.len c.args.free within c.requires.free c.if-free-gt0.true)

pub returns-then-free-gt0-clause-bits : goal.returns-then-free-gt0-clause-bits
returns-then-free-gt0-clause-bits c =
    let within : c.args.len ≤ length c.args.bytes.now.items = search rules in
    filled c.args.bytes.now.items c.args.len c.args.free c.args.value c.index_mut.result.now within c.requires.free c.if-free-gt0.true c.requires.value c.index_mut.ensures.value

pub returns-else-free-gt0-clause-bits : goal.returns-else-free-gt0-clause-bits
returns-else-free-gt0-clause-bits c = unfilled c.args.bytes.now.items c.args.len c.args.free c.args.value c.requires.free c.if-free-gt0.false
