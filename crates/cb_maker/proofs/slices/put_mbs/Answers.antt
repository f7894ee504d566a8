use Rattle.std.proofs.Common.{arith, ◌≤◌, length}
use Rattle.cb_maker.proofs.Puts.{all_put, more_put, none_put}
use Rattle.cb_maker.proofs.slices.put_mbs.Goals as goal

pub loop-behind-init : goal.loop-behind-init
loop-behind-init c =
    let within : c.args.header.now.first_mb ≤ length c.args.mbs.now.items = omega (arith, c.requires.before, c.args.mbs.now.ok.0) in
    none_put c.new-slice.result c.args.header.now.first_mb c.args.mbs.now.items _ _ within c.truncate.ensures.items

pub loop-behind-preserved : goal.loop-behind-preserved
loop-behind-preserved c = more_put c.new-slice.result c.args.header.now.first_mb c.loop-behind.behind _ c.loop-behind.draws.state _ c.loop-behind.mbs.items _ c.macroblock.result c.loop-behind.invariant c.macroblock.ensures c.in_ok-push.ensures.items

pub returns : goal.returns
returns c = record {
  drawn = all_put c.args.header.now c.new-slice.result c.loop-behind.behind c.args.draws.now.state c.loop-behind.draws.state c.loop-behind.mbs.items c.new-slice.ensures (omega arith) c.loop-behind.invariant;
  length = omega (arith, c.loop-behind.invariant.size, c.loop-behind.mbs.ok.0);
}
