use Rattle.cb_maker.proofs.Puts.{PutSo}
use Rattle.cb_maker.proofs.slices.put_mbs.Given as goal

abbrev pub invariant-loop-behind : goal.invariant-loop-behind
invariant-loop-behind l = PutSo l.slice l.header.first_mb l.behind l.mbs.items l.initial.draws.state l.draws.state
