use Rattle.std.proofs.Common.{◌≤◌, ◌*◌, ◌%◌, vec_len}
use Rattle.cb_maker.proofs.Added.{AddedSo}
use Rattle.cb_maker.proofs.stream.put_slices.Given as goal

abbrev pub invariant-loop-slice : goal.invariant-loop-slice
invariant-loop-slice l = AddedSo l.number l.slice l.initial.units.items l.units.items l.draws.state × (132 * (l.slice % 3) ≤ vec_len l.mbs)
