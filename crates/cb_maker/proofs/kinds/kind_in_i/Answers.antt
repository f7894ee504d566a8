use Rattle.std.proofs.Common.{◌==◌, nat_lt, eq-eqb, ne_eqb, lt-ltb, le-ltb}
use Rattle.cb_maker.proofs.Drawing.{when_false, when_true}
use Rattle.cb_maker.specs.Kinds.{drawn_in_i, drawn_intra16, drawn_pcm}
use Rattle.cb_maker.proofs.kinds.kind_in_i.Goals as goal

pub returns-then-number-eq0 : goal.returns-then-number-eq0
unfolding drawn_in_i
returns-then-number-eq0 c = when_true (c.args.number == 0) drawn_pcm _ _ _ (eq-eqb c.args.number 0 c.if-number-eq0.true) c.pcm.ensures

pub returns-then-number-lt10 : goal.returns-then-number-lt10
unfolding drawn_in_i
returns-then-number-lt10 c = when_false (c.args.number == 0) drawn_pcm _ _ _ (ne_eqb c.args.number 0 c.if-number-eq0.false) (when_true (nat_lt c.args.number 10) (drawn_intra16 c.args.slice.now c.args.mb) _ _ _ (lt-ltb c.args.number 10 c.if-number-lt10.true) c.intra16.ensures)

pub returns-else-number-lt10 : goal.returns-else-number-lt10
unfolding drawn_in_i
returns-else-number-lt10 c = when_false (c.args.number == 0) drawn_pcm _ _ _ (ne_eqb c.args.number 0 c.if-number-eq0.false) (when_false (nat_lt c.args.number 10) (drawn_intra16 c.args.slice.now c.args.mb) _ _ _ (le-ltb c.args.number 10 c.if-number-lt10.false) (c.intra4.ensures))
