use Rattle.std.proofs.Common.{refl, ◌==◌, nat_lt, eq-eqb, ne_eqb, lt-ltb, le-ltb}
use Rattle.cb_maker.proofs.Drawing.{when_false, when_true}
use Rattle.cb_maker.specs.Draws.{Made}
use Rattle.cb_maker.specs.Kinds.{drawn_four, drawn_four_first, drawn_in_p, drawn_intra16, drawn_intra4, drawn_tall, drawn_whole, drawn_wide}
use Rattle.cb_types.specs.declared.macroblock.MbKind.TheVariants.{Skip}
use Rattle.cb_maker.proofs.kinds.kind_in_p.Goals as goal

pub returns-then-number-lt7 : goal.returns-then-number-lt7
unfolding drawn_in_p
returns-then-number-lt7 c = when_true (nat_lt c.args.number 7) (Made Skip) _ _ _ (lt-ltb c.args.number 7 c.if-number-lt7.true) refl

pub returns-then-number-lt10 : goal.returns-then-number-lt10
unfolding drawn_in_p
returns-then-number-lt10 c = when_false (nat_lt c.args.number 7) (Made Skip) _ _ _ (le-ltb c.args.number 7 c.if-number-lt7.false) (when_true (nat_lt c.args.number 10) (drawn_whole c.args.slice.now) _ _ _ (lt-ltb c.args.number 10 c.if-number-lt10.true) c.whole.ensures)

pub returns-then-number-lt12 : goal.returns-then-number-lt12
unfolding drawn_in_p
returns-then-number-lt12 c = when_false (nat_lt c.args.number 7) (Made Skip) _ _ _ (le-ltb c.args.number 7 c.if-number-lt7.false) (when_false (nat_lt c.args.number 10) (drawn_whole c.args.slice.now) _ _ _ (le-ltb c.args.number 10 c.if-number-lt10.false) (when_true (nat_lt c.args.number 12) (drawn_wide c.args.slice.now) _ _ _ (lt-ltb c.args.number 12 c.if-number-lt12.true) c.wide.ensures))

pub returns-then-number-lt14 : goal.returns-then-number-lt14
unfolding drawn_in_p
returns-then-number-lt14 c = when_false (nat_lt c.args.number 7) (Made Skip) _ _ _ (le-ltb c.args.number 7 c.if-number-lt7.false) (when_false (nat_lt c.args.number 10) (drawn_whole c.args.slice.now) _ _ _ (le-ltb c.args.number 10 c.if-number-lt10.false) (when_false (nat_lt c.args.number 12) (drawn_wide c.args.slice.now) _ _ _ (le-ltb c.args.number 12 c.if-number-lt12.false) (when_true (nat_lt c.args.number 14) (drawn_tall c.args.slice.now) _ _ _ (lt-ltb c.args.number 14 c.if-number-lt14.true) c.tall.ensures)))

pub returns-then-number-lt16 : goal.returns-then-number-lt16
unfolding drawn_in_p
returns-then-number-lt16 c = when_false (nat_lt c.args.number 7) (Made Skip) _ _ _ (le-ltb c.args.number 7 c.if-number-lt7.false) (when_false (nat_lt c.args.number 10) (drawn_whole c.args.slice.now) _ _ _ (le-ltb c.args.number 10 c.if-number-lt10.false) (when_false (nat_lt c.args.number 12) (drawn_wide c.args.slice.now) _ _ _ (le-ltb c.args.number 12 c.if-number-lt12.false) (when_false (nat_lt c.args.number 14) (drawn_tall c.args.slice.now) _ _ _ (le-ltb c.args.number 14 c.if-number-lt14.false) (when_true (nat_lt c.args.number 16) (drawn_four c.args.slice.now) _ _ _ (lt-ltb c.args.number 16 c.if-number-lt16.true) c.four.ensures))))

pub returns-then-number-eq16 : goal.returns-then-number-eq16
unfolding drawn_in_p
returns-then-number-eq16 c = when_false (nat_lt c.args.number 7) (Made Skip) _ _ _ (le-ltb c.args.number 7 c.if-number-lt7.false) (when_false (nat_lt c.args.number 10) (drawn_whole c.args.slice.now) _ _ _ (le-ltb c.args.number 10 c.if-number-lt10.false) (when_false (nat_lt c.args.number 12) (drawn_wide c.args.slice.now) _ _ _ (le-ltb c.args.number 12 c.if-number-lt12.false) (when_false (nat_lt c.args.number 14) (drawn_tall c.args.slice.now) _ _ _ (le-ltb c.args.number 14 c.if-number-lt14.false) (when_false (nat_lt c.args.number 16) (drawn_four c.args.slice.now) _ _ _ (le-ltb c.args.number 16 c.if-number-lt16.false) (when_true (c.args.number == 16) drawn_four_first _ _ _ (eq-eqb c.args.number 16 c.if-number-eq16.true) c.four_first.ensures)))))

pub returns-then-number-eq17 : goal.returns-then-number-eq17
unfolding drawn_in_p
returns-then-number-eq17 c = when_false (nat_lt c.args.number 7) (Made Skip) _ _ _ (le-ltb c.args.number 7 c.if-number-lt7.false) (when_false (nat_lt c.args.number 10) (drawn_whole c.args.slice.now) _ _ _ (le-ltb c.args.number 10 c.if-number-lt10.false) (when_false (nat_lt c.args.number 12) (drawn_wide c.args.slice.now) _ _ _ (le-ltb c.args.number 12 c.if-number-lt12.false) (when_false (nat_lt c.args.number 14) (drawn_tall c.args.slice.now) _ _ _ (le-ltb c.args.number 14 c.if-number-lt14.false) (when_false (nat_lt c.args.number 16) (drawn_four c.args.slice.now) _ _ _ (le-ltb c.args.number 16 c.if-number-lt16.false) (when_false (c.args.number == 16) drawn_four_first _ _ _ (ne_eqb c.args.number 16 c.if-number-eq16.false) (when_true (c.args.number == 17) (drawn_intra4 c.args.slice.now c.args.mb) _ _ _ (eq-eqb c.args.number 17 c.if-number-eq17.true) c.intra4.ensures))))))

pub returns-then-number-eq18 : goal.returns-then-number-eq18
unfolding drawn_in_p
returns-then-number-eq18 c = when_false (nat_lt c.args.number 7) (Made Skip) _ _ _ (le-ltb c.args.number 7 c.if-number-lt7.false) (when_false (nat_lt c.args.number 10) (drawn_whole c.args.slice.now) _ _ _ (le-ltb c.args.number 10 c.if-number-lt10.false) (when_false (nat_lt c.args.number 12) (drawn_wide c.args.slice.now) _ _ _ (le-ltb c.args.number 12 c.if-number-lt12.false) (when_false (nat_lt c.args.number 14) (drawn_tall c.args.slice.now) _ _ _ (le-ltb c.args.number 14 c.if-number-lt14.false) (when_false (nat_lt c.args.number 16) (drawn_four c.args.slice.now) _ _ _ (le-ltb c.args.number 16 c.if-number-lt16.false) (when_false (c.args.number == 16) drawn_four_first _ _ _ (ne_eqb c.args.number 16 c.if-number-eq16.false) (when_false (c.args.number == 17) (drawn_intra4 c.args.slice.now c.args.mb) _ _ _ (ne_eqb c.args.number 17 c.if-number-eq17.false) (when_true (c.args.number == 18) (drawn_intra16 c.args.slice.now c.args.mb) _ _ _ (eq-eqb c.args.number 18 c.if-number-eq18.true) c.intra16.ensures)))))))

pub returns-else-number-eq18 : goal.returns-else-number-eq18
unfolding drawn_in_p
returns-else-number-eq18 c = when_false (nat_lt c.args.number 7) (Made Skip) _ _ _ (le-ltb c.args.number 7 c.if-number-lt7.false) (when_false (nat_lt c.args.number 10) (drawn_whole c.args.slice.now) _ _ _ (le-ltb c.args.number 10 c.if-number-lt10.false) (when_false (nat_lt c.args.number 12) (drawn_wide c.args.slice.now) _ _ _ (le-ltb c.args.number 12 c.if-number-lt12.false) (when_false (nat_lt c.args.number 14) (drawn_tall c.args.slice.now) _ _ _ (le-ltb c.args.number 14 c.if-number-lt14.false) (when_false (nat_lt c.args.number 16) (drawn_four c.args.slice.now) _ _ _ (le-ltb c.args.number 16 c.if-number-lt16.false) (when_false (c.args.number == 16) drawn_four_first _ _ _ (ne_eqb c.args.number 16 c.if-number-eq16.false) (when_false (c.args.number == 17) (drawn_intra4 c.args.slice.now c.args.mb) _ _ _ (ne_eqb c.args.number 17 c.if-number-eq17.false) (when_false (c.args.number == 18) (drawn_intra16 c.args.slice.now c.args.mb) _ _ _ (ne_eqb c.args.number 18 c.if-number-eq18.false) (c.pcm.ensures))))))))
