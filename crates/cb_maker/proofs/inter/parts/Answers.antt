use Rattle.std.proofs.Common.{refl}
use Rattle.cb_maker.proofs.Drawing.{after}
use Rattle.cb_maker.specs.Kinds.{drawn_parts}
use Rattle.cb_maker.proofs.inter.parts.Goals as goal

pub returns : goal.returns
unfolding drawn_parts
returns c = after _ _ _ _ _ _ c.reference-first.ensures (after _ _ _ _ _ _ c.reference-second.ensures (after _ _ _ _ _ _ c.vector-first_delta.ensures (after _ _ _ _ _ _ c.vector-second_delta.ensures refl)))
