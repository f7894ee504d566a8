use Rattle.std.proofs.Common.{arith}
use Rattle.driver_objects.proofs.Made.{forgotten_sound}
use Rattle.driver_objects.proofs.objects.Objects.forget.Goals as goal

pub invariant_of-self : goal.invariant_of-self
invariant_of-self c =
    let o = c.args.self.now in
    rw c.remove.ensures.items (record { sound = forgotten_sound o.names o.kept.items o.made o.sound c.args.index c.requires.object c.requires.stands (grind (arith, c.requires.passes)) })
