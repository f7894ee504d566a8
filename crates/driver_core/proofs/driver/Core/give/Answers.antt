use Rattle.std.proofs.Common.{subst, sym}
use Rattle.driver_objects.specs.Kept.{kept_of, made_of}
use Rattle.driver_core.specs.Roles.{SameRole}
use Rattle.driver_core.proofs.ContentSound.{content_sound}
use Rattle.driver_core.proofs.driver.Core.give.Goals as goal

pub invariant_of-self : goal.invariant_of-self
invariant_of-self c =
    let core = c.args.self.now in
    let old = c.requires.1 in
    let role = subst (λ was. SameRole was c.args.content) (sym old.has) c.requires.2 in
    rw (c.replace.ensures.now old.object old.there, c.replace.ensures.made)
    (record { sound = content_sound (kept_of core.objects) (made_of core.objects) core.queues core.jobs.items core.sound c.args.index old.object c.args.content old.there role c.requires.3 })
