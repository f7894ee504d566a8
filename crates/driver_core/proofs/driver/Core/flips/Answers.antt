use Rattle.std.proofs.Common.{slice_get, sym, ap, ◌∙◌}
use Rattle.driver_objects.specs.Kept.{kept_of, made_of}
use Rattle.driver_objects.proofs.Searched.{place_is_one}
use Rattle.driver_core.proofs.AlikeStands.{alike_covers, alike_dues, alike_keeps, alike_needed}
use Rattle.driver_core.proofs.Covering.{all_needed, covers_of, stands_from}
use Rattle.driver_core.proofs.DueQueues.{surface_there}
use Rattle.driver_core.proofs.RolesSound.{roles_sound}
use Rattle.driver_core.proofs.ShownFlips.{if_ok, shows_all}
use Rattle.driver_core.proofs.driver.Core.flips.Goals as goal

pub flips_to-requires : goal.flips_to-requires
flips_to-requires c i due at = surface_there c.args.self.now c.args.on c.args.time i due (ap (λ k. slice_get k i) (sym c.requires) ∙ at)

pub invariant_of-self : goal.invariant_of-self
invariant_of-self c =
    let core = c.args.self.now in
    let objects = c.flips_to.new.objects in
    rw c.flips_to.ensures.made (record { sound = roles_sound core (kept_of objects) core.queues (alike_keeps core (kept_of objects) c.flips_to.ensures.alike (place_is_one objects.names (kept_of objects) (made_of objects) objects.sound)) })

pub returns-clause-stands : goal.returns-clause-stands
returns-clause-stands c d stands =
    let core = c.args.self.now in
    let after = kept_of c.flips_to.new.objects in
    stands_from _ d (alike_covers core after c.flips_to.ensures.alike d (covers_of core d stands)) (alike_needed core after c.flips_to.ensures.alike d (all_needed core d stands))
    (c.flips_to.ensures.made ∙ stands.made) (c.flips_to.ensures.given _ stands.given) stands.jobs stands.idle_queues

pub returns-clause-due : goal.returns-clause-due
returns-clause-due c = c.requires ∙ sym (alike_dues c.args.self.now.queues c.args.on c.args.time (kept_of c.flips_to.new.objects) (kept_of c.args.self.now.objects) c.flips_to.ensures.alike)

pub returns-clause-shows : goal.returns-clause-shows
returns-clause-shows c = if_ok _ _ c.flips_to.result (λ flips is. shows_all c.args.self.now c.args.on c.args.time c.args.dues.now c.requires flips is) c.flips_to.ensures.flips
