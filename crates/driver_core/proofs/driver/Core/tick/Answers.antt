use Rattle.std.proofs.Common.{◌≡◌, slice_get, refl, sym, ap, ◌∙◌}
use Rattle.std.specs.List.{filter}
use Rattle.driver_objects.specs.Kept.{kept_of, made_of}
use Rattle.driver_objects.specs.Swept.{is_wanted}
use Rattle.driver_objects.specs.Ticks.{all_noted, all_ticked}
use Rattle.driver_objects.proofs.Searched.{place_is_one}
use Rattle.driver_core.proofs.DueQueues.{number_within}
use Rattle.driver_core.proofs.RolesSound.{roles_sound}
use Rattle.driver_core.proofs.TickedSound.{noted_all, queues_after, swept, ticked_keeps, ticked_within}
use Rattle.driver_core.proofs.TickedStands.{ticked_at_stands}
use Rattle.driver_core.proofs.driver.Core.tick.Goals as goal

pub show_all-requires : goal.show_all-requires
show_all-requires c i due at = number_within c.args.self.now c.args.on c.args.time i due (ap (λ k. slice_get k i) (sym c.requires) ∙ at)

pub sweep-requires : goal.sweep-requires
sweep-requires c =
    ticked_within c.args.self.now c.args.on c.args.time (kept_of c.show_all.new.objects) (c.show_all.ensures.kept ∙ λ i. all_noted c.args.time (c.requires i) (c.set_time.ensures.kept i))

pub invariant_of-self : goal.invariant_of-self
invariant_of-self c =
    let core = c.args.self.now in
    let objects = c.sweep.new.objects in
    let kept : kept_of c.show_all.new.objects ≡ noted_all core c.args.on c.args.time = c.show_all.ensures.kept ∙ λ i. all_noted c.args.time (c.requires i) (c.set_time.ensures.kept i) in
    let queues : c.show_all.new.queues ≡ queues_after core c.args.on c.args.time = c.show_all.ensures.queues ∙ ap (λ ds. all_ticked c.args.time ds core.queues) c.requires in
    let stays : kept_of objects ≡ swept core c.args.on c.args.time = c.sweep.ensures.kept ∙ λ i. filter (is_wanted (queues i)) (kept i) in
    let one_place = place_is_one objects.names (kept_of objects) (made_of objects) objects.sound in
    let keeps = ticked_keeps core c.args.on c.args.time (λ i j a b at bt e. one_place i j a b (ap (λ k. slice_get k i) stays ∙ at) (ap (λ k. slice_get k j) stays ∙ bt) e) in
    rw (stays, c.sweep.ensures.made, c.show_all.ensures.made, c.set_time.ensures.made, queues) (record { sound = roles_sound core (swept core c.args.on c.args.time) (queues_after core c.args.on c.args.time) keeps })

pub returns : goal.returns
returns c d of stands place has =
    let core = c.args.self.now in
    let objects = c.sweep.new.objects in
    let kept : kept_of c.show_all.new.objects ≡ noted_all core c.args.on c.args.time = c.show_all.ensures.kept ∙ λ i. all_noted c.args.time (c.requires i) (c.set_time.ensures.kept i) in
    let queues : c.show_all.new.queues ≡ queues_after core c.args.on c.args.time = c.show_all.ensures.queues ∙ ap (λ ds. all_ticked c.args.time ds core.queues) c.requires in
    let stays : kept_of objects ≡ swept core c.args.on c.args.time = c.sweep.ensures.kept ∙ λ i. filter (is_wanted (queues i)) (kept i) in
    let one_place = place_is_one objects.names (kept_of objects) (made_of objects) objects.sound in
    let keeps = ticked_keeps core c.args.on c.args.time (λ i j a b at bt e. one_place i j a b (ap (λ k. slice_get k i) stays ∙ at) (ap (λ k. slice_get k j) stays ∙ bt) e) in
    ticked_at_stands core _ c.args.time d stands of c.args.on place has keeps stays (c.sweep.ensures.made ∙ (c.show_all.ensures.made ∙ c.set_time.ensures.made))
    (λ names given. c.sweep.ensures.given names (c.show_all.ensures.given names (c.set_time.ensures.given names given))) queues refl
