use Rattle.std.proofs.Common.{rules}
use Rattle.std.proofs.lemmas.List.Sorted.{answers_always}
use Rattle.driver_objects.specs.Sound.{IsSound}
use Rattle.driver_objects.proofs.Searched.{places_rise, searched_none, searched_some}
use Rattle.driver_objects.proofs.objects.Objects.at.Goals as goal

pub returns-in-Ok : goal.returns-in-Ok
returns-in-Ok c =
    let found = c.in-Ok.ensures.position (λ object. object.place) (answers_always _ _ _ (λ f a r g called. search rules)) in
    rw (← c.deref.ensures.value) (searched_some c.args.self.now.names c.deref.result.now c.args.self.now.made (rw c.deref.ensures.value c.args.self.now.sound) c.args.place c.in-Ok.index c.in-Ok.ensures.bound found)

pub returns-in-Err : goal.returns-in-Err
returns-in-Err c =
    let sound : IsSound c.args.self.now.names c.deref.result.now c.args.self.now.made = rw c.deref.ensures.value c.args.self.now.sound in
    let parted = c.in-Err.ensures.position (λ object. object.place) (answers_always _ _ _ (λ f a r g called. search rules)) (places_rise c.args.self.now.names c.deref.result.now c.args.self.now.made sound c.args.place) in
    rw (← c.deref.ensures.value) (searched_none c.args.self.now.names c.deref.result.now c.args.self.now.made sound c.args.place c.in-Err.field-0 parted.0 parted.1)
