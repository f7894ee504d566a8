use Rattle.std.proofs.Common.{◌≡◌, length, map, inl, inr, refl, ◌∙◌, arith}
use Rattle.std.proofs.lemmas.Bool.Decides.{nat_tests}
use Rattle.vd_status.specs.declared.refusal.Refusal.TheVariants.{HandlesFull}
use Rattle.driver_model.specs.Creates.{live_objects}
use Rattle.driver_model.specs.Objects as model
use Rattle.driver_objects.specs.Kept.{kept_of, made_of}
use Rattle.driver_core.proofs.AddSound.{kind_of_name, sound_after}
use Rattle.driver_core.proofs.AddStands.{added_stands}
use Rattle.driver_core.proofs.Live.{live_all, not_given}
use Rattle.driver_core.proofs.driver.Core.add.Goals as goal

pub invariant_of-self : goal.invariant_of-self
invariant_of-self c =
    let core = c.args.self.now in
    let e = c.add.ensures in
    record {
      sound = sound_after (kept_of core.objects) (kept_of c.add.new.self) (made_of core.objects) (made_of c.add.new.self) core.queues core.jobs.items core.sound
          c.args.kind c.args.device c.args.content c.requires.may c.add.result e.form e.added e.made e.kept_as_was e.made_as_was;
    }

pub returns-in-Ok-clause-ok : goal.returns-in-Ok-clause-ok
returns-in-Ok-clause-ok c =
    let core = c.args.self.now in
    let e = c.in-Ok.ensures in
    record {
      of_kind = kind_of_name c.args.kind c.in-Ok.name e.form;
      room = λ d stands. let live = live_all core d stands in grind (arith, nat_tests, live, e.few);
      fresh = λ d stands. not_given d c.in-Ok.name (e.fresh (map (λ (o : model.Object). o.name) d.objects) stands.given);
      stands = λ d content stands queued is. added_stands core d stands c.in-Ok.name c.args.device c.args.content content _ e.added e.made e.given refl refl queued is;
    }

pub returns-in-Err-Full-clause-full : goal.returns-in-Err-Full-clause-full
returns-in-Err-Full-clause-full c =
    let core = c.args.self.now in
    let only = rw c.in-Err-Full.field-0-is at c.in-Err-Full.ensures.full_only in
    let told = rw c.in-Err-Full.field-0-is at c.in-Err-Full.ensures.told in
    inr (λ d stands.
    let live : c.in-Err-Full.live ≡ live_objects d = told.0 ∙ live_all core d stands in
    let given : c.in-Err-Full.given ≡ length d.objects = told.1 ∙ stands.made in (
      λ i. HandlesFull (live i) (given i),
      elim only [
        | inl full ↦ inl (grind (arith, nat_tests, live, full))
        | inr many ↦ inr (omega (arith, given, many))
      ],
    ))
