use Rattle.std.proofs.Common.{◌≡◌, map, slice_get, Some, refl, ap, ◌∙◌}
use Rattle.driver_model.specs.States.{free_number}
use Rattle.driver_objects.specs.Kept.{kept_of}
use Rattle.driver_objects.specs.declared.jobs.OutJob.{OutJob}
use Rattle.driver_objects.specs.declared.object.Object.{Object}
use Rattle.driver_objects.proofs.Lists.{one_kept}
use Rattle.driver_core.proofs.NotedStands.{noted_stands}
use Rattle.driver_core.proofs.Noting.{bytes_stand, picture_stands}
use Rattle.driver_core.proofs.driver.Core.note.Goals as goal

pub returns : goal.returns
returns c =
    let core = c.args.self.now in
    let numbered = c.free_number-number.ensures ∙ ap (λ jobs. free_number (map (λ (job : OutJob). job.number) jobs)) c.deref.ensures.value in
    let here : (object : Object) → slice_get (kept_of core.objects) c.args.index ≡ Some object → c.object.result.now.place ≡ object.place =
    λ object there. ap (λ (o : Object). o.place) (one_kept (kept_of core.objects) c.args.index c.object.result.now object c.object.ensures there) in
    record {
      numbered = numbered;
      picture = λ d caller object content stands there has. picture_stands core d stands caller c.args.index object there _ _ refl refl c.push_reserved.ensures numbered (here object there) content has;
      bytes = λ d caller object content stands there has. bytes_stand core d stands caller c.args.index object there _ _ refl refl c.push_reserved.ensures numbered (here object there) content has;
      nothing = λ d caller object outcome stands there. noted_stands core d stands caller object.place outcome _ _ refl refl c.push_reserved.ensures numbered (here object there);
    }
