use Rattle.std.proofs.Common.{refl}
use Rattle.driver_objects.specs.Kept.{kept_of}
use Rattle.driver_objects.proofs.Alike.{shared_alike}
use Rattle.driver_core.proofs.SharedStands.{shared_sound, shared_stands}
use Rattle.driver_core.proofs.driver.Core.share_samples.Goals as goal

pub invariant_of-self : goal.invariant_of-self
invariant_of-self c =
    let core = c.args.self.now in
    rw c.lend_samples.ensures.made
    (record { sound = shared_sound core c.args.index _ c.lend_samples.ensures.shares })

pub returns-clause-shares : goal.returns-clause-shares
returns-clause-shares c =
    let core = c.args.self.now in
    let s = c.lend_samples.ensures.shares in
    record {
      alike = shared_alike (kept_of core.objects) _ c.args.index s;
      queues = refl;
      jobs = refl;
      stands = shared_stands core c.args.index _ s c.lend_samples.ensures.made c.lend_samples.ensures.given refl refl;
    }
