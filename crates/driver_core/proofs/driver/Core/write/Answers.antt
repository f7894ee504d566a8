use Rattle.std.proofs.Common.{subst, sym, ap, ◌∙◌}
use Rattle.driver_objects.specs.Kept.{kept_of}
use Rattle.driver_objects.specs.declared.object.Object.{Object}
use Rattle.driver_objects.proofs.Lists.{one_kept}
use Rattle.driver_core.specs.Roles.{SameRole}
use Rattle.driver_core.proofs.ContentStands.{content_stands}
use Rattle.driver_core.proofs.DeadQueues.{dead_stays}
use Rattle.driver_core.proofs.driver.Core.write.Goals as goal

pub returns : goal.returns
returns c d object is stands there same_queues content =
    let core = c.args.self.now in
    let old = c.requires.1 in
    let given = c.give.ensures in
    let role = subst (λ was. SameRole was c.args.content) (sym old.has ∙ ap (λ (x : Object). x.content) (one_kept (kept_of core.objects) c.args.index old.object object old.there there)) c.requires.2 in
    content_stands core d stands c.args.index object there c.args.content is (dead_stays core c.args.index object there _ is c.args.content role content) same_queues _ (given.now object there) given.made given.given given.queues given.jobs content
