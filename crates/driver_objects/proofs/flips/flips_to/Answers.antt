use Rattle.std.proofs.Common.{sym, ◌∙◌}
use Rattle.std.proofs.lemmas.Option.{slice_get-get_or}
use Rattle.driver_objects.specs.Kept.{kept_of}
use Rattle.driver_objects.proofs.Alike.{flip_alike, surface_alike}
use Rattle.driver_objects.proofs.FlipLists.{one_more_flip}
use Rattle.driver_objects.proofs.flips.flips_to.Goals as goal

pub flip_to-requires : goal.flip_to-requires
flip_to-requires c =
    let index = c.loop-due.due-index in
    let below = c.loop-due-test.true in
    surface_alike (kept_of c.args.objects.now) (kept_of c.loop-due.objects) (sym c.loop-due.invariant.0) _ (c.requires index _ (slice_get-get_or c.args.dues.now index _ below))

pub loop-due-preserved : goal.loop-due-preserved
loop-due-preserved c =
    let inv = c.loop-due.invariant in
    let index = c.loop-due.due-index in
    let below = c.loop-due-test.true in
    let dues = c.args.dues.now in
    let kept = kept_of c.args.objects.now in
    let here = slice_get-get_or dues index (record { queue = 0; name = 0; window = 0; number = 0; surface = 0 }) below in
    let flip = flip_alike (kept_of c.loop-due.objects) kept inv.0 c.args.time _ c.in_ok-flip.flip c.in_ok-flip.ensures.flip in
    let more = one_more_flip kept c.args.time dues c.loop-due.list.items index inv.3 inv.4 _ here c.in_ok-flip.flip flip c.push.new.self.items c.in_ok-push.ensures.items in (
      c.flip_to.ensures.alike ∙ inv.0,
      c.flip_to.ensures.made ∙ inv.1,
      (λ names given. c.flip_to.ensures.given names (inv.2 names given)),
      more.0,
      more.1,
    )
