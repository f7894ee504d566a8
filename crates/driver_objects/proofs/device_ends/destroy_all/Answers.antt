use Rattle.std.proofs.Common.{◌≡◌, ◌<◌, ◌≤◌, ℕ, Some, length, set, slice_get, ap, sym, ◌∙◌, subst, arith}
use Rattle.driver_objects.specs.DeviceEnds.{without_queue}
use Rattle.driver_objects.specs.Kept.{IsGiven, kept_of, made_of}
use Rattle.driver_objects.specs.Kinds.{number_of}
use Rattle.driver_objects.specs.Listed.{destroyed}
use Rattle.driver_objects.specs.declared.object.Object.{Object}
use Rattle.driver_objects.proofs.Ending.{ends_emptied, ends_hit, ends_kept, ends_past, read_there}
use Rattle.driver_objects.proofs.Lists.{one_kept}
use Rattle.driver_objects.proofs.device_ends.destroy_all.Goals as goal
use Rattle.driver_objects.proofs.device_ends.destroy_all.Goals.{then-is_live_on, else-is_live_on}

pub loop-index-preserved : goal.loop-index-preserved
loop-index-preserved c =
    let before = kept_of c.args.objects.now in
    let queues_before = c.args.queues.now in
    let ends = c.loop-index.invariant.0 in
    let index = c.loop-index.index in
    let kept = kept_of c.loop-index.objects in
    let queues = c.loop-index.queues in
    let object = c.index-kept-index.result in
    let test = c.loop-index-test.true in
    let below : index < length kept = omega (arith, test, ap length c.kept-index-end.ensures, ends.length_same) in
    let there : slice_get kept index ≡ Some object = read_there kept c.kept.result.now index object below c.kept.ensures c.index-kept-index.is in
    elim c.if-is_live_on.branch [
      | then-is_live_on w ↦
          let hit = sym c.is_live_on.ensures ∙ w.if-is_live_on.true in
          let again = w.index-kept-index-then-is_live_on.result in
          let same : again ≡ object = one_kept kept index again object (read_there kept w.kept-then-is_live_on.result.now index again below w.kept-then-is_live_on.ensures w.index-kept-index-then-is_live_on.is) there in
          let content = sym w.index-kept-index-then-is_live_on.is ∙ same in
          let kept_is : kept_of c.if-is_live_on.objects ≡ set kept index (destroyed object) = ap kept_of w.objects-is ∙ w.destroy.ensures.now object there in
          let queues_is : c.if-is_live_on.queues ≡ without_queue (number_of object.content) queues = w.queues-is ∙ (w.clear.ensures ∙ ap (λ (o : Object). without_queue (number_of o.content) queues) content) in
          let few : length queues ≡ 64 = ends.count ∙ c.requires.limits in
          let within : (number : ℕ) → number_of object.content ≡ Some number → number < length queues =
          λ number has. let n = c.requires.numbers index object number (sym (ends.left index (omega arith)) ∙ there) has in omega (arith, n, few) in (
            rw (kept_is, queues_is) (ends_hit c.args.device before queues_before index kept queues ends object there hit within),
            ap made_of w.objects-is ∙ (w.destroy.ensures.made ∙ c.loop-index.invariant.1),
            λ names given. subst (λ o. IsGiven o names) (sym w.objects-is) (w.destroy.ensures.given names (c.loop-index.invariant.2 names given)),
          )
      | else-is_live_on w ↦
          let passed = sym c.is_live_on.ensures ∙ w.if-is_live_on.false in (
            rw (w.objects-is, w.queues-is) (ends_past c.args.device before queues_before index kept queues ends object there passed),
            ap made_of w.objects-is ∙ c.loop-index.invariant.1,
            λ names given. subst (λ o. IsGiven o names) (sym w.objects-is) (c.loop-index.invariant.2 names given),
          )
    ]

pub returns-clause-kept : goal.returns-clause-kept
returns-clause-kept c =
    let past : length (kept_of c.args.objects.now) ≤ c.loop-index.index = let p = c.loop-index-test.false in omega (arith, p, ap length c.kept-index-end.ensures) in
    ends_kept c.args.device (kept_of c.args.objects.now) c.args.queues.now c.loop-index.index (kept_of c.loop-index.objects) c.loop-index.queues c.loop-index.invariant.0 past

pub returns-clause-emptied : goal.returns-clause-emptied
returns-clause-emptied c number any =
    let past : length (kept_of c.args.objects.now) ≤ c.loop-index.index = let p = c.loop-index-test.false in omega (arith, p, ap length c.kept-index-end.ensures) in
    ends_emptied c.args.device (kept_of c.args.objects.now) c.args.queues.now c.loop-index.index (kept_of c.loop-index.objects) c.loop-index.queues c.loop-index.invariant.0 past number any
