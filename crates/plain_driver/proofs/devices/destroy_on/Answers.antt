use Rattle.std.proofs.Common.{◌≡◌, ◌++◌, ◌∙◌, ap, sym, arith, length, map, take, drop}
use Rattle.std.proofs.Math.Seq.{take-append_seam}
use Rattle.driver_model.specs.Clock.{destroyed_on}
use Rattle.plain_driver.specs.States.{object_of, objects_of}
use Rattle.plain_driver.specs.declared.objects.PlainObject.{PlainObject}
use Rattle.plain_driver.proofs.Loops.{up_to_all, up_to_more, up_to_none}
use Rattle.plain_driver.proofs.devices.destroy_on.Goals as goal

pub loop-object-init : goal.loop-object-init
loop-object-init c = up_to_none (destroyed_on c.args.on) c.deref_mut-object-items.result.now

pub loop-object-preserved : goal.loop-object-preserved
loop-object-preserved c =
    up_to_more (destroyed_on c.args.on) c.loop-object.object-index (length c.deref_mut-object-items.result.now) c.deref_mut-object-items.result.now c.loop-object.object-items c.object-item.result c.destroy_if_on.new.object
    (sym c.loop-object.auto.object-items) c.loop-object-test.true c.loop-object.invariant c.object-item.is (c.destroy_if_on.ensures ∙ ap (λ (o : PlainObject). destroyed_on c.args.on (object_of o)) (sym c.object-item.is))

pub returns : goal.returns
returns c =
    let items = c.args.objects.now.items in
    let new = c.loop-object.object-items in
    let count : c.args.objects.now.len ≡ length new = omega (arith, c.args.objects.now.ok.0, c.loop-object.auto.object-items, ap length c.deref_mut-object-items.ensures.value) in
    let all : take c.args.objects.now.len (new ++ drop (length new) items) ≡ new = ap (λ n. take n (new ++ drop (length new) items)) count ∙ take-append_seam new (drop (length new) items) in
    ap objects_of all
    ∙ (up_to_all (destroyed_on c.args.on) c.loop-object.object-index c.deref_mut-object-items.result.now new c.loop-object.invariant c.loop-object-test.false
    ∙ ap (λ xs. map (destroyed_on c.args.on) (objects_of xs)) c.deref_mut-object-items.ensures.value)
