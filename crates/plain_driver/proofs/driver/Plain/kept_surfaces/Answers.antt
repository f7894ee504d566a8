use Rattle.std.proofs.Common.{◌≡◌, ℕ, Bool, ◌+◌, ◌∙◌, ap, arith, if◌then◌else◌, sym, take}
use Rattle.std.specs.List.{count_by, enumerate_from}
use Rattle.driver_model.specs.Kept.{is_kept}
use Rattle.plain_driver.specs.States.{objects_of, state_of}
use Rattle.plain_driver.proofs.Keeps.{counted_more}
use Rattle.plain_driver.proofs.driver.Plain.kept_surfaces.Goals as goal
use Rattle.plain_driver.proofs.driver.Plain.kept_surfaces.Goals.{then-is_kept, else-is_kept}

pub loop-place-preserved : goal.loop-place-preserved
loop-place-preserved c =
    let s = state_of c.args.self.now in
    let items = c.deref-object-items.result.now in
    let i = c.loop-place.place in
    let so_far : ℕ = count_by (is_kept s) (enumerate_from 0 (objects_of (take i items))) in
    let more = counted_more (is_kept s) items i c.object-item.result c.loop-place-test.true c.object-item.is in
    let add : Bool → ℕ = λ b. so_far + (if b then 1 else 0) in
    elim c.if-is_kept.branch [
      | then-is_kept w ↦
          let one : count_by (is_kept s) (enumerate_from 0 (objects_of (take (i + 1) items))) ≡ so_far + 1 = more ∙ ap add (sym c.is_kept.ensures ∙ w.if-is_kept.true) in
          (omega (arith, w.surfaces-is, c.loop-place.invariant.0, one), omega (arith, w.surfaces-is, c.loop-place.invariant.1))
      | else-is_kept w ↦
          let none : count_by (is_kept s) (enumerate_from 0 (objects_of (take (i + 1) items))) ≡ so_far + 0 = more ∙ ap add (sym c.is_kept.ensures ∙ w.if-is_kept.false) in
          (omega (arith, w.surfaces-is, c.loop-place.invariant.0, none), omega (arith, w.surfaces-is, c.loop-place.invariant.1))
    ]
