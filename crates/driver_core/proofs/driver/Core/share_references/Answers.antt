use Rattle.std.proofs.Common.{ℕ, ◌<◌, ◌≢◌, None, length, option_map, get_or, refl, arith, below_more, get_or-set_other, get_or-set_same, slice_set}
use Rattle.std.specs.Arc.{arc_value}
use Rattle.std.proofs.lemmas.List.{length-set}
use Rattle.driver_objects.specs.Kept.{kept_of}
use Rattle.driver_core.specs.RenderStarts.{IsLent}
use Rattle.driver_core.proofs.LentReferences.{lent_before, shares_both, shares_none, still_video}
use Rattle.driver_core.proofs.driver.Core.share_references.Goals as goal

pub loop-place-init : goal.loop-place-init
loop-place-init c = record { shares = shares_none c.args.self.now; lent = λ place below. absurd (omega (arith, below)); count = refl }

pub share_reference-requires : goal.share_reference-requires
share_reference-requires c = λ index is. still_video c.args.self.now c.loop-place.self c.loop-place.invariant.shares index (c.requires c.loop-place.place index c.loop-place-test.true is)

pub loop-place-preserved : goal.loop-place-preserved
loop-place-preserved c =
    let old = c.args.self.now in
    let mid = c.loop-place.self in
    let pictures = c.loop-place.pictures in
    let i = c.loop-place.place in
    let one = c.in_ok-pictures.field-0 in
    let lt : i < length pictures = omega (arith, c.loop-place.invariant.count, c.loop-place-test.true) in
    let P : ℕ → Type 0 = λ k. IsLent (kept_of old.objects) (get_or c.args.slots.now k None) (option_map arc_value (get_or (slice_set pictures i one) k None)) in
    record {
      shares = shares_both old mid c.share_reference.new.self c.loop-place.invariant.shares c.share_reference.ensures.shares;
      lent = below_more P i
          (λ k h. let ne : k ≢ i = omega arith in rw get_or-set_other (c.loop-place.invariant.lent k h))
          (rw get_or-set_same (lent_before old mid c.loop-place.invariant.shares (get_or c.args.slots.now i None) (option_map arc_value one) c.in_ok-pictures.ensures.lent));
      count = omega (arith, c.loop-place.invariant.count, length-set pictures i one);
    }
