use Rattle.std.proofs.Common.{◌≡◌, ℕ, ◌<◌, slice_index_or, None, replicate, refl, arith, sym, ◌∙◌}
use Rattle.std.proofs.Math.ListN.{length-set}
use Rattle.std.proofs.lemmas.Grind.{get_or_default_zero}
use Rattle.std.proofs.lemmas.List.{get_or-replicate}
use Rattle.stream_task.proofs.Waits.{more_own, none_in}
use Rattle.stream_task.proofs.slots.Slots.new.Goals as goal

pub loop-number-init : goal.loop-number-init
loop-number-init c = record { size = refl; own = λ k lt. absurd (omega arith) }

pub loop-number-preserved : goal.loop-number-preserved
loop-number-preserved c =
    let i = c.loop-number.invariant in
    let test : c.loop-number.number < 17 = c.loop-number-test.true in
    record {
      size = rw length-set i.size;
      own = more_own c.loop-number.of_number c.loop-number.number (omega (arith, i.size, test)) i.own;
    }

pub invariant_of-result : goal.invariant_of-result
invariant_of-result c =
    let i = c.loop-number.invariant in
    let own : (k : ℕ) → k < 17 → slice_index_or c.loop-number.of_number k 0 ≡ k =
    λ k lt. i.own k (omega (arith, lt, c.loop-number-test.false)) in
    record {
      within = λ k d inside.
          let under : k < 17 = omega (arith, inside, i.size) in
          let is = get_or_default_zero c.loop-number.of_number k d inside ∙ own k under in
          omega (arith, is, under);
      apart = λ one other a b same. sym (own one a) ∙ (same ∙ own other b);
    }

pub returns-clause-free : goal.returns-clause-free
returns-clause-free c = none_in (replicate 34 None) (λ k inside. get_or-replicate 34 k None None (omega (arith, inside)))
