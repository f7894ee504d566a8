use Rattle.std.proofs.Common.{refl}
use Rattle.present_queue.proofs.Made.{IsSound-new}
use Rattle.present_queue.proofs.queues.Queues.new.Goals as goal

pub invariant_of-result : goal.invariant_of-result
invariant_of-result c =
    IsSound-new c.in_ok-new.field-0 _ _ 64 5184 c.in_ok-new.ensures.queues c.in_ok-new.ensures.holders
    (c.in_ok-vec.ensures.items_if_clones_equal (λ y is. is)) (c.in_ok-vec-2.ensures.items_if_clones_equal (λ y is. is)) refl refl c.in_ok-new.ensures.nodes
