-- What is kept though it is destroyed: a queue names it, under its holder.
use Rattle.std.proofs.Common.{◌≡◌, ℕ, ◌||◌, true, false, true≢false, List, Option, Some, None, refl, sym, ap, ◌∙◌, arith}
use Rattle.std.specs.Option.{option_map_or}
use Rattle.std.proofs.lemmas.Bool.Decides.{nat_tests}
use Rattle.present_queue.specs.Queue.{Names, Queue}
use Rattle.present_queue.specs.Queues.{Surface, has_holder, queue_at}
use Rattle.driver_objects.specs.Kinds.{holder_of}
use Rattle.driver_objects.specs.Swept.{is_held, is_wanted}
use Rattle.driver_objects.specs.declared.object.Object.{Object}
use Rattle.driver_objects.proofs.QueueNames.{kept_named, named_kept}

module _ (queues : List (Queue Surface)) where
  -- what has a holder under which a queue names it is wanted
  pub held_wanted : (o : Object) (holder number : ℕ) (surface : Surface) → holder_of o.content ≡ Some holder → Names (queue_at queues number) surface → surface.holder ≡ holder → is_wanted queues o ≡ true
  held_wanted o holder number surface has named same =
      let held : is_held queues holder ≡ true = named_kept (has_holder holder) queues (number, (surface, named, grind (arith, nat_tests, same))) in
      let wanted : option_map_or (is_held queues) (holder_of o.content) false ≡ true = ap (λ h. option_map_or (is_held queues) h false) has ∙ held in
      grind (arith, wanted)

  -- a queue names what is wanted and isn't live, under its holder
  pub record IsHeld (o : Object) : Type 0 where
    pub holder : ℕ
    pub has : holder_of o.content ≡ Some holder
    pub number : ℕ
    pub surface : Surface
    pub named : Names (queue_at queues number) surface
    pub at_holder : surface.holder ≡ holder

  pub wanted_held : (o : Object) → o.is_live ≡ false → is_wanted queues o ≡ true → IsHeld o
  wanted_held o dead wanted = by_holder (holder_of o.content) refl (sym (ap (λ b. b || option_map_or (is_held queues) (holder_of o.content) false) dead) ∙ wanted) where
    by_holder : (h : Option ℕ) → holder_of o.content ≡ h → option_map_or (is_held queues) h false ≡ true → IsHeld o
    by_holder None has held = absurd (true≢false (sym held))
    by_holder (Some holder) has held =
        let n = kept_named (has_holder holder) queues held in
        let test = n.1.2 in
        record { holder = holder; has = has; number = n.0; surface = n.1.0; named = n.1.1; at_holder = grind (arith, nat_tests, test) }
