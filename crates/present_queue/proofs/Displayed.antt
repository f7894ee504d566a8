-- A display: what it answers, that a node is left for it, and the entry that it puts into its queue.
use Rattle.std.proofs.Common.{◌≡◌, ℕ, ◌+◌, ◌<◌, ◌≤◌, true, false, cond, eqb, ltb, List, [], ◌∷◌, ◌++◌, length, set, Result, Ok, Err, refl, sym, ap, subst, ◌∙◌, length-append, arith}
use Rattle.std.proofs.lemmas.Bool.Decides.{nat_tests}
use Rattle.std.proofs.lemmas.List.{get_or-set_same, length-map, length-set}
use Rattle.vd_status.specs.declared.refusal.Refusal.{Refusal}
use Rattle.vd_status.specs.declared.refusal.Refusal.TheVariants.{QueueFull, EarlierThanPromise}
use Rattle.index_lists.specs.Lists.{Lists, linked_in, list_at}
use Rattle.present_queue.specs.Queue.{Queue, answer_to_display, displayed}
use Rattle.present_queue.specs.Queues.{IsHolderOf, Surface, queue_at, queued_by}
use Rattle.present_queue.specs.Kept.{IsSound, kept_at, queue_with, queued_of, queues_with}
use Rattle.present_queue.proofs.Counts.{sum_below}
use Rattle.present_queue.proofs.HolderLemmas.{queues_with-set_object}
use Rattle.present_queue.proofs.Steps.{IsSound-changed, displayed-push}
use Rattle.present_queue.proofs.ViewLemmas.{queue_at-view, view-set}
use Rattle.present_queue.specs.declared.queues.Kept.{Kept}

answer_by : ℕ → ℕ → ℕ → Result (Unit {0}) Refusal
answer_by count promise earliest = cond (eqb count 64) (Err QueueFull) (cond (ltb earliest promise) (Err (EarlierThanPromise promise)) (Ok tt))

module _ (links : Lists) (kept : List Kept) (objects : List ℕ) (queues : List (Queue Surface)) (sound : IsSound links kept objects) (view : queues_with objects links.queues kept ≡ queues)
    (q : ℕ) (within : q < 64) (k : Kept) (read : k ≡ kept_at kept q) where
  at : queue_at queues q ≡ queue_with objects (list_at links.queues q) (kept_at kept q)
  at = queue_at-view links kept objects queues sound view q

  count : length (queue_at queues q).entries ≡ k.length
  count = rw (at, length-map, read) (sound.counted q)

  promise : (queue_at queues q).promise ≡ k.promise
  promise = rw (at, read) refl

  answer : (earliest : ℕ) → answer_to_display (queue_at queues q) earliest ≡ answer_by k.length k.promise earliest
  unfolding answer_by
  answer earliest = rw (count, promise) refl

  pub answer-full : (earliest : ℕ) → k.length ≡ 64 → Err QueueFull ≡ answer_to_display (queue_at queues q) earliest
  unfolding answer_by
  answer-full earliest full = let is_full : eqb k.length 64 ≡ true = grind (arith, nat_tests) in rw (answer earliest, is_full) refl

  pub answer-early : (earliest : ℕ) → (k.length ≡ 64 → ⊥) → earliest < k.promise → Err (EarlierThanPromise k.promise) ≡ answer_to_display (queue_at queues q) earliest
  unfolding answer_by
  answer-early earliest room early =
      let not_full : eqb k.length 64 ≡ false = grind (arith, nat_tests) in
      let is_early : ltb earliest k.promise ≡ true = grind (arith, nat_tests) in
      rw (answer earliest, not_full, is_early) refl

  pub answer-taken : (earliest : ℕ) → (k.length ≡ 64 → ⊥) → k.promise ≤ earliest → Ok tt ≡ answer_to_display (queue_at queues q) earliest
  unfolding answer_by
  answer-taken earliest room late =
      let not_full : eqb k.length 64 ≡ false = grind (arith, nat_tests) in
      let not_early : ltb earliest k.promise ≡ false = grind (arith, nat_tests) in
      rw (answer earliest, not_full, not_early) refl

  few : k.length ≤ 64
  few = rw read (sound.few q)

  list_length : length (list_at links.queues q) ≡ k.length
  list_length = rw read (sound.counted q)

  pub node_left : (k.length ≡ 64 → ⊥) → linked_in links ≡ links.nodes → ⊥
  node_left room all =
      let here : length (list_at links.queues q) < 64 = omega (arith, list_length, few) in
      let below = sum_below links.queues q (rw sound.queues within) (λ j. rw (sound.counted j) (sound.few j)) here in
      omega (arith, below, sound.queues, sound.nodes)

  module _ (new : Lists) (node holder object earliest : ℕ) (is_holder : IsHolderOf queues holder object) (held : holder < 5184)
      (changed : new.queues ≡ set links.queues q (list_at links.queues q ++ record { node = node; holder = holder; value = earliest } ∷ [])) where
    same : length links.queues ≡ length kept
    same = sound.queues ∙ sym sound.each_kept

    sound_told : IsSound links kept (set objects holder object)
    sound_told = record {
      queues = sound.queues;
      each_kept = sound.each_kept;
      holders = sound.holders;
      each_object = length-set objects holder object ∙ sound.each_object;
      nodes = sound.nodes;
      counted = sound.counted;
      few = sound.few;
      shown = sound.shown;
    }

    view_told : queues_with (set objects holder object) links.queues kept ≡ queues
    view_told =
        let P : List (Queue Surface) → Type 0 = λ qs. IsHolderOf qs holder object in
        queues_with-set_object objects holder object links.queues kept same (subst P (sym view) is_holder) ∙ view

    entry_told : queued_of (set objects holder object) (record { node = node; holder = holder; value = earliest }) ≡ queued_by holder (record { object = object; earliest = earliest })
    entry_told = ap (λ o. record { surface = record { object = o; holder = holder }; earliest = earliest }) (get_or-set_same objects holder object 0 (rw sound.each_object held))

    pub view-displayed : queues_with (set objects holder object) new.queues (set kept q (record k { length = k.length + 1 })) ≡ set queues q (displayed (queue_at queues q) (queued_by holder (record { object = object; earliest = earliest })))
    view-displayed =
        let told_at : queue_at queues q ≡ queue_with (set objects holder object) (list_at links.queues q) (kept_at kept q) = queue_at-view links kept (set objects holder object) queues sound_told view_told q in
        let here : queue_with (set objects holder object) (list_at links.queues q ++ record { node = node; holder = holder; value = earliest } ∷ []) (record k { length = k.length + 1 }) ≡ displayed (queue_at queues q) (queued_by holder (record { object = object; earliest = earliest })) =
        displayed-push (set objects holder object) (list_at links.queues q) (kept_at kept q) (record k { length = k.length + 1 }) (record { node = node; holder = holder; value = earliest }) (ap (λ kept. kept.visible) read) (ap (λ kept. kept.promise) read)
        ∙ ap (λ entry. displayed (queue_with (set objects holder object) (list_at links.queues q) (kept_at kept q)) entry) entry_told
        ∙ ap (λ queue. displayed queue (queued_by holder (record { object = object; earliest = earliest }))) (sym told_at) in
        rw (changed, ← here) (view-set links kept (set objects holder object) queues sound_told view_told q (list_at links.queues q ++ record { node = node; holder = holder; value = earliest } ∷ []) (record k { length = k.length + 1 }))

    pub IsSound-displayed : (k.length ≡ 64 → ⊥) → length new.holders ≡ length links.holders → new.nodes ≡ links.nodes → IsSound new (set kept q (record k { length = k.length + 1 })) (set objects holder object)
    IsSound-displayed room holders nodes =
        IsSound-changed links new kept objects (set objects holder object) q (list_at links.queues q ++ record { node = node; holder = holder; value = earliest } ∷ []) (record k { length = k.length + 1 })
        sound within changed holders nodes (length-set objects holder object)
        (omega (arith, list_length, length-append (list_at links.queues q) (record { node = node; holder = holder; value = earliest } ∷ [])))
        (omega (arith, few))
        (λ shown is. sound.shown q shown (ap (λ k. k.visible) (sym read) ∙ is))
