-- A tick that takes a queue's first node.
use Rattle.std.proofs.Common.{◌≡◌, ℕ, suc, ◌-◌, ◌<◌, ◌≤◌, List, length, set, Option, Some, option_map, refl, sym, ap, ◌∙◌, arith, [], ◌∷◌, ◌++◌}
use Rattle.std.specs.List.{Contains, slice_get, slice_index}
use Rattle.index_lists.specs.Lists.{Link, Lists, list_at}
use Rattle.present_queue.specs.Queue.{Queue, due, ticked}
use Rattle.present_queue.specs.Queues.{Surface, entry_of, queue_at}
use Rattle.present_queue.specs.Kept.{IsSound, kept_at, queue_with, queued_of, queues_with}
use Rattle.present_queue.proofs.FirstLinks.{BeginsWith, BeginsWith-from_first, Contains-first}
use Rattle.present_queue.proofs.Steps.{IsSound-changed, is_due, ticked-is_due}
use Rattle.present_queue.proofs.ViewLemmas.{queue_at-view, view-set}
use Rattle.present_queue.specs.declared.entry.Entry.{Entry}
use Rattle.present_queue.specs.declared.queues.Kept.{Kept}

module _ (links new : Lists) (kept : List Kept) (objects : List ℕ) (queues : List (Queue Surface)) (sound : IsSound links kept objects) (view : queues_with objects links.queues kept ≡ queues)
    (q time node value holder : ℕ) (within : q < 64) (come : value ≤ time) (k : Kept) (read : k ≡ kept_at kept q)
    (first : Some node ≡ option_map (λ (link : Link). link.node) (slice_get (list_at links.queues q) 0))
    (value_of : (queue : ℕ) (link : Link) → Contains (list_at links.queues queue) link → link.node ≡ node → value ≡ link.value)
    (holder_of : (queue : ℕ) (link : Link) → Contains (list_at links.queues queue) link → link.node ≡ node → holder ≡ link.holder)
    (unlinked : (queue : ℕ) (before after : List Link) (link : Link) → list_at links.queues queue ≡ before ++ link ∷ after → link.node ≡ node → new.queues ≡ set links.queues queue (before ++ after)) where
  begins : BeginsWith (list_at links.queues q) node
  begins = BeginsWith-from_first (list_at links.queues q) node first

  value_is : value ≡ begins.link.value
  value_is = value_of q begins.link (Contains-first (list_at links.queues q) node begins) begins.node_is

  holder_is : holder ≡ begins.link.holder
  holder_is = holder_of q begins.link (Contains-first (list_at links.queues q) node begins) begins.node_is

  changed : new.queues ≡ set links.queues q begins.rest
  changed = unlinked q [] begins.rest begins.link begins.is begins.node_is

  come_link : begins.link.value ≤ time
  come_link = rw (← value_is) come

  at : queue_at queues q ≡ queue_with objects (list_at links.queues q) (kept_at kept q)
  at = queue_at-view links kept objects queues sound view q

  pub entry-taken : (object : ℕ) → object ≡ slice_index objects holder → Some (record { object = object; earliest = value }) ≡ option_map entry_of (due (queue_at queues q) time)
  entry-taken object object_is =
      let taken : due (queue_at queues q) time ≡ Some (queued_of objects begins.link) = ap (λ queue. due queue time) at ∙ is_due objects (kept_at kept q) time (list_at links.queues q) node begins come_link in
      let entry : ℕ → ℕ → Option Entry = λ o e. Some (record { object = o; earliest = e }) in
      ap (λ o. entry o value) (object_is ∙ ap (slice_index objects) holder_is)
      ∙ ap (entry (slice_index objects begins.link.holder)) value_is
      ∙ sym (ap (option_map entry_of) taken)

  pub view-taken : queues_with objects new.queues (set kept q (record { visible = Some holder; promise = k.promise; length = k.length - 1 })) ≡ set queues q (ticked (queue_at queues q) time)
  view-taken =
      let here : queue_with objects begins.rest (record { visible = Some holder; promise = k.promise; length = k.length - 1 }) ≡ ticked (queue_at queues q) time =
      ticked-is_due objects (kept_at kept q) time (list_at links.queues q) node begins (record { visible = Some holder; promise = k.promise; length = k.length - 1 }) come_link (ap Some holder_is) (ap (λ k. k.promise) read) ∙ ap (λ queue. ticked queue time) (sym at) in
      rw (changed, ← here) (view-set links kept objects queues sound view q begins.rest (record { visible = Some holder; promise = k.promise; length = k.length - 1 }))

  pub IsSound-taken : holder < length links.holders → length new.holders ≡ length links.holders → new.nodes ≡ links.nodes → IsSound new (set kept q (record { visible = Some holder; promise = k.promise; length = k.length - 1 })) objects
  IsSound-taken held holders nodes =
      let was : length (list_at links.queues q) ≡ k.length = sound.counted q ∙ sym (ap (λ k. k.length) read) in
      let now : length (list_at links.queues q) ≡ suc (length begins.rest) = ap length begins.is in
      let few : k.length ≤ 64 = rw read (sound.few q) in
      let in_range : holder < 5184 = rw (← sound.holders) held in
      IsSound-changed links new kept objects objects q begins.rest (record { visible = Some holder; promise = k.promise; length = k.length - 1 }) sound within changed holders nodes refl
      (omega arith) (omega arith)
      (λ other is. let same : holder ≡ other = cc in rw (← same) in_range)
