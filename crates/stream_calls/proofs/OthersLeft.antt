-- What is left of objects, one by one and in lists.
use Rattle.std.proofs.Common.{◌≡◌, ℕ, zero, suc, nat_le, Bool, true, false, if◌then◌else◌, List, [], ◌∷◌, ◌++◌, drop, slice_get, Option, Some, None, refl, ap, sym, ◌∙◌, subst}
use Rattle.std.proofs.lemmas.List.{append_assoc}
use Rattle.present_queue.specs.Queue.{Queue, Queued, due, first_due, ticked, ticked_by}
use Rattle.driver_model.specs.Clock.{Due, all_shown, shown, with_flip, with_tick}
use Rattle.driver_model.specs.Objects.{Content, DecoderObject, DeviceObject, MixerObject, Object, OutputObject, QueueObject, VideoObject}
use Rattle.driver_model.specs.States.{changed_at}
use Rattle.driver_model.proofs.Named.{object_is}
use Rattle.driver_model.proofs.SoundChanges.{nothing_there}
use Rattle.stream_calls.specs.OthersLeave.{IsContentLeft, IsLeft, IsQueueLeft, shown_last}

-- ---- queues

queue_same : (queue : Queue ℕ) → IsQueueLeft queue queue
unfolding shown_last
queue_same queue = record { shown = []; entries = refl; visible = refl; promise = refl }

shown-append : (one other : List (Queued ℕ)) (visible : Option ℕ) → shown_last (one ++ other) visible ≡ shown_last other (shown_last one visible)
unfolding shown_last
shown-append [] other visible = refl
shown-append (entry ∷ one) other visible = shown-append one other (Some entry.surface)

queue_then : (a b c : Queue ℕ) → IsQueueLeft a b → IsQueueLeft b c → IsQueueLeft a c
queue_then a b c one two = record {
  shown = one.shown ++ two.shown;
  entries = one.entries ∙ (ap (λ l. one.shown ++ l) two.entries ∙ sym (append_assoc one.shown two.shown c.entries));
  visible = two.visible ∙ (ap (shown_last two.shown) one.visible ∙ sym (shown-append one.shown two.shown a.visible));
  promise = two.promise ∙ one.promise;
}

queue_ticked : (queue : Queue ℕ) (time : ℕ) → IsQueueLeft queue (ticked queue time)
unfolding shown_last
queue_ticked queue time = by_entries queue.entries refl where
  by_entries : (entries : List (Queued ℕ)) → queue.entries ≡ entries → IsQueueLeft queue (ticked_by (first_due queue.entries time) queue)
  by_entries [] e = subst (λ (l : List (Queued ℕ)). IsQueueLeft queue (ticked_by (first_due l time) queue)) (sym e) (queue_same queue)
  by_entries (entry ∷ rest) e = subst (λ (l : List (Queued ℕ)). IsQueueLeft queue (ticked_by (first_due l time) queue)) (sym e) (by_time (nat_le entry.earliest time)) where
    by_time : (b : Bool) → IsQueueLeft queue (ticked_by (if b then Some entry else None) queue)
    by_time true = record { shown = entry ∷ []; entries = e ∙ ap (λ (l : List (Queued ℕ)). entry ∷ drop 1 l) (sym e); visible = refl; promise = refl }
    by_time false = queue_same queue

-- ---- contents

module _ (may_preempt : Bool) where
  content_same : (content : Content) → IsContentLeft may_preempt content content
  content_same (DeviceObject of) = (of, refl, λ e. refl)
  content_same (VideoObject of) = refl
  content_same (OutputObject of) = (of.last_flip, refl)
  content_same (DecoderObject of) = refl
  content_same (MixerObject of) = refl
  content_same (QueueObject of) = (of.queue, refl, queue_same of.queue)

  content_then : (a b c : Content) → IsContentLeft may_preempt a b → IsContentLeft may_preempt b c → IsContentLeft may_preempt a c
  content_then (DeviceObject of) b c one two =
      let r : IsContentLeft may_preempt (DeviceObject one.0) c = subst (λ x. IsContentLeft may_preempt x c) one.1 two in
      (r.0, r.1, λ e. r.2 e ∙ one.2 e)
  content_then (VideoObject of) b c one two = subst (λ x. IsContentLeft may_preempt x c) one two
  content_then (OutputObject of) b c one two =
      let r : IsContentLeft may_preempt (OutputObject (record of { last_flip = one.0 })) c = subst (λ x. IsContentLeft may_preempt x c) one.1 two in
      (r.0, r.1)
  content_then (DecoderObject of) b c one two = subst (λ x. IsContentLeft may_preempt x c) one two
  content_then (MixerObject of) b c one two = subst (λ x. IsContentLeft may_preempt x c) one two
  content_then (QueueObject of) b c one two =
      let r : IsContentLeft may_preempt (QueueObject (record of { queue = one.0 })) c = subst (λ x. IsContentLeft may_preempt x c) one.1 two in
      (r.0, r.1, queue_then of.queue one.0 r.0 one.2 r.2)

  content_ticked : (time : ℕ) (content : Content) → IsContentLeft may_preempt content (with_tick time content)
  content_ticked time (DeviceObject of) = (of, refl, λ e. refl)
  content_ticked time (VideoObject of) = refl
  content_ticked time (OutputObject of) = (of.last_flip, refl)
  content_ticked time (DecoderObject of) = refl
  content_ticked time (MixerObject of) = refl
  content_ticked time (QueueObject of) = (ticked of.queue time, refl, queue_ticked of.queue time)

  content_flipped : (queue time : ℕ) (content : Content) → IsContentLeft may_preempt content (with_flip queue time content)
  content_flipped queue time (DeviceObject of) = (of, refl, λ e. refl)
  content_flipped queue time (VideoObject of) = refl
  content_flipped queue time (OutputObject of) = (Some (record { queue = queue; time = time }), refl)
  content_flipped queue time (DecoderObject of) = refl
  content_flipped queue time (MixerObject of) = refl
  content_flipped queue time (QueueObject of) = (of.queue, refl, queue_same of.queue)

  -- ---- objects

  pub left_same : (a : Object) → IsLeft may_preempt a a
  left_same a = record { name = refl; device = refl; is_live = refl; content = content_same a.content }

  pub left_then : (a b c : Object) → IsLeft may_preempt a b → IsLeft may_preempt b c → IsLeft may_preempt a c
  left_then a b c one two = record {
    name = two.name ∙ one.name;
    device = two.device ∙ one.device;
    is_live = two.is_live ∙ one.is_live;
    content = content_then a.content b.content c.content one.content two.content;
  }

  -- ---- lists, place by place

  abbrev pub AreLeft : List Object → List Object → Type 0
  AreLeft [] [] = Unit {0}
  AreLeft [] (b ∷ bs) = ⊥
  AreLeft (a ∷ others) [] = ⊥
  AreLeft (a ∷ others) (b ∷ bs) = IsLeft may_preempt a b × AreLeft others bs

  pub all_same : (objects : List Object) → AreLeft objects objects
  all_same [] = tt
  all_same (a ∷ later) = (left_same a, all_same later)

  pub left_get : (old new : List Object) → AreLeft old new → (place : ℕ) (a : Object) → slice_get old place ≡ Some a
      → (b : Object) × (slice_get new place ≡ Some b) × IsLeft may_preempt a b
  left_get [] new are place a e = nothing_there a e
  left_get (x ∷ xs) [] are place a e = absurd are
  left_get (x ∷ xs) (y ∷ ys) are zero a e = (y, refl, subst (λ (o : Object). IsLeft may_preempt o y) (object_is x a e) are.0)
  left_get (x ∷ xs) (y ∷ ys) are (suc place) a e = left_get xs ys are.1 place a e

  pub left_back : (old new : List Object) → AreLeft old new → (place : ℕ) (b : Object) → slice_get new place ≡ Some b
      → (a : Object) × (slice_get old place ≡ Some a) × IsLeft may_preempt a b
  left_back old [] are place b e = nothing_there b e
  left_back [] (y ∷ ys) are place b e = absurd are
  left_back (x ∷ xs) (y ∷ ys) are zero b e = (x, refl, subst (λ (o : Object). IsLeft may_preempt x o) (object_is y b e) are.0)
  left_back (x ∷ xs) (y ∷ ys) are (suc place) b e = left_back xs ys are.1 place b e

  pub all_then : (old middle new : List Object) → AreLeft old middle → AreLeft middle new → AreLeft old new
  all_then [] [] new one two = two
  all_then [] (y ∷ ys) new one two = absurd one
  all_then (x ∷ xs) [] new one two = absurd one
  all_then (x ∷ xs) (y ∷ ys) [] one two = absurd two
  all_then (x ∷ xs) (y ∷ ys) (z ∷ zs) one two = (left_then x y z one.0 two.0, all_then xs ys zs one.1 two.1)

  -- one object is changed
  pub all_changed : (change : Object → Object) (place : ℕ) (objects : List Object)
      → ((a : Object) → slice_get objects place ≡ Some a → IsLeft may_preempt a (change a)) → AreLeft objects (changed_at place change objects)
  unfolding changed_at
  all_changed change place [] is = tt
  all_changed change zero (a ∷ later) is = (is a refl, all_same later)
  all_changed change (suc place) (a ∷ later) is = (left_same a, all_changed change place later is)

  -- one queue shows a surface
  shown_left : (time : ℕ) (due : Due) (objects : List Object) → AreLeft objects (shown time due objects)
  shown_left time due objects =
      let ticks : Object → Object = λ object. record object { content = with_tick time object.content } in
      let flips : Object → Object = λ object. record object { content = with_flip due.queue time object.content } in
      let middle : List Object = changed_at due.queue ticks objects in
      all_then objects middle (changed_at due.surface flips middle)
      (all_changed ticks due.queue objects (λ a e. record { name = refl; device = refl; is_live = refl; content = content_ticked time a.content }))
      (all_changed flips due.surface middle (λ a e. record { name = refl; device = refl; is_live = refl; content = content_flipped due.queue time a.content }))

  pub all_shown_left : (time : ℕ) (dues : List Due) (objects : List Object) → AreLeft objects (all_shown time dues objects)
  unfolding all_shown
  all_shown_left time [] objects = all_same objects
  all_shown_left time (due ∷ later) objects =
      all_then objects (shown time due objects) (all_shown time later (shown time due objects)) (shown_left time due objects) (all_shown_left time later (shown time due objects))
