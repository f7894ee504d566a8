-- What a step leaves of sound queues, by the kind of change.
use Rattle.std.proofs.Common.{◌≡◌, inl, inr, ℕ, Bool, true, false, List, [], slice_get, Option, Some, None, IsSome, MatchOption, refl, ap, sym, ◌∙◌, subst, arith}
use Rattle.std.specs.Option.{option_map}
use Rattle.present_queue.specs.Queue.{Names, Queue}
use Rattle.driver_model.specs.Objects.{Content, QueueObject, Object, PresentationQueue, as_output, as_queue}
use Rattle.driver_model.specs.Presented.{queue_in}
use Rattle.driver_model.specs.Queues.{emptied}
use Rattle.driver_model.specs.Sound.{AreSound, IsSoundObject, IsSoundQueue}
use Rattle.driver_model.specs.States.{State, destroyed, destroyed_with, with_content}
use Rattle.driver_model.proofs.Named.{object_is}
use Rattle.driver_model.proofs.PlainKinds.{IsPlain}
use Rattle.driver_model.proofs.SoundChanges.{sound_changed_at}

-- an object that is no queue is sound whatever else
no_queue_is_sound : (objects : List Object) (object : Object) → as_queue object.content ≡ None → IsSoundObject objects object
no_queue_is_sound objects object none =
    let there : queue_in object ≡ None = ap (λ o. option_map (λ (of : PresentationQueue). of.queue) o) none in
    subst (λ (q : Option (Queue ℕ)). MatchOption q (Unit {0}) (IsSoundQueue objects object.device object.is_live)) (sym there) tt

module _ (s : State) (place : ℕ) (there : Object) (stands : slice_get s.objects place ≡ Some there) where
  at_place : (a : Object) → slice_get s.objects place ≡ Some a → there ≡ a
  at_place a e = object_is there a (sym stands ∙ e)

  -- another content, which is no queue
  pub sound_content : (content : Content) → as_queue content ≡ None → (IsSome (as_output there.content) → IsSome (as_output content)) → AreSound s.objects → AreSound (with_content s place content).objects
  sound_content content none outputs =
      sound_changed_at (λ object. record object { content = content }) (λ a. refl) place s.objects
      (λ a e is. outputs (subst (λ (o : Object). IsSome (as_output o.content)) (sym (at_place a e)) is))
      (λ a e is. no_queue_is_sound s.objects (record a { content = content }) none)

  pub sound_plain : (content : Content) → as_queue content ≡ None → IsPlain there.content → AreSound s.objects → AreSound (with_content s place content).objects
  sound_plain content none plain = sound_content content none (λ is. absurd (plain.no_output is))

  -- it is destroyed, and is no queue
  pub sound_destroyed : as_queue there.content ≡ None → AreSound s.objects → AreSound (destroyed s place).objects
  sound_destroyed none =
      sound_changed_at (λ object. record object { is_live = false }) (λ a. refl) place s.objects (λ a e is. is)
      (λ a e is. no_queue_is_sound s.objects (record a { is_live = false }) (subst (λ (o : Object). as_queue o.content ≡ None) (at_place a e) none))

  -- a queue is destroyed
  emptied_is_sound : (objects : List Object) (device : ℕ) (is_live : Bool) (promise : ℕ) → IsSoundQueue objects device is_live (record { entries = []; visible = None; promise = promise })
  emptied_is_sound objects device is_live promise = record {
    surfaces = λ k n. absurd (names_none k promise n);
    empty = λ dead k n. names_none k promise n;
    few = omega arith;
  } where
    names_none : (k promise : ℕ) → (let q : Queue ℕ = record { entries = []; visible = None; promise = promise } in Names q k) → ⊥
    names_none k promise (inl e) = absurd (omega (arith, e.1))
    names_none k promise (inr e) = absurd (cc)

  pub sound_emptied : (of : PresentationQueue) → (IsSome (as_output there.content) → ⊥) → AreSound s.objects → AreSound (destroyed_with s place (QueueObject (emptied of))).objects
  sound_emptied of no_output =
      sound_changed_at (λ object. record object { is_live = false; content = QueueObject (emptied of) }) (λ a. refl) place s.objects
      (λ a e is. absurd (no_output (subst (λ (o : Object). IsSome (as_output o.content)) (sym (at_place a e)) is)))
      (λ a e is. emptied_is_sound s.objects a.device false of.queue.promise)

  -- a live queue has other entries, which are sound too
  pub sound_queue : (of : PresentationQueue) (queue : Queue ℕ) → there.is_live ≡ true → as_queue there.content ≡ Some of
      → (IsSoundQueue s.objects there.device true of.queue → IsSoundQueue s.objects there.device true queue)
      → (IsSome (as_output there.content) → ⊥) → AreSound s.objects → AreSound (with_content s place (QueueObject (record of { queue = queue }))).objects
  sound_queue of queue live kind keeps no_output =
      sound_changed_at (λ object. record object { content = QueueObject (record of { queue = queue }) }) (λ a. refl) place s.objects
      (λ a e is. absurd (no_output (subst (λ (o : Object). IsSome (as_output o.content)) (sym (at_place a e)) is)))
      (λ a e is. subst (λ (o : Object). IsSoundQueue s.objects o.device o.is_live queue) (at_place a e) (here (subst (IsSoundObject s.objects) (sym (at_place a e)) is)))
    where
      here : IsSoundObject s.objects there → IsSoundQueue s.objects there.device there.is_live queue
      here is =
          let is_queue : queue_in there ≡ Some of.queue = ap (λ o. option_map (λ (p : PresentationQueue). p.queue) o) kind in
          let old : IsSoundQueue s.objects there.device there.is_live of.queue = subst (λ (q : Option (Queue ℕ)). MatchOption q (Unit {0}) (IsSoundQueue s.objects there.device there.is_live)) is_queue is in
          subst (λ b. IsSoundQueue s.objects there.device b queue) (sym live) (keeps (subst (λ b. IsSoundQueue s.objects there.device b of.queue) live old))
