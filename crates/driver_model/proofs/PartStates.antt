-- A state of the whole and one of the part about a device, and how the surfaces stand to the queues in both.
use Rattle.std.proofs.Common.{◌≡◌, inl, inr, ℕ, suc, ◌==◌, Bool, true, false, not, ◌||◌, if◌then◌else◌, List, [], ◌∷◌, filter_map, map, slice_get, Option, Some, None, MatchOption, refl, ap, sym, ◌∙◌, subst}
use Rattle.std.proofs.lemmas.Bool.{false≢true, false_from_ne_true}
use Rattle.std.specs.List.{cons_option, list_any}
use Rattle.std.specs.Option.{option_and_then, option_map, option_map_or}
use Rattle.present_queue.specs.Queue.{Names, Queue, Queued, holds, shows}
use Rattle.driver_model.specs.Objects.{Content, DeviceObject, VideoObject, OutputObject, DecoderObject, MixerObject, QueueObject, LastFlip, OutputSurface, Object, as_output}
use Rattle.driver_model.specs.Presented.{first_time, is_idle_at, is_queued_at, is_visible_at, queue_in, status_at, time_if_on}
use Rattle.driver_model.specs.Sound.{AreSound, IsSoundQueue}
use Rattle.driver_model.specs.States.{State, content_at}
use Rattle.driver_model.specs.declared.replies.PresentStatus.TheVariants.{Idle, Queued as Waiting, Visible}
use Rattle.driver_model.proofs.Leading.{has_entry, is_visible_one}
use Rattle.driver_model.proofs.PartContents.{moved_entry, moved_flip, moved_object, moved_output, moved_queue, output_moves, part_of}
use Rattle.driver_model.proofs.PartLooks.{AreRooted, part-content}
use Rattle.driver_model.proofs.PartNotes.{AreTargets, notes_in, plain}
use Rattle.driver_model.proofs.PartPlaces.{Cut, kept, next, place_in, place_in-one}
use Rattle.driver_model.proofs.PartTicks.{AreOf}

-- Before a call of the part: what the part's state has of the whole's, whose item is at the place that q gives it.
pub record Pair (c : Cut) (on : ℕ) (q : ℕ → Option ℕ) (s t : State) : Type 0 where
  pub objects : t.objects ≡ part_of c s.objects
  pub notes : map plain t.notes ≡ notes_in c q s.notes
  pub item : q s.items ≡ Some t.items
  pub targets : AreTargets c q s.notes
  pub are_of : AreOf c.own on s.objects
  pub rooted : AreRooted s.objects
  pub sound : AreSound s.objects

-- Behind it.
pub record After (c : Cut) (q : ℕ → Option ℕ) (before s t : State) : Type 0 where
  pub objects : t.objects ≡ part_of c s.objects
  pub notes : map plain t.notes ≡ notes_in c q s.notes
  pub items : t.items ≡ before.items

-- ---- queues

module _ (c : Cut) (surface : ℕ) where
  shows-visible : (visible : Option ℕ) → option_map_or (λ place. place == place_in c surface) (option_map (place_in c) visible) false ≡ option_map_or (λ place. place == surface) visible false
  shows-visible None = refl
  shows-visible (Some place) = place_in-one c place surface

  holds-entries : (entries : List (Queued ℕ)) → list_any (λ entry. entry.surface == place_in c surface) (map (moved_entry c) entries) ≡ list_any (λ entry. entry.surface == surface) entries
  holds-entries [] = refl
  holds-entries (entry ∷ later) = λ i. place_in-one c entry.surface surface i || holds-entries later i

  queue_in-content : (content : Content) (name device : ℕ) (is_live : Bool)
      → queue_in (moved_object c (record { name = name; device = device; is_live = is_live; content = content })) ≡ option_map (moved_queue c) (queue_in (record { name = name; device = device; is_live = is_live; content = content }))
  queue_in-content (DeviceObject of) name device is_live = refl
  queue_in-content (VideoObject of) name device is_live = refl
  queue_in-content (OutputObject of) name device is_live = refl
  queue_in-content (DecoderObject of) name device is_live = refl
  queue_in-content (MixerObject of) name device is_live = refl
  queue_in-content (QueueObject of) name device is_live = refl

  module _ (test moved_test : Queue ℕ → Bool) (same : (queue : Queue ℕ) → moved_test (moved_queue c queue) ≡ test queue) where
    cons_any : (o : Option (Queue ℕ)) (queues others : List (Queue ℕ)) → list_any moved_test others ≡ list_any test queues → list_any moved_test (cons_option (option_map (moved_queue c) o) others) ≡ list_any test (cons_option o queues)
    cons_any None queues others rest = rest
    cons_any (Some queue) queues others rest = λ i. same queue i || rest i

    cons_none : (o : Option (Queue ℕ)) (queues : List (Queue ℕ)) → ((queue : Queue ℕ) → o ≡ Some queue → test queue ≡ false) → list_any test queues ≡ list_any test (cons_option o queues)
    cons_none None queues none = refl
    cons_none (Some queue) queues none = ap (λ b. b || list_any test queues) (sym (none queue refl))

    -- No queue of another device passes the test.
    abbrev pub NoOther : (ℕ → Bool) → List Object → Type 0
    NoOther own objects = (k : ℕ) (object : Object) → slice_get objects k ≡ Some object → own k ≡ false → (queue : Queue ℕ) → queue_in object ≡ Some queue → test queue ≡ false

    any_queue : (own : ℕ → Bool) (objects : List Object) → NoOther own objects → list_any moved_test (filter_map queue_in (kept (moved_object c) own objects)) ≡ list_any test (filter_map queue_in objects)
    unfolding kept
    any_queue own [] none = refl
    any_queue own (object ∷ later) none = by_first (own 0) refl (any_queue (next own) later (λ k o e. none (suc k) o e)) where
      by_first : (b : Bool) → own 0 ≡ b → list_any moved_test (filter_map queue_in (kept (moved_object c) (next own) later)) ≡ list_any test (filter_map queue_in later)
          → list_any moved_test (filter_map queue_in (if b then moved_object c object ∷ kept (moved_object c) (next own) later else kept (moved_object c) (next own) later))
          ≡ list_any test (cons_option (queue_in object) (filter_map queue_in later))
      by_first true is rest =
          ap (λ o. list_any moved_test (cons_option o (filter_map queue_in (kept (moved_object c) (next own) later)))) (queue_in-content object.content object.name object.device object.is_live)
          ∙ cons_any (queue_in object) (filter_map queue_in later) (filter_map queue_in (kept (moved_object c) (next own) later)) rest
      by_first false is rest = rest ∙ cons_none (queue_in object) (filter_map queue_in later) (λ queue e. none 0 object refl is queue e)

not_shown : (surface : ℕ) (queue : Queue ℕ) → (Names queue surface → ⊥) → shows (λ place. place == surface) queue ≡ false
not_shown surface queue none = false_from_ne_true (shows (λ place. place == surface) queue) (λ e. none (inr (is_visible_one surface queue.visible e)))

not_held : (surface : ℕ) (queue : Queue ℕ) → (Names queue surface → ⊥) → holds (λ place. place == surface) queue ≡ false
not_held surface queue none = false_from_ne_true (holds (λ place. place == surface) queue) (λ e. none (inl (has_entry surface queue.entries e)))

module _ (c : Cut) (on : ℕ) (q : ℕ → Option ℕ) (s t : State) (pair : Pair c on q s t) where
  -- no queue of another device names a surface of this one
  not_named : (surface : ℕ) → c.own surface ≡ true → (k : ℕ) (object : Object) → slice_get s.objects k ≡ Some object → c.own k ≡ false → (queue : Queue ℕ) → queue_in object ≡ Some queue → Names queue surface → ⊥
  not_named surface own k object stands other queue e names =
      let sound : IsSoundQueue s.objects object.device object.is_live queue =
      subst (λ (o : Option (Queue ℕ)). MatchOption o (Unit {0}) (IsSoundQueue s.objects object.device object.is_live)) e (pair.sound k object stands) in
      let is = sound.surfaces surface names in
      let same : c.own surface ≡ c.own k =
      pair.are_of surface is.object is.stands ∙ (ap (λ d. d == on) is.of_device ∙ sym (pair.are_of k object stands)) in
      false≢true (sym other ∙ (sym same ∙ own))

  pub part-visible : (surface : ℕ) → c.own surface ≡ true → is_visible_at t (place_in c surface) ≡ is_visible_at s surface
  part-visible surface own =
      ap (λ l. list_any (shows (λ place. place == place_in c surface)) (filter_map queue_in l)) pair.objects
      ∙ any_queue c surface (shows (λ place. place == surface)) (shows (λ place. place == place_in c surface)) (λ queue. shows-visible c surface queue.visible) c.own s.objects
      (λ k object stands other queue e. not_shown surface queue (not_named surface own k object stands other queue e))

  pub part-queued : (surface : ℕ) → c.own surface ≡ true → is_queued_at t (place_in c surface) ≡ is_queued_at s surface
  part-queued surface own =
      ap (λ l. list_any (holds (λ place. place == place_in c surface)) (filter_map queue_in l)) pair.objects
      ∙ any_queue c surface (holds (λ place. place == surface)) (holds (λ place. place == place_in c surface)) (λ queue. holds-entries c surface queue.entries) c.own s.objects
      (λ k object stands other queue e. not_held surface queue (not_named surface own k object stands other queue e))

  pub part-idle : (surface : ℕ) → c.own surface ≡ true → is_idle_at t (place_in c surface) ≡ is_idle_at s surface
  part-idle surface own = λ i. not (part-visible surface own i || part-queued surface own i)

  pub part-status : (surface : ℕ) → c.own surface ≡ true → status_at t (place_in c surface) ≡ status_at s surface
  part-status surface own = λ i. if part-visible surface own i then Visible else if part-queued surface own i then Waiting else Idle

  time_on : (queue : ℕ) (flip : Option LastFlip) → option_map_or (time_if_on (place_in c queue)) (option_map (moved_flip c) flip) 0 ≡ option_map_or (time_if_on queue) flip 0
  time_on queue None = refl
  time_on queue (Some flip) = ap (λ b. if b then flip.time else 0) (place_in-one c flip.queue queue)

  flip_in : (o : Option OutputSurface) → option_and_then (λ (of : OutputSurface). of.last_flip) (option_map (moved_output c) o) ≡ option_map (moved_flip c) (option_and_then (λ (of : OutputSurface). of.last_flip) o)
  flip_in None = refl
  flip_in (Some of) = refl

  pub part-first_time : (queue surface : ℕ) → c.own surface ≡ true → first_time t (place_in c queue) (place_in c surface) ≡ first_time s queue surface
  part-first_time queue surface own =
      ap (λ (o : Option OutputSurface). option_map_or (time_if_on (place_in c queue)) (option_and_then (λ of. of.last_flip) o) 0) (part-content c as_output (moved_output c) (output_moves c) s t surface pair.objects own)
      ∙ (ap (λ (o : Option LastFlip). option_map_or (time_if_on (place_in c queue)) o 0) (flip_in (content_at s as_output surface))
      ∙ time_on queue (option_and_then (λ of. of.last_flip) (content_at s as_output surface)))
