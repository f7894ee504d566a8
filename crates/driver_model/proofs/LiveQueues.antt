-- What destroyed queues name, which is nothing, doesn't count.
use Rattle.std.proofs.Common.{◌≡◌, inl, inr, ℕ, zero, suc, ◌==◌, Bool, true, false, not, ◌||◌, if◌then◌else◌, List, [], ◌∷◌, filter_map, slice_get, Option, Some, None, MatchOption, refl, ap, sym, ◌∙◌, subst}
use Rattle.std.specs.List.{cons_option, list_any}
use Rattle.present_queue.specs.Queue.{Names, Queue, holds, shows}
use Rattle.driver_model.specs.Kept.{live_queue}
use Rattle.driver_model.specs.Laws.{LiveQueuesDecide}
use Rattle.driver_model.specs.Objects.{Object}
use Rattle.driver_model.specs.Presented.{queue_in, queues_of}
use Rattle.driver_model.specs.Sound.{AreSound, IsSoundQueue}
use Rattle.driver_model.proofs.Leading.{has_entry, is_visible_one}
use Rattle.driver_model.proofs.SoundSteps.{states_are_sound}

-- no destroyed queue passes the test
abbrev NoneOfDead : (Queue ℕ → Bool) → List Object → Type 0
NoneOfDead test objects =
    (place : ℕ) (object : Object) → slice_get objects place ≡ Some object → object.is_live ≡ false → (queue : Queue ℕ) → queue_in object ≡ Some queue → test queue ≡ false

any_live : (test : Queue ℕ → Bool) (objects : List Object) → NoneOfDead test objects → list_any test (filter_map live_queue objects) ≡ list_any test (filter_map queue_in objects)
any_live test [] none = refl
any_live test (object ∷ later) none = by_values object.is_live (queue_in object) refl refl (any_live test later (λ place other e. none (suc place) other e)) where
  by_values : (live : Bool) (queue : Option (Queue ℕ)) → object.is_live ≡ live → queue_in object ≡ queue → list_any test (filter_map live_queue later) ≡ list_any test (filter_map queue_in later)
      → list_any test (cons_option (if live then queue else None) (filter_map live_queue later)) ≡ list_any test (cons_option queue (filter_map queue_in later))
  by_values true (Some queue) l e rest = ap (λ b. test queue || b) rest
  by_values true None l e rest = rest
  by_values false None l e rest = rest
  by_values false (Some queue) l e rest = rest ∙ sym (ap (λ b. b || list_any test (filter_map queue_in later)) (none zero object refl l queue e))

module _ (surface : ℕ) (queue : Queue ℕ) (none : (place : ℕ) → Names queue place → ⊥) where
  shows_none : shows (λ place. place == surface) queue ≡ false
  shows_none = by_value (shows (λ place. place == surface) queue) refl where
    by_value : (b : Bool) → shows (λ place. place == surface) queue ≡ b → b ≡ false
    by_value true e = absurd (none surface (inr (is_visible_one surface queue.visible e)))
    by_value false e = refl

  holds_none : holds (λ place. place == surface) queue ≡ false
  holds_none = by_value (holds (λ place. place == surface) queue) refl where
    by_value : (b : Bool) → holds (λ place. place == surface) queue ≡ b → b ≡ false
    by_value true e = absurd (none surface (inl (has_entry surface queue.entries e)))
    by_value false e = refl

dead_is_empty : (objects : List Object) → AreSound objects → (place : ℕ) (object : Object) → slice_get objects place ≡ Some object → object.is_live ≡ false → (queue : Queue ℕ) → queue_in object ≡ Some queue
    → (named : ℕ) → Names queue named → ⊥
dead_is_empty objects sound place object stands dead queue e named names =
    let is : IsSoundQueue objects object.device object.is_live queue = subst (λ (o : Option (Queue ℕ)). MatchOption o (Unit {0}) (IsSoundQueue objects object.device object.is_live)) e (sound place object stands) in
    is.empty dead named names

twice_not : (a b : Bool) → (a || b) ≡ not (not (b || a))
twice_not true true = refl
twice_not true false = refl
twice_not false true = refl
twice_not false false = refl

pub live_queues_decide : LiveQueuesDecide
live_queues_decide history s leads surface =
    let sound = states_are_sound history s leads in
    let entries = any_live (holds (λ place. place == surface)) s.objects (λ place object stands dead queue e. holds_none surface queue (dead_is_empty s.objects sound place object stands dead queue e)) in
    let visible = any_live (shows (λ place. place == surface)) s.objects (λ place object stands dead queue e. shows_none surface queue (dead_is_empty s.objects sound place object stands dead queue e)) in
    (λ i. entries i || visible i) ∙ twice_not (list_any (holds (λ place. place == surface)) (queues_of s)) (list_any (shows (λ place. place == surface)) (queues_of s))
