-- What the live queues of a state name is named by the queues that are kept.
use Rattle.std.proofs.Common.{◌≡◌, inl, inr, ℕ, zero, suc, ◌==◌, ◌||◌, Bool, true, false, if◌then◌else◌, List, [], ◌∷◌, filter_map, map, slice_get, Contains, Option, Some, None, option_map, refl, sym, ap, ◌∙◌, subst, arith, eqb-true}
use mathlib.Core.Bool.{false≢true}
use Rattle.std.specs.List.{cons_option, list_any}
use Rattle.std.specs.Option.{option_map_or}
use Rattle.std.proofs.lemmas.Bool.Decides.{nat_tests}
use Rattle.std.proofs.lemmas.Option.{none-some}
use Rattle.present_queue.specs.Queue.{Names, Queue, Queued, holds, shows}
use Rattle.present_queue.specs.Queues.{Surface, queue_at}
use Rattle.driver_model.specs.Kept.{is_in_queue, live_queue, live_queues_of}
use Rattle.driver_model.specs.Objects as model
use Rattle.driver_model.specs.States.{State}
use Rattle.driver_objects.specs.Kept.{kept_of, made_of}
use Rattle.driver_objects.specs.Kinds.{holder_of}
use Rattle.driver_objects.specs.declared.content.Content.{Content}
use Rattle.driver_objects.specs.declared.content.Content.TheVariants as content
use Rattle.driver_objects.specs.declared.content.PresentationQueue.{PresentationQueue}
use Rattle.driver_objects.specs.declared.object.Object.{Object}
use Rattle.driver_objects.proofs.Lists.{element_is, one_kept, some_passes}
use Rattle.driver_objects.proofs.Searched.{place_is_one}
use Rattle.driver_core.specs.Sound.{is_surface}
use Rattle.driver_core.specs.Stands.{IsContent, Stands, by_place, is_owed}
use Rattle.driver_core.specs.declared.driver.Core.{Core}
use Rattle.driver_core.proofs.ModelKinds.{queue_is}
use Rattle.driver_core.proofs.Named.{one_at}

-- ---- one queue

entry_held : (place : ℕ) (entries : List (Queued Surface)) → list_any (λ entry. entry.surface == place) (by_place (record { entries = entries; visible = None; promise = 0 })).entries ≡ true
    → (surface : Surface) × Contains (map (λ entry. entry.surface) entries) surface × (surface.object ≡ place)
entry_held place [] e = absurd (false≢true e)
entry_held place (entry ∷ others) e = by_value (entry.surface.object == place) refl e (entry_held place others) where
  by_value : (b : Bool) → (entry.surface.object == place) ≡ b → (b || list_any (λ other. other.surface == place) (by_place (record { entries = others; visible = None; promise = 0 })).entries) ≡ true
      → (list_any (λ other. other.surface == place) (by_place (record { entries = others; visible = None; promise = 0 })).entries ≡ true → (surface : Surface) × Contains (map (λ other. other.surface) others) surface × (surface.object ≡ place))
      → (surface : Surface) × Contains (map (λ other. other.surface) (entry ∷ others)) surface × (surface.object ≡ place)
  by_value true t k later = (entry.surface, (zero, omega arith, refl), eqb-true entry.surface.object place t)
  by_value false t k later = let r = later k in (r.0, (suc r.1.0, omega (arith, r.1.1), r.1.2), r.2)

shown_held : (place : ℕ) (visible : Option Surface) → option_map_or (λ object. object == place) (option_map (λ surface. surface.object) visible) false ≡ true
    → (surface : Surface) × (visible ≡ Some surface) × (surface.object ≡ place)
shown_held place None e = absurd (false≢true e)
shown_held place (Some surface) e = (surface, refl, eqb-true surface.object place e)

-- ---- the live queues of a list of objects

any_live : (test : Queue ℕ → Bool) (objects : List model.Object) → list_any test (filter_map live_queue objects) ≡ true
    → (place : ℕ) × (one : model.Object) × (queue : Queue ℕ) × (slice_get objects place ≡ Some one) × (live_queue one ≡ Some queue) × (test queue ≡ true)
any_live test [] e = absurd (false≢true e)
any_live test (first ∷ later) e = by_value (live_queue first) refl e (any_live test later) where
  by_value : (o : Option (Queue ℕ)) → live_queue first ≡ o → list_any test (cons_option o (filter_map live_queue later)) ≡ true
      → (list_any test (filter_map live_queue later) ≡ true → (place : ℕ) × (one : model.Object) × (queue : Queue ℕ) × (slice_get later place ≡ Some one) × (live_queue one ≡ Some queue) × (test queue ≡ true))
      → (place : ℕ) × (one : model.Object) × (queue : Queue ℕ) × (slice_get (first ∷ later) place ≡ Some one) × (live_queue one ≡ Some queue) × (test queue ≡ true)
  by_value None is e further = let r = further e in (suc r.0, r.1, r.2, r.3, r.4, r.5)
  by_value (Some queue) is e further = by_test (test queue) refl e where
    by_test : (b : Bool) → test queue ≡ b → (b || list_any test (filter_map live_queue later)) ≡ true
        → (place : ℕ) × (one : model.Object) × (queue : Queue ℕ) × (slice_get (first ∷ later) place ≡ Some one) × (live_queue one ≡ Some queue) × (test queue ≡ true)
    by_test true t k = (0, first, queue, refl, is, t)
    by_test false t k = let r = further k in (suc r.0, r.1, r.2, r.3, r.4, r.5)

live_is : (one : model.Object) (queue : Queue ℕ) → live_queue one ≡ Some queue → (one.is_live ≡ true) × (of : model.PresentationQueue) × (model.as_queue one.content ≡ Some of) × (of.queue ≡ queue)
live_is one queue e = by_values one.is_live (model.as_queue one.content) refl refl e where
  by_values : (b : Bool) (o : Option model.PresentationQueue) → one.is_live ≡ b → model.as_queue one.content ≡ o → (if b then option_map (λ (of : model.PresentationQueue). of.queue) o else None) ≡ Some queue
      → (one.is_live ≡ true) × (of : model.PresentationQueue) × (model.as_queue one.content ≡ Some of) × (of.queue ≡ queue)
  by_values true None l is e = absurd (none-some queue e)
  by_values true (Some of) l is e = (l, of, is, element_is of.queue queue e)
  by_values false o l is e = absurd (none-some queue e)

-- what is kept of a queue is one of the queues by number
pub queue_of : (queues : List (Queue Surface)) (owed : Bool) (of : model.PresentationQueue) (kept : Content) → IsContent queues owed (model.QueueObject of) kept
    → (queue : PresentationQueue) × (kept ≡ content.Queue queue) × (of.queue ≡ by_place (queue_at queues queue.number))
queue_of queues owed of (content.Device kept) is = elim is [ ]
queue_of queues owed of (content.Video kept) is = elim is [ ]
queue_of queues owed of (content.Output kept) is = elim is [ ]
queue_of queues owed of (content.Decoder kept) is = elim is [ ]
queue_of queues owed of (content.Mixer kept) is = elim is [ ]
queue_of queues owed of (content.Queue kept) is = (kept, refl, is.1)

-- ---- the state's

module _ (core : Core) (d : State) (stands : Stands core d) where
  -- some queue names a surface of this place
  pub record IsNamedAt (place : ℕ) : Type 0 where
    pub number : ℕ
    pub surface : Surface
    pub names : Names (queue_at core.queues number) surface
    pub at_place : surface.object ≡ place

  queue_kept : (test : Queue ℕ → Bool) → list_any test (live_queues_of d) ≡ true → (number : ℕ) × (test (by_place (queue_at core.queues number)) ≡ true)
  queue_kept test any =
      let a = any_live test d.objects any in
      let l = live_is a.1 a.2 a.4 in
      let n = stands.needed a.0 a.1 a.3 (ap (λ b. b || is_in_queue d a.0) l.0) in
      let k = stands.kept n.0 n.1 n.2 in
      let one : k.0 ≡ a.1 = one_at d.objects a.0 k.0 a.1 (subst (λ p. slice_get d.objects p ≡ Some k.0) n.3 k.1) a.3 in
      let has : k.0.content ≡ model.QueueObject l.1 = ap (λ (x : model.Object). x.content) one ∙ queue_is a.1.content l.1 l.2 in
      let q = queue_of core.queues (is_owed d n.1.place) l.1 n.1.content (subst (λ what. IsContent core.queues (is_owed d n.1.place) what n.1.content) has k.3.content) in
      (q.0.number, ap test (sym q.2 ∙ l.3) ∙ a.5)

  pub named_at : (place : ℕ) → is_in_queue d place ≡ true → IsNamedAt place
  named_at place any = by_value (list_any (holds (λ p. p == place)) (live_queues_of d)) refl any where
    by_value : (b : Bool) → list_any (holds (λ p. p == place)) (live_queues_of d) ≡ b → (b || list_any (shows (λ p. p == place)) (live_queues_of d)) ≡ true → IsNamedAt place
    by_value true held e =
        let q = queue_kept (holds (λ p. p == place)) held in
        let s = entry_held place (queue_at core.queues q.0).entries q.1 in
        record { number = q.0; surface = s.0; names = inl s.1; at_place = s.2 }
    by_value false held e =
        let q = queue_kept (shows (λ p. p == place)) e in
        let s = shown_held place (queue_at core.queues q.0).visible q.1 in
        record { number = q.0; surface = s.0; names = inr s.1; at_place = s.2 }

  -- an object without a holder is none of them
  pub not_named : (index : ℕ) (object : Object) → slice_get (kept_of core.objects) index ≡ Some object → holder_of object.content ≡ None → is_in_queue d object.place ≡ true → ⊥
  not_named index object there none any =
      let n = named_at object.place any in
      let s = some_passes (is_surface n.surface) (kept_of core.objects) (core.sound.surfaces n.number n.surface n.names) in
      let at_place : s.1.place ≡ n.surface.object = let t = s.3 in grind (arith, nat_tests, t) in
      let here : s.0 ≡ index = place_is_one core.objects.names (kept_of core.objects) (made_of core.objects) core.objects.sound index s.0 object s.1 there s.2 (sym n.at_place ∙ sym at_place) in
      let same : s.1 ≡ object = one_kept (kept_of core.objects) index s.1 object (subst (λ i. slice_get (kept_of core.objects) i ≡ Some s.1) here s.2) there in
      let holds_it : is_surface n.surface object ≡ true = ap (is_surface n.surface) (sym same) ∙ s.3 in
      let no_holder : option_map_or (λ holder. holder == n.surface.holder) (holder_of object.content) false ≡ false = ap (λ h. option_map_or (λ holder. holder == n.surface.holder) h false) none in
      absurd (grind (arith, holds_it, no_holder))
