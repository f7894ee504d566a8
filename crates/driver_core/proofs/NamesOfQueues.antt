-- Which surfaces the queues name, in what is kept and in the state.
use Rattle.std.proofs.Common.{◌≡◌, inl, inr, ℕ, zero, suc, ◌==◌, Bool, true, false, if◌then◌else◌, List, [], ◌∷◌, map, slice_get, Contains, Option, Some, None, option_map, refl, sym, ap, ◌∙◌, subst, arith}
use Rattle.std.specs.List.{cons_option, filter_map}
use Rattle.std.proofs.lemmas.Bool.Decides.{nat_tests}
use Rattle.std.proofs.lemmas.Option.{none-some}
use Rattle.present_queue.specs.Queue.{Names, Queue, Queued}
use Rattle.present_queue.specs.Queues.{Surface}
use Rattle.driver_model.specs.Kept.{is_in_queue, live_queue}
use Rattle.driver_model.specs.Objects as model
use Rattle.driver_model.specs.States.{State}
use Rattle.driver_objects.proofs.Lists.{element_is}
use Rattle.driver_objects.proofs.QueueNames.{in_some, some_in}
use Rattle.driver_core.specs.Stands.{by_place}

-- ---- the live queues of the state

-- a live queue of the state names the surface at this place
pub record InQueue (d : State) (place : ℕ) : Type 0 where
  pub other : ℕ
  pub one : model.Object
  pub at_other : slice_get d.objects other ≡ Some one
  pub live : one.is_live ≡ true
  pub value : model.PresentationQueue
  pub is : model.as_queue one.content ≡ Some value
  pub names : Names value.queue place

-- the queue of a live object that is one
pub record IsLiveQueue (one : model.Object) (queue : Queue ℕ) : Type 0 where
  pub live : one.is_live ≡ true
  pub value : model.PresentationQueue
  pub is : model.as_queue one.content ≡ Some value
  pub has : value.queue ≡ queue

pub live_is : (one : model.Object) (queue : Queue ℕ) → live_queue one ≡ Some queue → IsLiveQueue one queue
live_is one queue is = by_life one.is_live refl is where
  by_content : one.is_live ≡ true → (o : Option model.PresentationQueue) → model.as_queue one.content ≡ o → option_map (λ (x : model.PresentationQueue). x.queue) o ≡ Some queue → IsLiveQueue one queue
  by_content live None has e = absurd (none-some queue e)
  by_content live (Some value) has e = record { live = live; value = value; is = has; has = element_is value.queue queue e }

  by_life : (b : Bool) → one.is_live ≡ b → live_queue one ≡ Some queue → IsLiveQueue one queue
  by_life true live e = by_content live (model.as_queue one.content) refl (sym (ap (λ b. if b then option_map (λ (x : model.PresentationQueue). x.queue) (model.as_queue one.content) else None) live) ∙ e)
  by_life false dead e = absurd (none-some queue (sym (ap (λ b. if b then option_map (λ (x : model.PresentationQueue). x.queue) (model.as_queue one.content) else None) dead) ∙ e))

in_filtered : (objects : List model.Object) (i : ℕ) (queue : Queue ℕ) → slice_get (filter_map live_queue objects) i ≡ Some queue → (j : ℕ) × (one : model.Object) × (slice_get objects j ≡ Some one) × (live_queue one ≡ Some queue)
in_filtered [] i queue at = absurd (none-some queue at)
in_filtered (first ∷ later) i queue at = by_first (live_queue first) refl (in_filtered later) i at where
  by_first : (o : Option (Queue ℕ)) → live_queue first ≡ o
      → ((i : ℕ) (queue : Queue ℕ) → slice_get (filter_map live_queue later) i ≡ Some queue → (j : ℕ) × (one : model.Object) × (slice_get later j ≡ Some one) × (live_queue one ≡ Some queue))
      → (i : ℕ) → slice_get (cons_option o (filter_map live_queue later)) i ≡ Some queue → (j : ℕ) × (one : model.Object) × (slice_get (first ∷ later) j ≡ Some one) × (live_queue one ≡ Some queue)
  by_first None is rest i e = let there = rest i queue e in (suc there.0, there.1, there.2, there.3)
  by_first (Some q) is rest zero e = (0, first, refl, is ∙ e)
  by_first (Some q) is rest (suc i) e = let there = rest i queue e in (suc there.0, there.1, there.2, there.3)

filtered_in : (objects : List model.Object) (j : ℕ) (one : model.Object) (queue : Queue ℕ) → slice_get objects j ≡ Some one → live_queue one ≡ Some queue → (i : ℕ) × (slice_get (filter_map live_queue objects) i ≡ Some queue)
filtered_in [] j one queue at is = absurd (none-some one at)
filtered_in (first ∷ later) zero one queue at is =
    let first_is : live_queue first ≡ Some queue = ap live_queue (element_is first one at) ∙ is in
    (0, ap (λ o. slice_get (cons_option o (filter_map live_queue later)) 0) first_is)
filtered_in (first ∷ later) (suc j) one queue at is = by_first (live_queue first) (filtered_in later j one queue at is) where
  by_first : (o : Option (Queue ℕ)) → ((i : ℕ) × (slice_get (filter_map live_queue later) i ≡ Some queue)) → (i : ℕ) × (slice_get (cons_option o (filter_map live_queue later)) i ≡ Some queue)
  by_first None there = there
  by_first (Some q) there = (suc there.0, there.1)

module _ (d : State) (place : ℕ) where
  pub in_queue : is_in_queue d place ≡ true → InQueue d place
  in_queue any =
      let there = in_some (λ p. p == place) (filter_map live_queue d.objects) any in
      let o = in_filtered d.objects there.0 there.1 there.2 in
      let l = live_is o.1 there.1 o.3 in
      let n = there.3 in
      let same : n.0 ≡ place = let t = n.2 in grind (arith, nat_tests, t) in
      record { other = o.0; one = o.1; at_other = o.2; live = l.live; value = l.value; is = l.is; names = subst (λ q. Names q place) (sym l.has) (subst (λ p. Names there.1 p) same n.1) }

  pub queue_in : InQueue d place → is_in_queue d place ≡ true
  queue_in q =
      let is : live_queue q.one ≡ Some q.value.queue = ap (λ b. if b then option_map (λ (x : model.PresentationQueue). x.queue) (model.as_queue q.one.content) else None) q.live ∙ ap (λ o. option_map (λ (x : model.PresentationQueue). x.queue) o) q.is in
      let there = filtered_in d.objects q.other q.one q.value.queue q.at_other is in
      some_in (λ p. p == place) (filter_map live_queue d.objects) there.0 q.value.queue there.1 (place, q.names, grind (arith, nat_tests))

-- ---- surfaces by their places alone

entries_by_place : (entries : List (Queued Surface)) (place : ℕ)
    → Contains (map (λ (e : Queued ℕ). e.surface) (map (λ (e : Queued Surface). record { surface = e.surface.object; earliest = e.earliest }) entries)) place
    → (surface : Surface) × Contains (map (λ (e : Queued Surface). e.surface) entries) surface × (surface.object ≡ place)
entries_by_place [] place there = absurd (omega (arith, there.1))
entries_by_place (first ∷ later) place (zero, within, is) = (first.surface, (0, omega arith, refl), is)
entries_by_place (first ∷ later) place (suc i, within, is) =
    let there = entries_by_place later place (i, omega (arith, within), is) in
    (there.0, (suc there.1.0, omega (arith, there.1.1), there.1.2), there.2)

entries_placed : (entries : List (Queued Surface)) (surface : Surface) → Contains (map (λ (e : Queued Surface). e.surface) entries) surface
    → Contains (map (λ (e : Queued ℕ). e.surface) (map (λ (e : Queued Surface). record { surface = e.surface.object; earliest = e.earliest }) entries)) surface.object
entries_placed [] surface there = absurd (omega (arith, there.1))
entries_placed (first ∷ later) surface (zero, within, is) = (0, omega arith, ap (λ (s : Surface). s.object) is)
entries_placed (first ∷ later) surface (suc i, within, is) = let there = entries_placed later surface (i, omega (arith, within), is) in (suc there.0, omega (arith, there.1), there.2)

-- a queue whose surfaces are known by their places names just those of its surfaces
pub places_named : (queue : Queue Surface) (place : ℕ) → Names (by_place queue) place → (surface : Surface) × Names queue surface × (surface.object ≡ place)
places_named queue place (inl there) = let t = entries_by_place queue.entries place there in (t.0, inl t.1, t.2)
places_named queue place (inr shown) = by_visible queue.visible refl shown where
  by_visible : (o : Option Surface) → queue.visible ≡ o → option_map (λ (s : Surface). s.object) o ≡ Some place → (surface : Surface) × Names queue surface × (surface.object ≡ place)
  by_visible None is e = absurd (none-some place e)
  by_visible (Some surface) is e = (surface, inr is, element_is surface.object place e)

pub named_places : (queue : Queue Surface) (surface : Surface) → Names queue surface → Names (by_place queue) surface.object
named_places queue surface (inl there) = inl (entries_placed queue.entries surface there)
named_places queue surface (inr shown) = inr (ap (option_map (λ (s : Surface). s.object)) shown)
