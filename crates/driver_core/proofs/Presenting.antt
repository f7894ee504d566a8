-- Which surfaces queues name, in what is kept and in the state.
use Rattle.std.proofs.Common.{◌≡◌, ◌⊎◌, inl, inr, ℕ, zero, suc, ◌==◌, ◌&&◌, ◌||◌, Bool, true, false, List, [], ◌∷◌, map, slice_get, Option, Some, None, option_map, true≢false, unwrap_or, refl, sym, ap, ◌∙◌, subst, arith}
use Rattle.std.specs.List.{cons_option, filter_map, list_any}
use Rattle.std.specs.Option.{option_map_or}
use Rattle.std.proofs.lemmas.Bool.Decides.{nat_tests}
use Rattle.std.proofs.lemmas.Option.{none-some}
use Rattle.present_queue.specs.Queue.{Names, Queue, Queued, empty_queue, holds, is_queued, is_shown, shows}
use Rattle.present_queue.specs.Queues.{IsHolderOf, Surface, is_object, queue_at}
use Rattle.driver_model.specs.Objects as model
use Rattle.driver_model.specs.Kept.{is_in_queue}
use Rattle.driver_model.specs.declared.numbers.TheConstants as number
use Rattle.driver_model.specs.Presented.{is_queued_at, is_visible_at, queue_in}
use Rattle.driver_model.specs.States.{State}
use Rattle.driver_model.proofs.Leading.{has_entry, is_visible_one}
use Rattle.driver_objects.specs.Kept.{kept_of, made_of}
use Rattle.driver_objects.specs.Kinds.{has_number, holder_of, kind_number, number_of}
use Rattle.driver_objects.specs.declared.content.Content.{Content}
use Rattle.driver_objects.specs.declared.content.Content.TheVariants as content
use Rattle.driver_objects.specs.declared.content.PresentationQueue.{PresentationQueue}
use Rattle.driver_objects.specs.declared.object.Object.{Object}
use Rattle.driver_objects.proofs.Cases.{same_bool, true_or_false}
use Rattle.driver_objects.proofs.OwnNumbers.{has_number_is}
use Rattle.driver_objects.proofs.Lists.{element_is, one_kept, some_passes}
use Rattle.driver_objects.proofs.Searched.{place_is_one}
use Rattle.driver_core.specs.Sound.{is_surface}
use Rattle.driver_core.specs.Stands.{IsContent, Stands, by_place, is_owed}
use Rattle.driver_core.specs.declared.driver.Core.{Core}
use Rattle.driver_core.proofs.DeadQueues.{dead_no_queue}
use Rattle.driver_core.proofs.Named.{kinds_same, one_at}

-- ---- tests of lists

or_either : (a b : Bool) → (a || b) ≡ true → (a ≡ true) ⊎ (b ≡ true)
or_either true b is = inl refl
or_either false b is = inr is

or_second : (a b : Bool) → b ≡ true → (a || b) ≡ true
or_second true b is = refl
or_second false b is = is

-- a queue among those that passes, where an empty one doesn't
module _ (test : Queue Surface → Bool) (fails : test empty_queue ≡ false) where
  pub any_queue : (queues : List (Queue Surface)) (number : ℕ) → test (queue_at queues number) ≡ true → list_any test queues ≡ true
  any_queue [] number passes = absurd (true≢false (sym passes ∙ fails))
  any_queue (q ∷ queues) zero passes = ap (λ b. b || list_any test queues) passes
  any_queue (q ∷ queues) (suc number) passes = or_second (test q) (list_any test queues) (any_queue queues number passes)

  pub queue_passes : (queues : List (Queue Surface)) → list_any test queues ≡ true → (number : ℕ) × (test (queue_at queues number) ≡ true)
  queue_passes [] any = absurd (true≢false (sym any))
  queue_passes (q ∷ queues) any = elim (or_either (test q) (list_any test queues) any) [
    | inl first ↦ (0, first)
    | inr later ↦ let r = queue_passes queues later in (suc r.0, r.1)
  ]

-- the queues of a list of objects
module _ (of : model.Object → Option (Queue ℕ)) (test : Queue ℕ → Bool) where
  pub any_of : (objects : List model.Object) (place : ℕ) (object : model.Object) (queue : Queue ℕ) → slice_get objects place ≡ Some object → of object ≡ Some queue → test queue ≡ true → list_any test (filter_map of objects) ≡ true
  any_of [] place object queue at is passes = absurd (none-some object at)
  any_of (first ∷ later) zero object queue at is passes =
      ap (λ q. list_any test (cons_option q (filter_map of later))) (ap of (element_is first object at) ∙ is) ∙ ap (λ b. b || list_any test (filter_map of later)) passes
  any_of (first ∷ later) (suc place) object queue at is passes = by_first (of first) (any_of later place object queue at is passes) where
    by_first : (o : Option (Queue ℕ)) → list_any test (filter_map of later) ≡ true → list_any test (cons_option o (filter_map of later)) ≡ true
    by_first None any = any
    by_first (Some q) any = or_second (test q) (list_any test (filter_map of later)) any

  -- one that passes
  pub record Passes (objects : List model.Object) : Type 0 where
    pub place : ℕ
    pub object : model.Object
    pub queue : Queue ℕ
    pub at : slice_get objects place ≡ Some object
    pub is : of object ≡ Some queue
    pub passes : test queue ≡ true

  pub of_passes : (objects : List model.Object) → list_any test (filter_map of objects) ≡ true → Passes objects
  of_passes [] any = absurd (true≢false (sym any))
  of_passes (first ∷ later) any = by_first (of first) refl any (of_passes later) where
    later_one : Passes later → Passes (first ∷ later)
    later_one p = record { place = suc p.place; object = p.object; queue = p.queue; at = p.at; is = p.is; passes = p.passes }

    by_first : (o : Option (Queue ℕ)) → of first ≡ o → list_any test (cons_option o (filter_map of later)) ≡ true → (list_any test (filter_map of later) ≡ true → Passes later) → Passes (first ∷ later)
    by_first None e any further = later_one (further any)
    by_first (Some q) e any further = elim (or_either (test q) (list_any test (filter_map of later)) any) [
      | inl here ↦ record { place = 0; object = first; queue = q; at = refl; is = e; passes = here }
      | inr there ↦ later_one (further there)
    ]

-- ---- what is kept of a queue

pub queue_of : (queues : List (Queue Surface)) (owed : Bool) (what : model.Content) (kept : PresentationQueue) → IsContent queues owed what (content.Queue kept)
    → (of : model.PresentationQueue) × (what ≡ model.QueueObject of) × (kept.window ≡ of.window) × (of.queue ≡ by_place (queue_at queues kept.number))
queue_of queues owed (model.DeviceObject of) kept is = elim is [ ]
queue_of queues owed (model.VideoObject of) kept is = elim is [ ]
queue_of queues owed (model.OutputObject of) kept is = elim is [ ]
queue_of queues owed (model.DecoderObject of) kept is = elim is [ ]
queue_of queues owed (model.MixerObject of) kept is = elim is [ ]
queue_of queues owed (model.QueueObject of) kept is = (of, refl, is.0, is.1)

pub queue_by_kind : (what : Content) → kind_number what ≡ number.PRESENTATION_QUEUE → (kept : PresentationQueue) × (what ≡ content.Queue kept)
queue_by_kind (content.Device of) is = absurd (omega (arith, is))
queue_by_kind (content.Video of) is = absurd (omega (arith, is))
queue_by_kind (content.Output of) is = absurd (omega (arith, is))
queue_by_kind (content.Decoder of) is = absurd (omega (arith, is))
queue_by_kind (content.Mixer of) is = absurd (omega (arith, is))
queue_by_kind (content.Queue of) is = (of, refl)

queue_by_number : (what : Content) (number : ℕ) → number_of what ≡ Some number → (kept : PresentationQueue) × (what ≡ content.Queue kept) × (kept.number ≡ number)
queue_by_number (content.Device of) number is = absurd (none-some number is)
queue_by_number (content.Video of) number is = absurd (none-some number is)
queue_by_number (content.Output of) number is = absurd (none-some number is)
queue_by_number (content.Decoder of) number is = absurd (none-some number is)
queue_by_number (content.Mixer of) number is = absurd (none-some number is)
queue_by_number (content.Queue of) number is = (of, refl, element_is of.number number is)

is_queue_in : (what : model.Content) (queue : Queue ℕ) → option_map (λ (x : model.PresentationQueue). x.queue) (model.as_queue what) ≡ Some queue → (model.kind_number what ≡ number.PRESENTATION_QUEUE)
is_queue_in (model.DeviceObject of) queue is = absurd (none-some queue is)
is_queue_in (model.VideoObject of) queue is = absurd (none-some queue is)
is_queue_in (model.OutputObject of) queue is = absurd (none-some queue is)
is_queue_in (model.DecoderObject of) queue is = absurd (none-some queue is)
is_queue_in (model.MixerObject of) queue is = absurd (none-some queue is)
is_queue_in (model.QueueObject of) queue is = refl

module _ (core : Core) (d : State) (stands : Stands core d) where
  -- a queue that is kept is live, and is the state's
  pub record QueueAt (place : ℕ) (number : ℕ) : Type 0 where
    pub one : model.Object
    pub at_place : slice_get d.objects place ≡ Some one
    pub live : one.is_live ≡ true
    pub queue : queue_in one ≡ Some (by_place (queue_at core.queues number))

  pub queue_is : (i : ℕ) (object : Object) (number : ℕ) → slice_get (kept_of core.objects) i ≡ Some object → number_of object.content ≡ Some number → QueueAt object.place number
  queue_is i object number at has =
      let k = stands.kept i object at in
      let q = queue_by_number object.content number has in
      let of = queue_of core.queues (is_owed d object.place) k.0.content q.0 (subst (IsContent core.queues (is_owed d object.place) k.0.content) q.1 k.3.content) in
      record {
        one = k.0;
        at_place = k.1;
        live = sym k.3.live ∙ elim (true_or_false object.is_live) [ inl live ↦ live | inr dead ↦ absurd (dead_no_queue core i object at dead (ap kind_number q.1)) ];
        queue = ap (λ c. option_map (λ (x : model.PresentationQueue). x.queue) (model.as_queue c)) of.1 ∙ ap Some (of.3 ∙ ap (λ n. by_place (queue_at core.queues n)) q.2);
      }

  -- a live queue of the state is kept
  pub record QueueFrom (place : ℕ) (queue : Queue ℕ) : Type 0 where
    pub index : ℕ
    pub object : Object
    pub there : slice_get (kept_of core.objects) index ≡ Some object
    pub at_place : object.place ≡ place
    pub number : ℕ
    pub has : number_of object.content ≡ Some number
    pub is : queue ≡ by_place (queue_at core.queues number)

  pub queue_from : (place : ℕ) (one : model.Object) (queue : Queue ℕ) → slice_get d.objects place ≡ Some one → one.is_live ≡ true → queue_in one ≡ Some queue → QueueFrom place queue
  queue_from place one queue at live is =
      let n = stands.needed place one at (ap (λ b. b || is_in_queue d place) live) in
      let k = stands.kept n.0 n.1 n.2 in
      let same : k.0 ≡ one = one_at d.objects place k.0 one (subst (λ p. slice_get d.objects p ≡ Some k.0) n.3 k.1) at in
      let is_kept : IsContent core.queues (is_owed d n.1.place) one.content n.1.content = subst (λ (o : model.Object). IsContent core.queues (is_owed d n.1.place) o.content n.1.content) same k.3.content in
      let kq = queue_by_kind n.1.content (sym (kinds_same core.queues (is_owed d n.1.place) one.content n.1.content is_kept) ∙ is_queue_in one.content queue is) in
      let of = queue_of core.queues (is_owed d n.1.place) one.content kq.0 (subst (IsContent core.queues (is_owed d n.1.place) one.content) kq.1 is_kept) in
      record {
        index = n.0;
        object = n.1;
        there = n.2;
        at_place = n.3;
        number = kq.0.number;
        has = ap number_of kq.1;
        is = ap (λ o. unwrap_or o queue) (sym is ∙ ap (λ c. option_map (λ (x : model.PresentationQueue). x.queue) (model.as_queue c)) of.1) ∙ of.3;
      }

  module _ (of : model.Object → Option (Queue ℕ)) (of_live : (o : model.Object) → o.is_live ≡ true → of o ≡ queue_in o) (of_queue : (o : model.Object) (queue : Queue ℕ) → of o ≡ Some queue → queue_in o ≡ Some queue)
      (test : Queue ℕ → Bool) (kept_test : Queue Surface → Bool) (agree : (queue : Queue Surface) → test (by_place queue) ≡ kept_test queue)
      (fails : kept_test empty_queue ≡ false) (names : (queue : Queue ℕ) → test queue ≡ true → (surface : ℕ) × Names queue surface) where
    to_state : list_any kept_test core.queues ≡ true → list_any test (filter_map of d.objects) ≡ true
    to_state any =
        let r = queue_passes kept_test fails core.queues any in
        elim (true_or_false (list_any (has_number r.0) (kept_of core.objects))) [
          | inl has ↦
              let s = some_passes (has_number r.0) (kept_of core.objects) has in
              let q = queue_is s.0 s.1 r.0 s.2 (has_number_is r.0 s.1 s.3) in
              any_of of test d.objects s.1.place q.one (by_place (queue_at core.queues r.0)) q.at_place (of_live q.one q.live ∙ q.queue) (agree (queue_at core.queues r.0) ∙ r.1)
          | inr has ↦ absurd (true≢false (sym r.1 ∙ (ap kept_test (core.sound.unused r.0 has) ∙ fails)))
        ]

    from_state : list_any test (filter_map of d.objects) ≡ true → list_any kept_test core.queues ≡ true
    from_state any =
        let p = of_passes of test d.objects any in
        elim (true_or_false p.object.is_live) [
          | inl live ↦
              let f = queue_from p.place p.object p.queue p.at live (of_queue p.object p.queue p.is) in
              any_queue kept_test fails core.queues f.number (sym (agree (queue_at core.queues f.number)) ∙ (ap test (sym f.is) ∙ p.passes))
          | inr dead ↦ let n = names p.queue p.passes in absurd (stands.idle_queues p.place p.object p.queue n.0 p.at dead (of_queue p.object p.queue p.is) n.1)
        ]

    pub same_any : list_any kept_test core.queues ≡ list_any test (filter_map of d.objects)
    same_any = same_bool (list_any kept_test core.queues) (list_any test (filter_map of d.objects)) to_state from_state

  -- ---- one surface

  module _ (place : ℕ) where
    holds_by_place : (queue : Queue Surface) → holds (λ p. p == place) (by_place queue) ≡ holds (is_object place) queue
    holds_by_place queue = by_entries queue.entries where
      by_entries : (entries : List (Queued Surface)) → list_any (λ (e : Queued ℕ). e.surface == place) (map (λ (entry : Queued Surface). record { surface = entry.surface.object; earliest = entry.earliest }) entries) ≡ list_any (λ (e : Queued Surface). is_object place e.surface) entries
      by_entries [] = refl
      by_entries (entry ∷ later) = ap (λ b. (entry.surface.object == place) || b) (by_entries later)

    shows_by_place : (queue : Queue Surface) → shows (λ p. p == place) (by_place queue) ≡ shows (is_object place) queue
    shows_by_place queue = by_visible queue.visible where
      by_visible : (visible : Option Surface) → option_map_or (λ p. p == place) (option_map (λ (surface : Surface). surface.object) visible) false ≡ option_map_or (is_object place) visible false
      by_visible None = refl
      by_visible (Some surface) = refl

    pub queued_there : is_queued (is_object place) core.queues ≡ is_queued_at d place
    queued_there = same_any queue_in (λ o live. refl) (λ o queue is. is) (holds (λ p. p == place)) (holds (is_object place)) holds_by_place refl (λ queue passes. (place, inl (has_entry place queue.entries passes)))

    pub shown_there : is_shown (is_object place) core.queues ≡ is_visible_at d place
    shown_there = same_any queue_in (λ o live. refl) (λ o queue is. is) (shows (λ p. p == place)) (shows (is_object place)) shows_by_place refl (λ queue passes. (place, inr (is_visible_one place queue.visible passes)))

-- ---- holders

pub holder_is : (surface : Surface) (object : Object) → is_surface surface object ≡ true → (object.place ≡ surface.object) × (holder_of object.content ≡ Some surface.holder)
holder_is surface object is = (grind (arith, nat_tests, is), by_holder (holder_of object.content) (second (object.place == surface.object) (option_map_or (λ h. h == surface.holder) (holder_of object.content) false) is)) where
  second : (a b : Bool) → (a && b) ≡ true → b ≡ true
  second true b both = both
  second false b both = absurd (true≢false (sym both))

  by_holder : (own : Option ℕ) → option_map_or (λ h. h == surface.holder) own false ≡ true → own ≡ Some surface.holder
  by_holder None has = absurd (true≢false (sym has))
  by_holder (Some h) has = let same : h ≡ surface.holder = grind (arith, nat_tests, has) in ap Some same

-- an output surface that is kept is the only one under its holder
pub is_holder : (core : Core) (index : ℕ) (object : Object) (holder : ℕ) → slice_get (kept_of core.objects) index ≡ Some object → holder_of object.content ≡ Some holder → IsHolderOf core.queues holder object.place
is_holder core index object holder there has number surface names =
    let s = some_passes (is_surface surface) (kept_of core.objects) (core.sound.surfaces number surface names) in
    let is = holder_is surface s.1 s.3 in (
      λ same.
          let here = core.sound.holders_apart index s.0 object s.1 holder there s.2 has (is.1 ∙ ap Some same) in
          sym is.0 ∙ ap (λ (x : Object). x.place) (one_kept (kept_of core.objects) index s.1 object (subst (λ i. slice_get (kept_of core.objects) i ≡ Some s.1) (sym here) s.2) there),
      λ same.
          let here = place_is_one core.objects.names (kept_of core.objects) (made_of core.objects) core.objects.sound index s.0 object s.1 there s.2 (sym (is.0 ∙ same)) in
          let one = one_kept (kept_of core.objects) index s.1 object (subst (λ i. slice_get (kept_of core.objects) i ≡ Some s.1) here s.2) there in
          element_is surface.holder holder (sym is.1 ∙ (ap (λ (x : Object). holder_of x.content) one ∙ has)),
    )
