-- The end of a device, in what is kept and in the state for which it stands.
use Rattle.std.proofs.Common.{◌≡◌, inl, inr, ℕ, ◌==◌, ◌||◌, Bool, true, false, true≢false, if◌then◌else◌, List, [], ◌∷◌, map, slice_get, Some, option_map, refl, sym, ap, ◌∙◌, subst, arith}
use Rattle.std.specs.List.{list_any}
use Rattle.std.proofs.lemmas.List.{length-map}
use Rattle.std.proofs.lemmas.Option.{none-some}
use Rattle.present_queue.specs.Queue.{Names, Queue}
use Rattle.present_queue.specs.Queues.{Surface, queue_at}
use Rattle.driver_model.specs.Clock.{destroyed_on, let_go}
use Rattle.driver_model.specs.Kept.{is_in_queue}
use Rattle.driver_model.specs.Objects as model
use Rattle.driver_model.specs.Presented.{queue_in as queue_of_object}
use Rattle.driver_model.specs.Queues.{emptied}
use Rattle.driver_model.specs.States.{State}
use Rattle.driver_objects.specs.DeviceEnds.{ended, is_queue_on}
use Rattle.driver_objects.specs.Kept.{IsGiven, kept_of, made_of}
use Rattle.driver_objects.specs.Kinds.{holder_of, number_of}
use Rattle.driver_objects.specs.Listed.{destroyed}
use Rattle.driver_objects.specs.Swept.{is_wanted}
use Rattle.driver_objects.specs.declared.content.Content.{Content}
use Rattle.driver_objects.specs.declared.content.Content.TheVariants as content
use Rattle.driver_objects.specs.declared.object.Object.{Object}
use Rattle.driver_objects.proofs.Cases.{true_or_false}
use Rattle.driver_objects.proofs.Ending.{ended_keeps, ended_on, ended_other, is_on_queue, queue_on_is}
use Rattle.driver_objects.proofs.Lists.{any_at, element_is, one_kept, some_passes}
use Rattle.driver_objects.proofs.Maps.{get_map, map_get}
use Rattle.driver_objects.proofs.Searched.{place_is_one}
use Rattle.driver_objects.proofs.Wanted.{held_wanted, wanted_held}
use Rattle.driver_core.specs.Covers.{Covers, IsAllNeeded, IsOf}
use Rattle.driver_core.specs.Sound.{is_surface}
use Rattle.driver_core.specs.Stands.{AreIdle, IsContent, Stands, is_owed, told_by}
use Rattle.driver_core.specs.declared.driver.Core.{Core}
use Rattle.driver_core.proofs.Covering.{covers_of, stands_from}
use Rattle.driver_core.proofs.DeadQueues.{dead_number}
use Rattle.driver_core.proofs.EndedSound.{QueuesEnd, fewer, held_as, live_stays, not_on, stays, swept, was}
use Rattle.driver_core.proofs.Named.{one_at}
use Rattle.driver_core.proofs.NamedBoth.{core_named, state_named}
use Rattle.driver_core.proofs.NamesOfQueues.{InQueue, in_queue, queue_in}
use Rattle.driver_core.proofs.Presenting.{holder_is}
use Rattle.driver_core.proofs.StillContent.{content_still}

-- ---- one object of the state

module _ (on : ℕ) (one : model.Object) where
  lost_on : (one.device == on) ≡ true → destroyed_on on one ≡ record one { is_live = false; content = let_go one.content }
  lost_on e = ap (λ b. if b then record one { is_live = false; content = let_go one.content } else one) e

  lost_other : (one.device == on) ≡ false → destroyed_on on one ≡ one
  lost_other e = ap (λ b. if b then record one { is_live = false; content = let_go one.content } else one) e

  lost_name : (destroyed_on on one).name ≡ one.name
  lost_name = by_test (one.device == on) where
    by_test : (b : Bool) → (if b then record one { is_live = false; content = let_go one.content } else one).name ≡ one.name
    by_test true = refl
    by_test false = refl

  -- what lives on is of another device
  lost_lives : (destroyed_on on one).is_live ≡ true → (one.device == on) ≡ false
  lost_lives live = elim (true_or_false (one.device == on)) [
    | inl e ↦ absurd (true≢false (sym live ∙ ap (λ (o : model.Object). o.is_live) (lost_on e)))
    | inr e ↦ e
  ]

names_lost : (on : ℕ) (objects : List model.Object) → map (λ (one : model.Object). one.name) (map (destroyed_on on) objects) ≡ map (λ (one : model.Object). one.name) objects
names_lost on [] = refl
names_lost on (one ∷ later) = λ i. lost_name on one i ∷ names_lost on later i

-- an emptied queue names nothing
let_go_names : (what : model.Content) (queue : Queue ℕ) (surface : ℕ) → option_map (λ (of : model.PresentationQueue). of.queue) (model.as_queue (let_go what)) ≡ Some queue → Names queue surface → ⊥
let_go_names (model.DeviceObject of) queue surface is names = none-some queue is
let_go_names (model.VideoObject of) queue surface is names = none-some queue is
let_go_names (model.OutputObject of) queue surface is names = none-some queue is
let_go_names (model.DecoderObject of) queue surface is names = none-some queue is
let_go_names (model.MixerObject of) queue surface is names = none-some queue is
let_go_names (model.QueueObject of) queue surface is names = nothing (subst (λ q. Names q surface) (sym (element_is (emptied of).queue queue is)) names) where
  nothing : Names (emptied of).queue surface → ⊥
  nothing (inl entry) = omega (arith, entry.1)
  nothing (inr shown) = none-some surface shown

-- what has a holder is no queue, and keeps what it has
let_go_output : (before after : List (Queue Surface)) (owed : Bool) (what : model.Content) (kept : Content) (holder : ℕ) → holder_of kept ≡ Some holder → IsContent before owed what kept → IsContent after owed (let_go what) kept
let_go_output before after owed what (content.Device kept) holder has is = absurd (none-some holder has)
let_go_output before after owed what (content.Video kept) holder has is = absurd (none-some holder has)
let_go_output before after owed (model.DeviceObject of) (content.Output kept) holder has is = elim is [ ]
let_go_output before after owed (model.VideoObject of) (content.Output kept) holder has is = elim is [ ]
let_go_output before after owed (model.OutputObject of) (content.Output kept) holder has is = is
let_go_output before after owed (model.DecoderObject of) (content.Output kept) holder has is = elim is [ ]
let_go_output before after owed (model.MixerObject of) (content.Output kept) holder has is = elim is [ ]
let_go_output before after owed (model.QueueObject of) (content.Output kept) holder has is = elim is [ ]
let_go_output before after owed what (content.Decoder kept) holder has is = absurd (none-some holder has)
let_go_output before after owed what (content.Mixer kept) holder has is = absurd (none-some holder has)
let_go_output before after owed what (content.Queue kept) holder has is = absurd (none-some holder has)

-- ---- the state

module _ (core : Core) (on : ℕ) (queues : List (Queue Surface)) (queues_end : QueuesEnd core on queues) (d : State) (stands : Stands core d) where
  abbrev pub new : State
  new = record d { objects = map (destroyed_on on) d.objects }

  -- a kept queue of another device keeps its entries
  still : (index : ℕ) (object : Object) (number : ℕ) → slice_get (kept_of core.objects) index ≡ Some object → number_of object.content ≡ Some number → (object.device == on) ≡ false
      → list_any (is_queue_on on number) (kept_of core.objects) ≡ false
  still index object number there has other = elim (true_or_false (list_any (is_queue_on on number) (kept_of core.objects))) [
    | inl any ↦
        let s = some_passes (is_queue_on on number) (kept_of core.objects) any in
        let q = queue_on_is on number s.1 s.3 in
        let here = core.sound.numbers_apart s.0 index s.1 object number s.2 there q.2 has in
        let same = one_kept (kept_of core.objects) index s.1 object (subst (λ i. slice_get (kept_of core.objects) i ≡ Some s.1) here s.2) there in
        absurd (true≢false (sym q.1 ∙ (ap (λ (x : Object). x.device == on) same ∙ other)))
    | inr none ↦ none
  ]

  -- a queue that still names something is one of another device
  in_before : (place : ℕ) → InQueue new place → (q : InQueue d place) × ((q.one.device == on) ≡ false)
  in_before place q =
      let m = get_map (destroyed_on on) d.objects q.other q.one q.at_other in
      let other = lost_lives on m.0 (ap (λ (o : model.Object). o.is_live) m.2 ∙ q.live) in
      let same : m.0 ≡ q.one = sym (lost_other on m.0 other) ∙ m.2 in (
        record { other = q.other; one = q.one; at_other = m.1 ∙ ap Some same; live = q.live; value = q.value; is = q.is; names = q.names },
        ap (λ (o : model.Object). o.device == on) (sym same) ∙ other,
      )

  before : (place : ℕ) → is_in_queue new place ≡ true → is_in_queue d place ≡ true
  before place queued = queue_in d place (in_before place (in_queue new place queued)).0

  from_state : (place : ℕ) → is_in_queue new place ≡ true → (number : ℕ) × (surface : Surface) × Names (queue_at queues number) surface × (surface.object ≡ place)
  from_state place queued =
      let q = in_before place (in_queue new place queued) in
      let n = state_named core d stands place q.0 in
      let k = stands.kept n.index n.object n.there in
      let one : k.0 ≡ q.0.one = one_at d.objects q.0.other k.0 q.0.one (subst (λ p. slice_get d.objects p ≡ Some k.0) n.at_other k.1) q.0.at_other in
      let other : (n.object.device == on) ≡ false = ap (λ p. p == on) (k.3.device ∙ ap (λ (o : model.Object). o.device) one) ∙ q.1 in
      (n.number, n.surface, subst (λ x. Names x n.surface) (sym (queues_end.others n.number (still n.index n.object n.number n.there n.has other))) n.named, n.at_place)

  to_state : (number : ℕ) (surface : Surface) → Names (queue_at queues number) surface → is_in_queue new surface.object ≡ true
  to_state number surface named =
      let none = not_on core on queues queues_end number surface named in
      let n = core_named core d stands number surface (fewer core on queues queues_end number surface named) in
      let live = dead_number core n.index n.object number n.there n.has in
      let q = n.in_state in
      let k = stands.kept n.index n.object n.there in
      let one : k.0 ≡ q.one = one_at d.objects q.other k.0 q.one (subst (λ p. slice_get d.objects p ≡ Some k.0) (sym n.same) k.1) q.at_other in
      let other : (n.object.device == on) ≡ false = elim (true_or_false (n.object.device == on)) [
        | inl e ↦ absurd (true≢false (sym (any_at (is_queue_on on number) (kept_of core.objects) n.index n.object n.there (is_on_queue on number n.object live e n.has)) ∙ none))
        | inr e ↦ e
      ] in
      let one_other : (q.one.device == on) ≡ false = ap (λ p. p == on) (sym (k.3.device ∙ ap (λ (o : model.Object). o.device) one)) ∙ other in
      queue_in new surface.object (record { other = q.other; one = q.one; at_other = map_get (destroyed_on on) d.objects q.other q.one q.at_other ∙ ap Some (lost_other on q.one one_other); live = q.live; value = q.value; is = q.is; names = q.names })

  all_needed : IsAllNeeded (swept core on queues queues_end) new
  all_needed i o at = elim (true_or_false o.is_live) [
    | inl live ↦ grind (arith, live)
    | inr dead ↦
        let h = held_as core on queues queues_end i o at dead in
        let queued : is_in_queue new o.place ≡ true = subst (λ p. is_in_queue new p ≡ true) h.1 (to_state h.0.number h.0.surface h.0.named) in
        grind (arith, queued)
  ]

  -- what a queue of the new state names is wanted
  named_wanted : (i : ℕ) (o : Object) → slice_get (kept_of core.objects) i ≡ Some o → is_in_queue new o.place ≡ true → is_wanted queues (ended on o) ≡ true
  named_wanted i o at queued =
      let f = from_state o.place queued in
      let s = some_passes (is_surface f.1) (kept_of core.objects) (core.sound.surfaces f.0 f.1 (fewer core on queues queues_end f.0 f.1 f.2)) in
      let is = holder_is f.1 s.1 s.3 in
      let here = place_is_one core.objects.names (kept_of core.objects) (made_of core.objects) core.objects.sound i s.0 o s.1 at s.2 (sym (is.0 ∙ f.3)) in
      let one = one_kept (kept_of core.objects) i s.1 o (subst (λ k. slice_get (kept_of core.objects) k ≡ Some s.1) here s.2) at in
      held_wanted queues (ended on o) f.1.holder f.0 f.1 (ended_keeps on o (λ x. holder_of x.content) refl ∙ (ap (λ (y : Object). holder_of y.content) (sym one) ∙ is.1)) f.2 refl

  -- what is kept of an object that is wanted is what it has after the end
  still_of : (i : ℕ) (o : Object) (one : model.Object) → slice_get (kept_of core.objects) i ≡ Some o → is_wanted queues (ended on o) ≡ true → IsOf core.queues d one o → IsOf queues new (destroyed_on on one) (ended on o)
  still_of i o one at wanted is = elim (true_or_false (o.device == on)) [
    | inl e ↦
        let e_one : (one.device == on) ≡ true = ap (λ p. p == on) (sym is.device) ∙ e in
        let h = wanted_held queues (destroyed o) refl (ap (is_wanted queues) (sym (ended_on on o e)) ∙ wanted) in
        let gone : IsOf queues new (record one { is_live = false; content = let_go one.content }) (destroyed o) =
        record { name = is.name; device = is.device; live = refl; content = let_go_output core.queues queues (is_owed d o.place) one.content o.content h.holder h.has is.content } in
        subst (λ x. IsOf queues new x (ended on o)) (sym (lost_on on one e_one)) (subst (IsOf queues new (record one { is_live = false; content = let_go one.content })) (sym (ended_on on o e)) gone)
    | inr e ↦
        let e_one : (one.device == on) ≡ false = ap (λ p. p == on) (sym is.device) ∙ e in
        let same : IsOf queues new one o = record {
          name = is.name;
          device = is.device;
          live = is.live;
          content = content_still core.queues queues (is_owed d o.place) one.content o.content (λ queue has. queues_end.others queue.number (still i o queue.number at (ap number_of has) e)) is.content;
        } in
        subst (λ x. IsOf queues new x (ended on o)) (sym (lost_other on one e_one)) (subst (IsOf queues new one) (sym (ended_other on o e)) same)
  ]

  covers : Covers (swept core on queues queues_end) queues new
  covers = record {
    is = λ i o at.
        let w = was core on queues queues_end i o at in
        let k = (covers_of core d stands).is w.at w.before w.stood in
        let there : slice_get new.objects w.before.place ≡ Some (destroyed_on on k.0) = map_get (destroyed_on on) d.objects w.before.place k.0 k.1 in
        let place : w.before.place ≡ o.place = sym (ended_keeps on w.before (λ x. x.place) refl) ∙ ap (λ (x : Object). x.place) w.is in (
          destroyed_on on k.0,
          ap (slice_get new.objects) (sym place) ∙ there,
          subst (IsOf queues new (destroyed_on on k.0)) w.is (still_of w.at w.before k.0 w.stood (ap (is_wanted queues) w.is ∙ w.wanted) k.2),
        );
    needed = λ place one at needed.
        let m = get_map (destroyed_on on) d.objects place one at in
        elim (true_or_false one.is_live) [
          | inl live ↦
              let other = lost_lives on m.0 (ap (λ (o : model.Object). o.is_live) m.2 ∙ live) in
              let same : m.0 ≡ one = sym (lost_other on m.0 other) ∙ m.2 in
              let lived : m.0.is_live ≡ true = ap (λ (o : model.Object). o.is_live) same ∙ live in
              let n = stands.needed place m.0 m.1 (ap (λ b. b || is_in_queue d place) lived) in
              let k = stands.kept n.0 n.1 n.2 in
              let kept_one : k.0 ≡ m.0 = one_at d.objects place k.0 m.0 (subst (λ p. slice_get d.objects p ≡ Some k.0) n.3 k.1) m.1 in
              let f = live_stays core on queues queues_end n.0 n.1 n.2 (k.3.live ∙ (ap (λ (o : model.Object). o.is_live) kept_one ∙ lived)) (ap (λ p. p == on) (k.3.device ∙ ap (λ (o : model.Object). o.device) kept_one) ∙ other) in
              (f.0, n.1, f.1, n.3)
          | inr dead ↦
              let queued : is_in_queue new place ≡ true = sym (ap (λ b. b || is_in_queue new place) dead) ∙ needed in
              let queued_before = before place queued in
              let n = stands.needed place m.0 m.1 (grind (arith, queued_before)) in
              let f = stays core on queues queues_end n.0 n.1 n.2 (named_wanted n.0 n.1 n.2 (subst (λ p. is_in_queue new p ≡ true) (sym n.3) queued)) in
              (f.0, ended on n.1, f.1, ended_keeps on n.1 (λ x. x.place) refl ∙ n.3)
        ];
  }

  idle : AreIdle new.objects
  idle place one queue surface at dead is names =
      let m = get_map (destroyed_on on) d.objects place one at in
      elim (true_or_false (m.0.device == on)) [
        | inl e ↦ let_go_names m.0.content queue surface (ap queue_of_object (sym (lost_on on m.0 e) ∙ m.2) ∙ is) names
        | inr e ↦
            let same : m.0 ≡ one = sym (lost_other on m.0 e) ∙ m.2 in
            stands.idle_queues place one queue surface (m.1 ∙ ap Some same) dead is names
      ]

  pub ended_stands : (after : Core) → kept_of after.objects ≡ swept core on queues queues_end → made_of after.objects ≡ made_of core.objects
      → ((names : List ℕ) → IsGiven core.objects names → IsGiven after.objects names) → after.queues ≡ queues → after.jobs ≡ core.jobs
      → Stands after new
  ended_stands after kept made given queues_are jobs =
      stands_from after new
      (rw (kept, queues_are) covers)
      (rw kept all_needed)
      (made ∙ (stands.made ∙ sym (length-map d.objects (destroyed_on on))))
      (subst (IsGiven after.objects) (sym (names_lost on d.objects)) (given (map (λ (one : model.Object). one.name) d.objects) stands.given))
      (ap (λ j. map told_by j.items) jobs ∙ stands.jobs)
      idle
