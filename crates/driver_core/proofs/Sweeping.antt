-- An object is destroyed, and then each destroyed object that no queue names any more is let go.
use Rattle.std.proofs.Common.{◌≡◌, ◌≢◌, inl, inr, ℕ, ◌||◌, true, false, true≢false, List, filter, set, slice_get, Some, refl, sym, ap, ◌∙◌, subst, arith}
use Rattle.std.specs.List.{list_any}
use Rattle.handle_table.specs.Name.{kind_of}
use Rattle.present_queue.specs.Queue.{Names, Queue, empty_queue}
use Rattle.present_queue.specs.Queues.{IsWithinLimits, Surface, queue_at}
use Rattle.driver_model.specs.Kept.{is_in_queue}
use Rattle.driver_model.specs.Objects as model
use Rattle.driver_model.specs.States.{State, changed_at}
use Rattle.driver_objects.specs.Kept.{kept_of, made_of}
use Rattle.driver_objects.specs.Kinds.{has_number, holder_of, is_device, is_device_at, kind_number, number_of}
use Rattle.driver_objects.specs.Listed.{destroyed}
use Rattle.driver_objects.specs.Swept.{is_wanted}
use Rattle.driver_objects.specs.declared.object.Object.{Object}
use Rattle.driver_objects.proofs.Cases.{either, true_or_false}
use Rattle.driver_objects.proofs.Filters.{filter_get, get_filter}
use Rattle.driver_objects.proofs.Lists.{any_at, element_is, get_set, get_set_apart, get_set_same, one_kept, some_passes}
use Rattle.driver_objects.proofs.Searched.{place_is_one}
use Rattle.driver_objects.proofs.Wanted.{IsHeld, held_wanted, wanted_held}
use Rattle.driver_core.specs.Covers.{Covers, IsAllNeeded, IsOf}
use Rattle.driver_core.specs.Sound.{IsSound, is_surface}
use Rattle.driver_core.specs.Stands.{IsNeeded, Stands}
use Rattle.driver_core.specs.declared.driver.Core.{Core}
use Rattle.driver_core.proofs.ContentStands.{get_changed_other, get_changed_same}
use Rattle.driver_core.proofs.Covering.{covers_of}
use Rattle.driver_core.proofs.Presenting.{holder_is, is_holder}

module _ (core : Core) (index : ℕ) (object : Object) (there : slice_get (kept_of core.objects) index ≡ Some object)
    (queues : List (Queue Surface)) (fewer : (number : ℕ) (surface : Surface) → Names (queue_at queues number) surface → Names (queue_at core.queues number) surface) where
  abbrev pub without : List Object
  without = set (kept_of core.objects) index (destroyed object)

  abbrev pub swept : List Object
  swept = filter (is_wanted queues) without

  -- each object that stays was kept before
  pub record Was (o : Object) : Type 0 where
    pub at : ℕ
    pub before : Object
    pub stood : slice_get (kept_of core.objects) at ≡ Some before
    pub place : o.place ≡ before.place
    pub name : o.name ≡ before.name
    pub device : o.device ≡ before.device
    pub content : o.content ≡ before.content
    pub lived : o.is_live ≡ true → before.is_live ≡ true

  was_at : (i : ℕ) (o : Object) → slice_get without i ≡ Some o → Was o
  was_at i o at = elim (get_set (kept_of core.objects) index i (destroyed object) o at) [
    | inl here ↦ record {
      at = index;
      before = object;
      stood = there;
      place = ap (λ (x : Object). x.place) (sym here.1);
      name = ap (λ (x : Object). x.name) (sym here.1);
      device = ap (λ (x : Object). x.device) (sym here.1);
      content = ap (λ (x : Object). x.content) (sym here.1);
      lived = λ live. absurd (true≢false (sym live ∙ ap (λ (x : Object). x.is_live) (sym here.1)));
    }
    | inr same ↦ record { at = i; before = o; stood = same.1; place = refl; name = refl; device = refl; content = refl; lived = λ live. live }
  ]

  pub was : (i : ℕ) (o : Object) → slice_get swept i ≡ Some o → Was o
  was i o at = let p = get_filter (is_wanted queues) without i o at in was_at p.index o p.there

  -- the surface that it is named as
  pub held_as : (i : ℕ) (o : Object) → slice_get swept i ≡ Some o → o.is_live ≡ false → (h : IsHeld queues o) × (h.surface.object ≡ o.place)
  held_as i o at dead =
      let p = get_filter (is_wanted queues) without i o at in
      let w = was_at p.index o p.there in
      let h = wanted_held queues o dead p.passes in
      (h, (is_holder core w.at w.before h.holder w.stood (ap holder_of (sym w.content) ∙ h.has) h.number h.surface (fewer h.number h.surface h.named)).0 h.at_holder ∙ sym w.place)

  -- what a queue names stays
  pub named_stays : (number : ℕ) (surface : Surface) → Names (queue_at queues number) surface → list_any (is_surface surface) swept ≡ true
  named_stays number surface named =
      let s = some_passes (is_surface surface) (kept_of core.objects) (core.sound.surfaces number surface (fewer number surface named)) in
      let is = holder_is surface s.1 s.3 in
      elim (either s.0 index) [
        | inl e ↦
            let same = one_kept (kept_of core.objects) index object s.1 there (subst (λ i. slice_get (kept_of core.objects) i ≡ Some s.1) e s.2) in
            let has : holder_of object.content ≡ Some surface.holder = ap (λ (x : Object). holder_of x.content) same ∙ is.1 in
            let f = filter_get (is_wanted queues) without index (destroyed object) (get_set_same (kept_of core.objects) index object (destroyed object) there) (held_wanted queues (destroyed object) surface.holder number surface has named refl) in
            any_at (is_surface surface) swept f.0 (destroyed object) f.1 (subst (λ (x : Object). is_surface surface (destroyed x) ≡ true) (sym same) s.3)
        | inr apart ↦
            let f = filter_get (is_wanted queues) without s.0 s.1 (get_set_apart (kept_of core.objects) index s.0 (destroyed object) s.1 apart s.2) (held_wanted queues s.1 surface.holder number surface is.1 named refl) in
            any_at (is_surface surface) swept f.0 s.1 f.1 s.3
      ]

  module _ (no_device : is_device object.content ≡ false) where
    devices_stay : (place : ℕ) → list_any (is_device_at place) (kept_of core.objects) ≡ true → list_any (is_device_at place) swept ≡ true
    devices_stay place any =
        let s = some_passes (is_device_at place) (kept_of core.objects) any in
        let test = s.3 in
        let live : s.1.is_live ≡ true = grind (arith, test) in
        let device : is_device s.1.content ≡ true = grind (arith, test) in
        let far : s.0 ≢ index = λ e. true≢false (sym device ∙ (ap (λ (x : Object). is_device x.content) (one_kept (kept_of core.objects) index s.1 object (subst (λ i. slice_get (kept_of core.objects) i ≡ Some s.1) e s.2) there) ∙ no_device)) in
        let f = filter_get (is_wanted queues) without s.0 s.1 (get_set_apart (kept_of core.objects) index s.0 (destroyed object) s.1 far s.2) (grind (arith, live)) in
        any_at (is_device_at place) swept f.0 s.1 f.1 s.3

    pub swept_sound : ((i j : ℕ) (a b : Object) → slice_get swept i ≡ Some a → slice_get swept j ≡ Some b → a.place ≡ b.place → j ≡ i)
        → IsWithinLimits queues
        → ((number : ℕ) → list_any (has_number number) swept ≡ false → queue_at queues number ≡ empty_queue)
        → IsSound swept (made_of core.objects) queues core.jobs.items
    swept_sound one_place limits unused = record {
      kinds = λ i o at. let w = was i o at in ap kind_of w.name ∙ (core.sound.kinds w.at w.before w.stood ∙ ap kind_number (sym w.content));
      videos = λ i o surface at is. let w = was i o at in core.sound.videos w.at w.before surface w.stood (sym w.content ∙ is);
      outputs = λ i o surface at is. let w = was i o at in core.sound.outputs w.at w.before surface w.stood (sym w.content ∙ is);
      decoders = λ i o decoder at is. let w = was i o at in core.sound.decoders w.at w.before decoder w.stood (sym w.content ∙ is);
      mixers = λ i o mixer at is. let w = was i o at in core.sound.mixers w.at w.before mixer w.stood (sym w.content ∙ is);
      devices = λ i o at live. let w = was i o at in subst (λ p. list_any (is_device_at p) swept ≡ true) (sym w.device) (devices_stay w.before.device (core.sound.devices w.at w.before w.stood (w.lived live)));
      own = λ i o at is. let w = was i o at in w.device ∙ (core.sound.own w.at w.before w.stood (ap is_device (sym w.content) ∙ is) ∙ sym w.place);
      named = λ i o at dead.
          let h = held_as i o at dead in
          ∣ (h.0.holder, h.0.has, h.0.number, subst (λ (s : Surface). Names (queue_at queues h.0.number) s) (λ k. record { object = h.1 k; holder = h.0.at_holder k }) h.0.named) ∣₁;
      limits = limits;
      numbers = λ i o number at is. let w = was i o at in core.sound.numbers w.at w.before number w.stood (ap number_of (sym w.content) ∙ is);
      numbers_apart = λ i j a b number at bt ia ib.
          let v = was i a at in
          let w = was j b bt in
          let same = core.sound.numbers_apart v.at w.at v.before w.before number v.stood w.stood (ap number_of (sym v.content) ∙ ia) (ap number_of (sym w.content) ∙ ib) in
          sym (one_place i j a b at bt (one_before v w same));
      unused = unused;
      holders = λ i o holder at is. let w = was i o at in core.sound.holders w.at w.before holder w.stood (ap holder_of (sym w.content) ∙ is);
      holders_apart = λ i j a b holder at bt ia ib.
          let v = was i a at in
          let w = was j b bt in
          let same = core.sound.holders_apart v.at w.at v.before w.before holder v.stood w.stood (ap holder_of (sym v.content) ∙ ia) (ap holder_of (sym w.content) ∙ ib) in
          sym (one_place i j a b at bt (one_before v w same));
      surfaces = named_stays;
      targets = core.sound.targets;
    }
      where
        one_before : {a b : Object} (v : Was a) (w : Was b) → v.at ≡ w.at → a.place ≡ b.place
        one_before v w same =
            let before = one_kept (kept_of core.objects) w.at v.before w.before (subst (λ i. slice_get (kept_of core.objects) i ≡ Some v.before) same v.stood) w.stood in
            v.place ∙ (ap (λ (x : Object). x.place) before ∙ sym w.place)

  -- ---- the state

  module _ (d : State) (stands : Stands core d) (change : model.Object → model.Object) where
    abbrev pub new : State
    new = record d { objects = changed_at object.place change d.objects }

    module _ (from_state : (place : ℕ) → is_in_queue new place ≡ true → (number : ℕ) × (surface : Surface) × Names (queue_at queues number) surface × (surface.object ≡ place))
        (to_state : (number : ℕ) (surface : Surface) → Names (queue_at queues number) surface → is_in_queue new surface.object ≡ true) where
      pub swept_needed : IsAllNeeded swept new
      swept_needed i o at = elim (true_or_false o.is_live) [
        | inl live ↦ grind (arith, live)
        | inr dead ↦
            let h = held_as i o at dead in
            let queued : is_in_queue new o.place ≡ true = subst (λ p. is_in_queue new p ≡ true) h.1 (to_state h.0.number h.0.surface h.0.named) in
            grind (arith, queued)
      ]

      -- what a queue of the new state names is wanted
      named_wanted : (i : ℕ) (o : Object) → slice_get (kept_of core.objects) i ≡ Some o → is_in_queue new o.place ≡ true → (x : Object) → x.content ≡ o.content → is_wanted queues x ≡ true
      named_wanted i o at queued x same =
          let f = from_state o.place queued in
          let s = some_passes (is_surface f.1) (kept_of core.objects) (core.sound.surfaces f.0 f.1 (fewer f.0 f.1 f.2)) in
          let is = holder_is f.1 s.1 s.3 in
          let here = place_is_one core.objects.names (kept_of core.objects) (made_of core.objects) core.objects.sound i s.0 o s.1 at s.2 (sym (is.0 ∙ f.3)) in
          let one = one_kept (kept_of core.objects) i s.1 o (subst (λ k. slice_get (kept_of core.objects) k ≡ Some s.1) here s.2) at in
          held_wanted queues x f.1.holder f.0 f.1 (ap holder_of same ∙ (ap (λ (y : Object). holder_of y.content) (sym one) ∙ is.1)) f.2 refl

      module _ (dies : (one : model.Object) → (change one).is_live ≡ false)
          (changed : is_wanted queues (destroyed object) ≡ true → (one : model.Object) → slice_get d.objects object.place ≡ Some one → IsOf core.queues d one object → IsOf queues new (change one) (destroyed object))
          (others : (i : ℕ) (o : Object) (one : model.Object) → i ≢ index → slice_get (kept_of core.objects) i ≡ Some o → IsOf core.queues d one o → IsOf queues new one o)
          (before : (place : ℕ) → is_in_queue new place ≡ true → is_in_queue d place ≡ true) where
        pub swept_covers : Covers swept queues new
        swept_covers = record {
          is = λ i o at. let p = get_filter (is_wanted queues) without i o at in from_filter o p.index p.there p.passes;
          needed = λ place one at needed. elim (either place object.place) [
            | inl e ↦
                let k = stands.kept index object there in
                let same : change k.0 ≡ one = element_is (change k.0) one (sym (get_changed_same change object.place d.objects k.0 k.1) ∙ (ap (slice_get new.objects) (sym e) ∙ at)) in
                let dead : one.is_live ≡ false = ap (λ (x : model.Object). x.is_live) (sym same) ∙ dies k.0 in
                let queued : is_in_queue new place ≡ true = sym (ap (λ b. b || is_in_queue new place) dead) ∙ needed in
                let f = filter_get (is_wanted queues) without index (destroyed object) (get_set_same (kept_of core.objects) index object (destroyed object) there) (named_wanted index object there (subst (λ p. is_in_queue new p ≡ true) e queued) (destroyed object) refl) in
                (f.0, destroyed object, f.1, sym e)
            | inr apart ↦ far_needed place one apart (sym (get_changed_other change object.place place d.objects apart) ∙ at) needed
          ];
        }
          where
            FromState : Object → Type 0
            FromState o = (one : model.Object) × (slice_get new.objects o.place ≡ Some one) × IsOf queues new one o

            from_filter : (o : Object) (i : ℕ) → slice_get without i ≡ Some o → is_wanted queues o ≡ true → FromState o
            from_filter o i at wanted = elim (get_set (kept_of core.objects) index i (destroyed object) o at) [
              | inl here ↦
                  let k = (covers_of core d stands).is index object there in
                  subst FromState here.1 (change k.0, get_changed_same change object.place d.objects k.0 k.1, changed (subst (λ x. is_wanted queues x ≡ true) (sym here.1) wanted) k.0 k.1 k.2)
              | inr same ↦
                  let k = (covers_of core d stands).is i o same.1 in
                  let far : o.place ≢ object.place = λ e. same.0 (place_is_one core.objects.names (kept_of core.objects) (made_of core.objects) core.objects.sound index i object o there same.1 (sym e)) in
                  (k.0, get_changed_other change object.place o.place d.objects far ∙ k.1, others i o k.0 same.0 same.1 k.2)
            ]

            far_needed : (place : ℕ) (one : model.Object) → place ≢ object.place → slice_get d.objects place ≡ Some one → IsNeeded new place one → (i : ℕ) × (o : Object) × (slice_get swept i ≡ Some o) × (o.place ≡ place)
            far_needed place one apart at needed =
                let needed_before : IsNeeded d place one = elim (true_or_false one.is_live) [
                  | inl live ↦ grind (arith, live)
                  | inr dead ↦ let queued = before place (sym (ap (λ b. b || is_in_queue new place) dead) ∙ needed) in grind (arith, queued)
                ] in
                let n = stands.needed place one at needed_before in
                let far : n.0 ≢ index = λ e. apart (sym n.3 ∙ ap (λ (x : Object). x.place) (one_kept (kept_of core.objects) index n.1 object (subst (λ i. slice_get (kept_of core.objects) i ≡ Some n.1) e n.2) there)) in
                let k = stands.kept n.0 n.1 n.2 in
                let same : k.0 ≡ one = element_is k.0 one (sym k.1 ∙ (ap (slice_get d.objects) n.3 ∙ at)) in
                let wanted : is_wanted queues n.1 ≡ true = elim (true_or_false one.is_live) [
                  | inl live ↦ let lives : n.1.is_live ≡ true = k.3.live ∙ (ap (λ (x : model.Object). x.is_live) same ∙ live) in grind (arith, lives)
                  | inr dead ↦ named_wanted n.0 n.1 n.2 (subst (λ p. is_in_queue new p ≡ true) (sym n.3) (sym (ap (λ b. b || is_in_queue new place) dead) ∙ needed)) n.1 refl
                ] in
                let f = filter_get (is_wanted queues) without n.0 n.1 (get_set_apart (kept_of core.objects) index n.0 (destroyed object) n.1 far n.2) wanted in
                (f.0, n.1, f.1, n.3)
