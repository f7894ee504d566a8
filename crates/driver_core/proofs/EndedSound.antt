-- What is kept after the end of a device is sound: its objects are destroyed, its queues empty, and what no queue names any more is let go.
use Rattle.std.proofs.Common.{◌≡◌, inl, inr, ℕ, ◌≤◌, ◌==◌, true, false, true≢false, List, filter, length, map, slice_get, Some, refl, sym, ap, ◌∙◌, subst, arith}
use Rattle.std.specs.List.{list_any}
use Rattle.std.proofs.lemmas.Bool.Decides.{nat_tests}
use Rattle.handle_table.specs.Name.{kind_of}
use Rattle.present_queue.specs.Queue.{Names, Queue, empty_queue, most_entries}
use Rattle.present_queue.specs.Queues.{IsWithinLimits, Surface, queue_at}
use Rattle.present_queue.proofs.NameLemmas.{Names-empty}
use Rattle.driver_objects.specs.DeviceEnds.{ended, is_queue_on}
use Rattle.driver_objects.specs.Kept.{kept_of, made_of}
use Rattle.driver_objects.specs.Kinds.{has_number, holder_of, is_device, is_device_at, kind_number, number_of}
use Rattle.driver_objects.specs.Swept.{AreWithin, is_wanted}
use Rattle.driver_objects.specs.declared.object.Object.{Object}
use Rattle.driver_objects.proofs.Cases.{true_or_false}
use Rattle.driver_objects.proofs.Ending.{ended_keeps, ended_lives, ended_other, is_on_queue}
use Rattle.driver_objects.proofs.Filters.{filter_get, get_filter}
use Rattle.driver_objects.proofs.OwnNumbers.{has_number_is}
use Rattle.driver_objects.proofs.Lists.{any_at, one_kept, some_passes}
use Rattle.driver_objects.proofs.Maps.{get_map, map_get}
use Rattle.driver_objects.proofs.Wanted.{IsHeld, held_wanted, wanted_held}
use Rattle.driver_core.specs.Sound.{IsSound, is_surface}
use Rattle.driver_core.specs.declared.driver.Core.{Core}
use Rattle.driver_core.proofs.DeadQueues.{dead_number}
use Rattle.driver_core.proofs.Presenting.{holder_is, is_holder}

pub ended_within : (core : Core) (on : ℕ) (kept : List Object) → kept ≡ map (ended on) (kept_of core.objects) → AreWithin kept
ended_within core on kept is i o holder at has =
    let m = get_map (ended on) (kept_of core.objects) i o (sym (ap (λ k. slice_get k i) is) ∙ at) in
    core.sound.holders i m.0 holder m.1 (sym (ended_keeps on m.0 (λ x. holder_of x.content) refl) ∙ (ap (λ (x : Object). holder_of x.content) m.2 ∙ has))

-- the queues after the end of a device
pub record QueuesEnd (core : Core) (on : ℕ) (queues : List (Queue Surface)) : Type 0 where
  pub emptied : (number : ℕ) → list_any (is_queue_on on number) (kept_of core.objects) ≡ true → queue_at queues number ≡ empty_queue
  pub others : (number : ℕ) → list_any (is_queue_on on number) (kept_of core.objects) ≡ false → queue_at queues number ≡ queue_at core.queues number
  pub count : length queues ≡ length core.queues

module _ (core : Core) (on : ℕ) (queues : List (Queue Surface)) (queues_end : QueuesEnd core on queues) where
  abbrev pub without : List Object
  without = map (ended on) (kept_of core.objects)

  abbrev pub swept : List Object
  swept = filter (is_wanted queues) without

  pub not_on : (number : ℕ) (surface : Surface) → Names (queue_at queues number) surface → list_any (is_queue_on on number) (kept_of core.objects) ≡ false
  not_on number surface named = elim (true_or_false (list_any (is_queue_on on number) (kept_of core.objects))) [
    | inl gone ↦ absurd (Names-empty surface (subst (λ q. Names q surface) (queues_end.emptied number gone) named))
    | inr stays ↦ stays
  ]

  -- each names what it named before
  pub fewer : (number : ℕ) (surface : Surface) → Names (queue_at queues number) surface → Names (queue_at core.queues number) surface
  fewer number surface named = subst (λ q. Names q surface) (queues_end.others number (not_on number surface named)) named

  limits : IsWithinLimits queues
  limits = record {
    count = queues_end.count ∙ core.sound.limits.count;
    entries = λ number. elim (true_or_false (list_any (is_queue_on on number) (kept_of core.objects))) [
      | inl gone ↦ subst (λ (q : Queue Surface). length q.entries ≤ most_entries) (sym (queues_end.emptied number gone)) (omega arith)
      | inr stays ↦ subst (λ (q : Queue Surface). length q.entries ≤ most_entries) (sym (queues_end.others number stays)) (core.sound.limits.entries number)
    ];
  }

  -- each object that stays was kept before
  pub record Was (i : ℕ) (o : Object) : Type 0 where
    pub at : ℕ
    pub before : Object
    pub stood : slice_get (kept_of core.objects) at ≡ Some before
    pub is : ended on before ≡ o
    pub wanted : is_wanted queues o ≡ true

  pub was : (i : ℕ) (o : Object) → slice_get swept i ≡ Some o → Was i o
  was i o at =
      let p = get_filter (is_wanted queues) without i o at in
      let m = get_map (ended on) (kept_of core.objects) p.index o p.there in
      record { at = p.index; before = m.0; stood = m.1; is = m.2; wanted = p.passes }

  module _ (i : ℕ) (o : Object) (w : Was i o) where
    pub place_was : o.place ≡ w.before.place
    place_was = ap (λ (x : Object). x.place) (sym w.is) ∙ ended_keeps on w.before (λ x. x.place) refl

    name_was : o.name ≡ w.before.name
    name_was = ap (λ (x : Object). x.name) (sym w.is) ∙ ended_keeps on w.before (λ x. x.name) refl

    device_was : o.device ≡ w.before.device
    device_was = ap (λ (x : Object). x.device) (sym w.is) ∙ ended_keeps on w.before (λ x. x.device) refl

    pub content_was : o.content ≡ w.before.content
    content_was = ap (λ (x : Object). x.content) (sym w.is) ∙ ended_keeps on w.before (λ x. x.content) refl

    lived : o.is_live ≡ true → (w.before.is_live ≡ true) × ((w.before.device == on) ≡ false)
    lived live = ended_lives on w.before (ap (λ (x : Object). x.is_live) w.is ∙ live)

  -- and what is wanted stays
  pub stays : (i : ℕ) (o : Object) → slice_get (kept_of core.objects) i ≡ Some o → is_wanted queues (ended on o) ≡ true → (j : ℕ) × (slice_get swept j ≡ Some (ended on o))
  stays i o at wanted = filter_get (is_wanted queues) without i (ended on o) (map_get (ended on) (kept_of core.objects) i o at) wanted

  pub live_stays : (i : ℕ) (o : Object) → slice_get (kept_of core.objects) i ≡ Some o → o.is_live ≡ true → (o.device == on) ≡ false → (j : ℕ) × (slice_get swept j ≡ Some o)
  live_stays i o at live other =
      let same = ended_other on o other in
      let s = stays i o at (ap (is_wanted queues) same ∙ grind (arith, live)) in
      (s.0, s.1 ∙ ap Some same)

  -- the surface that a destroyed one is named as
  pub held_as : (i : ℕ) (o : Object) → slice_get swept i ≡ Some o → o.is_live ≡ false → (h : IsHeld queues o) × (h.surface.object ≡ o.place)
  held_as i o at dead =
      let w = was i o at in
      let h = wanted_held queues o dead w.wanted in
      (h, (is_holder core w.at w.before h.holder w.stood (ap holder_of (sym (content_was i o w)) ∙ h.has) h.number h.surface (fewer h.number h.surface h.named)).0 h.at_holder ∙ sym (place_was i o w))

  -- what a queue names stays
  named_stays : (number : ℕ) (surface : Surface) → Names (queue_at queues number) surface → list_any (is_surface surface) swept ≡ true
  named_stays number surface named =
      let s = some_passes (is_surface surface) (kept_of core.objects) (core.sound.surfaces number surface (fewer number surface named)) in
      let is = holder_is surface s.1 s.3 in
      let f = stays s.0 s.1 s.2 (held_wanted queues (ended on s.1) surface.holder number surface (ended_keeps on s.1 (λ x. holder_of x.content) refl ∙ is.1) named refl) in
      any_at (is_surface surface) swept f.0 (ended on s.1) f.1 (ended_keeps on s.1 (is_surface surface) refl ∙ s.3)

  devices_stay : (place : ℕ) → (place == on) ≡ false → list_any (is_device_at place) (kept_of core.objects) ≡ true → list_any (is_device_at place) swept ≡ true
  devices_stay place other any =
      let s = some_passes (is_device_at place) (kept_of core.objects) any in
      let test = s.3 in
      let device : is_device s.1.content ≡ true = grind (arith, test) in
      let here : s.1.place ≡ place = grind (arith, nat_tests, test) in
      let f = live_stays s.0 s.1 s.2 (grind (arith, test)) (ap (λ d. d == on) (core.sound.own s.0 s.1 s.2 device ∙ here) ∙ other) in
      any_at (is_device_at place) swept f.0 s.1 f.1 s.3

  unused : (number : ℕ) → list_any (has_number number) swept ≡ false → queue_at queues number ≡ empty_queue
  unused number none = elim (true_or_false (list_any (is_queue_on on number) (kept_of core.objects))) [
    | inl gone ↦ queues_end.emptied number gone
    | inr others ↦ queues_end.others number others ∙ elim (true_or_false (list_any (has_number number) (kept_of core.objects))) [
      | inl any ↦
          let s = some_passes (has_number number) (kept_of core.objects) any in
          let has = has_number_is number s.1 s.3 in
          let live = dead_number core s.0 s.1 number s.2 has in
          elim (true_or_false (s.1.device == on)) [
            | inl on_it ↦ absurd (true≢false (sym (any_at (is_queue_on on number) (kept_of core.objects) s.0 s.1 s.2 (is_on_queue on number s.1 live on_it has)) ∙ others))
            | inr other ↦
                let f = live_stays s.0 s.1 s.2 live other in
                absurd (true≢false (sym (any_at (has_number number) swept f.0 s.1 f.1 s.3) ∙ none))
          ]
      | inr never ↦ core.sound.unused number never
    ]
  ]

  one_before : (i j : ℕ) (a b : Object) (v : Was i a) (w : Was j b) → v.at ≡ w.at → a.place ≡ b.place
  one_before i j a b v w same =
      let before = one_kept (kept_of core.objects) w.at v.before w.before (subst (λ i. slice_get (kept_of core.objects) i ≡ Some v.before) same v.stood) w.stood in
      place_was i a v ∙ (ap (λ (x : Object). x.place) before ∙ sym (place_was j b w))

  pub ended_sound : ((i j : ℕ) (a b : Object) → slice_get swept i ≡ Some a → slice_get swept j ≡ Some b → a.place ≡ b.place → j ≡ i) → IsSound swept (made_of core.objects) queues core.jobs.items
  ended_sound one_place = record {
    kinds = λ i o at. let w = was i o at in ap kind_of (name_was i o w) ∙ (core.sound.kinds w.at w.before w.stood ∙ ap kind_number (sym (content_was i o w)));
    videos = λ i o surface at is. let w = was i o at in core.sound.videos w.at w.before surface w.stood (sym (content_was i o w) ∙ is);
    outputs = λ i o surface at is. let w = was i o at in core.sound.outputs w.at w.before surface w.stood (sym (content_was i o w) ∙ is);
    decoders = λ i o decoder at is. let w = was i o at in core.sound.decoders w.at w.before decoder w.stood (sym (content_was i o w) ∙ is);
    mixers = λ i o mixer at is. let w = was i o at in core.sound.mixers w.at w.before mixer w.stood (sym (content_was i o w) ∙ is);
    devices = λ i o at live.
        let w = was i o at in
        let l = lived i o w live in
        subst (λ p. list_any (is_device_at p) swept ≡ true) (sym (device_was i o w)) (devices_stay w.before.device l.1 (core.sound.devices w.at w.before w.stood l.0));
    own = λ i o at is. let w = was i o at in device_was i o w ∙ (core.sound.own w.at w.before w.stood (ap is_device (sym (content_was i o w)) ∙ is) ∙ sym (place_was i o w));
    named = λ i o at dead.
        let h = held_as i o at dead in
        ∣ (h.0.holder, h.0.has, h.0.number, subst (λ (s : Surface). Names (queue_at queues h.0.number) s) (λ k. record { object = h.1 k; holder = h.0.at_holder k }) h.0.named) ∣₁;
    limits = limits;
    numbers = λ i o number at is. let w = was i o at in core.sound.numbers w.at w.before number w.stood (ap number_of (sym (content_was i o w)) ∙ is);
    numbers_apart = λ i j a b number at bt ia ib.
        let v = was i a at in
        let w = was j b bt in
        sym (one_place i j a b at bt (one_before i j a b v w (core.sound.numbers_apart v.at w.at v.before w.before number v.stood w.stood (ap number_of (sym (content_was i a v)) ∙ ia) (ap number_of (sym (content_was j b w)) ∙ ib))));
    unused = unused;
    holders = λ i o holder at is. let w = was i o at in core.sound.holders w.at w.before holder w.stood (ap holder_of (sym (content_was i o w)) ∙ is);
    holders_apart = λ i j a b holder at bt ia ib.
        let v = was i a at in
        let w = was j b bt in
        sym (one_place i j a b at bt (one_before i j a b v w (core.sound.holders_apart v.at w.at v.before w.before holder v.stood w.stood (ap holder_of (sym (content_was i a v)) ∙ ia) (ap holder_of (sym (content_was j b w)) ∙ ib))));
    surfaces = named_stays;
    targets = core.sound.targets;
  }
