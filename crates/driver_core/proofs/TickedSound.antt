-- What is kept after a tick is sound: the device has its new time, surfaces have their latest flips, and what no queue names any more is let go.
use Rattle.std.proofs.Common.{◌≡◌, ℕ, ◌<◌, ◌≤◌, ◌==◌, ◌||◌, true, false, if◌then◌else◌, List, filter, length, map, slice_get, Some, refl, sym, ap, ◌∙◌, subst, arith}
use Rattle.std.specs.Option.{option_map_or}
use Rattle.present_queue.specs.Queue.{Names, Queue, empty_queue, most_entries}
use Rattle.present_queue.specs.Queues.{IsWithinLimits, Surface, queue_at}
use Rattle.driver_objects.specs.Kept.{kept_of}
use Rattle.driver_objects.specs.Kinds.{holder_of}
use Rattle.driver_objects.specs.Swept.{AreWithin, is_held, is_wanted}
use Rattle.driver_objects.specs.Ticks.{all_noted, all_ticked, timed, with_time}
use Rattle.driver_objects.specs.declared.object.Object.{Object}
use Rattle.driver_objects.specs.declared.ticks.Due.{Due}
use Rattle.driver_objects.proofs.Filters.{filter_get, get_filter}
use Rattle.driver_objects.proofs.Maps.{get_map, map_get}
use Rattle.driver_core.specs.Roles.{Fits}
use Rattle.driver_core.specs.declared.driver.Core.{Core}
use Rattle.driver_core.proofs.ChangedRoles.{noted_fits, noted_role, role_then, time_fits_if, time_role_if}
use Rattle.driver_core.proofs.DueQueues.{dues_of, number_within}
use Rattle.driver_core.proofs.RolesSound.{IsLike, KeepsRoles, fits_of}
use Rattle.driver_core.proofs.TickedContent.{all_noted_is, noted_object}
use Rattle.driver_core.proofs.TickedQueues.{length_all_ticked, queue_all_ticked, through_empty, through_length, through_names, ticked_through}

module _ (core : Core) (on time : ℕ) where
  -- the queues after the tick
  abbrev pub queues_after : List (Queue Surface)
  queues_after = all_ticked time (dues_of core on time) core.queues

  -- the kept objects before what no queue names is let go
  abbrev pub noted_all : List Object
  noted_all = all_noted time (dues_of core on time) (map (timed on time) (kept_of core.objects))

  abbrev pub swept : List Object
  swept = filter (is_wanted queues_after) noted_all

  -- what becomes of an object
  abbrev pub final : Object → Object
  final object = noted_object time (dues_of core on time) (timed on time object)

  within_queues : (i : ℕ) (due : Due) → slice_get (dues_of core on time) i ≡ Some due → due.number < length core.queues
  within_queues i due at = let w = number_within core on time i due at in let n = core.sound.limits.count in omega (arith, w, n)

  pub queue_after : (number : ℕ) → queue_at queues_after number ≡ ticked_through (λ (due : Due). number == due.number) time (dues_of core on time) (queue_at core.queues number)
  queue_after number = queue_all_ticked time number (dues_of core on time) core.queues within_queues

  pub fewer : (number : ℕ) (surface : Surface) → Names (queue_at queues_after number) surface → Names (queue_at core.queues number) surface
  fewer number surface named =
      through_names (λ (due : Due). number == due.number) time (dues_of core on time) (queue_at core.queues number) surface (subst (λ q. Names q surface) (queue_after number) named)

  limits : IsWithinLimits queues_after
  limits = record {
    count = length_all_ticked time (dues_of core on time) core.queues ∙ core.sound.limits.count;
    entries = λ number.
        let most = core.sound.limits.entries number in
        let less = through_length (λ (due : Due). number == due.number) time (dues_of core on time) (queue_at core.queues number) in
        subst (λ (q : Queue Surface). length q.entries ≤ most_entries) (sym (queue_after number)) (omega (arith, most, less));
  }

  still_empty : (number : ℕ) → queue_at core.queues number ≡ empty_queue → queue_at queues_after number ≡ empty_queue
  still_empty number empty =
      queue_after number ∙ (ap (ticked_through (λ (due : Due). number == due.number) time (dues_of core on time)) empty ∙ through_empty (λ (due : Due). number == due.number) time (dues_of core on time))

  pub like_final : (o : Object) → IsLike o (final o)
  like_final o = record {
    place = refl;
    name = refl;
    device = refl;
    live = refl;
    role = role_then o.content (if o.place == on then with_time time o.content else o.content) (final o).content (time_role_if (o.place == on) time o.content) (noted_role time o.place (dues_of core on time) (if o.place == on then with_time time o.content else o.content));
  }

  -- what is kept was kept before
  pub record WasBefore (o : Object) : Type 0 where
    pub at : ℕ
    pub before : Object
    pub stood : slice_get (kept_of core.objects) at ≡ Some before
    pub is : final before ≡ o
    pub wanted : is_wanted queues_after o ≡ true

  noted_is : noted_all ≡ map (noted_object time (dues_of core on time)) (map (timed on time) (kept_of core.objects))
  noted_is = all_noted_is time (dues_of core on time) (map (timed on time) (kept_of core.objects))

  noted_before : (i : ℕ) (o : Object) → slice_get noted_all i ≡ Some o → (before : Object) × (slice_get (kept_of core.objects) i ≡ Some before) × (final before ≡ o)
  noted_before i o at =
      let m = get_map (noted_object time (dues_of core on time)) (map (timed on time) (kept_of core.objects)) i o (ap (λ k. slice_get k i) (sym noted_is) ∙ at) in
      let t = get_map (timed on time) (kept_of core.objects) i m.0 m.1 in
      (t.0, t.1, ap (noted_object time (dues_of core on time)) t.2 ∙ m.2)

  pub was_before : (i : ℕ) (o : Object) → slice_get swept i ≡ Some o → WasBefore o
  was_before i o at =
      let p = get_filter (is_wanted queues_after) noted_all i o at in
      let b = noted_before p.index o p.there in
      record { at = p.index; before = b.0; stood = b.1; is = b.2; wanted = p.passes }

  -- and what is wanted is kept still
  pub stays_final : (i : ℕ) (o : Object) → slice_get (kept_of core.objects) i ≡ Some o → is_wanted queues_after (final o) ≡ true → (j : ℕ) × (slice_get swept j ≡ Some (final o))
  stays_final i o at wanted =
      let there : slice_get noted_all i ≡ Some (final o) = ap (λ k. slice_get k i) noted_is ∙ map_get (noted_object time (dues_of core on time)) (map (timed on time) (kept_of core.objects)) i (timed on time o) (map_get (timed on time) (kept_of core.objects) i o at) in
      filter_get (is_wanted queues_after) noted_all i (final o) there wanted

  pub ticked_within : (kept : List Object) → kept ≡ noted_all → AreWithin kept
  ticked_within kept is i o holder at has =
      let b = noted_before i o (ap (λ k. slice_get k i) (sym is) ∙ at) in
      core.sound.holders i b.0 holder b.1 (sym (like_final b.0).role.holder ∙ (ap (λ (x : Object). holder_of x.content) b.2 ∙ has))

  pub ticked_keeps : ((i j : ℕ) (a b : Object) → slice_get swept i ≡ Some a → slice_get swept j ≡ Some b → a.place ≡ b.place → j ≡ i) → KeepsRoles core swept queues_after
  ticked_keeps places_apart = record {
    was = λ i o at.
        let w = was_before i o at in
        record {
          at = w.at;
          before = w.before;
          stood = w.stood;
          like = subst (IsLike w.before) w.is (like_final w.before);
          fits = subst (λ (x : Object). Fits x.content) w.is (noted_fits time w.before.place (dues_of core on time) (if w.before.place == on then with_time time w.before.content else w.before.content) (time_fits_if (w.before.place == on) time w.before.content (fits_of core w.at w.before w.stood)));
          wanted = w.wanted;
        };
    stays = λ i o at wanted.
        let s = stays_final i o at ((λ k. o.is_live || option_map_or (is_held queues_after) ((like_final o).role.holder k) false) ∙ wanted) in
        record { index = s.0; now = final o; there = s.1; like = like_final o };
    places_apart = places_apart;
    fewer = fewer;
    limits = limits;
    still_empty = still_empty;
  }
