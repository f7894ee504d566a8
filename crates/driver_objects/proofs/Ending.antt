-- The kept objects and the queues while a device ends: as far as the walk has come, its objects are destroyed and its queues are empty.
use Rattle.std.proofs.Common.{◌≡◌, ◌≢◌, ◌⊎◌, inl, inr, ℕ, zero, suc, ◌+◌, ◌<◌, ◌≤◌, ◌==◌, ◌&&◌, true, false, true≢false, if◌then◌else◌, List, [], ◌∷◌, get_or, length, map, set, slice_get, Option, Some, None, refl, sym, ap, ◌∙◌, arith}
use Rattle.std.specs.List.{list_any}
use Rattle.std.proofs.lemmas.List.{length-set}
use Rattle.std.proofs.lemmas.Option.{slice_get-get_or, slice_get_within}
use Rattle.present_queue.specs.Queue.{Queue, empty_queue}
use Rattle.present_queue.specs.Queues.{Surface, queue_at}
use Rattle.driver_objects.specs.DeviceEnds.{ended, is_queue_on, without_queue}
use Rattle.driver_objects.specs.Kinds.{number_of}
use Rattle.driver_objects.specs.Listed.{destroyed}
use Rattle.driver_objects.specs.declared.object.Object.{Object}
use Rattle.driver_objects.proofs.Cases.{either, true_or_false}
use Rattle.driver_objects.proofs.OwnNumbers.{has_number_is, number_has}
use Rattle.driver_objects.proofs.Lists.{any_at, element_is, get_set_apart, get_set_same, some_passes}
use Rattle.driver_objects.proofs.Maps.{all_changed}
use Rattle.driver_objects.proofs.QueueLists.{queue_set_other, queue_set_same}

-- what is read at a place stands there
pub read_there : (kept read : List Object) (index : ℕ) (o : Object) → index < length kept → read ≡ kept → o ≡ get_or read index o → slice_get kept index ≡ Some o
read_there kept read index o within same is = slice_get-get_or kept index o within ∙ ap Some (sym (is ∙ ap (λ k. get_or k index o) same))

-- ---- one object

module _ (on : ℕ) (o : Object) where
  pub ended_on : (o.device == on) ≡ true → ended on o ≡ destroyed o
  ended_on e = ap (λ b. if b then destroyed o else o) e

  pub ended_other : (o.device == on) ≡ false → ended on o ≡ o
  ended_other e = ap (λ b. if b then destroyed o else o) e

  -- one that isn't a live one of the device stays
  pub ended_left : (o.is_live && o.device == on) ≡ false → ended on o ≡ o
  ended_left left = elim (true_or_false (o.device == on)) [
    | inl e ↦
        let dead : o.is_live ≡ false = grind (arith, left, e) in
        ended_on e ∙ λ k. record o { is_live = sym dead k }
    | inr e ↦ ended_other e
  ]

  pub ended_keeps : {X : Type 0} (part : Object → X) → part (destroyed o) ≡ part o → part (ended on o) ≡ part o
  ended_keeps part same = elim (true_or_false (o.device == on)) [
    | inl e ↦ ap part (ended_on e) ∙ same
    | inr e ↦ ap part (ended_other e)
  ]

  pub ended_lives : (ended on o).is_live ≡ true → (o.is_live ≡ true) × ((o.device == on) ≡ false)
  ended_lives live = elim (true_or_false (o.device == on)) [
    | inl e ↦ absurd (true≢false (sym live ∙ ap (λ (x : Object). x.is_live) (ended_on e)))
    | inr e ↦ (ap (λ (x : Object). x.is_live) (sym (ended_other e)) ∙ live, e)
  ]

pub queue_on_is : (on number : ℕ) (o : Object) → is_queue_on on number o ≡ true → (o.is_live ≡ true) × ((o.device == on) ≡ true) × (number_of o.content ≡ Some number)
queue_on_is on number o is = (grind (arith, is), grind (arith, is), has_number_is number o (grind (arith, is)))

pub is_on_queue : (on number : ℕ) (o : Object) → o.is_live ≡ true → (o.device == on) ≡ true → number_of o.content ≡ Some number → is_queue_on on number o ≡ true
is_on_queue on number o live device has = let n = number_has number o has in grind (arith, live, device, n)

-- ---- the walk

module _ (on : ℕ) (before : List Object) (queues_before : List (Queue Surface)) where
  -- The walk has come to this place.
  pub record Ends (index : ℕ) (now : List Object) (queues : List (Queue Surface)) : Type 0 where
    pub length_same : length now ≡ length before
    pub behind : (i : ℕ) (o : Object) → i < index → slice_get before i ≡ Some o → slice_get now i ≡ Some (ended on o)
    pub left : (i : ℕ) → index ≤ i → slice_get now i ≡ slice_get before i
    pub count : length queues ≡ length queues_before
    pub others : (number : ℕ) → list_any (is_queue_on on number) before ≡ false → queue_at queues number ≡ queue_at queues_before number
    pub emptied : (i : ℕ) (o : Object) (number : ℕ) → i < index → slice_get before i ≡ Some o → is_queue_on on number o ≡ true → queue_at queues number ≡ empty_queue

  pub ends_first : Ends 0 before queues_before
  ends_first = record {
    length_same = refl;
    behind = λ i o below. absurd (omega (arith, below));
    left = λ i above. refl;
    count = refl;
    others = λ number none. refl;
    emptied = λ i o number below. absurd (omega (arith, below));
  }

  module _ (index : ℕ) (now : List Object) (queues : List (Queue Surface)) (ends : Ends index now queues) (object : Object) (there : slice_get now index ≡ Some object) where
    was : slice_get before index ≡ Some object
    was = sym (ends.left index (omega arith)) ∙ there

    here_is : (i : ℕ) (o : Object) → i ≡ index → slice_get before i ≡ Some o → object ≡ o
    here_is i o e at = element_is object o (sym was ∙ (ap (slice_get before) (sym e) ∙ at))

    below_or_here : (i : ℕ) → i < index + 1 → (i < index) ⊎ (i ≡ index)
    below_or_here i below = grind (arith, below)

    -- the object isn't a live one of the device
    pub ends_past : (object.is_live && object.device == on) ≡ false → Ends (index + 1) now queues
    ends_past passed = record {
      length_same = ends.length_same;
      behind = λ i o below at. elim (below_or_here i below) [
        | inl before_it ↦ ends.behind i o before_it at
        | inr here ↦
            let same = here_is i o here at in
            ap (slice_get now) here ∙ (there ∙ ap Some (sym (ended_left on object passed) ∙ ap (ended on) same))
      ];
      left = λ i above. ends.left i (omega (arith, above));
      count = ends.count;
      others = ends.others;
      emptied = λ i o number below at is. elim (below_or_here i below) [
        | inl before_it ↦ ends.emptied i o number before_it at is
        | inr here ↦
            let q = queue_on_is on number o is in
            let live : object.is_live ≡ true = ap (λ (x : Object). x.is_live) (here_is i o here at) ∙ q.0 in
            let device : (object.device == on) ≡ true = ap (λ (x : Object). x.device == on) (here_is i o here at) ∙ q.1 in
            absurd (grind (arith, passed, live, device))
      ];
    }

    -- it is one
    module _ (hit : (object.is_live && object.device == on) ≡ true) (within : (number : ℕ) → number_of object.content ≡ Some number → number < length queues) where
      live : object.is_live ≡ true
      live = grind (arith, hit)

      device : (object.device == on) ≡ true
      device = grind (arith, hit)

      count_without : (n : Option ℕ) → length (without_queue n queues) ≡ length queues
      count_without None = refl
      count_without (Some number) = length-set queues number empty_queue

      others_without : (n : Option ℕ) → number_of object.content ≡ n → (number : ℕ) → list_any (is_queue_on on number) before ≡ false → queue_at (without_queue n queues) number ≡ queue_at queues number
      others_without None is number none = refl
      others_without (Some own) is number none =
          queue_set_other queues own empty_queue number (λ e. true≢false (sym (any_at (is_queue_on on number) before index object was (is_on_queue on number object live device (is ∙ ap Some (sym e)))) ∙ none))

      still_empty : (n : Option ℕ) → number_of object.content ≡ n → (number : ℕ) → queue_at queues number ≡ empty_queue → queue_at (without_queue n queues) number ≡ empty_queue
      still_empty None is number empty = empty
      still_empty (Some own) is number empty = elim (either number own) [
        | inl e ↦ ap (queue_at (without_queue (Some own) queues)) e ∙ queue_set_same queues own empty_queue (within own is)
        | inr apart ↦ queue_set_other queues own empty_queue number apart ∙ empty
      ]

      own_empty : (number : ℕ) → number_of object.content ≡ Some number → queue_at (without_queue (number_of object.content) queues) number ≡ empty_queue
      own_empty number is = ap (λ n. queue_at (without_queue n queues) number) is ∙ queue_set_same queues number empty_queue (within number is)

      pub ends_hit : Ends (index + 1) (set now index (destroyed object)) (without_queue (number_of object.content) queues)
      ends_hit = record {
        length_same = length-set now index (destroyed object) ∙ ends.length_same;
        behind = λ i o below at. elim (below_or_here i below) [
          | inl before_it ↦ get_set_apart now index i (destroyed object) (ended on o) (omega (arith, before_it)) (ends.behind i o before_it at)
          | inr here ↦
              let same = here_is i o here at in
              ap (slice_get (set now index (destroyed object))) here ∙ (get_set_same now index object (destroyed object) there ∙ ap Some (sym (ended_on on object device) ∙ ap (ended on) same))
        ];
        left = λ i above. apart_same i (omega (arith, above)) ∙ ends.left i (omega (arith, above));
        count = count_without (number_of object.content) ∙ ends.count;
        others = λ number none. others_without (number_of object.content) refl number none ∙ ends.others number none;
        emptied = λ i o number below at is. elim (below_or_here i below) [
          | inl before_it ↦ still_empty (number_of object.content) refl number (ends.emptied i o number before_it at is)
          | inr here ↦ own_empty number (ap (λ (x : Object). number_of x.content) (here_is i o here at) ∙ (queue_on_is on number o is).2)
        ];
      }
        where
          set_apart : (xs : List Object) (at i : ℕ) (y : Object) → i ≢ at → slice_get (set xs at y) i ≡ slice_get xs i
          set_apart [] at i y apart = refl
          set_apart (x ∷ xs) zero zero y apart = absurd (apart refl)
          set_apart (x ∷ xs) zero (suc i) y apart = refl
          set_apart (x ∷ xs) (suc at) zero y apart = refl
          set_apart (x ∷ xs) (suc at) (suc i) y apart = set_apart xs at i y (λ e. apart (ap suc e))

          apart_same : (i : ℕ) → i ≢ index → slice_get (set now index (destroyed object)) i ≡ slice_get now i
          apart_same i apart = set_apart now index i (destroyed object) apart

  -- at the end
  pub ends_kept : (index : ℕ) (now : List Object) (queues : List (Queue Surface)) → Ends index now queues → length before ≤ index → now ≡ map (ended on) before
  ends_kept index now queues ends past = all_changed (ended on) before now ends.length_same (λ i o at. ends.behind i o (let w = slice_get_within before i o at in omega (arith, past, w)) at)

  pub ends_emptied : (index : ℕ) (now : List Object) (queues : List (Queue Surface)) → Ends index now queues → length before ≤ index → (number : ℕ) → list_any (is_queue_on on number) before ≡ true → queue_at queues number ≡ empty_queue
  ends_emptied index now queues ends past number any =
      let s = some_passes (is_queue_on on number) before any in
      let w = slice_get_within before s.0 s.1 s.2 in
      ends.emptied s.0 s.1 number (omega (arith, past, w)) s.2 s.3
