-- The queues that a contract sees, read off the lists of nodes, what is kept beside them and the holders' objects.
use Rattle.std.proofs.Common.{◌≡◌, ℕ, zero, suc, ◌<◌, false, eqb, List, [], ◌∷◌, length, get_or, set, map, Option, Some, None, option_map, refl, sym, ap, ◌∙◌, arith}
use Rattle.std.specs.List.{list_any, slice_index, sum_by}
use Rattle.std.specs.Option.{option_map_or}
use Rattle.std.proofs.lemmas.List.Sums.{sum_by-cons}
use Rattle.std.proofs.lemmas.List.{get_or_read, length-map, set-get_or}
use Rattle.index_lists.specs.Lists.{Link, Lists, list_at}
use Rattle.present_queue.specs.Queue.{Queue, is_shown}
use Rattle.present_queue.specs.Queues.{HasNodesOf, IsWithinLimits, Surface, count_entries, has_holder, queue_at, told_by_entry, told_by_link}
use Rattle.present_queue.specs.Kept.{IsSound, kept_at, nothing_kept, queue_with, queued_of, queues_with, shows_holder, surface_of}
use Rattle.present_queue.specs.declared.queues.Kept.{Kept}

module _ (objects : List ℕ) where
  pub length-queues_with : (lists : List (List Link)) (kept : List Kept) → length lists ≡ length kept → length (queues_with objects lists kept) ≡ length lists
  length-queues_with [] kept same = refl
  length-queues_with (links ∷ lists) [] same = absurd (omega arith)
  length-queues_with (links ∷ lists) (k ∷ kept) same = ap suc (length-queues_with lists kept (omega arith))

  pub queue_at-queues_with : (lists : List (List Link)) (kept : List Kept) (number : ℕ) → length lists ≡ length kept → queue_at (queues_with objects lists kept) number ≡ queue_with objects (list_at lists number) (kept_at kept number)
  queue_at-queues_with [] [] number same = refl
  queue_at-queues_with [] (k ∷ kept) number same = absurd (omega arith)
  queue_at-queues_with (links ∷ lists) [] number same = absurd (omega arith)
  queue_at-queues_with (links ∷ lists) (k ∷ kept) zero same = refl
  queue_at-queues_with (links ∷ lists) (k ∷ kept) (suc number) same = queue_at-queues_with lists kept number (omega arith)

  pub queues_with-set : (lists : List (List Link)) (kept : List Kept) (number : ℕ) (links : List Link) (k : Kept) → length lists ≡ length kept → queues_with objects (set lists number links) (set kept number k) ≡ set (queues_with objects lists kept) number (queue_with objects links k)
  queues_with-set [] [] number links k same = refl
  queues_with-set [] (k' ∷ kept) number links k same = absurd (omega arith)
  queues_with-set (links' ∷ lists) [] number links k same = absurd (omega arith)
  queues_with-set (links' ∷ lists) (k' ∷ kept) zero links k same = refl
  queues_with-set (links' ∷ lists) (k' ∷ kept) (suc number) links k same = ap (λ rest. queue_with objects links' k' ∷ rest) (queues_with-set lists kept number links k (omega arith))

  pub count_entries-queues_with : (lists : List (List Link)) (kept : List Kept) → length lists ≡ length kept → count_entries (queues_with objects lists kept) ≡ sum_by length lists
  count_entries-queues_with [] kept same = refl
  count_entries-queues_with (links ∷ lists) [] same = absurd (omega arith)
  count_entries-queues_with (links ∷ lists) (k ∷ kept) same =
      let rest : count_entries (queues_with objects lists kept) ≡ sum_by length lists = count_entries-queues_with lists kept (omega arith) in
      omega (arith, rest, length-map links (queued_of objects), sum_by-cons length links lists, sum_by-cons (λ (q : Queue Surface). length q.entries) (queue_with objects links k) (queues_with objects lists kept))

module _ (links : Lists) (kept : List Kept) (objects : List ℕ) (queues : List (Queue Surface)) (sound : IsSound links kept objects) (view : queues_with objects links.queues kept ≡ queues) where
  same : length links.queues ≡ length kept
  same = sound.queues ∙ sym sound.each_kept

  pub length-view : length queues ≡ 64
  length-view = ap length (sym view) ∙ length-queues_with objects links.queues kept same ∙ sound.queues

  pub queue_at-view : (number : ℕ) → queue_at queues number ≡ queue_with objects (list_at links.queues number) (kept_at kept number)
  queue_at-view number = ap (λ qs. queue_at qs number) (sym view) ∙ queue_at-queues_with objects links.queues kept number same

  -- what a read of a queue's record gives
  pub kept_read : (number : ℕ) (k : Kept) → number < 64 → k ≡ get_or kept number k → k ≡ kept_at kept number
  kept_read number k within read = get_or_read kept number k (rw sound.each_kept within) read nothing_kept

  -- what a read of the shown holder's object gives
  pub object_read : (holder object : ℕ) → holder < 5184 → object ≡ get_or objects holder object → object ≡ slice_index objects holder
  object_read holder object within read = get_or_read objects holder object (rw sound.each_object within) read 0

  pub shown_within : (number holder : ℕ) (k : Kept) → k ≡ kept_at kept number → k.visible ≡ Some holder → holder < 5184
  shown_within number holder k read shown = sound.shown number holder (ap (λ k. k.visible) (sym read) ∙ shown)

  pub count_entries-view : count_entries queues ≡ sum_by length links.queues
  count_entries-view = ap count_entries (sym view) ∙ count_entries-queues_with objects links.queues kept same

  pub IsWithinLimits-view : IsWithinLimits queues
  IsWithinLimits-view = record {
    count = length-view;
    entries = λ number. rw (queue_at-view number, length-map, sound.counted number) (sound.few number);
  }

  pub HasNodesOf-view : HasNodesOf links queues
  HasNodesOf-view = record {
    count = sound.queues ∙ sym length-view;
    each = λ number. rw (queue_at-view number) (told (list_at links.queues number));
  }
    where
      told : (list : List Link) → map told_by_link list ≡ map told_by_entry (map (queued_of objects) list)
      told [] = refl
      told (link ∷ rest) = ap (λ more. told_by_link link ∷ more) (told rest)

  -- One queue's list and record change, and the objects stay.
  pub view-set : (number : ℕ) (list : List Link) (k : Kept) → queues_with objects (set links.queues number list) (set kept number k) ≡ set queues number (queue_with objects list k)
  view-set number list k = queues_with-set objects links.queues kept number list k same ∙ ap (λ qs. set qs number (queue_with objects list k)) view

  -- only its record
  pub view-set_kept : (number : ℕ) (k : Kept) → queues_with objects links.queues (set kept number k) ≡ set queues number (queue_with objects (list_at links.queues number) k)
  view-set_kept number k = ap (λ lists. queues_with objects lists (set kept number k)) (sym (set-get_or links.queues number [])) ∙ view-set number (list_at links.queues number) k

-- A test of the surfaces by their holder looks at no object.
pub is_shown-queues_with : (objects : List ℕ) (holder : ℕ) (lists : List (List Link)) (kept : List Kept) → length lists ≡ length kept → is_shown (has_holder holder) (queues_with objects lists kept) ≡ list_any (shows_holder holder) kept
is_shown-queues_with objects holder [] [] same = refl
is_shown-queues_with objects holder [] (k ∷ kept) same = absurd (omega arith)
is_shown-queues_with objects holder (links ∷ lists) [] same = absurd (omega arith)
is_shown-queues_with objects holder (links ∷ lists) (k ∷ kept) same =
    let rest : is_shown (has_holder holder) (queues_with objects lists kept) ≡ list_any (shows_holder holder) kept = is_shown-queues_with objects holder lists kept (omega arith) in
    rw (rest, shown_here k.visible) refl
  where
    shown_here : (visible : Option ℕ) → option_map_or (has_holder holder) (option_map (surface_of objects) visible) false ≡ option_map_or (λ shown. eqb shown holder) visible false
    shown_here None = refl
    shown_here (Some shown) = refl
