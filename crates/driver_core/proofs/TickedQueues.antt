-- Ticks of presentation queues: what they name afterwards, and one tick after the other.
use Rattle.std.proofs.Common.{◌≡◌, inl, inr, ℕ, suc, ◌<◌, ◌≤◌, ◌==◌, Bool, true, false, if◌then◌else◌, List, [], ◌∷◌, length, map, set, slice_get, Option, Some, None, option_map, refl, sym, ap, ◌∙◌, arith}
use Rattle.std.specs.Prelude.{nat_le}
use Rattle.std.proofs.lemmas.Bool.Decides.{nat_tests}
use Rattle.std.proofs.lemmas.List.{length-set}
use Rattle.present_queue.specs.Queue.{Names, Queue, Queued, due, empty_queue, first_due, ticked, ticked_by}
use Rattle.present_queue.specs.Queues.{Surface, queue_at}
use Rattle.driver_objects.specs.Ticks.{all_ticked}
use Rattle.driver_objects.specs.declared.ticks.Due.{Due}
use Rattle.driver_objects.proofs.Cases.{either}
use Rattle.driver_objects.proofs.Lists.{element_is}
use Rattle.driver_objects.proofs.QueueLists.{queue_set_other, queue_set_same}
use Rattle.driver_core.specs.Stands.{by_place}

-- ---- one tick

module _ {S : Type 0} (time : ℕ) where
  names_of : (entries : List (Queued S)) (visible : Option S) (promise : ℕ) (surface : S)
      → Names (ticked (record { entries = entries; visible = visible; promise = promise }) time) surface → Names (record { entries = entries; visible = visible; promise = promise }) surface
  names_of [] visible promise surface named = named
  names_of (entry ∷ rest) visible promise surface named = by_time (nat_le entry.earliest time) named where
    by_time : (b : Bool) → Names (ticked_by (if b then Some entry else None) (record { entries = entry ∷ rest; visible = visible; promise = promise })) surface → Names (record { entries = entry ∷ rest; visible = visible; promise = promise }) surface
    by_time true (inl there) = inl (suc there.0, omega (arith, there.1), there.2)
    by_time true (inr shown) = inl (0, omega arith, element_is entry.surface surface shown)
    by_time false same = same

  -- a queue names nothing after a tick that it didn't name before
  pub names_ticked : (queue : Queue S) (surface : S) → Names (ticked queue time) surface → Names queue surface
  names_ticked queue surface named = names_of queue.entries queue.visible queue.promise surface named

  length_of : (entries : List (Queued S)) (visible : Option S) (promise : ℕ) → length (ticked (record { entries = entries; visible = visible; promise = promise }) time).entries ≤ length entries
  length_of [] visible promise = omega arith
  length_of (entry ∷ rest) visible promise = by_time (nat_le entry.earliest time) where
    by_time : (b : Bool) → length (ticked_by (if b then Some entry else None) (record { entries = entry ∷ rest; visible = visible; promise = promise })).entries ≤ length (entry ∷ rest)
    by_time true = omega arith
    by_time false = omega arith

  pub length_ticked : (queue : Queue S) → length (ticked queue time).entries ≤ length queue.entries
  length_ticked queue = length_of queue.entries queue.visible queue.promise

-- by the places of its surfaces a queue is ticked the same way
pub ticked_by_place : (time : ℕ) (queue : Queue Surface) → by_place (ticked queue time) ≡ ticked (by_place queue) time
ticked_by_place time queue = of_entries queue.entries queue.visible queue.promise where
  of_entries : (entries : List (Queued Surface)) (visible : Option Surface) (promise : ℕ)
      → by_place (ticked (record { entries = entries; visible = visible; promise = promise }) time) ≡ ticked (by_place (record { entries = entries; visible = visible; promise = promise })) time
  of_entries [] visible promise = refl
  of_entries (entry ∷ rest) visible promise = by_time (nat_le entry.earliest time) where
    by_time : (b : Bool) → by_place (ticked_by (if b then Some entry else None) (record { entries = entry ∷ rest; visible = visible; promise = promise }))
        ≡ ticked_by (if b then Some (record { surface = entry.surface.object; earliest = entry.earliest }) else None) (by_place (record { entries = entry ∷ rest; visible = visible; promise = promise }))
    by_time true = refl
    by_time false = refl

placed : Queued Surface → Queued ℕ
placed entry = record { surface = entry.surface.object; earliest = entry.earliest }

-- what is due by places
pub due_by_place : (time : ℕ) (queue : Queue Surface) → due (by_place queue) time ≡ option_map (λ (entry : Queued Surface). record { surface = entry.surface.object; earliest = entry.earliest }) (due queue time)
unfolding placed
due_by_place time queue = of_entries queue.entries where
  of_entries : (entries : List (Queued Surface)) → first_due (map placed entries) time ≡ option_map placed (first_due entries time)
  of_entries [] = refl
  of_entries (entry ∷ rest) = by_time (nat_le entry.earliest time) where
    by_time : (b : Bool) → (if b then Some (placed entry) else None) ≡ option_map placed (if b then Some entry else None)
    by_time true = refl
    by_time false = refl

-- ---- one tick for each that hits

module _ {D S : Type 0} (hits : D → Bool) (time : ℕ) where
  abbrev pub ticked_through : List D → Queue S → Queue S
  ticked_through [] queue = queue
  ticked_through (one ∷ later) queue = ticked_through later (if hits one then ticked queue time else queue)

  pub through_names : (all : List D) (queue : Queue S) (surface : S) → Names (ticked_through all queue) surface → Names queue surface
  through_names [] queue surface named = named
  through_names (one ∷ later) queue surface named = by_test (hits one) (through_names later (if hits one then ticked queue time else queue) surface named) where
    by_test : (b : Bool) → Names (if b then ticked queue time else queue) surface → Names queue surface
    by_test true n = names_ticked time queue surface n
    by_test false n = n

  pub through_length : (all : List D) (queue : Queue S) → length (ticked_through all queue).entries ≤ length queue.entries
  through_length [] queue = omega arith
  through_length (one ∷ later) queue =
      let rest = through_length later (if hits one then ticked queue time else queue) in
      let first = by_test (hits one) in
      omega (arith, rest, first)
    where
      by_test : (b : Bool) → length (if b then ticked queue time else queue).entries ≤ length queue.entries
      by_test true = length_ticked time queue
      by_test false = omega arith

  pub through_empty : (all : List D) → ticked_through all empty_queue ≡ empty_queue
  through_empty [] = refl
  through_empty (one ∷ later) = ap (ticked_through later) (by_test empty_queue refl (hits one)) ∙ through_empty later where
    by_test : (queue : Queue S) → ticked queue time ≡ queue → (b : Bool) → (if b then ticked queue time else queue) ≡ queue
    by_test queue same true = same
    by_test queue same false = refl

-- by places alone, where the same ones hit
pub through_by_place : {D E : Type 0} (hits : D → Bool) (hits_there : E → Bool) (there : D → E) (time : ℕ) (all : List D) (queue : Queue Surface)
    → ((i : ℕ) (one : D) → slice_get all i ≡ Some one → hits one ≡ hits_there (there one))
    → by_place (ticked_through hits time all queue) ≡ ticked_through hits_there time (map there all) (by_place queue)
through_by_place hits hits_there there time [] queue same = refl
through_by_place hits hits_there there time (one ∷ later) queue same =
    through_by_place hits hits_there there time later (if hits one then ticked queue time else queue) (λ i. same (suc i))
    ∙ ap (ticked_through hits_there time (map there later)) (by_test (hits one) ∙ ap (λ b. if b then ticked (by_place queue) time else by_place queue) (same 0 one refl))
  where
    by_test : (b : Bool) → by_place (if b then ticked queue time else queue) ≡ (if b then ticked (by_place queue) time else by_place queue)
    by_test true = ticked_by_place time queue
    by_test false = refl

-- ---- the queues by their numbers

module _ (time : ℕ) where
  pub length_all_ticked : (dues : List Due) (queues : List (Queue Surface)) → length (all_ticked time dues queues) ≡ length queues
  length_all_ticked [] queues = refl
  length_all_ticked (due ∷ later) queues =
      length_all_ticked later (set queues due.number (ticked (queue_at queues due.number) time)) ∙ length-set queues due.number (ticked (queue_at queues due.number) time)

  pub queue_all_ticked : (number : ℕ) (dues : List Due) (queues : List (Queue Surface)) → ((i : ℕ) (due : Due) → slice_get dues i ≡ Some due → due.number < length queues)
      → queue_at (all_ticked time dues queues) number ≡ ticked_through (λ (due : Due). number == due.number) time dues (queue_at queues number)
  queue_all_ticked number [] queues within = refl
  queue_all_ticked number (due ∷ later) queues within =
      queue_all_ticked number later (set queues due.number (ticked (queue_at queues due.number) time))
      (λ i other at. let w = within (suc i) other at in let l = length-set queues due.number (ticked (queue_at queues due.number) time) in omega (arith, w, l))
      ∙ ap (ticked_through (λ (d : Due). number == d.number) time later) first
    where
      first : queue_at (set queues due.number (ticked (queue_at queues due.number) time)) number ≡ (if number == due.number then ticked (queue_at queues number) time else queue_at queues number)
      first = elim (either number due.number) [
        | inl e ↦
            let test : (number == due.number) ≡ true = grind (arith, nat_tests, e) in
            ap (queue_at (set queues due.number (ticked (queue_at queues due.number) time))) e
            ∙ (queue_set_same queues due.number (ticked (queue_at queues due.number) time) (within 0 due refl)
            ∙ (ap (λ n. ticked (queue_at queues n) time) (sym e) ∙ ap (λ b. if b then ticked (queue_at queues number) time else queue_at queues number) (sym test)))
        | inr apart ↦
            let test : (number == due.number) ≡ false = grind (arith, nat_tests, apart) in
            queue_set_other queues due.number (ticked (queue_at queues due.number) time) number apart ∙ ap (λ b. if b then ticked (queue_at queues number) time else queue_at queues number) (sym test)
      ]
