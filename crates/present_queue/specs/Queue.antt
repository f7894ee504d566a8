-- A presentation queue and its steps. vdpau.h, VdpPresentationQueueDisplay and VdpPresentationQueueQuerySurfaceStatus; time goes
-- on in ticks of the driver's clock, and a queue shows one surface at most at a tick. S is what a surface is known by.
use Rattle.std.specs.Prelude.{◌≡◌, ◌⊎◌, ℕ, max, nat_le, nat_lt, ◌==◌, Bool, false, if◌then◌else◌, List, [], ◌∷◌, ◌++◌, length, drop, map, Contains, Option, Some, None, Result, Ok, Err, refl}
use Rattle.std.specs.Coded.{Coded, code_by, coded×, coded_ℕ, coded_list, coded_option}
use Rattle.std.specs.List.{list_any}
use Rattle.std.specs.Option.{option_map_or}
use Rattle.vd_status.specs.declared.refusal.Refusal.{Refusal}
use Rattle.vd_status.specs.declared.refusal.Refusal.TheVariants.{QueueFull, EarlierThanPromise}

-- a surface that waits to be shown, and the time before which it isn't
pub record Queued (S : Type 0) : Type 0 where
  pub surface : S
  pub earliest : ℕ

-- The surfaces that wait, the oldest first; the surface that is visible; and the time that was promised: what is displayed from
-- now on isn't earlier.
pub record Queue (S : Type 0) : Type 0 where
  pub entries : List (Queued S)
  pub visible : Option S
  pub promise : ℕ

abbrev pub queued_code : {S : Type 0} → Coded S → Coded (Queued S)
queued_code {S} code =
    code_by
    (S × ℕ)
    (coded× code coded_ℕ)
    (λ e. (e.surface, e.earliest))
    (λ p. record { surface = p.0; earliest = p.1 })
    (λ _. refl)

abbrev pub queue_code : {S : Type 0} → Coded S → Coded (Queue S)
queue_code {S} code =
    code_by
    (List (Queued S) × (Option S × ℕ))
    (coded× (coded_list (queued_code code)) (coded× (coded_option code) coded_ℕ))
    (λ q. (q.entries, (q.visible, q.promise)))
    (λ p. record { entries = p.0; visible = p.1.0; promise = p.1.1 })
    (λ _. refl)

-- so many entries wait in a queue at most
abbrev pub most_entries : ℕ
most_entries = 64

module _ {S : Type 0} where
  abbrev pub empty_queue : Queue S
  empty_queue = record { entries = []; visible = None; promise = 0 }

  -- What a display at this time answers. A full queue says so first.
  abbrev pub answer_to_display : Queue S → ℕ → Result (Unit {0}) Refusal
  answer_to_display queue earliest =
      if length queue.entries == most_entries then Err QueueFull
      else if nat_lt earliest queue.promise then Err (EarlierThanPromise queue.promise)
      else Ok tt

  -- The entry is the last one.
  abbrev pub displayed : Queue S → Queued S → Queue S
  displayed queue entry = record queue { entries = queue.entries ++ entry ∷ [] }

  -- the entry that a tick takes: the oldest, if its time has come
  abbrev pub first_due : List (Queued S) → ℕ → Option (Queued S)
  first_due [] time = None
  first_due (entry ∷ rest) time = if nat_le entry.earliest time then Some entry else None

  abbrev pub due : Queue S → ℕ → Option (Queued S)
  due queue time = first_due queue.entries time

  -- Just that entry goes, and its surface is visible from then on; the one that was is let go.
  abbrev pub ticked_by : Option (Queued S) → Queue S → Queue S
  ticked_by None queue = queue
  ticked_by (Some entry) queue = record queue { entries = drop 1 queue.entries; visible = Some entry.surface }

  abbrev pub ticked : Queue S → ℕ → Queue S
  ticked queue time = ticked_by (due queue time) queue

  -- The promise never falls.
  abbrev pub promised : Queue S → ℕ → Queue S
  promised queue time = record queue { promise = max queue.promise time }

  -- The queue shows a surface that passes the test, or has an entry of one.
  abbrev pub shows : (S → Bool) → Queue S → Bool
  shows test queue = option_map_or test queue.visible false

  abbrev pub holds : (S → Bool) → Queue S → Bool
  holds test queue = list_any (λ entry. test entry.surface) queue.entries

  -- whether any of these queues shows a surface that passes the test
  abbrev pub is_shown : (S → Bool) → List (Queue S) → Bool
  is_shown test queues = list_any (shows test) queues

  -- whether one waits in any of them
  abbrev pub is_queued : (S → Bool) → List (Queue S) → Bool
  is_queued test queues = list_any (holds test) queues

  -- The queue names the surface: it has an entry of it, or shows it.
  abbrev pub Names : Queue S → S → Type 0
  Names queue surface = Contains (map (λ entry. entry.surface) queue.entries) surface ⊎ (queue.visible ≡ Some surface)
