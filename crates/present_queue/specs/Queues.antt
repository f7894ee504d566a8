-- What a contract sees of a `Queues`: 64 presentation queues, by number.
use Rattle.std.specs.Prelude.{◌≡◌, ℕ, ◌≤◌, ◌==◌, ◌↔◌, Bool, List, length, map, sum_by, refl}
use Rattle.std.specs.Coded.{Coded, code_by, coded×, coded_ℕ}
use Rattle.std.specs.List.{slice_index_or}
use Rattle.index_lists.specs.Lists.{Link, Lists, queue_of}
use Rattle.present_queue.specs.Queue.{Queue, Queued, Names, empty_queue, most_entries}
use Rattle.present_queue.specs.declared.entry.Entry.{Entry}

-- a surface: its place among all objects ever made, and its number in the queues, the holder
pub record Surface : Type 0 where
  pub object : ℕ
  pub holder : ℕ

abbrev pub surface_code : Coded Surface
surface_code = code_by (ℕ × ℕ) (coded× coded_ℕ coded_ℕ) (λ s. (s.object, s.holder)) (λ p. record { object = p.0; holder = p.1 }) (λ _. refl)

abbrev pub queue_at : List (Queue Surface) → ℕ → Queue Surface
queue_at queues number = slice_index_or queues number empty_queue

-- what stands in a queue for an entry that was displayed under this holder, and the entry that it was
abbrev pub queued_by : ℕ → Entry → Queued Surface
queued_by holder entry = record { surface = record { object = entry.object; holder = holder }; earliest = entry.earliest }

abbrev pub entry_of : Queued Surface → Entry
entry_of queued = record { object = queued.surface.object; earliest = queued.earliest }

abbrev pub has_holder : ℕ → Surface → Bool
has_holder holder surface = surface.holder == holder

abbrev pub is_object : ℕ → Surface → Bool
is_object object surface = surface.object == object

-- Wherever a queue names this object, it is under this holder, and no other object is.
abbrev pub IsHolderOf : List (Queue Surface) → ℕ → ℕ → Type 0
IsHolderOf queues holder object =
    (number : ℕ) (surface : Surface) → Names (queue_at queues number) surface → (surface.holder ≡ holder) ↔ (surface.object ≡ object)

-- how many entries all queues have
abbrev pub count_entries : List (Queue Surface) → ℕ
count_entries queues = sum_by (λ queue. length queue.entries) queues

-- There are 64 queues, and none has more entries than a queue can have.
pub record IsWithinLimits (queues : List (Queue Surface)) : Type 0 where
  pub count : length queues ≡ 64
  pub entries : (number : ℕ) → length (queue_at queues number).entries ≤ most_entries

-- There is a list for each queue, with one node for each of its entries, in the same order. A node stands for its entry by the
-- entry's holder and its earliest time.
abbrev pub told_by_link : Link → ℕ × ℕ
told_by_link link = (link.holder, link.value)

abbrev pub told_by_entry : Queued Surface → ℕ × ℕ
told_by_entry queued = (queued.surface.holder, queued.earliest)

pub record HasNodesOf (lists : Lists) (queues : List (Queue Surface)) : Type 0 where
  pub count : length lists.queues ≡ length queues
  pub each : (number : ℕ) → map told_by_link (queue_of lists number) ≡ map told_by_entry (queue_at queues number).entries
