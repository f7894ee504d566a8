-- What is kept of the queues. No public clause cites this module.
use Rattle.std.specs.Prelude.{◌≡◌, ℕ, ◌<◌, ◌≤◌, ◌==◌, Bool, false, List, [], ◌∷◌, length, map, slice_index, Some, None}
use Rattle.std.specs.List.{slice_index_or}
use Rattle.std.specs.Option.{option_map, option_map_or}
use Rattle.index_lists.specs.Lists.{Link, Lists, list_at}
use Rattle.present_queue.specs.Queue.{Queue, Queued, most_entries}
use Rattle.present_queue.specs.Queues.{Surface}
use Rattle.present_queue.specs.declared.queues.Kept.{Kept}

-- the surface of a holder, by the objects of all holders
abbrev pub surface_of : List ℕ → ℕ → Surface
surface_of objects holder = record { object = slice_index objects holder; holder = holder }

abbrev pub queued_of : List ℕ → Link → Queued Surface
queued_of objects link = record { surface = surface_of objects link.holder; earliest = link.value }

abbrev pub queue_with : List ℕ → List Link → Kept → Queue Surface
queue_with objects links kept =
    record { entries = map (queued_of objects) links; visible = option_map (surface_of objects) kept.visible; promise = kept.promise }

abbrev pub queues_with : List ℕ → List (List Link) → List Kept → List (Queue Surface)
queues_with objects [] kept = []
queues_with objects (links ∷ lists) [] = []
queues_with objects (links ∷ lists) (kept ∷ rest) = queue_with objects links kept ∷ queues_with objects lists rest

abbrev pub nothing_kept : Kept
nothing_kept = record { visible = None; promise = 0; length = 0 }

abbrev pub kept_at : List Kept → ℕ → Kept
kept_at kept number = slice_index_or kept number nothing_kept

abbrev pub shows_holder : ℕ → Kept → Bool
shows_holder holder kept = option_map_or (λ shown. shown == holder) kept.visible false

-- what is true of all queues
pub record IsSound (links : Lists) (kept : List Kept) (objects : List ℕ) : Type 0 where
  pub queues : length links.queues ≡ 64
  pub each_kept : length kept ≡ 64
  pub holders : length links.holders ≡ 5184
  pub each_object : length objects ≡ 5184
  pub nodes : links.nodes ≡ 4096
  pub counted : (number : ℕ) → length (list_at links.queues number) ≡ (kept_at kept number).length
  pub few : (number : ℕ) → (kept_at kept number).length ≤ most_entries
  pub shown : (number holder : ℕ) → (kept_at kept number).visible ≡ Some holder → holder < 5184
