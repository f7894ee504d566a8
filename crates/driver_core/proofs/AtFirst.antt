-- A core in which nothing was made.
use Rattle.std.proofs.Common.{◌≡◌, ◌⊎◌, inl, inr, ℕ, ◌<◌, ◌≤◌, [], length, replicate, sym, subst, arith}
use Rattle.std.proofs.lemmas.List.{get_or-replicate, get_or_past, length-replicate}
use Rattle.std.proofs.lemmas.Option.{none-some}
use Rattle.present_queue.specs.Queue.{Names, Queue, empty_queue, most_entries}
use Rattle.present_queue.specs.Queues.{Surface, queue_at}
use Rattle.driver_core.specs.Sound.{IsSound}

at_first : (number : ℕ) → queue_at (replicate 64 empty_queue) number ≡ empty_queue
at_first number = elim (within number 64) [
  | inl below ↦ get_or-replicate 64 number empty_queue empty_queue below
  | inr past ↦ get_or_past (replicate 64 empty_queue) number empty_queue (omega (arith, past, length-replicate 64 (empty_queue {S = Surface})))
]
  where
    within : (m n : ℕ) → (m < n) ⊎ (n ≤ m)
    within m n = grind arith

names_none : (surface : Surface) → Names empty_queue surface → ⊥
names_none surface (inl entry) = omega (arith, entry.1)
names_none surface (inr visible) = none-some surface visible

pub sound_at_first : IsSound [] 0 (replicate 64 empty_queue) []
sound_at_first = record {
  kinds = λ i o at. absurd (none-some o at);
  videos = λ i o s at. absurd (none-some o at);
  outputs = λ i o s at. absurd (none-some o at);
  decoders = λ i o s at. absurd (none-some o at);
  mixers = λ i o s at. absurd (none-some o at);
  devices = λ i o at. absurd (none-some o at);
  own = λ i o at. absurd (none-some o at);
  named = λ i o at. absurd (none-some o at);
  limits = record { count = length-replicate 64 (empty_queue {S = Surface}); entries = λ number. subst (λ (q : Queue Surface). length q.entries ≤ most_entries) (sym (at_first number)) (omega arith) };
  numbers = λ i o n at. absurd (none-some o at);
  numbers_apart = λ i j a b n at. absurd (none-some a at);
  unused = λ n none. at_first n;
  holders = λ i o n at. absurd (none-some o at);
  holders_apart = λ i j a b n at. absurd (none-some a at);
  surfaces = λ n surface names. absurd (names_none surface (subst (λ q. Names q surface) (at_first n) names));
  targets = λ i job at. absurd (none-some job at);
}
