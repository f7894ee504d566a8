-- The list of the presentation queues, in which one is changed.
use Rattle.std.proofs.Common.{◌≡◌, ◌≢◌, ℕ, ◌<◌, List, length, set, get_or-set_other, get_or-set_same}
use Rattle.present_queue.specs.Queue.{Queue, empty_queue}
use Rattle.present_queue.specs.Queues.{Surface, queue_at}

module _ (queues : List (Queue Surface)) (number : ℕ) (queue : Queue Surface) where
  pub queue_set_same : number < length queues → queue_at (set queues number queue) number ≡ queue
  queue_set_same within = get_or-set_same queues number queue empty_queue within

  pub queue_set_other : (other : ℕ) → other ≢ number → queue_at (set queues number queue) other ≡ queue_at queues other
  queue_set_other other apart = get_or-set_other queues number other queue empty_queue apart
