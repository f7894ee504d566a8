-- What a contract sees of `Links`.
use Rattle.std.specs.Prelude.{◌≡◌, ℕ, List, [], map, length, Contains, Some, slice_get, slice_index_or, sum_by}

-- a node in a queue's list, with its holder and its value
pub record Link : Type 0 where
  pub node : ℕ
  pub holder : ℕ
  pub value : ℕ

-- each queue's list, in order; each holder's nodes, in the order in which they were linked; and how many may be linked
pub record Lists : Type 0 where
  pub queues : List (List Link)
  pub holders : List (List ℕ)
  pub nodes : ℕ

abbrev pub list_at : {X : Type 0} → List (List X) → ℕ → List X
list_at lists i = slice_index_or lists i []

abbrev pub queue_of : Lists → ℕ → List Link
queue_of l queue = list_at l.queues queue

abbrev pub held_by : Lists → ℕ → List ℕ
held_by l holder = list_at l.holders holder

-- how many nodes are linked
abbrev pub linked_in : Lists → ℕ
linked_in l = sum_by length l.queues

-- The node stands in some queue's list.
pub record IsLinked (l : Lists) (node : ℕ) : Type 0 where
  pub queue : ℕ
  pub link : Link
  pub stands : Contains (queue_of l queue) link
  pub is : link.node ≡ node

-- No number stands at two places of these lists.
abbrev pub StandOnce : List (List ℕ) → Type 0
StandOnce lists = (p q i j n : ℕ) → slice_get (list_at lists p) i ≡ Some n → slice_get (list_at lists q) j ≡ Some n → (p ≡ q) × (i ≡ j)

-- The queues' lists and the holders' have the same nodes, each once: a node in a queue's list stands with its holder,
-- and each of a holder's nodes stands in a queue's list as one of that holder.
pub record HoldSameNodes (l : Lists) : Type 0 where
  pub held : (queue : ℕ) (link : Link) → Contains (queue_of l queue) link → Contains (held_by l link.holder) link.node
  pub queued : (holder node : ℕ) → Contains (held_by l holder) node → (queue : ℕ) × (link : Link) × Contains (queue_of l queue) link × (link.node ≡ node) × (link.holder ≡ holder)
  pub once_queued : StandOnce (map (map (λ link. link.node)) l.queues)
  pub once_held : StandOnce l.holders
