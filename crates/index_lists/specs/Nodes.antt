-- How the nodes of `Links` and its two families of lists go together. No public clause cites this module.
use Rattle.std.specs.Prelude.{◌≡◌, ℕ, ◌<◌, ◌≤◌, ◌^◌, ◌↔◌, List, map, length, Contains, Option, Some, None, option_map, sum_by}
use Rattle.slab.specs.Slab.{ContainsKey, Slab, get, slab_len}
use Rattle.index_lists.specs.Lists.{Link, Lists, StandOnce, list_at}
use Rattle.index_lists.specs.Rings.{IsInSome, NodeLists}
use Rattle.index_lists.specs.declared.links.Node.{Node}

abbrev pub holder_in : Option Node → ℕ
holder_in None = 0
holder_in (Some node) = node.holder

abbrev pub value_in : Option Node → ℕ
value_in None = 0
value_in (Some node) = node.value

-- what stands in a queue's list for the node of this number
abbrev pub link_of : Slab Node → ℕ → Link
link_of nodes n = record { node = n; holder = holder_in (get nodes n); value = value_in (get nodes n) }

abbrev pub queues_in : Slab Node → List (List ℕ) → List (List Link)
queues_in nodes lists = map (map (link_of nodes)) lists

-- what a contract sees of all
abbrev pub lists_of : Slab Node → NodeLists → NodeLists → ℕ → Lists
lists_of nodes by_queue by_holder most = record { queues = queues_in nodes by_queue.lists; holders = by_holder.lists; nodes = most }

-- Just the nodes that the slab has stand in the lists, each once.
pub record AreListed (nodes : Slab Node) (listed : NodeLists) : Type 0 where
  pub all : (n : ℕ) → IsInSome listed.lists n ↔ ContainsKey nodes n
  pub once : StandOnce listed.lists
  pub counted : slab_len nodes ≡ sum_by length listed.lists
  pub keys : nodes.capacity ≤ listed.nodes
  pub keys_fit : listed.nodes < 2 ^ 32

-- A holder's list has nodes of this holder.
abbrev pub AreOfHolders : Slab Node → List (List ℕ) → Type 0
AreOfHolders nodes lists = (holder n : ℕ) → Contains (list_at lists holder) n → option_map (λ node. node.holder) (get nodes n) ≡ Some holder

pub record IsSound (nodes : Slab Node) (by_queue by_holder : NodeLists) (most : ℕ) : Type 0 where
  pub queued : AreListed nodes by_queue
  pub held : AreListed nodes by_holder
  pub of_holders : AreOfHolders nodes by_holder.lists
  pub few : slab_len nodes ≤ most
  pub room : most ≤ nodes.capacity
