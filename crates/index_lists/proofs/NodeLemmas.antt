-- What holds of the nodes and their two families of lists, before and after a change.
use Rattle.std.proofs.Common.{◌≡◌, ◌≢◌, ℕ, ◌+◌, ◌<◌, ◌≤◌, ◌^◌, List, [], ◌∷◌, ◌++◌, map, length, get_or, set, replicate, Option, Some, None, IsSome, is_some, count_by, Contains, option_map, slice_get, sum_by, refl, sym, ap, subst, ◌∙◌, inl, inr, arith, mul-zero}
use Rattle.std.proofs.lemmas.Bool.{cases_eq}
use Rattle.std.proofs.lemmas.List.{map-append, map-set, map_push}
use Rattle.std.proofs.lemmas.List.Folds.{sum_by-replicate}
use Rattle.slab.specs.Slab.{ContainsKey, Slab, get, slab_len, Updates}
use Rattle.index_lists.specs.Lists.{HoldSameNodes, IsLinked, Link, Lists, StandOnce, list_at}
use Rattle.index_lists.specs.Nodes.{AreListed, AreOfHolders, IsSound, holder_in, link_of, lists_of, queues_in, value_in}
use Rattle.index_lists.specs.Rings.{IsInSome, NodeLists}
use Rattle.index_lists.specs.declared.links.Node.{Node}
use Rattle.index_lists.proofs.Maps.{Contains-map, list_at-map, list_at-replicate_nil, map-Contains, map-replicate_nil, map-same, maps-back, maps-same}
use Rattle.index_lists.proofs.Replaced.{pushed-count, pushed-own, pushed-still, pushed-there, removed-count, removed-still, removed-there}

-- the node under a key that has one
pub node_at : (nodes : Slab Node) (n : ℕ) → ContainsKey nodes n → (node : Node) × (get nodes n ≡ Some node)
node_at nodes n present = of_option (get nodes n) present
  where
    of_option : (o : Option Node) → IsSome o → (node : Node) × (o ≡ Some node)
    of_option None present = absurd (cc)
    of_option (Some node) present = (node, refl)

pub at_key : (nodes : Slab Node) (n : ℕ) (node : Node) → get nodes n ≡ Some node → ContainsKey nodes n
at_key nodes n node is = subst IsSome (sym is) refl

-- nothing and something at once
pub not_both : {P : Type 0} (o : Option Node) → o ≡ None → IsSome o → P
not_both None none some = absurd (cc)
not_both (Some node) none some = absurd (cc)

module _ (nodes now : Slab Node) (listed listed_now : NodeLists) (sound : AreListed nodes listed) (key q : ℕ) where
  -- A new node joins a list.
  pub AreListed-pushed : (node : Node) → get nodes key ≡ None → Updates nodes now key (Some node) → slab_len now ≡ slab_len nodes + 1 → now.capacity ≡ nodes.capacity → q < length listed.lists → listed_now.nodes ≡ listed.nodes → listed_now.lists ≡ set listed.lists q (list_at listed.lists q ++ key ∷ []) → StandOnce listed_now.lists → AreListed now listed_now
  AreListed-pushed node vacant updates len capacity within count lists once =
      record {
        all = λ n. (there n, back n);
        once = once;
        counted = rw lists (omega (arith, len, sound.counted, pushed-count listed.lists q key within));
        keys = omega (arith, sound.keys);
        keys_fit = omega (arith, sound.keys_fit);
      }
    where
      there : (n : ℕ) → IsInSome listed_now.lists n → ContainsKey now n
      there n stands =
          elim (pushed-there listed.lists q key within stands.0 n (subst (λ ls. Contains (list_at ls stands.0) n) lists stands.1)) [
            | inl old ↦
                let was : ContainsKey nodes n = (sound.all n).0 (stands.0, old) in
                let differs : n ≢ key = λ same. not_both (get nodes n) (ap (get nodes) same ∙ vacant) was in
                subst IsSome (sym (updates.others n differs)) was
            | inr own ↦ at_key now n node (ap (get now) (sym own.1) ∙ updates.changed)
          ]

      back : (n : ℕ) → ContainsKey now n → IsInSome listed_now.lists n
      back n present =
          subst (λ ls. IsInSome ls n) (sym lists) (
          elim (cases_eq n key) [
            | inl same ↦ (q, subst (Contains (list_at (set listed.lists q (list_at listed.lists q ++ key ∷ [])) q)) (sym same) (pushed-own listed.lists q key within))
            | inr differs ↦
                let old : IsInSome listed.lists n = (sound.all n).1 (subst IsSome (updates.others n differs) present) in
                (old.0, pushed-still listed.lists q key within old.0 n old.1)
          ]
          )

  pub AreOfHolders-pushed : (node : Node) → node.holder ≡ q → get nodes key ≡ None → Updates nodes now key (Some node) → q < length listed.lists → listed_now.lists ≡ set listed.lists q (list_at listed.lists q ++ key ∷ []) → AreOfHolders nodes listed.lists → AreOfHolders now listed_now.lists
  AreOfHolders-pushed node is_holder vacant updates within lists of_holders h n stands =
      elim (pushed-there listed.lists q key within h n (subst (λ ls. Contains (list_at ls h) n) lists stands)) [
        | inl old ↦
            let was : ContainsKey nodes n = (sound.all n).0 (h, old) in
            let differs : n ≢ key = λ same. not_both (get nodes n) (ap (get nodes) same ∙ vacant) was in
            ap (option_map (λ m. m.holder)) (updates.others n differs) ∙ of_holders h n old
        | inr own ↦ ap (option_map (λ m. m.holder)) (ap (get now) (sym own.1) ∙ updates.changed) ∙ ap Some (is_holder ∙ sym own.0)
      ]

  -- A node leaves the list in which it stands.
  pub AreListed-removed : (us vs : List ℕ) → list_at listed.lists q ≡ us ++ key ∷ vs → Updates nodes now key None → slab_len now + 1 ≡ slab_len nodes → now.capacity ≡ nodes.capacity → listed_now.nodes ≡ listed.nodes → listed_now.lists ≡ set listed.lists q (us ++ vs) → StandOnce listed_now.lists → AreListed now listed_now
  AreListed-removed us vs split updates len capacity count lists once =
      record {
        all = λ n. (there n, back n);
        once = once;
        counted = rw lists (omega (arith, len, sound.counted, removed-count listed.lists sound.once q key us vs split));
        keys = omega (arith, sound.keys);
        keys_fit = omega (arith, sound.keys_fit);
      }
    where
      there : (n : ℕ) → IsInSome listed_now.lists n → ContainsKey now n
      there n stands =
          let old = removed-there listed.lists sound.once q key us vs split stands.0 n (subst (λ ls. Contains (list_at ls stands.0) n) lists stands.1) in
          subst IsSome (sym (updates.others n old.1)) ((sound.all n).0 (stands.0, old.0))

      back : (n : ℕ) → ContainsKey now n → IsInSome listed_now.lists n
      back n present =
          let differs : n ≢ key = λ same. not_both (get now n) (ap (get now) same ∙ updates.changed) present in
          let old : IsInSome listed.lists n = (sound.all n).1 (subst IsSome (updates.others n differs) present) in
          subst (λ ls. IsInSome ls n) (sym lists) (old.0, removed-still listed.lists sound.once q key us vs split old.0 n differs old.1)

  pub AreOfHolders-removed : (us vs : List ℕ) → list_at listed.lists q ≡ us ++ key ∷ vs → Updates nodes now key None → listed_now.lists ≡ set listed.lists q (us ++ vs) → AreOfHolders nodes listed.lists → AreOfHolders now listed_now.lists
  AreOfHolders-removed us vs split updates lists of_holders h n stands =
      let old = removed-there listed.lists sound.once q key us vs split h n (subst (λ ls. Contains (list_at ls h) n) lists stands) in
      ap (option_map (λ m. m.holder)) (updates.others n old.1) ∙ of_holders h n old.0

module _ (nodes : Slab Node) (by_queue by_holder : NodeLists) (most : ℕ) (sound : IsSound nodes by_queue by_holder most) where
  -- a link in a queue's list says what its node has
  pub link-node : (q : ℕ) (link : Link) → Contains (list_at (queues_in nodes by_queue.lists) q) link → (node : Node) × (get nodes link.node ≡ Some node) × (node.holder ≡ link.holder) × (node.value ≡ link.value)
  link-node q link stands =
      let at = Contains-map (link_of nodes) (list_at by_queue.lists q) link (subst (λ xs. Contains xs link) (list_at-map (link_of nodes) by_queue.lists q) stands) in
      let found = node_at nodes at.0 ((sound.queued.all at.0).0 (q, at.1)) in
      let number : at.0 ≡ link.node = ap (λ l. l.node) at.2 in (
        found.0,
        ap (get nodes) (sym number) ∙ found.1,
        ap holder_in (sym found.1) ∙ ap (λ l. l.holder) at.2,
        ap value_in (sym found.1) ∙ ap (λ l. l.value) at.2,
      )

  -- and each node has its link in some queue's list
  pub node-link : (n : ℕ) (node : Node) → get nodes n ≡ Some node → (q : ℕ) × Contains (list_at (queues_in nodes by_queue.lists) q) (record { node = n; holder = node.holder; value = node.value })
  node-link n node is =
      let listed = (sound.queued.all n).1 (at_key nodes n node is) in
      let own : Link = record { node = n; holder = node.holder; value = node.value } in
      let link : link_of nodes n ≡ own = ap (λ o. record { node = n; holder = holder_in o; value = value_in o }) is in
      let mapped = map-Contains (link_of nodes) (list_at by_queue.lists listed.0) n listed.1 in
      (listed.0, subst (λ xs. Contains xs own) (sym (list_at-map (link_of nodes) by_queue.lists listed.0)) (subst (Contains (map (link_of nodes) (list_at by_queue.lists listed.0))) link mapped))

  -- each node stands in its holder's list
  pub node-held : (n : ℕ) (node : Node) → get nodes n ≡ Some node → Contains (list_at by_holder.lists node.holder) n
  node-held n node is =
      let listed = (sound.held.all n).1 (at_key nodes n node is) in
      let holder : Some node.holder ≡ Some listed.0 = ap (option_map (λ m. m.holder)) (sym is) ∙ sound.of_holders listed.0 n listed.1 in
      let same : listed.0 ≡ node.holder = cc in
      subst (λ h. Contains (list_at by_holder.lists h) n) same listed.1

  pub linked-key : (n : ℕ) → IsLinked (lists_of nodes by_queue by_holder most) n → ContainsKey nodes n
  linked-key n linked =
      let found = link-node linked.queue linked.link linked.stands in
      at_key nodes n found.0 (ap (get nodes) (sym linked.is) ∙ found.1)

  pub key-linked : (n : ℕ) → ContainsKey nodes n → IsLinked (lists_of nodes by_queue by_holder most) n
  key-linked n present =
      let found = node_at nodes n present in
      let stands = node-link n found.0 found.1 in
      record { queue = stands.0; link = record { node = n; holder = found.0.holder; value = found.0.value }; stands = stands.1; is = refl }

  pub HoldSameNodes-sound : HoldSameNodes (lists_of nodes by_queue by_holder most)
  HoldSameNodes-sound =
      record {
        held = λ q link stands.
            let found = link-node q link stands in
            subst (λ h. Contains (list_at by_holder.lists h) link.node) found.2 (node-held link.node found.0 found.1);
        queued = λ h n stands.
            let found = node_at nodes n ((sound.held.all n).0 (h, stands)) in
            let link = node-link n found.0 found.1 in
            let holder : Some found.0.holder ≡ Some h = ap (option_map (λ m. m.holder)) (sym found.1) ∙ sound.of_holders h n stands in
            let same : found.0.holder ≡ h = cc in
            (link.0, record { node = n; holder = found.0.holder; value = found.0.value }, link.1, refl, same);
        once_queued = subst StandOnce (sym (maps-back (link_of nodes) (λ link. link.node) by_queue.lists (λ n. refl))) sound.queued.once;
        once_held = sound.held.once;
      }

  -- the queues' lists, where a new node came to the end of one
  pub queues-pushed : (now : Slab Node) (key q : ℕ) (node : Node) → get nodes key ≡ None → Updates nodes now key (Some node) → queues_in now (set by_queue.lists q (list_at by_queue.lists q ++ key ∷ [])) ≡ set (queues_in nodes by_queue.lists) q (list_at (queues_in nodes by_queue.lists) q ++ record { node = key; holder = node.holder; value = node.value } ∷ [])
  queues-pushed now key q node vacant updates =
      let lists = by_queue.lists in
      let link : link_of now key ≡ record { node = key; holder = node.holder; value = node.value } = ap (λ o. record { node = key; holder = holder_in o; value = value_in o }) updates.changed in
      let grown : map (link_of now) (list_at lists q ++ key ∷ []) ≡ list_at (queues_in nodes lists) q ++ record { node = key; holder = node.holder; value = node.value } ∷ [] =
      map_push (link_of now) (list_at lists q) key
      ∙ ap (λ l. map (link_of now) (list_at lists q) ++ l ∷ []) link
      ∙ ap (λ ls. ls ++ record { node = key; holder = node.holder; value = node.value } ∷ []) (map-same (link_of now) (link_of nodes) (list_at lists q) (kept q) ∙ sym (list_at-map (link_of nodes) lists q)) in
      map-set (map (link_of now)) lists q (list_at lists q ++ key ∷ [])
      ∙ ap (λ ls. set ls q (map (link_of now) (list_at lists q ++ key ∷ []))) (maps-same (link_of now) (link_of nodes) lists kept)
      ∙ ap (set (queues_in nodes lists) q) grown
    where
      kept : (i n : ℕ) → Contains (list_at by_queue.lists i) n → link_of now n ≡ link_of nodes n
      kept i n stands =
          let differs : n ≢ key = λ same. not_both (get nodes n) (ap (get nodes) same ∙ vacant) ((sound.queued.all n).0 (i, stands)) in
          ap (λ o. record { node = n; holder = holder_in o; value = value_in o }) (updates.others n differs)

  -- the queues' lists, where a node left one
  pub queues-removed : (now : Slab Node) (key q : ℕ) (us vs : List ℕ) → Updates nodes now key None → ((i : ℕ) → ¬ Contains (list_at (set by_queue.lists q (us ++ vs)) i) key) → queues_in now (set by_queue.lists q (us ++ vs)) ≡ set (queues_in nodes by_queue.lists) q (map (link_of nodes) us ++ map (link_of nodes) vs)
  queues-removed now key q us vs updates gone =
      let lists = by_queue.lists in
      maps-same (link_of now) (link_of nodes) (set lists q (us ++ vs)) kept
      ∙ map-set (map (link_of nodes)) lists q (us ++ vs)
      ∙ ap (set (queues_in nodes lists) q) (map-append (link_of nodes) us vs)
    where
      kept : (i n : ℕ) → Contains (list_at (set by_queue.lists q (us ++ vs)) i) n → link_of now n ≡ link_of nodes n
      kept i n stands =
          let differs : n ≢ key = λ same. gone i (subst (Contains (list_at (set by_queue.lists q (us ++ vs)) i)) same stands) in
          ap (λ o. record { node = n; holder = holder_in o; value = value_in o }) (updates.others n differs)

-- Lists of nothing have the same nodes.
pub HoldSameNodes-empty : (l : Lists) (queues holders : ℕ) → l.queues ≡ replicate queues [] → l.holders ≡ replicate holders [] → HoldSameNodes l
HoldSameNodes-empty l queues holders no_queued no_held =
    record {
      held = λ q link stands. let none : list_at l.queues q ≡ [] = ap (λ ls. list_at ls q) no_queued ∙ list_at-replicate_nil queues q in absurd (nothing link (subst (λ xs. Contains xs link) none stands));
      queued = λ h n stands. let none : list_at l.holders h ≡ [] = ap (λ ls. list_at ls h) no_held ∙ list_at-replicate_nil holders h in absurd (nothing n (subst (λ xs. Contains xs n) none stands));
      once_queued = once queues (map (map (λ link. link.node)) l.queues) (ap (map (map (λ link. link.node))) no_queued ∙ map-replicate_nil (λ link. link.node) queues);
      once_held = once holders l.holders no_held;
    }
  where
    nothing : {X : Type 0} (x : X) → ¬ Contains [] x
    nothing x there = omega (arith, there.1)

    once : (n : ℕ) (lists : List (List ℕ)) → lists ≡ replicate n [] → StandOnce lists
    once n lists is p q i j m at_p at_q =
        let none : list_at lists p ≡ [] = ap (λ ls. list_at ls p) is ∙ list_at-replicate_nil n p in
        let clash : None ≡ Some m = ap (λ xs. slice_get xs i) (sym none) ∙ at_p in
        absurd (cc)

-- A slab with nothing in it, and lists of nothing.
pub AreListed-empty : (nodes : Slab Node) (listed : NodeLists) (count : ℕ) → nodes.slots ≡ [] → listed.lists ≡ replicate count [] → StandOnce listed.lists → nodes.capacity ≤ listed.nodes → listed.nodes < 2 ^ 32 → AreListed nodes listed
AreListed-empty nodes listed count slots lists once keys keys_fit =
    record {
      all = λ n. (λ there. absurd (no_list n there), λ present. not_both (get nodes n) (ap (λ s. get_or s n None) slots) present);
      once = once;
      counted = ap (count_by is_some) slots ∙ sym (ap (sum_by length) lists ∙ sum_by-replicate length count [] ∙ mul-zero count);
      keys = keys;
      keys_fit = keys_fit;
    }
  where
    no_list : (n : ℕ) → ¬ IsInSome listed.lists n
    no_list n there =
        let none : list_at listed.lists there.0 ≡ [] = ap (λ ls. list_at ls there.0) lists ∙ list_at-replicate_nil count there.0 in
        let short : length (list_at listed.lists there.0) ≡ 0 = ap length none in
        omega (arith, there.1.1)

pub AreOfHolders-empty : (nodes : Slab Node) (lists : List (List ℕ)) (count : ℕ) → lists ≡ replicate count [] → AreOfHolders nodes lists
AreOfHolders-empty nodes lists count is holder n stands =
    let none : list_at lists holder ≡ [] = ap (λ ls. list_at ls holder) is ∙ list_at-replicate_nil count holder in
    let short : length (list_at lists holder) ≡ 0 = ap length none in
    absurd (omega (arith, stands.1))
