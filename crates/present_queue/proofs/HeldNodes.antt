-- Whether a holder has a node says whether some queue's list has a node of that holder.
use Rattle.std.proofs.Common.{◌≡◌, ℕ, zero, suc, ◌<◌, Bool, true, false, eqb, List, [], ◌∷◌, length, get_or, Option, Some, None, refl, sym, subst, inl, inr, eq-eqb, arith}
use Rattle.std.specs.List.{Contains, list_any, slice_get}
use Rattle.std.specs.Option.{is_some}
use Rattle.std.proofs.lemmas.List.{get_or_default}
use Rattle.std.proofs.lemmas.Option.{get_or_from_slice_get, slice_get_within}
use Rattle.std.proofs.lemmas.List.Folds.{list_any_at, list_any_none}
use Rattle.std.proofs.lemmas.Bool.{cases_eq}
use Rattle.std.proofs.lemmas.Bool.Decides.{nat_tests}
use Rattle.index_lists.specs.Lists.{HoldSameNodes, Link, Lists, held_by, list_at}
use Rattle.present_queue.specs.Queue.{holds, is_queued}
use Rattle.present_queue.specs.Queues.{has_holder}
use Rattle.present_queue.specs.Kept.{queue_with, queues_with}
use Rattle.present_queue.specs.declared.queues.Kept.{Kept}

abbrev has_holder_link : ℕ → Link → Bool
has_holder_link holder link = eqb link.holder holder

-- A test that passes no element of the list fails.
none_from_Contains : {X : Type 0} (test : X → Bool) (xs : List X) → ((x : X) → Contains xs x → test x ≡ false) → list_any test xs ≡ false
none_from_Contains test xs fails = list_any_none test xs (λ k d below. fails (get_or xs k d) (k, below, get_or_default xs k (get_or xs k d) d below))

-- A list that has something is one of the lists, and has a first.
within_lists : {X : Type 0} (lists : List (List X)) (i : ℕ) (x : X) → Contains (list_at lists i) x → i < length lists
within_lists [] i x there = absurd (omega (arith, there.1))
within_lists (list ∷ lists) zero x there = omega arith
within_lists (list ∷ lists) (suc i) x there = omega (arith, within_lists lists i x there)

has_first : (xs : List ℕ) (x : ℕ) → Contains xs x → slice_get xs 0 ≡ None → ⊥
has_first [] x there none = absurd (omega (arith, there.1))
has_first (y ∷ ys) x there none = absurd (cc)

module _ (l : Lists) (holder : ℕ) (same : HoldSameNodes l) where
  some_held : (node : ℕ) → slice_get (held_by l holder) 0 ≡ Some node → list_any (list_any (has_holder_link holder)) l.queues ≡ true
  some_held node first =
      let there : Contains (held_by l holder) node = (0, slice_get_within (held_by l holder) 0 node first, get_or_from_slice_get (held_by l holder) 0 node node first) in
      let queued = same.queued holder node there in
      let passes : eqb queued.1.holder holder ≡ true = eq-eqb queued.1.holder holder queued.4 in
      let here : list_any (has_holder_link holder) (list_at l.queues queued.0) ≡ true =
      list_any_at (has_holder_link holder) (list_at l.queues queued.0) queued.2.0 queued.1 queued.2.1 (rw queued.2.2 passes) in
      list_any_at (list_any (has_holder_link holder)) l.queues queued.0 [] (within_lists l.queues queued.0 queued.1 queued.2) here

  not_held : slice_get (held_by l holder) 0 ≡ None → (i : ℕ) (link : Link) → Contains (list_at l.queues i) link → eqb link.holder holder ≡ false
  not_held none i link there =
      elim (cases_eq link.holder holder) [
        | inl is ↦ absurd (has_first (held_by l holder) link.node (let P : ℕ → Type 0 = λ h. Contains (held_by l h) link.node in subst P is (same.held i link there)) none)
        | inr differs ↦ grind (arith, nat_tests)
      ]

  none_held : slice_get (held_by l holder) 0 ≡ None → list_any (list_any (has_holder_link holder)) l.queues ≡ false
  none_held none =
      list_any_none (list_any (has_holder_link holder)) l.queues
      (λ i d below. rw (get_or_default l.queues i d [] below) (none_from_Contains (has_holder_link holder) (list_at l.queues i) (not_held none i)))

  by_first : (first : Option ℕ) → slice_get (held_by l holder) 0 ≡ first → is_some first ≡ list_any (list_any (has_holder_link holder)) l.queues
  by_first None is = sym (none_held is)
  by_first (Some node) is = sym (some_held node is)

  pub is_some-held : is_some (slice_get (held_by l holder) 0) ≡ list_any (list_any (has_holder_link holder)) l.queues
  is_some-held = by_first (slice_get (held_by l holder) 0) refl

pub is_queued-queues_with : (objects : List ℕ) (holder : ℕ) (lists : List (List Link)) (kept : List Kept) → length lists ≡ length kept → is_queued (has_holder holder) (queues_with objects lists kept) ≡ list_any (list_any (has_holder_link holder)) lists
is_queued-queues_with objects holder [] [] same = refl
is_queued-queues_with objects holder [] (k ∷ kept) same = absurd (omega arith)
is_queued-queues_with objects holder (links ∷ lists) [] same = absurd (omega arith)
is_queued-queues_with objects holder (links ∷ lists) (k ∷ kept) same =
    let rest : is_queued (has_holder holder) (queues_with objects lists kept) ≡ list_any (list_any (has_holder_link holder)) lists = is_queued-queues_with objects holder lists kept (omega arith) in
    rw (rest, here links) refl
  where
    here : (links : List Link) → holds (has_holder holder) (queue_with objects links k) ≡ list_any (has_holder_link holder) links
    here [] = refl
    here (link ∷ links) = rw (here links) refl
