-- Which surfaces a list of presentation queues names.
use Rattle.std.proofs.Common.{◌≡◌, inl, inr, ℕ, zero, suc, ◌||◌, Bool, true, false, List, [], ◌∷◌, map, slice_get, Contains, Option, Some, None, refl, sym, ap, ◌∙◌, subst, arith}
use mathlib.Core.Bool.{false≢true}
use Rattle.std.specs.List.{list_any}
use Rattle.std.specs.Option.{option_map_or}
use Rattle.std.proofs.lemmas.Option.{none-some}
use Rattle.present_queue.specs.Queue.{Names, Queue, Queued, holds, is_queued, is_shown, shows}
use Rattle.present_queue.specs.Queues.{Surface, queue_at}
use Rattle.present_queue.proofs.NameLemmas.{Names-empty}
use Rattle.driver_objects.proofs.Cases.{true_or_false}
use Rattle.driver_objects.proofs.Lists.{element_is}

module _ {S : Type 0} (test : S → Bool) where
  -- the queue names a surface that passes the test
  abbrev pub HasNamed : Queue S → Type 0
  HasNamed queue = (surface : S) × Names queue surface × (test surface ≡ true)

  in_entries : (entries : List (Queued S)) → list_any (λ (entry : Queued S). test entry.surface) entries ≡ true
      → (surface : S) × Contains (map (λ (entry : Queued S). entry.surface) entries) surface × (test surface ≡ true)
  in_entries [] any = absurd (false≢true any)
  in_entries (first ∷ later) any = elim (true_or_false (test first.surface)) [
    | inl passes ↦ (first.surface, (0, omega arith, refl), passes)
    | inr fails ↦
        let rest : list_any (λ (entry : Queued S). test entry.surface) later ≡ true = sym (ap (λ b. b || list_any (λ (entry : Queued S). test entry.surface) later) fails) ∙ any in
        let there = in_entries later rest in
        (there.0, (suc there.1.0, omega (arith, there.1.1), there.1.2), there.2)
  ]

  entries_in : (entries : List (Queued S)) (surface : S) → Contains (map (λ (entry : Queued S). entry.surface) entries) surface → test surface ≡ true → list_any (λ (entry : Queued S). test entry.surface) entries ≡ true
  entries_in [] surface there passes = absurd (omega (arith, there.1))
  entries_in (first ∷ later) surface (zero, within, is) passes = ap (λ b. b || list_any (λ (entry : Queued S). test entry.surface) later) (ap test is ∙ passes)
  entries_in (first ∷ later) surface (suc i, within, is) passes = grind (arith, entries_in later surface (i, omega (arith, within), is) passes)

  in_visible : (visible : Option S) → option_map_or test visible false ≡ true → (surface : S) × (visible ≡ Some surface) × (test surface ≡ true)
  in_visible None any = absurd (false≢true any)
  in_visible (Some surface) any = (surface, refl, any)

  pub named_by : (queue : Queue S) → (holds test queue || shows test queue) ≡ true → HasNamed queue
  named_by queue any = elim (true_or_false (holds test queue)) [
    | inl held ↦ let there = in_entries queue.entries held in (there.0, inl there.1, there.2)
    | inr fails ↦ let there = in_visible queue.visible (sym (ap (λ b. b || shows test queue) fails) ∙ any) in (there.0, inr there.1, there.2)
  ]

  pub by_named : (queue : Queue S) → HasNamed queue → (holds test queue || shows test queue) ≡ true
  by_named queue (surface, inl there, passes) = ap (λ b. b || shows test queue) (entries_in queue.entries surface there passes)
  by_named queue (surface, inr shown, passes) =
      let held : shows test queue ≡ true = ap (λ v. option_map_or test v false) shown ∙ passes in
      grind (arith, held)

  -- ---- a list of queues

  pub in_some : (queues : List (Queue S)) → (is_queued test queues || is_shown test queues) ≡ true → (i : ℕ) × (queue : Queue S) × (slice_get queues i ≡ Some queue) × HasNamed queue
  in_some [] any = absurd (false≢true any)
  in_some (first ∷ later) any = elim (true_or_false (holds test first || shows test first)) [
    | inl here ↦ (0, first, refl, named_by first here)
    | inr fails ↦
        let rest : (is_queued test later || is_shown test later) ≡ true = grind (arith, fails, any) in
        let there = in_some later rest in
        (suc there.0, there.1, there.2, there.3)
  ]

  pub some_in : (queues : List (Queue S)) (i : ℕ) (queue : Queue S) → slice_get queues i ≡ Some queue → HasNamed queue → (is_queued test queues || is_shown test queues) ≡ true
  some_in [] i queue at named = absurd (none-some queue at)
  some_in (first ∷ later) zero queue at named =
      let here : (holds test first || shows test first) ≡ true = subst (λ q. (holds test q || shows test q) ≡ true) (sym (element_is first queue at)) (by_named queue named) in
      grind (arith, here)
  some_in (first ∷ later) (suc i) queue at named = grind (arith, some_in later i queue at named)

-- ---- the queues that are kept, by number

module _ (test : Surface → Bool) where
  abbrev pub IsNamed : List (Queue Surface) → Type 0
  IsNamed queues = (number : ℕ) × HasNamed test (queue_at queues number)

  at_number : (queues : List (Queue Surface)) (i : ℕ) (queue : Queue Surface) → slice_get queues i ≡ Some queue → queue_at queues i ≡ queue
  at_number [] i queue at = absurd (none-some queue at)
  at_number (first ∷ later) zero queue at = element_is first queue at
  at_number (first ∷ later) (suc i) queue at = at_number later i queue at

  pub kept_named : (queues : List (Queue Surface)) → (is_queued test queues || is_shown test queues) ≡ true → IsNamed queues
  kept_named queues any = let there = in_some test queues any in (there.0, subst (λ q. HasNamed test q) (sym (at_number queues there.0 there.1 there.2)) there.3)

  pub named_kept : (queues : List (Queue Surface)) → IsNamed queues → (is_queued test queues || is_shown test queues) ≡ true
  named_kept [] (number, named) = absurd (Names-empty named.0 named.1)
  named_kept (first ∷ later) (zero, named) = some_in test (first ∷ later) 0 first refl named
  named_kept (first ∷ later) (suc number, named) = grind (arith, named_kept later (number, named))
