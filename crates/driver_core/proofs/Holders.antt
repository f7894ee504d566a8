-- How many holders are taken.
use Rattle.std.proofs.Common.{◌≡◌, inl, inr, ℕ, zero, suc, ◌+◌, ◌*◌, ◌<◌, ◌≤◌, ◌||◌, Bool, true, false, eqb, if◌then◌else◌, List, [], ◌∷◌, ◌++◌, Contains, length, map, Option, Some, None, option_map, refl, sym, ap, ◌∙◌, subst, arith}
use Rattle.std.specs.List.{cons_option, count_by, filter_map, list_any}
use Rattle.std.specs.Option.{option_map_or}
use Rattle.std.proofs.Math.Logic.{∥∥₁_elim}
use Rattle.std.proofs.lemmas.Bool.Decides.{nat_tests}
use Rattle.std.proofs.lemmas.List.{length-append, length-map}
use Rattle.std.proofs.lemmas.List.Sums.{sum_by-cons}
use Rattle.std.proofs.lemmas.Map.Made.{length-le_from_is_member}
use Rattle.std.proofs.Math.Bool.{Bool-set}
use Rattle.std.proofs.lemmas.Cmp.{nat_eq_equiv}
use Rattle.std.proofs.lemmas.Option.{none-some}
use Rattle.present_queue.specs.Queue.{Names, Queue, Queued, most_entries}
use Rattle.present_queue.specs.Queues.{Surface, queue_at}
use Rattle.driver_model.specs.Creates.{is_full}
use Rattle.driver_model.specs.States.{State}
use Rattle.driver_objects.specs.Kept.{kept_of}
use Rattle.driver_objects.specs.Kinds.{has_own_holder, holder_of}
use Rattle.driver_objects.specs.declared.object.Object.{Object}
use Rattle.driver_objects.proofs.OwnNumbers.{it_has}
use Rattle.driver_objects.proofs.Lists.{some_passes}
use Rattle.driver_objects.proofs.Numbers.{count_ge, distinct, number_from}
use Rattle.driver_core.specs.Stands.{Stands}
use Rattle.driver_core.specs.declared.driver.Core.{Core}
use Rattle.driver_core.proofs.Live.{live_all}

-- ---- the holders that queues name

names_of : Queue Surface → List ℕ
names_of queue = map (λ (e : Queued Surface). e.surface.holder) queue.entries ++ cons_option (option_map (λ (s : Surface). s.holder) queue.visible) []

abbrev all_named : List (Queue Surface) → List ℕ
all_named [] = []
all_named (queue ∷ later) = names_of queue ++ all_named later

any_both : (test : ℕ → Bool) (xs ys : List ℕ) → list_any test (xs ++ ys) ≡ (list_any test xs || list_any test ys)
any_both test [] ys = refl
any_both test (x ∷ xs) ys = grind (arith, any_both test xs ys)

in_first : (test : ℕ → Bool) (xs ys : List ℕ) → list_any test xs ≡ true → list_any test (xs ++ ys) ≡ true
in_first test xs ys any = any_both test xs ys ∙ grind (arith, any)

in_second : (test : ℕ → Bool) (xs ys : List ℕ) → list_any test ys ≡ true → list_any test (xs ++ ys) ≡ true
in_second test xs ys any = any_both test xs ys ∙ grind (arith, any)

entry_there : (entries : List (Queued Surface)) (surface : Surface) → Contains (map (λ (e : Queued Surface). e.surface) entries) surface → list_any (eqb surface.holder) (map (λ (e : Queued Surface). e.surface.holder) entries) ≡ true
entry_there [] surface there = absurd (omega (arith, there.1))
entry_there (first ∷ later) surface (zero, within, is) =
    let same : eqb surface.holder first.surface.holder ≡ true = let e = ap (λ (s : Surface). s.holder) is in grind (arith, nat_tests, e) in
    grind (arith, same)
entry_there (first ∷ later) surface (suc i, within, is) = grind (arith, entry_there later surface (i, omega (arith, within), is))

name_there : (queue : Queue Surface) (surface : Surface) → Names queue surface → list_any (eqb surface.holder) (names_of queue) ≡ true
unfolding names_of
name_there queue surface (inl there) = in_first (eqb surface.holder) (map (λ (e : Queued Surface). e.surface.holder) queue.entries) (cons_option (option_map (λ (s : Surface). s.holder) queue.visible) []) (entry_there queue.entries surface there)
name_there queue surface (inr shown) =
    let same : eqb surface.holder surface.holder ≡ true = grind (arith, nat_tests) in
    in_second (eqb surface.holder) (map (λ (e : Queued Surface). e.surface.holder) queue.entries) (cons_option (option_map (λ (s : Surface). s.holder) queue.visible) [])
    (ap (λ v. list_any (eqb surface.holder) (cons_option (option_map (λ (s : Surface). s.holder) v) [])) shown ∙ ap (λ b. b || false) same)

named_there : (queues : List (Queue Surface)) (number : ℕ) (surface : Surface) → Names (queue_at queues number) surface → list_any (eqb surface.holder) (all_named queues) ≡ true
named_there [] number surface (inl there) = absurd (omega (arith, there.1))
named_there [] number surface (inr shown) = absurd (none-some surface shown)
named_there (queue ∷ later) zero surface named = in_first (eqb surface.holder) (names_of queue) (all_named later) (name_there queue surface named)
named_there (queue ∷ later) (suc number) surface named = in_second (eqb surface.holder) (names_of queue) (all_named later) (named_there later number surface named)

few_names : (queue : Queue Surface) → length queue.entries ≤ most_entries → length (names_of queue) ≤ 65
unfolding names_of
few_names queue few =
    let both = length-append (map (λ (e : Queued Surface). e.surface.holder) queue.entries) (cons_option (option_map (λ (s : Surface). s.holder) queue.visible) []) in
    let entries = length-map queue.entries (λ (e : Queued Surface). e.surface.holder) in
    let one = at_most (option_map (λ (s : Surface). s.holder) queue.visible) in
    omega (arith, few, both, entries, one)
  where
    at_most : (o : Option ℕ) → length (cons_option o []) ≤ 1
    at_most None = omega arith
    at_most (Some h) = omega arith

few_named : (queues : List (Queue Surface)) → ((number : ℕ) → length (queue_at queues number).entries ≤ most_entries) → length (all_named queues) ≤ 65 * length queues
few_named [] few = omega arith
few_named (queue ∷ later) few =
    let first = few_names queue (few 0) in
    let rest = few_named later (λ number. few (suc number)) in
    let both = length-append (names_of queue) (all_named later) in
    omega (arith, first, rest, both)

-- ---- the holders of live and of destroyed surfaces

own_holder : Object → Option ℕ
own_holder object = holder_of object.content

live_holder : Object → Option ℕ
live_holder object = if object.is_live then holder_of object.content else None

dead_holder : Object → Option ℕ
dead_holder object = if object.is_live then None else holder_of object.content

split : (kept : List Object) → length (filter_map own_holder kept) ≡ length (filter_map live_holder kept) + length (filter_map dead_holder kept)
unfolding own_holder live_holder dead_holder
split [] = refl
split (object ∷ later) = by_life object.is_live (holder_of object.content) (split later) where
  by_life : (b : Bool) (h : Option ℕ) → length (filter_map own_holder later) ≡ length (filter_map live_holder later) + length (filter_map dead_holder later)
      → length (cons_option h (filter_map own_holder later)) ≡ length (cons_option (if b then h else None) (filter_map live_holder later)) + length (cons_option (if b then None else h) (filter_map dead_holder later))
  by_life true None rest = omega (arith, rest)
  by_life true (Some h) rest = omega (arith, rest)
  by_life false None rest = omega (arith, rest)
  by_life false (Some h) rest = omega (arith, rest)

few_live : (kept : List Object) → length (filter_map live_holder kept) ≤ count_by (λ (object : Object). object.is_live) kept
unfolding live_holder
few_live [] = omega arith
few_live (object ∷ later) =
    let counts = sum_by-cons (λ (o : Object). if o.is_live then 1 else 0) object later in
    let first = by_life object.is_live (holder_of object.content) (few_live later) in
    omega (arith, counts, first)
  where
    by_life : (b : Bool) (h : Option ℕ) → length (filter_map live_holder later) ≤ count_by (λ (o : Object). o.is_live) later
        → length (cons_option (if b then h else None) (filter_map live_holder later)) ≤ (if b then 1 else 0) + count_by (λ (o : Object). o.is_live) later
    by_life true None rest = omega (arith, rest)
    by_life true (Some h) rest = omega (arith, rest)
    by_life false h rest = omega (arith, rest)

dead_is : (object : Object) (holder : ℕ) → dead_holder object ≡ Some holder → (object.is_live ≡ false) × (holder_of object.content ≡ Some holder)
unfolding dead_holder
dead_is object holder is = by_life object.is_live refl is where
  by_life : (b : Bool) → object.is_live ≡ b → (if b then None else holder_of object.content) ≡ Some holder → (object.is_live ≡ false) × (holder_of object.content ≡ Some holder)
  by_life true live is = absurd (none-some holder is)
  by_life false dead is = (dead, is)

module _ (core : Core) where
  few_dead : length (filter_map dead_holder (kept_of core.objects)) ≤ length (all_named core.queues)
  few_dead =
      length-le_from_is_member nat_eq_equiv (filter_map dead_holder (kept_of core.objects)) (all_named core.queues)
      (distinct dead_holder (kept_of core.objects) (λ i j a b holder at bt ia ib. core.sound.holders_apart i j a b holder at bt (dead_is a holder ia).1 (dead_is b holder ib).1))
      (λ holder any.
      let h = number_from dead_holder (kept_of core.objects) holder any in
      let dead = dead_is h.one holder h.is in
      ∥∥₁_elim (core.sound.named h.index h.one h.there dead.0) (Bool-set _ _) (λ n.
      let same : n.0 ≡ holder = some_is n.0 holder (sym n.1 ∙ dead.1) in
      subst (λ k. list_any (eqb k) (all_named core.queues) ≡ true) same (named_there core.queues n.2 (record { object = h.one.place; holder = n.0 }) n.3)))
    where
      some_is : (a b : ℕ) → Some a ≡ Some b → a ≡ b
      some_is a b e = ap (λ o. option_map_or (λ k. k) o a) e

  -- where each holder is taken no further object can be made
  pub holders_full : ((holder : ℕ) → holder < 5184 → list_any (has_own_holder holder) (kept_of core.objects) ≡ true) → (d : State) → Stands core d → is_full d ≡ true
  unfolding own_holder
  holders_full taken d stands =
      let all = count_ge own_holder (kept_of core.objects) 5184 (λ holder within.
      let s = some_passes (has_own_holder holder) (kept_of core.objects) (taken holder within) in
      (s.0, s.1, s.2, it_has holder s.1 s.3)) in
      let parts = split (kept_of core.objects) in
      let alive = few_live (kept_of core.objects) in
      let dead = few_dead in
      let named = few_named core.queues core.sound.limits.entries in
      let count = core.sound.limits.count in
      let few = core.objects.sound.few in
      let counted = core.objects.sound.counted in
      let live = live_all core d stands in
      let most : length (all_named core.queues) ≤ 4160 = omega (arith, named, count) in
      grind (arith, nat_tests, all, parts, alive, dead, most, few, counted, live)
