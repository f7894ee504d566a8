-- Whose items they are.
use Rattle.std.specs.Prelude.{◌≡◌, ℕ, ◌-◌, ◌*◌, ◌^◌, ◌<◌, ◌≤◌, false, List, [], ◌∷◌, ◌++◌, filter}
use mathlib.Core.List.{IsPrefix}
use Rattle.device_lock.specs.Lists.{At, Each, total, same, times}
use Rattle.device_lock.specs.Views.{numbers, IsWhole}
use Rattle.device_lock.specs.declared.view.View.{View}

module _ {I : Type 0} (caller : I → List ℕ) where
  -- the items of a number, in their order
  abbrev pub items_of : List ℕ → List I → List I
  items_of c history = filter (λ x. same c (caller x)) history

  -- The own items of a view, and those of each pass joined into it, are all that the history has of their numbers.
  abbrev pub Keeps : View I → List I → Type 0
  Keeps v history = (items_of v.number history ≡ v.own) × Each (λ a. items_of a.number history ≡ a.own) v.joined

  -- Each item's number is the view's own, or that of a pass joined into it.
  abbrev pub AreKept : View I → List I → Type 0
  AreKept v history = Each (λ x. 0 < times (caller x) (numbers v)) history

  -- What a pass knows of what it has seen: which items of it are its own, that it has some
  -- share, and that with the whole share all items are kept by it.
  abbrev pub Knows : View I → Type 0
  Knows v = Keeps v v.seen × (0 < v.share.parts) × (IsWhole v.share → AreKept v v.seen)

module _ {I : Type 0} (views : List (View I)) where
  -- at how many places the number stands
  abbrev pub places : List ℕ → ℕ
  places c = total (λ v. times c (numbers v)) views

  -- the shares, added up in parts of 2 ^ e
  abbrev pub shares : ℕ → ℕ
  shares e = total (λ v. v.share.parts * 2 ^ (e - v.share.halvings)) views

  module _ (caller : I → List ℕ) where
    -- Spent views have no number and no part of the share.
    pub record Numbers (history : List I) : Type 0 where
      -- Each number given stands in just one place: as the number of one view, or in the `joined` of one view.
      pub one_place : (c : List ℕ) → places c ≤ 1
      -- The items of a number given are the own list kept at its place, and the view has seen them all.
      pub kept : (j : ℕ) (v : View I) → At views j v → v.spent ≡ false → Keeps caller v history × Keeps caller v v.seen
      -- A number not given has no item.
      pub others : (c : List ℕ) → places c ≡ 0 → items_of caller c history ≡ []
      -- No number given begins with a view's number followed by that view's count of splits or more.
      pub fresh : (j k : ℕ) (v w : View I) → At views j v → At views k w → v.spent ≡ false → Each (λ c. (n : ℕ) → v.splits ≤ n → ¬ IsPrefix (v.number ++ n ∷ []) c) (numbers w)
      -- The shares add up to at most the whole, and no pass is without one.
      pub at_most_whole : (e : ℕ) → ((j : ℕ) (v : View I) → At views j v → v.share.halvings ≤ e) → shares e ≤ 2 ^ e
      pub some_share : (j : ℕ) (v : View I) → At views j v → v.spent ≡ false → 0 < v.share.parts

  module _ (at_rest : List I → Type 0) where
    pub record Joined (history : List I) : Type 0 where
      -- Each own list kept in a `joined` is at rest.
      pub rests : (j : ℕ) (v : View I) → At views j v → Each (λ a. at_rest a.own) v.joined
      -- The shorter of the two histories that met in a join is a beginning of the history too.
      pub met : (j : ℕ) (v : View I) → At views j v → IsPrefix v.met history
