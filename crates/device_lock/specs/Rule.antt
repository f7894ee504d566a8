-- What is true of a lock between any two steps, whatever the threads do. Its words are `next`, the ticket that the next caller
-- draws; `serving`, the ticket whose turn it is; and `logged`, how many items were logged. Its one slot has the value.
use Rattle.std.specs.Prelude.{◌≡◌, ◌⊎◌, ℕ, ◌+◌, ◌^◌, ◌<◌, ◌≤◌, false, List, [], ◌∷◌, length, Option, Some}
use mathlib.Core.Option.{none, some}
use mathlib.Core.Option as maybe
use mathlib.Core.List.{IsPrefix}
use Rattle.atomic_table.specs.Table.{State}
use Rattle.device_lock.specs.Lists.{At, Somewhere}
use Rattle.device_lock.specs.Numbers.{Numbers, Joined}
use Rattle.device_lock.specs.Views.{IsInTurn}
use Rattle.device_lock.specs.declared.view.View.{View}
use Rattle.device_lock.specs.declared.view.Turn.TheVariants.{Holding, HasLogged}

module _ {I : Type 0} (views : List (View I)) where
  -- The tickets in views are the numbers from `serving` up to `next`, without `next` itself, each once.
  pub record Queue (next serving : ℕ) : Type 0 where
    pub in_order : serving ≤ next
    -- The greatest number that a word can hold is never drawn.
    pub below : next < 2 ^ 64
    pub in_range : (j : ℕ) (v : View I) (t : ℕ) → At views j v → v.ticket ≡ Some t → (serving ≤ t) × (t < next)
    pub each : (t : ℕ) → serving ≤ t → t < next → Somewhere views (λ v. v.ticket ≡ Some t)
    pub once : (j k : ℕ) (v w : View I) (t : ℕ) → At views j v → At views k w → v.ticket ≡ Some t → w.ticket ≡ Some t → j ≡ k

  module _ {T : Type 0} (stands : T → List I → Type 0) where
    -- The history is the longest that a pass has seen which was not joined into another one.
    pub record Past (logged : ℕ) (history : List I) : Type 0 where
      pub counted : logged ≡ length history
      -- It is legal: some value stands for it.
      pub legal : (x : T) × stands x history
      -- What each pass has seen is a beginning of it.
      pub begun : (j : ℕ) (v : View I) → At views j v → IsPrefix v.seen history
      pub longest : Somewhere views (λ v. (v.spent ≡ false) × (v.seen ≡ history))

    -- Only the pass whose ticket is being served holds the value, and logs.
    pub record Hold (homes : List (maybe.Option (Option T))) (serving logged : ℕ) (history : List I) : Type 0 where
      -- A pass that has found its turn has seen the whole history until it is served.
      pub turn : (j : ℕ) (v : View I) → At views j v → IsInTurn v.turn → (v.ticket ≡ Some serving) × (v.seen ≡ history)
      -- The slot is empty while a pass holds the value, and only then. A value at home stands for the history.
      pub out : (j : ℕ) (v : View I) → At views j v → v.turn ≡ Holding → homes ≡ none ∷ []
      pub slot : ((homes ≡ none ∷ []) × Somewhere views (λ v. v.turn ≡ Holding)) ⊎ ((x : T) × (homes ≡ some (Some x) ∷ []) × stands x history)
      -- One item at most is logged in a turn.
      pub one_event : (logged ≤ serving) ⊎ ((logged ≤ serving + 1) × Somewhere views (λ v. v.turn ≡ HasLogged))

-- the rule, whole
pub record Rule {T I : Type 0} (caller : I → List ℕ) (stands : T → List I → Type 0) (at_rest : List I → Type 0) (s : State (Option T) (View I)) : Type 0 where
  pub next : ℕ
  pub serving : ℕ
  pub logged : ℕ
  pub history : List I
  pub words : s.words ≡ next ∷ serving ∷ logged ∷ []
  pub queue : Queue s.views next serving
  pub past : Past s.views stands logged history
  pub hold : Hold s.views stands s.homes serving logged history
  pub numbers : Numbers s.views caller history
  pub joined : Joined s.views at_rest history
