-- What each step on the lock's table tells the seat that makes it.
use Rattle.std.specs.Prelude.{◌≡◌, ◌≢◌, ℕ, ◌≤◌, List, [], ◌∷◌, length, Option, Some}
use mathlib.Core.List.{IsPrefix}
use Rattle.atomic_table.specs.Table.{Me, Step}
use Rattle.device_lock.specs.Numbers.{Knows}
use Rattle.device_lock.specs.Views.{with_ticket, with_turn, with_item, without_turn}
use Rattle.device_lock.specs.declared.view.View.{View}

module _ {T I : Type 0} where
  -- A draw that wins gives the ticket that was found, and one that loses changes nothing.
  abbrev pub drew : Step (Option T) → Me (Option T) (View I) → ℕ → Me (Option T) (View I) → Type 0
  drew s m found m' = (found ≡ s.first → m' ≡ (with_ticket m.0 found, m.1)) × (found ≢ s.first → m' ≡ m)

  module _ (caller : I → List ℕ) where
    -- the turn of the seat has come: it holds the value, which stands for the whole history, and has seen all of that
    abbrev pub HasTurn : (T → List I → Type 0) → Me (Option T) (View I) → Me (Option T) (View I) → Type 0
    HasTurn stands m m' = (history : List I) × (x : T) × (m' ≡ (with_turn m.0 history, (0, Some x) ∷ m.1)) × stands x history × IsPrefix m.0.seen history × Knows caller m'.0

    -- Whose ticket is being served takes the value. Another look changes nothing.
    abbrev pub looked : (T → List I → Type 0) → Step (Option T) → Me (Option T) (View I) → ℕ → Me (Option T) (View I) → Type 0
    looked stands s m found m' = (m.0.ticket ≡ Some found → HasTurn stands m m') × (m.0.ticket ≢ Some found → m' ≡ m)

    -- The item is the last of the history, and its place is the number found. The value is at home again.
    abbrev pub logs : Option I → Step (Option T) → Me (Option T) (View I) → ℕ → Me (Option T) (View I) → Type 0
    logs item s m found m' = (x : I) → item ≡ Some x → (m' ≡ (with_item m.0 x, [])) × (found ≡ length m.0.seen) × Knows caller m'.0

    -- A look at how much was logged changes nothing. The shorter of the two histories that met in a join begins the other.
    abbrev pub learned : Step (Option T) → Me (Option T) (View I) → ℕ → Me (Option T) (View I) → Type 0
    learned s m found m' = (m' ≡ m) × Knows caller m.0 × (length m.0.met ≤ length m.0.seen → IsPrefix m.0.met m.0.seen)

  -- The turn is over, and the value at home.
  abbrev pub served : Step (Option T) → Me (Option T) (View I) → ℕ → Me (Option T) (View I) → Type 0
  served s m found m' = m' ≡ (without_turn m.0, [])
