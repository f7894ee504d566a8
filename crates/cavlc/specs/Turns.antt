-- Elements one after the other, where a state that each of them moves on says how the next is spelled.
use Rattle.std.specs.Prelude.{Bool, List, [], ◌∷◌, ◌++◌}

-- their bits
unfoldable pub in_turn : {S V : Type 0} → (S → V → List Bool) → (S → V → S) → S → List V → List Bool
in_turn code next state [] = []
in_turn code next state (v ∷ vs) = code state v ++ in_turn code next (next state v) vs

-- the state behind them
unfoldable pub state_behind : {S V : Type 0} → (S → V → S) → S → List V → S
state_behind next state [] = state
state_behind next state (v ∷ vs) = state_behind next (next state v) vs

-- Each of them is a value in its state.
unfoldable pub AreInTurn : {S V : Type 0} → (S → V → Type 0) → (S → V → S) → S → List V → Type 0
AreInTurn IsValue next state [] = Unit {0}
AreInTurn IsValue next state (v ∷ vs) = IsValue state v × AreInTurn IsValue next (next state v) vs
