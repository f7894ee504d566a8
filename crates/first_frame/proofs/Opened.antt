-- Bytes that are fed at once, and the end behind them.
use Rattle.std.proofs.Common.{ℕ, ◌<◌, ◌≤◌, List, [], ◌∷◌, length, refl, arith, length-append}
use Rattle.access_units.specs.Acceptors.{MayAsk, MayFeed, fed, no_past}

pub begins : (bytes : List ℕ) → length bytes ≤ 1073741824 → MayFeed no_past bytes
begins bytes few = record { not_ended = refl; room = few }

pub ends : (bytes : List ℕ) → 0 < length bytes → length bytes ≤ 1073741824 → MayFeed (fed no_past bytes) []
ends [] some few = absurd (omega arith)
ends (b ∷ bs) some few = record { not_ended = refl; room = omega (arith, length-append (b ∷ bs) [], few) }

pub asks : (bytes : List ℕ) → MayAsk (fed (fed no_past bytes) [])
asks [] none = cc
asks (b ∷ bs) none = cc
