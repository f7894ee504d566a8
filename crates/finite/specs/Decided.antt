-- A property is decided: it is known, as a value, that it holds or that it doesn't.
use Rattle.std.specs.Prelude.{◌⊎◌}

abbrev pub Decided : Type 0 → Type 0
Decided P = P ⊎ (P → ⊥)
