-- What the front of a byte stream settles, whatever follows.
use Rattle.std.specs.Prelude.{◌≡◌, ℕ, ◌+◌, List, [], ◌∷◌, ◌++◌, length, filter, nat_le, Option, Some, None}
use Rattle.nal_units.specs.Units.{Units}
use Rattle.nal_units.specs.declared.finder.Found.{Found}
use Rattle.nal_units.specs.declared.finder.Found.TheVariants as found

-- Whatever follows, the text is broken there.
abbrev pub IsBrokenAt : List ℕ → ℕ → Type 0
IsBrokenAt text at = (more : List ℕ) → (units : List (ℕ × ℕ)) × Units (text ++ more) units (Some at)

-- With something behind it the text is a whole byte stream.
abbrev pub CanBeWhole : List ℕ → Type 0
CanBeWhole text = (more : List ℕ) × (units : List (ℕ × ℕ)) × Units (text ++ more) units None

-- the units that three bytes or more of the text follow, which are 00 00 00 or 00 00 01
abbrev pub ended : List ℕ → List (ℕ × ℕ) → List (ℕ × ℕ)
ended text units = filter (λ u. nat_le (u.1 + 3) (length text)) units

-- These of the text's units have ended.
abbrev pub HaveEnded : List ℕ → List (ℕ × ℕ) → Type 0
HaveEnded text settled = (units : List (ℕ × ℕ)) × (broken : Option ℕ) × Units text units broken × (settled ≡ ended text units)

-- What a text settles: the units that have ended, while it can be whole; or, whatever follows, its units and its broken place.
abbrev pub Settles : List ℕ → List (ℕ × ℕ) → Option ℕ → Type 0
Settles text settled None = CanBeWhole text × HaveEnded text settled
Settles text settled (Some at) = (more : List ℕ) → Units (text ++ more) settled (Some at)

-- the unit that was found, and the broken place
abbrev pub unit_in : Found → List (ℕ × ℕ)
unit_in found.Nothing = []
unit_in (found.Unit start end) = (start, end) ∷ []
unit_in (found.Broken at) = []

abbrev pub broken_in : Found → Option ℕ
broken_in found.Nothing = None
broken_in (found.Unit start end) = None
broken_in (found.Broken at) = Some at
