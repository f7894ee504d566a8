-- Tables of syntax elements, as those of H.264, 7.3: the elements in the order in which they are spelled, each with its
-- descriptor and with a rule on its value. Which elements follow may depend on the values before.
use Rattle.std.specs.Prelude.{◌≡◌, ℕ, zero, suc, nat_le, ◌==◌, Bool, true, false, ◌&&◌, if◌then◌else◌, List, [], ◌∷◌, ◌++◌, ◌⊎◌, Option, Some, None, Result, MatchResult, ℤ, int_le}
use Rattle.bit_io.specs.Bits as bits
use Rattle.bit_io.specs.Codewords as codewords
use Rattle.bit_io.specs.Codewords.{IsU, IsUe, IsSe}
use Rattle.bit_io.specs.Reads.{BeginsNone}
use Rattle.element_tables.specs.declared.elements.Stop.{Stop}
use Rattle.element_tables.specs.declared.elements.Stop.TheVariants.{Malformed, OtherProfile}

-- why a value isn't accepted, if it isn't
abbrev pub Rule : Type 0 → Type 0
Rule V = V → Option Stop

abbrev pub any : {V : Type 0} → Rule V
any v = None

-- a greater value is out of range
abbrev pub up_to : ℕ → Rule ℕ
up_to greatest v = if nat_le v greatest then None else Some Malformed

abbrev pub between : ℤ → ℤ → Rule ℤ
between least greatest v = if int_le least v && int_le v greatest then None else Some Malformed

-- the Constrained Baseline profile has no other value
abbrev pub only : ℕ → Rule ℕ
only wanted v = if v == wanted then None else Some OtherProfile

-- the same of a flag
abbrev pub only_flag : Bool → Rule Bool
only_flag true f = if f then None else Some OtherProfile
only_flag false f = if f then Some OtherProfile else None

-- A table of elements, each behind the ones before, and what is made of their values.
pub data Syntax (A : Type 0) : Type 0 where
  Made : A → Syntax A
  U : ℕ → Rule ℕ → (ℕ → Syntax A) → Syntax A
  Ue : Rule ℕ → (ℕ → Syntax A) → Syntax A
  Se : Rule ℤ → (ℤ → Syntax A) → Syntax A

-- one table behind another, as a `do` writes it
infixl 10 ◌>>=◌
unfoldable pub ◌>>=◌ : {A B : Type 0} → Syntax A → (A → Syntax B) → Syntax B
(Made a) >>= next = next a
(U n rule more) >>= next = U n rule (λ v. more v >>= next)
(Ue rule more) >>= next = Ue rule (λ v. more v >>= next)
(Se rule more) >>= next = Se rule (λ v. more v >>= next)

-- one element, by its descriptor
unfoldable pub u : ℕ → Rule ℕ → Syntax ℕ
u n rule = U n rule (λ v. Made v)

unfoldable pub ue : Rule ℕ → Syntax ℕ
ue rule = Ue rule (λ v. Made v)

unfoldable pub se : Rule ℤ → Syntax ℤ
se rule = Se rule (λ v. Made v)

-- u(1) as a flag
unfoldable pub flag : Rule Bool → Syntax Bool
flag rule = U 1 (λ v. rule (v == 1)) (λ v. Made (v == 1))

-- elements that stand only where the condition holds, and what their absence makes
unfoldable pub present : {A : Type 0} → Bool → Syntax A → A → Syntax A
present condition table absent = if condition then table else Made absent

-- so many times
unfoldable pub times : {A : Type 0} → ℕ → Syntax A → Syntax (List A)
times zero table = Made []
times (suc n) table = do
  first ← table
  others ← times n table
  Made (first ∷ others)

-- The bits begin with the codeword of a value that the rule accepts, and of the value and the rest K holds.
abbrev pub BeginsWith : {V : Type 0} → (V → Type 0) → (V → List Bool) → Rule V → (V → List Bool → Type 0) → List Bool → Type 0
BeginsWith {V} IsValue code rule K whole = (v : V) × (rest : List Bool) × IsValue v × (rule v ≡ None) × (whole ≡ code v ++ rest) × K v rest

-- The bits are the elements of the table, each accepted, and this is what is made of their values.
abbrev pub Spells : {A : Type 0} → Syntax A → List Bool → A → Type 0
Spells (Made a) whole b = (whole ≡ []) × (a ≡ b)
Spells (U n rule more) whole b = BeginsWith (IsU n) (λ v. bits.u v n) rule (λ v rest. Spells (more v) rest b) whole
Spells (Ue rule more) whole b = BeginsWith IsUe codewords.ue rule (λ v rest. Spells (more v) rest b) whole
Spells (Se rule more) whole b = BeginsWith IsSe codewords.se rule (λ v rest. Spells (more v) rest b) whole

-- An element isn't accepted: no codeword of its kind begins the bits, or one does and the rule is against its value.
abbrev pub IsRefused : {V : Type 0} → (V → Type 0) → (V → List Bool) → Rule V → List Bool → Stop → Type 0
IsRefused {V} IsValue code rule whole stop =
    (BeginsNone IsValue code whole × (stop ≡ Malformed)) ⊎ ((v : V) × (rest : List Bool) × IsValue v × (rule v ≡ Some stop) × (whole ≡ code v ++ rest))

-- The bits begin with elements of the table that are accepted, up to the first one that isn't, and this is why.
abbrev pub Stops : {A : Type 0} → Syntax A → List Bool → Stop → Type 0
Stops (Made a) whole stop = ⊥
Stops (U n rule more) whole stop = IsRefused (IsU n) (λ v. bits.u v n) rule whole stop ⊎ BeginsWith (IsU n) (λ v. bits.u v n) rule (λ v rest. Stops (more v) rest stop) whole
Stops (Ue rule more) whole stop = IsRefused IsUe codewords.ue rule whole stop ⊎ BeginsWith IsUe codewords.ue rule (λ v rest. Stops (more v) rest stop) whole
Stops (Se rule more) whole stop = IsRefused IsSe codewords.se rule whole stop ⊎ BeginsWith IsSe codewords.se rule (λ v rest. Stops (more v) rest stop) whole

-- The bits are the elements of the table, each accepted, and this is made from them; behind them is the rest.
pub record Takes {A : Type 0} (table : Syntax A) (whole : List Bool) (made : A) (rest : List Bool) : Type 0 where
  pub front : List Bool
  pub spelled : Spells table front made
  pub parts : whole ≡ front ++ rest

-- what reading by a table answers and leaves, from what was left before
pub record Gives {A : Type 0} (table : Syntax A) (old : List Bool) (result : Result A Stop) (new : List Bool) : Type 0 where
  pub answer : MatchResult result (λ made. Takes table old made new) (λ stop. Stops table old stop)

-- what writing by a table adds
pub record Appends {A : Type 0} (table : Syntax A) (made : A) (old new : List Bool) : Type 0 where
  pub added : List Bool
  pub spelled : Spells table added made
  pub parts : new ≡ old ++ added
