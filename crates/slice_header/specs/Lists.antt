-- Elements that repeat, and the arrays that hold what they make.
use Rattle.std.specs.Prelude.{◌≡◌, ◌≢◌, ◌≤◌, ℕ, zero, suc, ◌-◌, ◌==◌, Bool, if◌then◌else◌, List, [], ◌∷◌, ◌++◌, length, replicate, Option, Some, None}
use Rattle.element_tables.specs.Syntax.{Syntax, Made, Rule, ◌>>=◌, ue, flag, any, up_to, present, Appends}
use Rattle.element_tables.specs.declared.elements.Stop.TheVariants.{Malformed}

-- any other value is out of range
abbrev pub exactly : ℕ → Rule ℕ
exactly wanted v = if v == wanted then None else Some Malformed

-- an element that stands only where the condition holds
unfoldable pub optional : {A : Type 0} → Bool → Syntax A → Syntax (Option A)
optional condition table = present condition (do
  made ← table
  Made (Some made)) None

-- a flag, and the element where it is 1
unfoldable pub flagged : {A : Type 0} → Syntax A → Syntax (Option A)
flagged table = do
  is_present ← flag any
  optional is_present table

-- Items, each behind its number, up to the number that ends them: so many at most. Numbers go up to the greatest.
unfoldable pub listed : {A : Type 0} → ℕ → ℕ → (ℕ → Syntax A) → ℕ → Syntax (List A)
listed greatest end item zero = do
  number ← ue (exactly end)
  Made []
listed greatest end item (suc most) = do
  number ← ue (up_to greatest)
  if number == end then Made [] else (do
    first ← item number
    others ← listed greatest end item most
    Made (first ∷ others))

-- an array of so many places: these, and the filler behind them
abbrev pub padded : {A : Type 0} → ℕ → A → List A → List A
padded places filler xs = xs ++ replicate (places - length xs) filler

-- the bits begin with the old ones
pub record Extends (old new : List Bool) : Type 0 where
  pub added : List Bool
  pub parts : new ≡ old ++ added

-- what writing an item behind its number adds, as `listed` has it
pub record AppendsItem {A : Type 0} (greatest end : ℕ) (item : ℕ → Syntax A) (made : A) (old new : List Bool) : Type 0 where
  pub number : ℕ
  pub between : List Bool
  pub most : number ≤ greatest
  pub goes_on : number ≢ end
  pub first : Appends (ue (up_to greatest)) number old between
  pub second : Appends (item number) made between new
