-- Properties of which a search ends.
use Rattle.finite.specs.Decided.{Decided}

-- Few enough values have the property P: if Q is decided of each of them, it is decided whether one of them has Q.
pub record Finite {A : Type 0} (P : A → Type 0) : Type 1 where
  pub find : (Q : A → Type 0) → ((x : A) → P x → Decided (Q x)) → Decided ((x : A) × P x × Q x)
