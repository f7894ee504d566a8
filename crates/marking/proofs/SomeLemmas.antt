-- What an answer that is there comes from.
use Rattle.std.proofs.Common.{◌≡◌, Option, Some, None, refl}
use Rattle.std.specs.Option.{option_and_then, option_map}

pub same_some : {A : Type 0} (a b : A) → Some a ≡ Some b → a ≡ b
same_some a b e = cc

pub none_some : {A : Type 0} (a : A) → None ≡ Some a → ⊥
none_some a e = cc

pub and_then_some : {A B : Type 0} (f : A → Option B) (o : Option A) (b : B) → option_and_then f o ≡ Some b → (a : A) × (o ≡ Some a) × (f a ≡ Some b)
and_then_some f None b e = absurd (none_some b e)
and_then_some f (Some a) b e = (a, refl, e)

pub map_some : {A B : Type 0} (f : A → B) (o : Option A) (b : B) → option_map f o ≡ Some b → (a : A) × (o ≡ Some a) × (f a ≡ b)
map_some f None b e = absurd (none_some b e)
map_some f (Some a) b e = (a, refl, same_some (f a) b e)
