-- What is so of each element of a list, and of one that was changed.
use Rattle.std.proofs.Common.{◌≡◌, ℕ, zero, suc, Bool, true, false, if◌then◌else◌, List, [], ◌∷◌, ◌++◌, filter, slice_get, Some, refl, subst}
use Rattle.std.specs.List.{AllByRecursion}
use Rattle.driver_model.proofs.NoteLists.{nothing_at, some_is}

module _ {X : Type 0} (P : X → Type 0) where
  pub all_at : (xs : List X) (i : ℕ) (x : X) → AllByRecursion P xs → slice_get xs i ≡ Some x → P x
  all_at [] i x all at = nothing_at x at
  all_at (y ∷ xs) zero x all at = subst P (some_is y x at) all.0
  all_at (y ∷ xs) (suc i) x all at = all_at xs i x all.1 at

  pub all_and : (xs : List X) (x : X) → AllByRecursion P xs → P x → AllByRecursion P (xs ++ x ∷ [])
  all_and [] x all one = (one, tt)
  all_and (y ∷ xs) x all one = (all.0, all_and xs x all.1 one)

  pub all_middle : (xs : List X) (x : X) (ys : List X) → AllByRecursion P (xs ++ x ∷ ys) → P x
  all_middle [] x ys all = all.0
  all_middle (y ∷ xs) x ys all = all_middle xs x ys all.1

  pub all_with : (xs : List X) (x other : X) (ys : List X) → AllByRecursion P (xs ++ x ∷ ys) → P other → AllByRecursion P (xs ++ other ∷ ys)
  all_with [] x other ys all one = (one, all.1)
  all_with (y ∷ xs) x other ys all one = (all.0, all_with xs x other ys all.1 one)

pub all_then : {X : Type 0} (P Q : X → Type 0) → ((x : X) → P x → Q x) → (xs : List X) → AllByRecursion P xs → AllByRecursion Q xs
all_then P Q so [] all = tt
all_then P Q so (x ∷ xs) all = (so x all.0, all_then P Q so xs all.1)

-- of those that pass a test
pub all_left : {X : Type 0} (test : X → Bool) (P Q : X → Type 0) → ((x : X) → test x ≡ true → P x → Q x) → (xs : List X) → AllByRecursion P xs → AllByRecursion Q (filter test xs)
all_left test P Q so [] all = tt
all_left test P Q so (x ∷ xs) all = by_test (test x) refl (all_left test P Q so xs all.1) where
  by_test : (b : Bool) → test x ≡ b → AllByRecursion Q (filter test xs) → AllByRecursion Q (if b then x ∷ filter test xs else filter test xs)
  by_test true passes rest = (so x passes all.0, rest)
  by_test false fails rest = rest
