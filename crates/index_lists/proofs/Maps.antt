-- Lists of lists, each of whose elements is mapped, and what stands in them.
use Rattle.std.proofs.Common.{◌≡◌, ℕ, zero, suc, List, [], ◌∷◌, ◌++◌, map, replicate, Some, Contains, slice_get, refl, ap, ◌∙◌, arith}
use Rattle.std.proofs.lemmas.List.{get_or-map, length-map}
use Rattle.index_lists.specs.Lists.{list_at}
use Rattle.index_lists.proofs.Places.{Contains-later, Contains-place}

module _ {X Y : Type 0} (f : X → Y) where
  pub list_at-map : (lists : List (List X)) (i : ℕ) → list_at (map (map f) lists) i ≡ map f (list_at lists i)
  list_at-map [] i = refl
  list_at-map (xs ∷ lists) zero = refl
  list_at-map (xs ∷ lists) (suc i) = list_at-map lists i

  pub map-Contains : (xs : List X) (x : X) → Contains xs x → Contains (map f xs) (f x)
  map-Contains xs x stands = (stands.0, omega (arith, length-map xs f, stands.1), get_or-map f xs stands.0 x (f x) stands.1 ∙ ap f stands.2)

  pub Contains-map : (xs : List X) (y : Y) → Contains (map f xs) y → (x : X) × Contains xs x × (f x ≡ y)
  Contains-map xs y stands = let at = Contains-place (map f xs) y stands in by_place xs at.0 at.1
    where
      by_place : (zs : List X) (k : ℕ) → slice_get (map f zs) k ≡ Some y → (x : X) × Contains zs x × (f x ≡ y)
      by_place [] k at = absurd (cc)
      by_place (z ∷ zs) zero at = (z, (0, omega arith, refl), cc)
      by_place (z ∷ zs) (suc k) at = let later = by_place zs k at in (later.0, Contains-later z later.0 zs later.1, later.2)

  -- where a mapped list has an element between two parts, so has the list
  pub map-split : (xs : List X) (us : List Y) (y : Y) (vs : List Y) → map f xs ≡ us ++ y ∷ vs → (before : List X) × (x : X) × (after : List X) × (xs ≡ before ++ x ∷ after) × (map f before ≡ us) × (f x ≡ y) × (map f after ≡ vs)
  map-split [] [] y vs is = absurd (cc)
  map-split [] (u ∷ us) y vs is = absurd (cc)
  map-split (x ∷ xs) [] y vs is = ([], x, xs, refl, refl, cc, cc)
  map-split (x ∷ xs) (u ∷ us) y vs is =
      let rest = map-split xs us y vs (cc) in
      (x ∷ rest.0, rest.1, rest.2, ap (λ zs. x ∷ zs) rest.3, let head : f x ≡ u = cc in let tail = rest.4 in cc, rest.5, rest.6)

pub map-same : {X Y : Type 0} (f g : X → Y) (xs : List X) → ((x : X) → Contains xs x → f x ≡ g x) → map f xs ≡ map g xs
map-same f g [] same = refl
map-same f g (x ∷ xs) same =
    let here : f x ≡ g x = same x (0, omega arith, refl) in
    let later : map f xs ≡ map g xs = map-same f g xs (λ y there. same y (Contains-later x y xs there)) in
    cc

pub maps-same : {X Y : Type 0} (f g : X → Y) (lists : List (List X)) → ((i : ℕ) (x : X) → Contains (list_at lists i) x → f x ≡ g x) → map (map f) lists ≡ map (map g) lists
maps-same f g [] same = refl
maps-same f g (xs ∷ lists) same =
    let here : map f xs ≡ map g xs = map-same f g xs (same 0) in
    let later : map (map f) lists ≡ map (map g) lists = maps-same f g lists (λ i. same (suc i)) in
    cc

pub maps-back : {X Y : Type 0} (f : X → Y) (g : Y → X) (lists : List (List X)) → ((x : X) → g (f x) ≡ x) → map (map g) (map (map f) lists) ≡ lists
maps-back {X} {Y} f g lists back = all lists
  where
    one : (xs : List X) → map g (map f xs) ≡ xs
    one [] = refl
    one (x ∷ xs) = let here = back x in let later = one xs in cc

    all : (lists : List (List X)) → map (map g) (map (map f) lists) ≡ lists
    all [] = refl
    all (xs ∷ lists) = let here = one xs in let later = all lists in cc

pub map-replicate_nil : {X Y : Type 0} (f : X → Y) (n : ℕ) → map (map f) (replicate n []) ≡ replicate n []
map-replicate_nil f zero = refl
map-replicate_nil f (suc n) = ap (λ ls. [] ∷ ls) (map-replicate_nil f n)

pub list_at-replicate_nil : {X : Type 0} (n i : ℕ) → list_at {X = X} (replicate n []) i ≡ []
list_at-replicate_nil zero i = refl
list_at-replicate_nil (suc n) zero = refl
list_at-replicate_nil (suc n) (suc i) = list_at-replicate_nil n i
