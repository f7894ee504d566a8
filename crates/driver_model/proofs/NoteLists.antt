-- Lists with one item more at their end or without some items, and lists of numbers that differ.
use Rattle.std.proofs.Common.{◌≡◌, ◌≢◌, ◌⊎◌, inl, inr, ℕ, zero, suc, ◌+◌, ◌<◌, ◌==◌, Bool, true, false, not, ◌||◌, if◌then◌else◌, List, [], ◌∷◌, ◌++◌, AllPairs, filter, get_or, length, map, slice_get, Option, Some, None, refl, ap, sym, ◌∙◌, arith}
use Rattle.std.proofs.lemmas.Bool.{eq-eqb, false≢true, ne_eqb, or_parts}
use Rattle.std.specs.List.{AllByRecursion, list_any}
use Rattle.device_lock.specs.Lists.{same}
use Rattle.driver_model.specs.States.{Note}
use Rattle.driver_model.proofs.NoteNumbers.{is_taken}

pub nothing_at : {A X : Type 0} (x : X) → (let o : Option X = None in o ≡ Some x) → A
nothing_at x e = absurd (let k : (let o : Option _ = None in o ≡ Some x) = e in cc)

pub some_is : {X : Type 0} (a b : X) → (let o : Option X = Some a in o ≡ Some b) → a ≡ b
some_is a b e = cc

module _ {X : Type 0} where
  pub get_in : (xs ys : List X) (k : ℕ) (x : X) → slice_get xs k ≡ Some x → slice_get (xs ++ ys) k ≡ Some x
  get_in [] ys k x e = nothing_at x e
  get_in (one ∷ xs) ys zero x e = e
  get_in (one ∷ xs) ys (suc k) x e = get_in xs ys k x e

  pub get_end : (xs : List X) (x : X) → slice_get (xs ++ x ∷ []) (length xs) ≡ Some x
  get_end [] x = refl
  get_end (one ∷ xs) x = get_end xs x

  pub get_or_end : (xs : List X) (one : X) (k : ℕ) (x : X) → slice_get (xs ++ one ∷ []) k ≡ Some x → (slice_get xs k ≡ Some x) ⊎ ((k ≡ length xs) × (one ≡ x))
  get_or_end [] one zero x e = inr (refl, some_is one x e)
  get_or_end [] one (suc k) x e = nothing_at x e
  get_or_end (y ∷ xs) one zero x e = inl e
  get_or_end (y ∷ xs) one (suc k) x e = elim (get_or_end xs one k x e) [
    | inl before ↦ inl before
    | inr last ↦ inr (ap (λ n. suc n) last.0, last.1)
  ]

  pub get_below : (xs : List X) (k : ℕ) (x : X) → slice_get xs k ≡ Some x → k < length xs
  get_below [] k x e = nothing_at x e
  get_below (y ∷ xs) zero x e = omega arith
  get_below (y ∷ xs) (suc k) x e = omega (arith, get_below xs k x e)

  pub length_more : (xs : List X) (x : X) → length (xs ++ x ∷ []) ≡ length xs + 1
  length_more [] x = refl
  length_more (y ∷ xs) x = let rest = length_more xs x in omega arith

  pub any_more : (test : X → Bool) (xs : List X) (x : X) → list_any test (xs ++ x ∷ []) ≡ (list_any test xs || test x)
  any_more test [] x = or_false (test x) where
    or_false : (b : Bool) → (b || false) ≡ b
    or_false true = refl
    or_false false = refl
  any_more test (y ∷ xs) x = by_test (test y) (any_more test xs x) where
    by_test : (b : Bool) → list_any test (xs ++ x ∷ []) ≡ (list_any test xs || test x) → (b || list_any test (xs ++ x ∷ [])) ≡ ((b || list_any test xs) || test x)
    by_test true rest = refl
    by_test false rest = rest

  pub all_more : (P : X → Type 0) (xs : List X) (x : X) → AllByRecursion P xs → P x → AllByRecursion P (xs ++ x ∷ [])
  all_more P [] x all is = (is, tt)
  all_more P (y ∷ xs) x all is = (all.0, all_more P xs x all.1 is)

  pub all_so : (P Q : X → Type 0) → ((x : X) → P x → Q x) → (xs : List X) → AllByRecursion P xs → AllByRecursion Q xs
  all_so P Q so [] all = tt
  all_so P Q so (x ∷ xs) all = (so x all.0, all_so P Q so xs all.1)

  pub all_filter : (P Q : X → Type 0) (test : X → Bool) → ((x : X) → test x ≡ true → P x → Q x) → (xs : List X) → AllByRecursion P xs → AllByRecursion Q (filter test xs)
  all_filter P Q test so [] all = tt
  all_filter P Q test so (x ∷ xs) all = by_test (test x) refl (all_filter P Q test so xs all.1) where
    by_test : (b : Bool) → test x ≡ b → AllByRecursion Q (filter test xs) → AllByRecursion Q (if b then x ∷ filter test xs else filter test xs)
    by_test true e rest = (so x e all.0, rest)
    by_test false e rest = rest

  -- one that passes the test, of which P holds
  pub all_any : (P : X → Type 0) (test : X → Bool) (xs : List X) → AllByRecursion P xs → list_any test xs ≡ true → (x : X) × P x × (test x ≡ true)
  all_any P test [] all e = absurd (false≢true e)
  all_any P test (x ∷ xs) all e = by_test (test x) refl e (λ k. all_any P test xs all.1 k) where
    by_test : (b : Bool) → test x ≡ b → (b || list_any test xs) ≡ true → (list_any test xs ≡ true → (y : X) × P y × (test y ≡ true)) → (y : X) × P y × (test y ≡ true)
    by_test true is k rest = (x, all.0, is)
    by_test false is k rest = rest k

pub or_true_parts : (a b : Bool) → (a || b) ≡ true → (a ≡ true) ⊎ (b ≡ true)
or_true_parts true b e = inl refl
or_true_parts false b e = inr e

pub not_true : (b : Bool) → not b ≡ true → b ≡ false
not_true true e = absurd (false≢true e)
not_true false e = refl

-- ---- numbers that differ

abbrev pub Differ : List ℕ → Type 0
Differ [] = Unit {0}
Differ (x ∷ xs) = (is_taken x xs ≡ false) × Differ xs

pub differ_more : (xs : List ℕ) (y : ℕ) → Differ xs → is_taken y xs ≡ false → Differ (xs ++ y ∷ [])
differ_more [] y differ free = (refl, tt)
differ_more (x ∷ xs) y differ free =
    let parts = or_parts (x == y) (is_taken y xs) free in
    let other : (y == x) ≡ false = ne_eqb y x (λ same. false≢true (sym parts.0 ∙ eq-eqb x y (sym same))) in
    (any_more (λ taken. taken == x) xs y ∙ (λ i. differ.0 i || other i), differ_more xs y differ.1 parts.1)

module _ (f : Note → ℕ) (test : Note → Bool) where
  pub free_filter : (x : ℕ) (notes : List Note) → is_taken x (map f notes) ≡ false → is_taken x (map f (filter test notes)) ≡ false
  free_filter x [] free = refl
  free_filter x (note ∷ notes) free =
      let parts = or_parts (f note == x) (is_taken x (map f notes)) free in
      by_test (test note) parts.0 (free_filter x notes parts.1)
    where
      by_test : (b : Bool) → (f note == x) ≡ false → is_taken x (map f (filter test notes)) ≡ false → is_taken x (map f (if b then note ∷ filter test notes else filter test notes)) ≡ false
      by_test true here rest = λ i. here i || rest i
      by_test false here rest = rest

  pub differ_filter : (notes : List Note) → Differ (map f notes) → Differ (map f (filter test notes))
  differ_filter [] differ = tt
  differ_filter (note ∷ notes) differ = by_test (test note) (free_filter (f note) notes differ.0) (differ_filter notes differ.1) where
    by_test : (b : Bool) → is_taken (f note) (map f (filter test notes)) ≡ false → Differ (map f (filter test notes)) → Differ (map f (if b then note ∷ filter test notes else filter test notes))
    by_test true here rest = (here, rest)
    by_test false here rest = rest

pub not_at : (xs : List ℕ) (x i d : ℕ) → is_taken x xs ≡ false → i < length xs → x ≢ get_or xs i d
not_at [] x i d free within same = omega arith
not_at (y ∷ xs) x zero d free within same = false≢true (sym (or_parts (y == x) (is_taken x xs) free).0 ∙ eq-eqb y x (sym same))
not_at (y ∷ xs) x (suc i) d free within same = not_at xs x i d (or_parts (y == x) (is_taken x xs) free).1 (omega arith) same

pub pairs_differ : (xs : List ℕ) → Differ xs → AllPairs (λ a b. a ≢ b) xs
pairs_differ [] differ i j d less within same = omega arith
pairs_differ (x ∷ xs) differ zero zero d less within same = omega arith
pairs_differ (x ∷ xs) differ zero (suc j) d less within same = not_at xs x j d differ.0 (omega arith) same
pairs_differ (x ∷ xs) differ (suc i) zero d less within same = omega arith
pairs_differ (x ∷ xs) differ (suc i) (suc j) d less within same = pairs_differ xs differ.1 i j d (omega arith) (omega arith) same
