-- Finite properties from finite properties.
use Rattle.std.proofs.Common.{◌≡◌, ◌⊎◌, inl, inr, refl, sym, subst, Option, Some, None}
use Rattle.std.specs.Option.{IfSome}
use Rattle.finite.specs.Decided.{Decided}
use Rattle.finite.specs.Finite.{Finite}
use Rattle.finite.proofs.Deciding.{both, decided_as, either, never}

-- a narrower property that is decided
pub narrower : {A : Type 0} {P : A → Type 0} (R : A → Type 0) → Finite P → ((x : A) → P x → Decided (R x))
    → ((x : A) → R x → P x) → Finite R
narrower R finite decide within = record {
  find = λ Q each. decided_as (λ found. (found.0, found.2.0, found.2.1)) (λ found. (found.0, within found.0 found.1, (found.1, found.2)))
      (finite.find (λ x. R x × Q x) (λ x p. both (decide x p) (λ r. each x r)));
}

-- the same property in other words
pub same : {A : Type 0} {P : A → Type 0} (R : A → Type 0) → Finite P → ((x : A) → P x → R x) → ((x : A) → R x → P x) → Finite R
same R finite to back = record {
  find = λ Q each. decided_as (λ found. (found.0, to found.0 found.1, found.2)) (λ found. (found.0, back found.0 found.1, found.2))
      (finite.find Q (λ x p. each x (to x p)));
}

-- one value
pub single : {A : Type 0} (a : A) → Finite (λ (x : A). x ≡ a)
single {A} a = record {
  find = λ Q each. decided_as (λ q. (a, refl, q)) (λ found. subst Q found.1 found.2) (each a refl);
}

-- two properties of one type
pub joined : {A : Type 0} {P R : A → Type 0} → Finite P → Finite R → Finite (λ (x : A). P x ⊎ R x)
joined {A} {P} {R} first second = record {
  find = λ Q each. decided_as (together Q) (parted Q) (either (first.find Q (λ x p. each x (inl p))) (second.find Q (λ x r. each x (inr r))));
}
  where
    together : (Q : A → Type 0) → ((x : A) × P x × Q x) ⊎ ((x : A) × R x × Q x) → (x : A) × (P x ⊎ R x) × Q x
    together Q (inl found) = (found.0, inl found.1, found.2)
    together Q (inr found) = (found.0, inr found.1, found.2)

    part : (Q : A → Type 0) (x : A) → P x ⊎ R x → Q x → ((x : A) × P x × Q x) ⊎ ((x : A) × R x × Q x)
    part Q x (inl p) q = inl (x, p, q)
    part Q x (inr r) q = inr (x, r, q)

    parted : (Q : A → Type 0) → (x : A) × (P x ⊎ R x) × Q x → ((x : A) × P x × Q x) ⊎ ((x : A) × R x × Q x)
    parted Q found = part Q found.0 found.1 found.2

-- pairs, where the second member's property may depend on the first member
pub pairs : {A B : Type 0} {P : A → Type 0} {R : A → B → Type 0} → Finite P → ((x : A) → P x → Finite (R x))
    → Finite (λ (pair : A × B). P pair.0 × R pair.0 pair.1)
pairs {A} {B} {P} {R} first second = record {
  find = λ Q each. decided_as
      (λ found. ((found.0, found.2.0), (found.1, found.2.1), found.2.2))
      (λ found. (found.0.0, found.1.0, (found.0.1, found.1.1, found.2)))
      (first.find (λ x. (y : B) × R x y × Q (x, y)) (λ x p. (second x p).find (λ y. Q (x, y)) (λ y r. each (x, y) (p, r))));
}

-- the values that a function gives
pub onto : {A B : Type 0} {P : A → Type 0} (R : B → Type 0) (f : A → B) → Finite P → ((x : A) → P x → R (f x))
    → ((y : B) → R y → (x : A) × P x × (f x ≡ y)) → Finite R
onto {A} {B} {P} R f finite gives from = record {
  find = λ Q each. decided_as (λ found. (f found.0, gives found.0 found.1, found.2)) (back Q) (finite.find (λ x. Q (f x)) (λ x p. each (f x) (gives x p)));
}
  where
    back : (Q : B → Type 0) → (y : B) × R y × Q y → (x : A) × P x × Q (f x)
    back Q found = let source = from found.0 found.1 in (source.0, source.1, subst Q (sym source.2) found.2)

some_of : {A : Type 0} (P : A → Type 0) (o : Option A) → IfSome o P → (o ≡ None) ⊎ ((x : A) × P x × (o ≡ Some x))
some_of P None h = inl refl
some_of P (Some x) h = inr (x, h, refl)

of_some : {A : Type 0} (P : A → Type 0) (o : Option A) → (o ≡ None) ⊎ ((x : A) × P x × (o ≡ Some x)) → IfSome o P
of_some P o (inl e) = subst (λ (o : Option _). IfSome o P) (sym e) tt
of_some P o (inr found) = subst (λ (o : Option _). IfSome o P) (sym found.2) found.1

-- a value of the property, or none
pub options : {A : Type 0} (P : A → Type 0) → Finite P → Finite (λ (o : Option A). IfSome o P)
options {A} P finite = onto (λ (o : Option A). IfSome o P) (λ (o : Option A). o)
    (joined (single {A = Option A} None) (onto (λ (o : Option A). (x : A) × P x × (o ≡ Some x)) (λ (x : A). Some x) finite
    (λ x p. (x, p, refl)) (λ o found. (found.0, found.1, sym found.2))))
    (λ o h. of_some P o h) (λ o h. (o, some_of P o h, refl))

-- ---- values of several forms, each form with its own function

IsOf : {A B : Type 0} → (A → B) → B → Type 0
IsOf {A} f y = (x : A) × (f x ≡ y)

-- a form more
pub formed : {A B : Type 0} (R : B → Type 0) (f : A → B) {Other : B → Type 0} → Finite (λ (x : A). R (f x)) → Finite (λ (y : B). R y × Other y)
    → Finite (λ (y : B). R y × (((x : A) × (f x ≡ y)) ⊎ Other y))
unfolding IsOf
formed {A} {B} R f {Other} finite others = record {
  find = λ Q each. decided_as (together Q) (λ found. parted Q found.0 found.1.0 found.1.1 found.2)
      (either (finite.find (λ x. Q (f x)) (λ x r. each (f x) (r, inl (x, refl)))) (others.find Q (λ y h. each y (h.0, inr h.1))));
}
  where
    together : (Q : B → Type 0) → ((x : A) × R (f x) × Q (f x)) ⊎ ((y : B) × (R y × Other y) × Q y)
        → (y : B) × (R y × (IsOf f y ⊎ Other y)) × Q y
    together Q (inl found) = (f found.0, (found.1, inl (found.0, refl)), found.2)
    together Q (inr found) = (found.0, (found.1.0, inr found.1.1), found.2)

    parted : (Q : B → Type 0) (y : B) → R y → IsOf f y ⊎ Other y → Q y
        → ((x : A) × R (f x) × Q (f x)) ⊎ ((y : B) × (R y × Other y) × Q y)
    parted Q y r (inl from) q = inl (from.0, subst R (sym from.1) r, subst Q (sym from.1) q)
    parted Q y r (inr other) q = inr (y, (r, other), q)

pub formless : {B : Type 0} (R : B → Type 0) → Finite (λ (y : B). R y × ⊥)
formless R = record { find = λ Q each. never (λ found. absurd found.1.1) }
