-- Lists of values of a finite property, and what is decided of each element.
use Rattle.std.proofs.Common.{◌≡◌, ℕ, zero, suc, ◌≤◌, inl, List, [], ◌∷◌, ◌++◌, length, drop, refl, sym, ap, subst, ◌∙◌, arith}
use Rattle.std.proofs.Math.Seq.{drop-append_seam}
use Rattle.std.proofs.lemmas.List.Elements.{All-cons, All-head, All-nil, All-tail}
use Rattle.std.specs.List.{All}
use Rattle.finite.specs.Decided.{Decided}
use Rattle.finite.specs.Finite.{Finite}
use Rattle.finite.proofs.Deciding.{both, decided_as}
use Rattle.finite.proofs.Equal.{equal_lists}
use Rattle.finite.proofs.Numbers.{numbers_up_to}
use Rattle.finite.proofs.Sets.{onto, pairs}

-- so many values of the property
AreSo : {A : Type 0} → (A → Type 0) → ℕ → List A → Type 0
AreSo P n xs = (length xs ≡ n) × All P xs

WithFirst : {A : Type 0} → (A → Type 0) → (List A → Type 0) → ℕ → A → Type 0
WithFirst P Q n x = (xs : List _) × AreSo P n xs × Q (x ∷ xs)

Split : {A : Type 0} → (A → Type 0) → (List A → Type 0) → ℕ → Type 0
Split {A} P Q n = (x : A) × P x × WithFirst P Q n x

FoundSo : {A : Type 0} → (A → Type 0) → (List A → Type 0) → ℕ → Type 0
FoundSo {A} P Q n = (xs : List A) × AreSo P n xs × Q xs

join : {A : Type 0} (P : A → Type 0) (Q : List A → Type 0) (n : ℕ) → Split P Q n → FoundSo P Q (suc n)
unfolding AreSo WithFirst Split FoundSo
join P Q n found = (found.0 ∷ found.2.0, (ap suc found.2.1.0, All-cons P found.0 found.2.0 found.1 found.2.1.1), found.2.2)

part : {A : Type 0} (P : A → Type 0) (Q : List A → Type 0) (n : ℕ) (xs : List A) → AreSo P (suc n) xs → Q xs → Split P Q n
unfolding AreSo WithFirst Split
part P Q n [] are q = let size : 0 ≡ suc n = are.0 in let none : ⊥ = omega arith in absurd none
part P Q n (x ∷ xs) are q =
    let size : suc (length xs) ≡ suc n = are.0 in
    (x, All-head P x xs are.1, (xs, (omega arith, All-tail P x xs are.1), q))

only_nil : {A : Type 0} (P : A → Type 0) (Q : List A → Type 0) (xs : List A) → AreSo P zero xs → Q xs → Q []
unfolding AreSo
only_nil P Q [] are q = q
only_nil P Q (x ∷ xs) are q = let size : suc (length xs) ≡ 0 = are.0 in let none : ⊥ = omega arith in absurd none

nil_is : {A : Type 0} (P : A → Type 0) → AreSo P zero []
unfolding AreSo
nil_is P = (refl, All-nil P)

cons_is : {A : Type 0} (P : A → Type 0) (n : ℕ) (x : A) (xs : List A) → P x → AreSo P n xs → AreSo P (suc n) (x ∷ xs)
unfolding AreSo
cons_is P n x xs p are = (ap suc are.0, All-cons P x xs p are.1)

find_lists : {A : Type 0} (P : A → Type 0) → Finite P → (n : ℕ) (Q : List A → Type 0)
    → ((xs : List A) → AreSo P n xs → Decided (Q xs)) → Decided (FoundSo P Q n)
unfolding WithFirst Split FoundSo
find_lists P finite zero Q decide = decided_as (λ q. ([], nil_is P, q)) (λ found. only_nil P Q found.0 found.1 found.2) (decide [] (nil_is P))
find_lists P finite (suc n) Q decide =
    decided_as (join P Q n) (λ found. part P Q n found.0 found.1 found.2)
    (finite.find (WithFirst P Q n) (λ x p. find_lists P finite n (λ xs. Q (x ∷ xs)) (λ xs are. decide (x ∷ xs) (cons_is P n x xs p are))))

pub lists_of : {A : Type 0} (P : A → Type 0) → Finite P → (n : ℕ) → Finite (λ (xs : List A). (length xs ≡ n) × All P xs)
unfolding AreSo FoundSo
lists_of P finite n = record { find = find_lists P finite n }

-- so many at most
pub lists_up_to : {A : Type 0} (P : A → Type 0) → Finite P → (most : ℕ) → Finite (λ (xs : List A). (length xs ≤ most) × All P xs)
lists_up_to {A} P finite most = onto _ (λ (pair : ℕ × List A). pair.1) (pairs (numbers_up_to most) (λ n h. lists_of P finite n))
    (λ pair are. (short pair are.0 are.1.0, are.1.1)) (λ xs are. ((length xs, xs), (are.0, (refl, are.1)), refl))
  where
    short : (pair : ℕ × List A) → pair.0 ≤ most → length pair.1 ≡ pair.0 → length pair.1 ≤ most
    short pair h e = omega arith

-- what holds of each element
pub each_of : {A : Type 0} (P : A → Type 0) (xs : List A) → ((x : A) → Decided (P x)) → Decided (All P xs)
each_of P [] decide = inl (All-nil P)
each_of P (x ∷ xs) decide =
    decided_as (λ h. All-cons P x xs h.0 h.1) (λ all. (All-head P x xs all, All-tail P x xs all)) (both (decide x) (λ p. each_of P xs decide))

-- whether a list begins with another, and what is left of it then
pub begins : {A : Type 0} → ((a b : A) → Decided (a ≡ b)) → (front whole : List A) (Q : List A → Type 0)
    → ((rest : List A) → whole ≡ front ++ rest → Decided (Q rest))
    → Decided ((rest : List A) × (whole ≡ front ++ rest) × Q rest)
begins decide front whole Q each =
    decided_as (λ h. (drop (length front) whole, h.0, h.1)) (λ found. (same found.0 found.1, subst Q (sym (left found.0 found.1)) found.2))
    (both (equal_lists decide whole (front ++ drop (length front) whole)) (λ e. each (drop (length front) whole) e))
  where
    left : (rest : List _) → whole ≡ front ++ rest → drop (length front) whole ≡ rest
    left rest e = ap (drop (length front)) e ∙ drop-append_seam front rest

    same : (rest : List _) → whole ≡ front ++ rest → whole ≡ front ++ drop (length front) whole
    same rest e = e ∙ ap (λ (l : List _). front ++ l) (sym (left rest e))
