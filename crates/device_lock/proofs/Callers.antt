-- Numbers of callers, how often they stand in a list, and the items of a number.
use Rattle.std.proofs.Common.{◌≡◌, ℕ, ◌+◌, ◌≢◌, ◌⊎◌, inl, inr, ⊎_elim, ◌==◌, ◌&&◌, Bool, true, false, if◌then◌else◌, List, [], ◌∷◌, ◌++◌, length, filter, sym, refl, ap, ◌∙◌, arith, append_assoc, length-append}
use mathlib.Core.List.{IsPrefix, append-nil}
use Rattle.std.proofs.lemmas.Bool.Decides.{nat_tests}
use Rattle.std.proofs.lemmas.List.Elements.{filter-append}
use Rattle.device_lock.specs.Lists.{Each, same, times}
use Rattle.device_lock.specs.Numbers.{items_of}
use Rattle.device_lock.proofs.Sums.{by_bool}

pub same_self : (c : List ℕ) → same c c ≡ true
same_self [] = refl
same_self (n ∷ ns) = let rest = same_self ns in grind (arith, nat_tests)

and_both : (a b : Bool) → (a && b) ≡ true → (a ≡ true) × (b ≡ true)
and_both true b e = (refl, e)
and_both false b e = absurd (cc (e))

pub same_is : (c d : List ℕ) → same c d ≡ true → c ≡ d
same_is [] [] e = refl
same_is [] (n ∷ ns) e = absurd (cc (e))
same_is (m ∷ ms) [] e = absurd (cc (e))
same_is (m ∷ ms) (n ∷ ns) e = let both = and_both (m == n) (same ms ns) e in let first : (m == n) ≡ true = both.0 in let heads : m ≡ n = grind (arith, nat_tests) in let rest : ms ≡ ns = same_is ms ns both.1 in cc

pub not_same : (c d : List ℕ) → c ≢ d → same c d ≡ false
not_same c d ne = by_bool (λ b. same c d ≡ b → same c d ≡ false) (same c d) (λ _ e. absurd (ne (same_is c d e))) (λ _ e. e) refl

none_of : (b : Bool) (m : ℕ) → (if b then 1 else 0) + m ≡ 0 → (b ≡ false) × (m ≡ 0)
none_of true m e = absurd (omega arith)
none_of false m e = (refl, omega arith)

pub times_none : (c n : List ℕ) (ns : List (List ℕ)) → times c (n ∷ ns) ≡ 0 → (same c n ≡ false) × (times c ns ≡ 0)
times_none c n ns e = none_of (same c n) (times c ns) e

pub times_here : (c : List ℕ) (ns : List (List ℕ)) → times c (c ∷ ns) ≡ 1 + times c ns
times_here c ns = ap (λ (b : Bool). (if b then 1 else 0) + times c ns) (same_self c)

pub times_other : (c n : List ℕ) (ns : List (List ℕ)) → same c n ≡ false → times c (n ∷ ns) ≡ times c ns
times_other c n ns e = ap (λ (b : Bool). (if b then 1 else 0) + times c ns) e ∙ omega arith

nil_of : {A : Type 0} (xs : List A) → length xs ≡ 0 → xs ≡ []
nil_of [] e = refl
nil_of (x ∷ xs) e = absurd (omega arith)

-- a number that is none of them
pub not_among : (c : List ℕ) (ns : List (List ℕ)) → Each (λ d. d ≢ c) ns → times c ns ≡ 0
not_among c [] each = refl
not_among c (n ∷ ns) each = times_other c n ns (not_same c n (λ e. each.0 (sym e))) ∙ not_among c ns each.1

-- A beginning of a number with one place more is a beginning of it, or the whole.
pub prefix_snoc : (xs ys : List ℕ) (n : ℕ) → IsPrefix xs (ys ++ n ∷ []) → IsPrefix xs ys ⊎ (xs ≡ ys ++ n ∷ [])
prefix_snoc [] ys n p = inl (ys, refl)
prefix_snoc (x ∷ xs) [] n p = let long = ap length p.1 in let parts = length-append xs p.0 in let none : xs ≡ [] = nil_of xs (omega arith) in inr (cc (p.1, none))
prefix_snoc (x ∷ xs) (y ∷ ys) n p = let heads : x ≡ y = cc (p.1) in ⊎_elim (λ (q : IsPrefix xs ys). inl (q.0, cc (heads, q.1))) (λ (e : xs ≡ ys ++ n ∷ []). inr (cc (heads, e))) (prefix_snoc xs ys n (p.0, cc (p.1)))

pub snoc_is : (xs ys : List ℕ) (m n : ℕ) → xs ++ m ∷ [] ≡ ys ++ n ∷ [] → (xs ≡ ys) × (m ≡ n)
snoc_is [] [] m n e = (refl, cc (e))
snoc_is [] (y ∷ ys) m n e = let long = ap length e in let parts = length-append ys (n ∷ []) in absurd (omega arith)
snoc_is (x ∷ xs) [] m n e = let long = ap length e in let parts = length-append xs (m ∷ []) in absurd (omega arith)
snoc_is (x ∷ xs) (y ∷ ys) m n e = let heads : x ≡ y = cc (e) in let tails : xs ++ m ∷ [] ≡ ys ++ n ∷ [] = cc (e) in let rest = snoc_is xs ys m n tails in (cc (heads, rest.0), rest.1)

pub no_longer : (xs : List ℕ) (n : ℕ) → ¬ IsPrefix (xs ++ n ∷ []) xs
no_longer xs n p = let long = ap length p.1 in let a = length-append (xs ++ n ∷ []) p.0 in let b = length-append xs (n ∷ []) in omega arith

pub prefix_front : (xs ys : List ℕ) (n : ℕ) → IsPrefix (xs ++ n ∷ []) ys → IsPrefix xs ys
prefix_front xs ys n p = (n ∷ p.0, sym (append_assoc xs (n ∷ []) p.0) ∙ p.1)

module _ {I : Type 0} (caller : I → List ℕ) where
  pub items_mine : (c : List ℕ) (history : List I) (x : I) → caller x ≡ c → items_of caller c (history ++ x ∷ []) ≡ items_of caller c history ++ x ∷ []
  items_mine c history x mine = filter-append (λ x. same c (caller x)) history (x ∷ []) ∙ ap (λ (b : Bool). items_of caller c history ++ (if b then x ∷ [] else [])) (ap (same c) mine ∙ same_self c)

  pub items_other : (c : List ℕ) (history : List I) (x : I) → same c (caller x) ≡ false → items_of caller c (history ++ x ∷ []) ≡ items_of caller c history
  items_other c history x other = filter-append (λ x. same c (caller x)) history (x ∷ []) ∙ (ap (λ (b : Bool). items_of caller c history ++ (if b then x ∷ [] else [])) other ∙ append-nil (items_of caller c history))

  -- where a beginning has all items of a number, so has a longer one
  pub items_between : (c : List ℕ) (first middle history own : List I) → IsPrefix first middle → IsPrefix middle history → items_of caller c first ≡ own → items_of caller c history ≡ own → items_of caller c middle ≡ own
  items_between c first middle history own p q low high =
      let P : I → Bool = λ x. same c (caller x) in
      let more : List I = filter P p.0 in let last : List I = filter P q.0 in
      let to_middle : filter P middle ≡ own ++ more = ap (filter P) (sym p.1) ∙ (filter-append P first p.0 ∙ ap (λ l. l ++ more) low) in
      let to_history : filter P middle ++ last ≡ own = sym (filter-append P middle q.0) ∙ (ap (filter P) q.1 ∙ high) in
      let n = ap length to_middle ∙ length-append own more in let m = sym (length-append (filter P middle) last) ∙ ap length to_history in
      let nothing : more ≡ [] = nil_of more (omega arith) in
      to_middle ∙ (ap (λ l. own ++ l) nothing ∙ append-nil own)
