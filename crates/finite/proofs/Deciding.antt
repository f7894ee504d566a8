-- Decisions from decisions.
use Rattle.std.proofs.Common.{◌≡◌, ◌⊎◌, inl, inr, Bool, true, false, refl}
use Rattle.std.specs.Bool.{Decides}
use Rattle.finite.specs.Decided.{Decided}

-- a property that follows from another, and the other from it
pub decided_as : {P Q : Type 0} → (P → Q) → (Q → P) → Decided P → Decided Q
decided_as to back (inl p) = inl (to p)
decided_as to back (inr none) = inr (λ q. none (back q))

pub always : {P : Type 0} → P → Decided P
always p = inl p

pub never : {P : Type 0} → (P → ⊥) → Decided P
never none = inr none

-- The second has to be decided only where the first holds.
pub both : {P Q : Type 0} → Decided P → (P → Decided Q) → Decided (P × Q)
both {P} {Q} (inl p) decide = second (decide p)
  where
    second : Decided Q → Decided (P × Q)
    second (inl q) = inl (p, q)
    second (inr none) = inr (λ both. none both.1)
both (inr none) decide = inr (λ both. none both.0)

pub either : {P Q : Type 0} → Decided P → Decided Q → Decided (P ⊎ Q)
either (inl p) other = inl (inl p)
either (inr none) (inl q) = inl (inr q)
either (inr none) (inr no_other) = inr elim [ inl p ↦ none p | inr q ↦ no_other q ]

pub implies : {P Q : Type 0} → Decided P → (P → Decided Q) → Decided (P → Q)
implies {P} {Q} (inl p) decide = then (decide p)
  where
    then : Decided Q → Decided (P → Q)
    then (inl q) = inl (λ h. q)
    then (inr none) = inr (λ f. none (f p))
implies (inr none) decide = inl (λ p. absurd (none p))

pub negated : {P : Type 0} → Decided P → Decided (P → ⊥)
negated (inl p) = inr (λ none. none p)
negated (inr none) = inl none

-- what a test decides
pub tested : {P : Type 0} (test : Bool) → Decides test P → Decided P
tested true decides = inl (decides.0 refl)
tested false decides = inr (λ p. true_false (decides.1 p))
  where
    true_false : false ≡ true → ⊥
    true_false e = absurd cc
