-- Equations whose right sides look only at what is before them have a solution, and a test that isn't always passed fails somewhere first.
use Rattle.std.proofs.Common.{◌≡◌, ℕ, zero, suc, ◌<◌, ◌⊎◌, Bool, true, false, inl, inr, subst, arith}
use Rattle.std.proofs.lemmas.Bool.{cases_Bool, cases_lt}

-- what comes of so many turns
pub iterated : {A : Type 0} → (A → A) → A → ℕ → A
iterated f start zero = start
iterated f start (suc turns) = f (iterated f start turns)

-- Where a turn makes values agree one place farther than they did, so many turns settle as many places.
pub settled : {A : Type 0} (f : A → A) (start : A) (Agree : ℕ → A → A → Type 0) → ((a b : A) → Agree zero a b) → ((end : ℕ) (a b : A) → Agree end a b → Agree (suc end) (f a) (f b))
    → (turns : ℕ) → Agree turns (iterated f start turns) (f (iterated f start turns))
unfolding iterated
settled f start Agree none more zero = none start (f start)
settled f start Agree none more (suc turns) = more turns (iterated f start turns) (f (iterated f start turns)) (settled f start Agree none more turns)

pub kept_by_turns : {A : Type 0} (f : A → A) (start : A) (P : A → Type 0) → P start → ((a : A) → P (f a)) → (turns : ℕ) → P (iterated f start turns)
unfolding iterated
kept_by_turns f start P first next zero = first
kept_by_turns f start P first next (suc turns) = next (iterated f start turns)

-- The test is passed before a number, and not there.
pub record IsFirstFailed (test : ℕ → Bool) (end number : ℕ) : Type 0 where
  pub within : number < end
  pub before : (earlier : ℕ) → earlier < number → test earlier ≡ true
  pub failed : test number ≡ false

pub all_or_first : (test : ℕ → Bool) (end : ℕ) → ((number : ℕ) → number < end → test number ≡ true) ⊎ ((number : ℕ) × IsFirstFailed test end number)
all_or_first test zero = inl (λ number lt. absurd (omega arith))
all_or_first test (suc end) = elim (all_or_first test end) [
  | inl all ↦ elim (cases_Bool (test end)) [
    | inl passed ↦ inl (λ number lt. elim (cases_lt number end) [
      | inl less ↦ all number less
      | inr le ↦ let same : end ≡ number = omega arith in subst (λ n. test n ≡ true) same passed
    ])
    | inr failed ↦ inr (end, record { within = omega arith; before = all; failed = failed })
  ]
  | inr first ↦ let within = first.1.within in inr (first.0, record { within = omega arith; before = first.1.before; failed = first.1.failed })
]
