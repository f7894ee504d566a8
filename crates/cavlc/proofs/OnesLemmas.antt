-- The trailing ones.
use Rattle.std.proofs.Common.{◌≡◌, ◌≢◌, ℕ, zero, suc, ◌+◌, ◌-◌, ◌<◌, ◌≤◌, List, [], ◌∷◌, length, get_or, take, drop, min, refl, ap, ◌∙◌, subst, arith, inl, inr, eq-eqb, ne_eqb, lt-ltb, ℤ, pos, negsuc, unsigned_abs}
use Rattle.std.proofs.lemmas.Bool.{cases_eq, cases_lt}
use Rattle.std.proofs.lemmas.List.{get_or-drop, get_or-take, length-drop, length-take-le}
use Rattle.std.specs.List.{All}
use Rattle.cavlc.specs.Coefficients.{leading_ones}
use Rattle.cavlc.specs.Levels.{HasLevelCode, first_level, level_code, next_level}
use Rattle.cavlc.specs.Parts.{AreLevels, IsOne}
use Rattle.cavlc.specs.Turns.{AreInTurn}
use Rattle.cavlc.specs.declared.levels.LevelState.{LevelState}

pub leading_one : (l : ℤ) (ls : List ℤ) → IsOne l → leading_ones (l ∷ ls) ≡ suc (leading_ones ls)
unfolding leading_ones
leading_one l ls h = rw (eq-eqb (unsigned_abs l) 1 h) refl

pub leading_other : (l : ℤ) (ls : List ℤ) → (IsOne l → ⊥) → leading_ones (l ∷ ls) ≡ 0
unfolding leading_ones
leading_other l ls h = rw (ne_eqb (unsigned_abs l) 1 h) refl

pub leading_none : leading_ones [] ≡ 0
unfolding leading_ones
leading_none = refl

-- The first of them are ones.
pub lead_are_ones : (ls : List ℤ) (k : ℕ) → k ≤ leading_ones ls → All IsOne (take k ls)
lead_are_ones [] zero h = λ i d below. absurd (omega (arith, below))
lead_are_ones [] (suc k) h = absurd (omega (arith, h, leading_none))
lead_are_ones (l ∷ ls) zero h = λ i d below. absurd (omega (arith, below))
lead_are_ones (l ∷ ls) (suc k) h =
    elim (cases_eq (unsigned_abs l) 1) [
      | inl one ↦ more one (lead_are_ones ls k (omega (arith, h, leading_one l ls one)))
      | inr other ↦ absurd (omega (arith, h, leading_other l ls other))
    ]
  where
    more : IsOne l → All IsOne (take k ls) → All IsOne (take (suc k) (l ∷ ls))
    more one rest zero d below = one
    more one rest (suc i) d below = rest i d (omega (arith, below))

pub leading_behind : (ls : List ℤ) (k : ℕ) → k ≤ length ls → All IsOne (take k ls) → leading_ones ls ≡ k + leading_ones (drop k ls)
leading_behind ls zero h each = omega arith
leading_behind [] (suc k) h each = absurd (omega (arith, h))
leading_behind (l ∷ ls) (suc k) h each =
    let one : IsOne l = each 0 (pos 0) (omega arith) in
    let rest = leading_behind ls k (omega (arith, h)) (λ i d below. each (suc i) d (omega (arith, below))) in
    leading_one l ls one ∙ ap suc rest ∙ omega arith

-- a level whose levelCode is at least 2 is no one
no_one : (l : ℤ) → 2 ≤ level_code l → IsOne l → ⊥
no_one (pos n) h one = omega (arith, h, one)
no_one (negsuc n) h one = omega (arith, h, one)

least_is : (total ones : ℕ) → ones < 3 → (first_level total ones).least ≡ 2
least_is total ones h = rw (lt-ltb ones 3 h) refl

none_lead : (total ones : ℕ) (rest : List ℤ) → ones < 3 → AreInTurn HasLevelCode next_level (first_level total ones) rest → leading_ones rest ≡ 0
unfolding AreInTurn
none_lead total ones [] h k = leading_none
none_lead total ones (l ∷ rest) h k = leading_other l rest (no_one l (omega (arith, k.0.least, least_is total ones h)))

pub trailing_is : (total ones : ℕ) (ls : List ℤ) → AreLevels total ones ls → min 3 (leading_ones ls) ≡ ones
trailing_is total ones ls h =
    let few : ones ≤ min 3 total = h.few in
    let behind = leading_behind ls ones (omega (arith, h.size)) h.each in
    elim (cases_eq ones 3) [
      | inl e ↦ omega (arith, behind, e)
      | inr n ↦ omega (arith, behind, none_lead total ones (drop ones ls) (omega arith) h.codes)
    ]

-- no level is 0

one_nonzero : (l : ℤ) → IsOne l → l ≢ pos 0
one_nonzero l h e = omega (arith, h, ap unsigned_abs e)

abbrev IsNonzero : ℤ → Type 0
IsNonzero l = l ≢ pos 0

codes_nonzero : (state : LevelState) (ls : List ℤ) → AreInTurn HasLevelCode next_level state ls → All IsNonzero ls
unfolding AreInTurn
codes_nonzero state [] h i d below = absurd (omega (arith, below))
codes_nonzero state (l ∷ ls) h zero d below = h.0.nonzero
codes_nonzero state (l ∷ ls) h (suc i) d below = codes_nonzero (next_level state l) ls h.1 i d (omega (arith, below))

pub levels_nonzero : (total ones : ℕ) (ls : List ℤ) → AreLevels total ones ls → All (λ (level : ℤ). level ≢ pos 0) ls
levels_nonzero total ones ls h i d below =
    let few : ones ≤ min 3 total = h.few in
    elim (cases_lt i ones) [
      | inl l ↦ subst IsNonzero (get_or-take ones ls i d l) (one_nonzero (get_or (take ones ls) i d) (h.each i d (omega (arith, l, length-take-le ones ls (omega (arith, h.size))))))
      | inr g ↦
          let at : ones + (i - ones) ≡ i = omega arith in
          subst IsNonzero (get_or-drop ones ls (i - ones) d ∙ ap (λ (x : ℕ). get_or ls x d) at)
          (codes_nonzero (first_level total ones) (drop ones ls) h.codes (i - ones) d (omega (arith, below, length-drop ones ls)))
    ]
