-- How large a level can be.
use Rattle.std.proofs.Common.{Bool, true, false, cond, ltb, ◌&&◌, ◌≡◌, ℕ, zero, suc, ◌+◌, ◌-◌, ◌^◌, ◌<◌, ◌≤◌, List, [], ◌∷◌, length, get_or, take, drop, min, reverse, ap, ◌∙◌, subst, arith, inl, inr, pow_mono, ℤ, pos, negsuc, unsigned_abs}
use Rattle.std.proofs.lemmas.Bool.{cases_lt}
use Rattle.std.proofs.lemmas.List.{get_or-drop, get_or-reverse, get_or-take, length-drop, length-reverse, length-take-le}
use Rattle.std.specs.List.{All}
use Rattle.cavlc.proofs.BlockLemmas.{its_levels}
use Rattle.cavlc.proofs.LevelLemmas.{first_few, next_few}
use Rattle.cavlc.specs.Blocks.{HasSpelling}
use Rattle.cavlc.specs.Coefficients.{levels, nonzero, total_coeff, trailing_ones}
use Rattle.cavlc.specs.Levels.{HasLevelCode, escape, first_level, level_code, next_level}
use Rattle.cavlc.specs.Parts.{AreLevels, IsOne}
use Rattle.cavlc.specs.Turns.{AreInTurn}
use Rattle.cavlc.specs.declared.levels.LevelState.{LevelState}

abbrev pub IsSmall : ℤ → Type 0
IsSmall level = unsigned_abs level ≤ 2528

escape_small : (s : ℕ) → s ≤ 6 → escape s ≤ 960
escape_small zero h = omega arith
escape_small (suc n) h = let power : 2 ^ suc n ≤ 2 ^ 6 = pow_mono h in omega (arith, power)

code_small : (l : ℤ) → level_code l < 5056 → IsSmall l
code_small (pos n) h = omega (arith, h)
code_small (negsuc n) h = omega (arith, h)

level_small : (state : LevelState) (l : ℤ) → escape state.suffix_length + state.least ≤ 960 → HasLevelCode state l → IsSmall l
level_small state l room h = code_small l (omega (arith, room, h.prefix, h.least))

next_room : (state : LevelState) (l : ℤ) → state.suffix_length ≤ 6 → escape (next_level state l).suffix_length + (next_level state l).least ≤ 960
next_room state l few = omega (arith, escape_small (next_level state l).suffix_length (next_few state l few))

further_small : (state : LevelState) (ls : List ℤ) → state.suffix_length ≤ 6 → escape state.suffix_length + state.least ≤ 960 → AreInTurn HasLevelCode next_level state ls → All IsSmall ls
unfolding AreInTurn
further_small state [] few room h i d below = absurd (omega (arith, below))
further_small state (l ∷ ls) few room h zero d below = level_small state l room h.0
further_small state (l ∷ ls) few room h (suc i) d below =
    further_small (next_level state l) ls (next_few state l few) (next_room state l few) h.1 i d (omega (arith, below))

first_room : (long fewer : Bool) → escape (cond long 1 0) + cond fewer 2 0 ≤ 960
first_room true true = omega arith
first_room true false = omega arith
first_room false true = omega arith
first_room false false = omega arith

levels_small : (total ones : ℕ) (ls : List ℤ) → AreLevels total ones ls → All IsSmall ls
levels_small total ones ls h i d below =
    let few : ones ≤ min 3 total = h.few in
    let first = first_few total ones in
    elim (cases_lt i ones) [
      | inl l ↦
          let one : IsOne (get_or (take ones ls) i d) = h.each i d (omega (arith, l, length-take-le ones ls (omega (arith, h.size)))) in
          subst IsSmall (get_or-take ones ls i d l) (omega (arith, one))
      | inr g ↦
          let at : ones + (i - ones) ≡ i = omega arith in
          subst IsSmall (get_or-drop ones ls (i - ones) d ∙ ap (λ (x : ℕ). get_or ls x d) at)
          (further_small (first_level total ones) (drop ones ls) first.0 (first_room (ltb 10 total && ltb ones 3) (ltb ones 3)) h.codes (i - ones) d (omega (arith, below, length-drop ones ls)))
    ]

from_reversed : (xs : List ℤ) → All IsSmall (reverse xs) → All IsSmall xs
from_reversed xs h i d below =
    let j = length xs - 1 - i in
    let back : length xs - 1 - j ≡ i = omega (arith, below) in
    subst IsSmall (get_or-reverse xs j d (omega (arith, below)) ∙ ap (λ (x : ℕ). get_or xs x d) back) (h j d (omega (arith, below, length-reverse xs)))

at_place : (c : List ℤ) → All IsSmall (nonzero c) → (place : ℕ) → IsSmall (get_or c place (pos 0))
unfolding nonzero
at_place [] h place = omega arith
at_place (pos zero ∷ c) h zero = omega arith
at_place (pos zero ∷ c) h (suc place) = at_place c h place
at_place (pos (suc n) ∷ c) h zero = h 0 (pos 0) (omega arith)
at_place (pos (suc n) ∷ c) h (suc place) = at_place c (λ i d below. h (suc i) d (omega (arith, below))) place
at_place (negsuc n ∷ c) h zero = h 0 (pos 0) (omega arith)
at_place (negsuc n ∷ c) h (suc place) = at_place c (λ i d below. h (suc i) d (omega (arith, below))) place

pub coefficients_small : (nc : ℤ) (most : ℕ) (c : List ℤ) → HasSpelling nc most c → (place : ℕ) → IsSmall (get_or c place (pos 0))
coefficients_small nc most c h = at_place c (from_reversed (nonzero c) (levels_small (total_coeff c) (trailing_ones c) (levels c) (its_levels nc most c h)))
