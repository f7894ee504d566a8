-- The neighbours of a macroblock are before it, and those left and above are among the last as many as stand in a row.
use Rattle.std.proofs.Common.{◌≡◌, ℕ, suc, zero, ◌+◌, ◌-◌, ◌%◌, ◌<◌, ◌≤◌, Bool, true, false, cond, leb, ltb, ◌&&◌, not, List, [], ◌∷◌, ◌++◌, length, length-append, Option, Some, None, refl, ap, arith}
use Rattle.std.specs.Option.{ForSome}
use Rattle.std.proofs.lemmas.Bool.Decides.{nat_tests}
use Rattle.std.proofs.lemmas.Nat.{div-add-mod', mod_below}
use Rattle.cb_types.specs.declared.macroblock.Macroblock.{Macroblock}
use Rattle.motion.specs.Around.{AreBefore, around_of, in_slice}
use Rattle.motion.specs.Border.{macroblock_at}
use Rattle.motion.specs.Kinds.{is_intra}
use Rattle.motion.specs.declared.around.Around.{Around}
use Rattle.recon.specs.Availability.{usable, usable_around}
use Rattle.recon.specs.Modes.{next_modes, slice_modes}

some_from : (t : Bool) (x k : ℕ) → cond t (Some x) None ≡ Some k → (t ≡ true) × (x ≡ k)
some_from true x k e = (refl, cc)
some_from false x k e = (cc, cc)

-- where a neighbour is of the slice, its address is its number from the first
pub record IsNear (first a k : ℕ) (t : Bool) : Type 0 where
  pub test : t ≡ true
  pub low : first ≤ a
  pub address : a ≡ first + k

near_from : (first : ℕ) (t : Bool) (a k : ℕ) → in_slice first (cond t (Some a) None) ≡ Some k → IsNear first a k t
near_from first true a k e =
    let both = some_from (leb first a) (a - first) k e in
    let low : first ≤ a = le_from first a both.0 in
    record { test = refl; low = low; address = omega (arith, both.1) }
  where
    le_from : (m n : ℕ) → leb m n ≡ true → m ≤ n
    le_from m n e = grind (arith, nat_tests)
near_from first false a k e = absurd (let none : ⊥ = cc in none)

pub around_before : (first width number : ℕ) → 1 ≤ width → AreBefore number (around_of first width number)
unfolding around_of
around_before first width number some =
    let mb : ℕ = first + number in
    record {
      left = λ k e. let near = near_from first (ltb 0 (mb % width)) (mb - 1) k e in let t = positive (mb % width) near.test in omega (arith, near.address, near.low, div-add-mod' mb width);
      above = λ k e. let near = near_from first (leb width mb) (mb - width) k e in let t = at_most width mb near.test in omega (arith, near.address);
      above_right = λ k e. let near = near_from first (leb width mb && ltb 0 ((mb + 1) % width)) (mb - width + 1) k e in let t = both_hold width mb ((mb + 1) % width) near.test in omega (arith, near.address, t.0, t.1, mod_below (mb + 1) width some);
      above_left = λ k e. let near = near_from first (leb width mb && ltb 0 (mb % width)) (mb - width - 1) k e in let t = both_hold width mb (mb % width) near.test in omega (arith, near.address, t.0);
    }
  where
    positive : (m : ℕ) → ltb 0 m ≡ true → 0 < m
    positive m e = grind (arith, nat_tests)

    at_most : (m n : ℕ) → leb m n ≡ true → m ≤ n
    at_most m n e = grind (arith, nat_tests)

    both_hold : (m n k : ℕ) → (leb m n && ltb 0 k) ≡ true → (m ≤ n) × (0 < k)
    both_hold m n k e = (grind (arith, nat_tests), grind (arith, nat_tests))

-- those left and above are within a row
pub left_within : (first width number : ℕ) → 1 ≤ width → ForSome (around_of first width number).left (λ k. number ≤ k + width)
unfolding around_of
left_within first width number some k e =
    let mb : ℕ = first + number in
    let near = near_from first (ltb 0 (mb % width)) (mb - 1) k e in omega (arith, near.address)

pub above_within : (first width number : ℕ) → 1 ≤ width → ForSome (around_of first width number).above (λ k. number ≤ k + width)
unfolding around_of
above_within first width number some k e =
    let mb : ℕ = first + number in
    let near = near_from first (leb width mb) (mb - width) k e in omega (arith, near.address)

-- a neighbour that may be used is one
usable_is : (constrained : Bool) (macroblocks : List Macroblock) (o : Option ℕ) (k : ℕ) → usable constrained macroblocks o ≡ Some k → o ≡ Some k
usable_is constrained macroblocks None k e = e
usable_is constrained macroblocks (Some n) k e = kept (constrained && not (is_intra (macroblock_at macroblocks n).kind)) n k e
  where
    kept : (t : Bool) (n k : ℕ) → cond t None (Some n) ≡ Some k → Some n ≡ Some k
    kept true n k e = cc
    kept false n k e = e

pub usable_some : (constrained : Bool) (macroblocks : List Macroblock) (P : ℕ → Type 0) (o : Option ℕ) → ForSome o P → ForSome (usable constrained macroblocks o) P
usable_some constrained macroblocks P o each k e = each k (usable_is constrained macroblocks o k e)

pub usable_before : (constrained : Bool) (macroblocks : List Macroblock) (number : ℕ) (around : Around) → AreBefore number around → AreBefore number (usable_around constrained macroblocks around)
usable_before constrained macroblocks number around before = record {
  left = usable_some constrained macroblocks (λ k. k < number) around.left before.left;
  above = usable_some constrained macroblocks (λ k. k < number) around.above before.above;
  above_right = usable_some constrained macroblocks (λ k. k < number) around.above_right before.above_right;
  above_left = usable_some constrained macroblocks (λ k. k < number) around.above_left before.above_left;
}

pub fewer_before : (m n : ℕ) (around : Around) → m ≤ n → AreBefore m around → AreBefore n around
fewer_before m n around le before = record {
  left = λ k e. omega (arith, before.left k e);
  above = λ k e. omega (arith, before.above k e);
  above_right = λ k e. omega (arith, before.above_right k e);
  above_left = λ k e. omega (arith, before.above_left k e);
}

pub length-slice_modes : (constrained : Bool) (first width : ℕ) (macroblocks : List Macroblock) (number : ℕ) → length (slice_modes constrained first width macroblocks number) ≡ number
unfolding slice_modes
length-slice_modes constrained first width macroblocks zero = refl
length-slice_modes constrained first width macroblocks (suc number) = grind (arith, length-append {A = List ℕ}, length-slice_modes constrained first width macroblocks number)

pub next_slice_modes : (constrained : Bool) (first width : ℕ) (macroblocks : List Macroblock) (number : ℕ)
    → slice_modes constrained first width macroblocks number ++ next_modes constrained first width macroblocks (slice_modes constrained first width macroblocks number) number ∷ []
    ≡ slice_modes constrained first width macroblocks (number + 1)
unfolding slice_modes
next_slice_modes constrained first width macroblocks number =
    let next : suc number ≡ number + 1 = omega arith in
    ap (slice_modes constrained first width macroblocks) next
