-- Where the neighbours of a macroblock lie.
use Rattle.std.proofs.Common.{◌≡◌, ℕ, zero, suc, ◌+◌, ◌-◌, ◌*◌, ◌/◌, ◌%◌, ◌<◌, ◌≤◌, ◌⊎◌, ◌&&◌, Bool, true, false, nat_le, nat_lt, if◌then◌else◌, Some, None, MatchOption, inl, inr, refl, subst, arith}
use Rattle.std.proofs.lemmas.Bool.{leb-true, ltb-true}
use Rattle.std.proofs.lemmas.Bool.Decides.{leb_tells, nat_tests}
use Rattle.std.proofs.lemmas.Nat.{div-add-mod', div-mul-add, mod-mul-add}
use Rattle.std.proofs.Math.Nat.{div-eq_of_lt, suc-mul}
use Rattle.cb_types.specs.Neighbours.{neighbour_a, neighbour_b, neighbour_c, neighbour_d, LiesAt}

-- a macroblock lies where its address says
pub lies_at : (width row column mb : ℕ) → column < width → row * width + column ≡ mb → LiesAt width mb column row
lies_at width row column mb inside e = subst (λ (n : ℕ). LiesAt width n column row) e (mod-mul-add row width column inside, div-mul-add row width column inside)

-- a choice between a value and none
match_if : (b : Bool) (x : ℕ) (P : Type 0) (Q : ℕ → Type 0) → (b ≡ false → P) → (b ≡ true → Q x) → MatchOption (if b then Some x else None) P Q
match_if b x P Q miss hit = elim b as (λ (d : Bool). (d ≡ false → P) → (d ≡ true → Q x) → MatchOption (if d then Some x else None) P Q) [ true ↦ (λ n y. y refl) | false ↦ (λ n y. n refl) ] miss hit

both : (a b : Bool) → (a && b) ≡ true → (a ≡ true) × (b ≡ true)
both true b e = (refl, e)
both false b e = absurd cc

either : (a b : Bool) → (a && b) ≡ false → (a ≡ false) ⊎ (b ≡ false)
either true b e = inr e
either false b e = inl refl

-- the row above: its number, and the address in it
row_above : (width mb row column : ℕ) → row * width + column ≡ mb → column < width → width ≤ mb → (1 ≤ row) × ((row - 1) * width + column ≡ mb - width)
row_above width mb zero column at low above = absurd (omega arith)
row_above width mb (suc row) column at low above =
    let less : suc row - 1 ≡ row = omega arith in
    (omega arith, rw less (omega (arith, suc-mul row width)))

-- the first row
first_row : (width mb : ℕ) → mb < width → mb / width ≡ 0
first_row width mb h = div-eq_of_lt h

-- the next column, where it isn't outside
next_column : (width mb : ℕ) → 1 ≤ width → 0 < (mb + 1) % width → mb % width + 1 < width
next_column width mb some inside = elim (leb_tells width (mb % width + 1)) [
  | inl last ↦ absurd (
      let low : mb % width < width = omega arith in
      let whole : (mb / width + 1) * width + 0 ≡ mb + 1 = omega (arith, div-add-mod' mb width, last.1) in
      let none = (lies_at width (mb / width + 1) 0 (mb + 1) some whole).0 in
      omega arith)
  | inr more ↦ more.1
]

-- the last column
last_column : (width mb : ℕ) → 1 ≤ width → (mb + 1) % width ≡ 0 → mb % width + 1 ≡ width
last_column width mb some outside = elim (leb_tells width (mb % width + 1)) [
  | inl last ↦ (let low : mb % width < width = omega arith in omega (arith, last.1))
  | inr more ↦ absurd (
      let here = (lies_at width (mb / width) (mb % width + 1) (mb + 1) more.1 (omega (arith, div-add-mod' mb width))).0 in
      omega arith)
]

pub a_lies : (width mb : ℕ) → 1 ≤ width → MatchOption (neighbour_a width mb) (mb % width ≡ 0) (λ a. (1 ≤ mb % width) × LiesAt width a (mb % width - 1) (mb / width))
a_lies width mb some = match_if (nat_lt 0 (mb % width)) (mb - 1) _ _
    (λ miss. grind (arith, nat_tests, miss))
    (λ hit. let left : 0 < mb % width = ltb-true _ _ hit in
    let low : mb % width < width = omega arith in
    (omega arith, lies_at width (mb / width) (mb % width - 1) (mb - 1) (omega arith) (omega (arith, div-add-mod' mb width))))

pub b_lies : (width mb : ℕ) → 1 ≤ width → MatchOption (neighbour_b width mb) (mb / width ≡ 0) (λ b. (1 ≤ mb / width) × LiesAt width b (mb % width) (mb / width - 1))
b_lies width mb some = match_if (nat_le width mb) (mb - width) _ _
    (λ miss. first_row width mb (grind (arith, nat_tests, miss)))
    (λ hit. let above : width ≤ mb = leb-true _ _ hit in
    let low : mb % width < width = omega arith in
    let up = row_above width mb (mb / width) (mb % width) (div-add-mod' mb width) low above in
    (up.0, lies_at width (mb / width - 1) (mb % width) (mb - width) low up.1))

pub c_lies : (width mb : ℕ) → 1 ≤ width → MatchOption (neighbour_c width mb) ((mb / width ≡ 0) ⊎ (mb % width + 1 ≡ width)) (λ c.
    (1 ≤ mb / width) × (mb % width + 1 < width) × LiesAt width c (mb % width + 1) (mb / width - 1))
c_lies width mb some = match_if (nat_le width mb && nat_lt 0 ((mb + 1) % width)) (mb - width + 1) _ _
    (λ miss. elim (either (nat_le width mb) (nat_lt 0 ((mb + 1) % width)) miss) [
      | inl below ↦ inl (first_row width mb (grind (arith, nat_tests, below)))
      | inr last ↦ inr (last_column width mb some (grind (arith, nat_tests, last)))
    ])
    (λ hit. let parts = both (nat_le width mb) (nat_lt 0 ((mb + 1) % width)) hit in
    let above : width ≤ mb = leb-true _ _ parts.0 in
    let low : mb % width < width = omega arith in
    let up = row_above width mb (mb / width) (mb % width) (div-add-mod' mb width) low above in
    let inside = next_column width mb some (ltb-true _ _ parts.1) in
    (up.0, inside, lies_at width (mb / width - 1) (mb % width + 1) (mb - width + 1) inside (omega (arith, up.1))))

pub d_lies : (width mb : ℕ) → 1 ≤ width → MatchOption (neighbour_d width mb) ((mb / width ≡ 0) ⊎ (mb % width ≡ 0)) (λ d.
    (1 ≤ mb / width) × (1 ≤ mb % width) × LiesAt width d (mb % width - 1) (mb / width - 1))
d_lies width mb some = match_if (nat_le width mb && nat_lt 0 (mb % width)) (mb - width - 1) _ _
    (λ miss. elim (either (nat_le width mb) (nat_lt 0 (mb % width)) miss) [
      | inl below ↦ inl (first_row width mb (grind (arith, nat_tests, below)))
      | inr first ↦ inr (grind (arith, nat_tests, first))
    ])
    (λ hit. let parts = both (nat_le width mb) (nat_lt 0 (mb % width)) hit in
    let above : width ≤ mb = leb-true _ _ parts.0 in
    let low : mb % width < width = omega arith in
    let left : 1 ≤ mb % width = ltb-true _ _ parts.1 in
    let up = row_above width mb (mb / width) (mb % width) (div-add-mod' mb width) low above in
    (up.0, left, lies_at width (mb / width - 1) (mb % width - 1) (mb - width - 1) (omega arith) (omega (arith, up.1))))
