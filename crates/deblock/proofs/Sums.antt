-- The sums of the filter, which fit 32 bits, as the code keeps them.
use Rattle.std.proofs.Common.{◌≡◌, ℕ, ◌+◌, ◌*◌, ◌/◌, ◌^◌, ◌<◌, ◌≤◌, ℤ, pos, negsuc, ◌+ℤ◌, ◌-ℤ◌, ◌*ℤ◌, FitsSigned, to_z, of_z, w32, ap, ◌∙◌, arith}
use Rattle.std.specs.Prelude.{unsigned_abs}
use Rattle.std.specs.Int.{int_max, int_min}
use Rattle.std.proofs.lemmas.Int.{clamps, ints, to_z-of_z}
use lib.Signed.{mag_shr, shr_z}
use Rattle.deblock.specs.Filters.{clip1, delta, second, within}
use Rattle.deblock.specs.declared.line.Filter.{Filter}
use Rattle.deblock.specs.declared.line.Side.{Side}

abbrev pub kept : ℤ → ℤ
kept z = to_z w32 (of_z w32 z)

clamp_same : (l l' m m' h h' : ℤ) → l ≡ l' → m ≡ m' → h ≡ h' → int_max l (int_min m h) ≡ int_max l' (int_min m' h')
clamp_same l l' m m' h h' e f g = ap (λ x. int_max x (int_min m h)) e ∙ (ap (λ x. int_max l' (int_min x h)) f ∙ ap (λ x. int_max l' (int_min m' x)) g)

low_is : (tc : ℕ) → tc ≤ 27 → kept (pos 0 -ℤ to_z w32 tc) ≡ pos 0 -ℤ pos tc
low_is tc h = omega (arith, ints)

high_is : (tc : ℕ) → tc ≤ 27 → to_z w32 tc ≡ pos tc
high_is tc h = omega (arith, ints)

shift_is : (z : ℤ) (m : ℕ) → FitsSigned w32 z → kept (shr_z z m) ≡ shr_z z m
shift_is z m fits = to_z-of_z w32 (shr_z z m) (record { sfits = omega (arith, mag_shr z m, fits.sfits) })

-- what the code shifts for delta
abbrev pub raw_delta : ℕ → ℕ → ℕ → ℕ → ℤ
raw_delta p1 p0 q0 q1 = ((pos 4 *ℤ (pos q0 -ℤ pos p0)) +ℤ (pos p1 -ℤ pos q1)) +ℤ pos 4

raw_is : (p1 p0 q0 q1 : ℕ) (a b c d : ℤ) → p1 < 2 ^ 8 → p0 < 2 ^ 8 → q0 < 2 ^ 8 → q1 < 2 ^ 8 → a ≡ pos q0 → b ≡ pos p0 → c ≡ pos p1 → d ≡ pos q1
    → kept (kept (kept (pos 4 *ℤ kept (kept a -ℤ kept b)) +ℤ kept (kept c -ℤ kept d)) +ℤ pos 4) ≡ raw_delta p1 p0 q0 q1
raw_is p1 p0 q0 q1 a b c d h1 h2 h3 h4 ea eb ec ed = omega (arith, ints)

raw_small : (p1 p0 q0 q1 : ℕ) → p1 < 2 ^ 8 → p0 < 2 ^ 8 → q0 < 2 ^ 8 → q1 < 2 ^ 8 → FitsSigned w32 (raw_delta p1 p0 q0 q1)
raw_small p1 p0 q0 q1 h1 h2 h3 h4 = omega (arith, ints)

pub delta_is : (tc p1 p0 q0 q1 : ℕ) (a b c d r : ℤ) → tc ≤ 27 → p1 < 2 ^ 8 → p0 < 2 ^ 8 → q0 < 2 ^ 8 → q1 < 2 ^ 8 → a ≡ pos q0 → b ≡ pos p0 → c ≡ pos p1 → d ≡ pos q1 → FitsSigned w32 r
    → r ≡ int_max (kept (pos 0 -ℤ to_z w32 tc)) (int_min (kept (shr_z (kept (kept (kept (pos 4 *ℤ kept (kept a -ℤ kept b)) +ℤ kept (kept c -ℤ kept d)) +ℤ pos 4)) 8)) (to_z w32 tc))
    → kept r ≡ delta tc p1 p0 q0 q1
unfolding delta
delta_is tc p1 p0 q0 q1 a b c d r htc h1 h2 h3 h4 ea eb ec ed fits is =
    to_z-of_z w32 r fits
    ∙ (is ∙ clamp_same _ _ _ _ _ _ (low_is tc htc)
    (ap (λ z. kept (shr_z z 8)) (raw_is p1 p0 q0 q1 a b c d h1 h2 h3 h4 ea eb ec ed) ∙ shift_is (raw_delta p1 p0 q0 q1) 8 (raw_small p1 p0 q0 q1 h1 h2 h3 h4))
    (high_is tc htc))

-- what the code shifts for the second sample
abbrev pub raw_rise : ℕ → ℕ → ℕ → ℕ → ℤ
raw_rise s2 s1 s0 o0 = (pos s2 +ℤ pos ((s0 + o0 + 1) / 2)) -ℤ pos (2 * s1)

rise_is : (s2 s1 s0 o0 x y : ℕ) (a b : ℤ) → s2 < 2 ^ 8 → s1 < 2 ^ 8 → s0 < 2 ^ 8 → o0 < 2 ^ 8 → x ≡ s0 → y ≡ o0 → a ≡ pos s2 → b ≡ pos s1
    → kept (kept (kept a +ℤ to_z w32 ((x + y + 1) / 2)) -ℤ kept (pos 2 *ℤ kept b)) ≡ raw_rise s2 s1 s0 o0
rise_is s2 s1 s0 o0 x y a b h2 h1 h0 ho ex ey ea eb = omega (arith, ints)

rise_small : (s2 s1 s0 o0 : ℕ) → s2 < 2 ^ 8 → s1 < 2 ^ 8 → s0 < 2 ^ 8 → o0 < 2 ^ 8 → FitsSigned w32 (raw_rise s2 s1 s0 o0)
rise_small s2 s1 s0 o0 h2 h1 h0 ho = omega (arith, ints)

clamped : (z r : ℤ) → r ≡ int_max (pos 0) (int_min z (pos 255)) → unsigned_abs (kept r) ≡ clip1 z
clamped (pos n) r is = omega (arith, ints, clamps)
clamped (negsuc n) r is = omega (arith, ints, clamps)

sum_is : (s : ℕ) (a d : ℤ) → s < 2 ^ 8 → unsigned_abs d ≤ 27 → a ≡ pos s → kept (kept a +ℤ kept d) ≡ pos s +ℤ d
sum_is s a d h hd ea = omega (arith, ints)

within_small : (c : ℕ) (z : ℤ) → c ≤ 27 → unsigned_abs (within c z) ≤ 27
within_small c z h = omega (arith, ints, clamps)

pub second_is : (f : Filter) (own other : Side) (x y : ℕ) (a b e d r : ℤ) → f.tc0 ≤ 25 → own.s2 < 2 ^ 8 → own.s1 < 2 ^ 8 → own.s0 < 2 ^ 8 → other.s0 < 2 ^ 8 → x ≡ own.s0 → y ≡ other.s0 → a ≡ pos own.s2 → b ≡ pos own.s1 → e ≡ pos own.s1
    → d ≡ int_max (kept (pos 0 -ℤ to_z w32 f.tc0)) (int_min (kept (shr_z (kept (kept (kept a +ℤ to_z w32 ((x + y + 1) / 2)) -ℤ kept (pos 2 *ℤ kept b))) 2)) (to_z w32 f.tc0))
    → r ≡ int_max (pos 0) (int_min (kept (kept e +ℤ kept d)) (pos 255))
    → unsigned_abs (kept r) ≡ second f own other
unfolding second
second_is f own other x y a b e d r htc h2 h1 h0 ho ex ey ea eb ee is_d is_r =
    let few : f.tc0 ≤ 27 = omega arith in
    let raw : ℤ = raw_rise own.s2 own.s1 own.s0 other.s0 in
    let d_is : d ≡ within f.tc0 (shr_z raw 2) =
    is_d ∙ clamp_same _ _ _ _ _ _ (low_is f.tc0 few)
    (ap (λ z. kept (shr_z z 2)) (rise_is own.s2 own.s1 own.s0 other.s0 x y a b h2 h1 h0 ho ex ey ea eb) ∙ shift_is raw 2 (rise_small own.s2 own.s1 own.s0 other.s0 h2 h1 h0 ho))
    (high_is f.tc0 few) in
    let small : unsigned_abs d ≤ 27 = rw d_is (within_small f.tc0 (shr_z raw 2) few) in
    clamped (pos own.s1 +ℤ d) r (is_r ∙ ap (λ z. int_max (pos 0) (int_min z (pos 255))) (sum_is own.s1 e d h1 small ee))
    ∙ ap (λ z. clip1 (pos own.s1 +ℤ z)) d_is
