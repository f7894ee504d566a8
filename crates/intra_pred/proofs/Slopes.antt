-- Plane prediction: the sums and the values of a row as the code keeps them.
use Rattle.std.proofs.Common.{◌≡◌, ℕ, zero, suc, ◌+◌, ◌-◌, ◌*◌, ◌^◌, ◌<◌, ◌≤◌, min, ℤ, pos, negsuc, neg_ℤ, ◌+ℤ◌, ◌-ℤ◌, ◌*ℤ◌, ◌≤ℤ◌, nat_abs, List, length, get_or, set, FitsSigned, unsigned_abs, to_z, of_z, w32, lit<, refl, sym, ap, ◌∙◌, subst, inl, inr, add-one, arith, get_or-set_other, get_or-set_same, below_more}
use Rattle.std.specs.Int.{int_max, int_min}
use Rattle.std.proofs.Math.IntN.{*ℤ-zero, *ℤ_comm, +ℤ_assoc, +ℤ_one, suc_ℤ-*ℤ}
use Rattle.std.proofs.lemmas.Bool.{cases_lt, le-ltb, lt-ltb}
use Rattle.std.proofs.lemmas.Int.{ints, to_z-of_z, unsigned_abs-mul}
use Rattle.std.proofs.lemmas.Nat.{mul-le}
use lib.Signed.{shr_z}
use Rattle.intra_pred.specs.Means.{clipped}
use Rattle.intra_pred.specs.Plane.{IsStep, plane_at, step, steepness, sum_to, value_at, weighted_at}

-- what the code keeps of a number
abbrev pub kept : ℤ → ℤ
kept z = to_z w32 (of_z w32 z)

pub kept_fits : (z : ℤ) → FitsSigned w32 z → kept z ≡ z
kept_fits z h = to_z-of_z w32 z h

-- from -n to n
pub record IsWithin (n : ℕ) (z : ℤ) : Type 0 where
  pub least : neg_ℤ (pos n) ≤ℤ z
  pub most : z ≤ℤ pos n

pub kept_within : (n : ℕ) (z : ℤ) → n < 2 ^ 31 → IsWithin n z → kept z ≡ z
kept_within n z small h = kept_fits z (omega (arith, ints))

pub within_kept : (n : ℕ) (z : ℤ) → n < 2 ^ 31 → IsWithin n z → IsWithin n (kept z)
within_kept n z small h = subst (IsWithin n) (sym (kept_within n z small h)) h

pub within_wider : (m n : ℕ) (z : ℤ) → m ≤ n → IsWithin m z → IsWithin n z
within_wider m n z h w = record { least = omega (arith, ints); most = omega (arith, ints) }

shifted_within : (z : ℤ) → IsWithin (2 ^ 22) z → IsWithin (2 ^ 22) (shr_z z 32)
shifted_within (pos n) w = record { least = omega (arith, ints); most = omega (arith, ints) }
shifted_within (negsuc n) w = record { least = omega (arith, ints); most = omega (arith, ints) }

-- ---- the clip

clamped_is : (z : ℤ) → nat_abs (kept (int_max (pos 0) (int_min z (pos 255)))) ≡ clipped z
clamped_is (pos n) = elim (cases_lt 255 n) [
  | inl above ↦ let e = lt-ltb 255 n above in rw e (omega arith)
  | inr inside ↦ let e = le-ltb 255 n inside in let f = le-ltb n 0 (omega arith) in rw (e, f) (inside_is n inside)
]
  where
    inside_is : (n : ℕ) → n ≤ 255 → nat_abs (kept (pos n)) ≡ min n 255
    inside_is n h = let k : kept (pos n) ≡ pos n = omega (arith, ints) in rw k (omega arith)
clamped_is (negsuc n) = refl

pub sample_is : (v f r : ℤ) → IsWithin (2 ^ 22) v → v ≡ f → r ≡ int_max (pos 0) (int_min (kept (shr_z v 32)) (pos 255)) → nat_abs (kept r) ≡ clipped (shr_z f 32)
sample_is v f r w e er =
    let k = kept_within (2 ^ 22) _ (lit< tt) (shifted_within v w) in
    ap (λ z. nat_abs (kept z)) er ∙ (ap (λ z. nat_abs (kept (int_max (pos 0) (int_min z (pos 255))))) k ∙ (clamped_is (shr_z v 32) ∙ ap (λ z. clipped (shr_z z 32)) e))

-- ---- a row

pub one_more : (s : ℤ) (x : ℕ) → s *ℤ pos (x + 1) ≡ s *ℤ pos x +ℤ s
one_more s x = *ℤ_comm s (pos (x + 1)) ∙ (ap (λ n. pos n *ℤ s) (add-one x) ∙ (suc_ℤ-*ℤ (pos x) s ∙ ap (λ z. z +ℤ s) (*ℤ_comm (pos x) s)))

pub value_more : (v f s : ℤ) (x : ℕ) → IsWithin (2 ^ 21) v → IsWithin (2 ^ 14) s → v ≡ f +ℤ s *ℤ pos x → kept (v +ℤ s) ≡ f +ℤ s *ℤ pos (x + 1)
value_more v f s x wv ws e =
    let k : kept (v +ℤ s) ≡ v +ℤ s = kept_fits _ (omega (arith, ints)) in
    k ∙ (ap (λ z. z +ℤ s) e ∙ (+ℤ_assoc f (s *ℤ pos x) s ∙ ap (λ z. f +ℤ z) (sym (one_more s x))))

pub low_more : (v s : ℤ) (x : ℕ) → x < 16 → IsWithin (2 ^ 20 + 2 ^ 14 * x) v → IsWithin (2 ^ 14) s → IsWithin (2 ^ 20 + 2 ^ 14 * (x + 1)) (kept (v +ℤ s))
low_more v s x h wv ws =
    let k : kept (v +ℤ s) ≡ v +ℤ s = kept_fits _ (omega (arith, ints)) in
    let m : IsWithin (2 ^ 20 + 2 ^ 14 * (x + 1)) (v +ℤ s) = record { least = omega (arith, ints); most = omega (arith, ints) } in
    subst (IsWithin (2 ^ 20 + 2 ^ 14 * (x + 1))) (sym k) m

pub row_more : (row : List ℕ) (x a : ℕ) (value : ℕ → ℕ) → x < length row → ((k : ℕ) → k < x → get_or row k 0 ≡ value k) → a ≡ value x → (k : ℕ) → k < x + 1 → get_or (set row x a) k 0 ≡ value k
row_more row x a value lt before now = below_more (λ k. get_or (set row x a) k 0 ≡ value k) x (λ k h. let ne : k ≡ x → ⊥ = λ e. omega arith in get_or-set_other_is row x a k ne ∙ before k h) (rw get_or-set_same now)
  where
    get_or-set_other_is : (row : List ℕ) (x a k : ℕ) → (k ≡ x → ⊥) → get_or (set row x a) k 0 ≡ get_or row k 0
    get_or-set_other_is row x a k ne = rw get_or-set_other

-- ---- how steep a side is

pub term_is : (half k : ℕ) (side : List ℕ) (corner : ℕ) → k + 1 < half → pos (k + 1) *ℤ (pos (get_or side (half + k) 0) -ℤ pos (get_or side (half - 2 - k) 0)) ≡ weighted_at half side corner (suc k)
term_is half k side corner h =
    let e1 : k + 1 ≡ suc k = add-one k in
    let e2 : half + suc k - 1 ≡ half + k = omega arith in
    let e3 : pos half -ℤ pos (suc k + 1) ≡ pos (half - 2 - k) = omega (arith, ints) in
    rw (e1, e2, e3)

pub sum_more : (half k : ℕ) (side : List ℕ) (corner : ℕ) (v w : ℤ) → k + 1 < half → half ≤ 8 → IsWithin (2040 * k) v → IsWithin 2040 w → v ≡ sum_to k (weighted_at half side corner)
    → w ≡ pos (k + 1) *ℤ (pos (get_or side (half + k) 0) -ℤ pos (get_or side (half - 2 - k) 0)) → kept (v +ℤ kept w) ≡ sum_to (k + 1) (weighted_at half side corner)
sum_more half k side corner v w h most wv ww ev ew =
    let kw = kept_within 2040 w (lit< tt) ww in
    let kv : kept (v +ℤ w) ≡ v +ℤ w = kept_fits _ (omega (arith, ints)) in
    let e : k + 1 ≡ suc k = add-one k in
    let now : w ≡ weighted_at half side corner (suc k) = ew ∙ term_is half k side corner h in
    ap (λ z. kept (v +ℤ z)) kw ∙ (kv ∙ (ap (λ z. z +ℤ w) ev ∙ (ap (λ z. sum_to k (weighted_at half side corner) +ℤ z) now ∙ ap (λ (n : ℕ). sum_to n (weighted_at half side corner)) (sym e))))

pub sum_within : (k : ℕ) (v w : ℤ) → k < 8 → IsWithin (2040 * k) v → IsWithin 2040 w → IsWithin (2040 * (k + 1)) (kept (v +ℤ kept w))
sum_within k v w h wv ww =
    let kw = kept_within 2040 w (lit< tt) ww in
    let kv : kept (v +ℤ w) ≡ v +ℤ w = kept_fits _ (omega (arith, ints)) in
    let m : IsWithin (2040 * (k + 1)) (v +ℤ w) = record { least = omega (arith, ints); most = omega (arith, ints) } in
    rw (kw, kv) m

last_is : (half k : ℕ) (side : List ℕ) (corner : ℕ) → half ≡ suc k → pos half *ℤ (pos (get_or side (2 * half - 1) 0) -ℤ pos corner) ≡ weighted_at half side corner half
last_is half k side corner e =
    let e2 : half + half - 1 ≡ 2 * half - 1 = omega arith in
    let e3 : pos half -ℤ pos (half + 1) ≡ negsuc 0 = omega (arith, ints) in
    rw (e2, e3)

pub steepness_is : (half k : ℕ) (side : List ℕ) (corner : ℕ) (v w : ℤ) → half ≡ suc k → half ≤ 8 → IsWithin (2040 * k) v → IsWithin 2040 w → v ≡ sum_to k (weighted_at half side corner)
    → w ≡ pos half *ℤ (pos (get_or side (2 * half - 1) 0) -ℤ pos corner) → kept (v +ℤ kept w) ≡ steepness half side corner
steepness_is half k side corner v w e most wv ww ev ew =
    let kw = kept_within 2040 w (lit< tt) ww in
    let kv : kept (v +ℤ w) ≡ v +ℤ w = kept_fits _ (omega (arith, ints)) in
    let now : w ≡ weighted_at half side corner half = ew ∙ last_is half k side corner e in
    let f : ℕ → ℤ = weighted_at half side corner in
    ap (λ z. kept (v +ℤ z)) kw ∙ (kv ∙ (ap (λ z. z +ℤ w) ev ∙ (ap (λ z. sum_to k f +ℤ z) (now ∙ ap f e) ∙ ap (λ (n : ℕ). sum_to n f) (sym e))))

-- ---- steps

pub within_step : (z : ℤ) → IsStep z → IsWithin (2 ^ 14) z
within_step z h = record { least = h.least; most = h.most }

abs_of : (n : ℕ) (z : ℤ) → IsWithin n z → unsigned_abs z ≤ n
abs_of n (pos a) w = omega (arith, ints)
abs_of n (negsuc a) w = omega (arith, ints)

within_of : (n : ℕ) (z : ℤ) → unsigned_abs z ≤ n → IsWithin n z
within_of n (pos a) h = record { least = omega (arith, ints); most = omega (arith, ints) }
within_of n (negsuc a) h = record { least = omega (arith, ints); most = omega (arith, ints) }

pub product_within : (m n : ℕ) (a b : ℤ) → IsWithin m a → IsWithin n b → IsWithin (m * n) (a *ℤ b)
product_within m n a b wa wb = within_of (m * n) (a *ℤ b) (rw (unsigned_abs-mul a b) (mul-le _ _ _ _ (abs_of m a wa) (abs_of n b wb)))

shifted_by_64 : (z : ℤ) → IsWithin (2 ^ 20) z → IsWithin (2 ^ 14) (shr_z z 64)
shifted_by_64 (pos n) w = record { least = omega (arith, ints); most = omega (arith, ints) }
shifted_by_64 (negsuc n) w = record { least = omega (arith, ints); most = omega (arith, ints) }

pub step_small : (factor : ℕ) (s : ℤ) → factor ≤ 34 → IsWithin 16320 s → IsWithin (2 ^ 14) (kept (shr_z (kept (kept (to_z w32 factor *ℤ kept s) +ℤ pos 32)) 64))
step_small factor s h ws =
    let kf : to_z w32 factor ≡ pos factor = omega (arith, ints) in
    let wf : IsWithin 34 (pos factor) = record { least = omega (arith, ints); most = omega (arith, ints) } in
    let ks = kept_within 16320 s (lit< tt) ws in
    let product = product_within 34 16320 (pos factor) s wf ws in
    let kp = kept_within _ (pos factor *ℤ s) (lit< tt) product in
    let sum : IsWithin (2 ^ 20) (pos factor *ℤ s +ℤ pos 32) = record { least = omega (arith, ints); most = omega (arith, ints) } in
    let ksum = kept_within (2 ^ 20) _ (lit< tt) sum in
    rw (kf, ks, kp, ksum) (within_kept (2 ^ 14) _ (lit< tt) (shifted_by_64 _ sum))

pub back_fits : (count : ℕ) (s : ℤ) → count ≤ 7 → IsWithin (2 ^ 14) s → (kept (kept s *ℤ kept (pos 0 -ℤ to_z w32 count)) ≡ s *ℤ (pos 0 -ℤ pos count)) × IsWithin (7 * 2 ^ 14) (kept (kept s *ℤ kept (pos 0 -ℤ to_z w32 count)))
back_fits count s h ws =
    let ks = kept_within (2 ^ 14) s (lit< tt) ws in
    let kc : kept (pos 0 -ℤ to_z w32 count) ≡ pos 0 -ℤ pos count = omega (arith, ints) in
    let wc : IsWithin 7 (pos 0 -ℤ pos count) = record { least = omega (arith, ints); most = omega (arith, ints) } in
    let product : IsWithin (7 * 2 ^ 14) (s *ℤ (pos 0 -ℤ pos count)) = product_within (2 ^ 14) 7 s (pos 0 -ℤ pos count) ws wc in
    let kp = kept_within (7 * 2 ^ 14) _ (lit< tt) product in
    let is : kept (kept s *ℤ kept (pos 0 -ℤ to_z w32 count)) ≡ s *ℤ (pos 0 -ℤ pos count) = rw (ks, kc) kp in
    (is, subst (IsWithin (7 * 2 ^ 14)) (sym is) product)

-- ---- the first value of a block

pub record IsFirst (a : ℕ) (b c : ℤ) : Type 0 where
  pub second_fits : FitsSigned w32 (kept (to_z w32 a +ℤ kept b) +ℤ kept c)
  pub third_fits : FitsSigned w32 (kept (kept (to_z w32 a +ℤ kept b) +ℤ kept c) +ℤ pos 16)
  pub is : kept (kept (kept (to_z w32 a +ℤ kept b) +ℤ kept c) +ℤ pos 16) ≡ pos a +ℤ b +ℤ c +ℤ pos 16
  pub within : IsWithin (2 ^ 18) (kept (kept (kept (to_z w32 a +ℤ kept b) +ℤ kept c) +ℤ pos 16))

pub first_is : (a : ℕ) (b c : ℤ) → a ≤ 8160 → IsWithin (7 * 2 ^ 14) b → IsWithin (7 * 2 ^ 14) c → IsFirst a b c
first_is a b c h wb wc =
    let ka : to_z w32 a ≡ pos a = omega (arith, ints) in
    let kb = kept_within (7 * 2 ^ 14) b (lit< tt) wb in
    let kc = kept_within (7 * 2 ^ 14) c (lit< tt) wc in
    let first : IsWithin (2 ^ 17) (pos a +ℤ b) = record { least = omega (arith, ints); most = omega (arith, ints) } in
    let kfirst = kept_within (2 ^ 17) _ (lit< tt) first in
    let second : IsWithin (2 ^ 18 - 16) (pos a +ℤ b +ℤ c) = record { least = omega (arith, ints); most = omega (arith, ints) } in
    let ksecond = kept_within (2 ^ 18 - 16) _ (lit< tt) second in
    let third : IsWithin (2 ^ 18) (pos a +ℤ b +ℤ c +ℤ pos 16) = record { least = omega (arith, ints); most = omega (arith, ints) } in
    let is : kept (kept (kept (to_z w32 a +ℤ kept b) +ℤ kept c) +ℤ pos 16) ≡ pos a +ℤ b +ℤ c +ℤ pos 16 = rw (ka, kb, kc, kfirst, ksecond) (kept_within (2 ^ 18) _ (lit< tt) third) in
    record {
      second_fits = rw (ka, kb, kc, kfirst) (omega (arith, ints));
      third_fits = rw (ka, kb, kc, kfirst, ksecond) (omega (arith, ints));
      is = is;
      within = subst (IsWithin (2 ^ 18)) (sym is) third;
    }

pub first_value : (half a a' : ℕ) (b c across down : ℤ) → a ≡ a' → IsWithin (2 ^ 14) across → IsWithin (2 ^ 14) down → b ≡ kept across *ℤ (pos 0 -ℤ pos (half - 1)) → c ≡ kept down *ℤ (pos 0 -ℤ pos (half - 1))
    → pos a +ℤ b +ℤ c +ℤ pos 16 ≡ value_at half (pos a') across down 0 0
first_value half a a' b c across down ea wa wd eb ec =
    let ka = kept_within (2 ^ 14) across (lit< tt) wa in
    let kd = kept_within (2 ^ 14) down (lit< tt) wd in
    rw (ea, eb, ec, ka, kd)

-- ---- from a sample to the next, and from a row to the next

more_one : (b z : ℤ) → b *ℤ (z +ℤ pos 1) ≡ b *ℤ z +ℤ b
more_one b z = *ℤ_comm b (z +ℤ pos 1) ∙ (ap (λ w. w *ℤ b) (+ℤ_one z) ∙ (suc_ℤ-*ℤ z b ∙ ap (λ w. w +ℤ b) (*ℤ_comm z b)))

next_from : (x h : ℕ) → pos (x + 1) -ℤ pos h ≡ (pos x -ℤ pos h) +ℤ pos 1
next_from x h = omega (arith, ints)

across_more : (b : ℤ) (x h : ℕ) → b *ℤ (pos (x + 1) -ℤ pos h) ≡ b *ℤ (pos x -ℤ pos h) +ℤ b
across_more b x h = ap (λ z. b *ℤ z) (next_from x h) ∙ more_one b (pos x -ℤ pos h)

regroup : (p q r s : ℤ) → p +ℤ q ≡ r → p +ℤ (q +ℤ s) ≡ r +ℤ s
regroup p q r s e = omega (arith, ints)

spread : (b : ℤ) (h x : ℕ) → b *ℤ (pos 0 -ℤ pos h) +ℤ b *ℤ pos x ≡ b *ℤ (pos x -ℤ pos h)
spread b h zero = let e = *ℤ-zero b in rw e (omega (arith, ints))
spread b h (suc x) =
    let e : suc x ≡ x + 1 = sym (add-one x) in
    let before = spread b h x in
    let one = one_more b x in
    let more = across_more b x h in
    rw (e, one, more) (regroup _ _ _ b before)

in_order : (a p c q r : ℤ) → p +ℤ q ≡ r → (a +ℤ p +ℤ c +ℤ pos 16) +ℤ q ≡ a +ℤ r +ℤ c +ℤ pos 16
in_order a p c q r e = omega (arith, ints)

along_row : (half : ℕ) (a b c : ℤ) (x y : ℕ) → value_at half a b c 0 y +ℤ b *ℤ pos x ≡ value_at half a b c x y
along_row half a b c x y = in_order a (b *ℤ (pos 0 -ℤ pos (half - 1))) (c *ℤ (pos y -ℤ pos (half - 1))) (b *ℤ pos x) (b *ℤ (pos x -ℤ pos (half - 1))) (spread b (half - 1) x)

in_turn : (a b p c r : ℤ) → p +ℤ c ≡ r → (a +ℤ b +ℤ p +ℤ pos 16) +ℤ c ≡ a +ℤ b +ℤ r +ℤ pos 16
in_turn a b p c r e = omega (arith, ints)

down_more : (half : ℕ) (a b c : ℤ) (y : ℕ) → value_at half a b c 0 y +ℤ c ≡ value_at half a b c 0 (y + 1)
down_more half a b c y = in_turn a (b *ℤ (pos 0 -ℤ pos (half - 1))) (c *ℤ (pos y -ℤ pos (half - 1))) c (c *ℤ (pos (y + 1) -ℤ pos (half - 1))) (sym (across_more c y (half - 1)))

pub first_more : (half : ℕ) (a b c v d : ℤ) (y : ℕ) → IsWithin (2 ^ 20) v → IsWithin (2 ^ 14) d → v ≡ value_at half a b c 0 y → d ≡ c → kept (v +ℤ kept d) ≡ value_at half a b c 0 (y + 1)
first_more half a b c v d y wv wd ev ed =
    let kd = kept_within (2 ^ 14) d (lit< tt) wd in
    let k : kept (v +ℤ d) ≡ v +ℤ d = kept_fits _ (omega (arith, ints)) in
    ap (λ z. kept (v +ℤ z)) kd ∙ (k ∙ (ap (λ z. z +ℤ d) ev ∙ (ap (λ z. value_at half a b c 0 y +ℤ z) ed ∙ down_more half a b c y)))

pub first_within : (y : ℕ) (v d : ℤ) → y < 16 → IsWithin (2 ^ 18 + 2 ^ 14 * y) v → IsWithin (2 ^ 14) d → IsWithin (2 ^ 18 + 2 ^ 14 * (y + 1)) (kept (v +ℤ kept d))
first_within y v d h wv wd =
    let kd = kept_within (2 ^ 14) d (lit< tt) wd in
    let k : kept (v +ℤ d) ≡ v +ℤ d = kept_fits _ (omega (arith, ints)) in
    let m : IsWithin (2 ^ 18 + 2 ^ 14 * (y + 1)) (v +ℤ d) = record { least = omega (arith, ints); most = omega (arith, ints) } in
    rw (kd, k) m

pub next_fits : (v d : ℤ) → IsWithin (2 ^ 20) v → IsWithin (2 ^ 14) d → FitsSigned w32 (v +ℤ kept d)
next_fits v d wv wd =
    let kd = kept_within (2 ^ 14) d (lit< tt) wd in
    rw kd (omega (arith, ints))

-- a sample of a row
pub plane_sample : (half factor : ℕ) (left top : List ℕ) (corner : ℕ) (v s : ℤ) (x y : ℕ) → IsWithin (2 ^ 14) s → s ≡ step half factor top corner
    → v ≡ value_at half (pos (16 * (get_or left (2 * half - 1) 0 + get_or top (2 * half - 1) 0))) (step half factor top corner) (step half factor left corner) 0 y
    → clipped (shr_z (v +ℤ kept s *ℤ pos x) 32) ≡ plane_at half factor left top corner x y
unfolding plane_at
plane_sample half factor left top corner v s x y ws es ev =
    let ks = kept_within (2 ^ 14) s (lit< tt) ws in
    let a : ℤ = pos (16 * (get_or left (2 * half - 1) 0 + get_or top (2 * half - 1) 0)) in
    let b : ℤ = step half factor top corner in
    let c : ℤ = step half factor left corner in
    rw ks (ap (λ z. clipped (shr_z z 32)) (ap (λ z. z +ℤ s *ℤ pos x) ev ∙ (ap (λ z. value_at half a b c 0 y +ℤ z *ℤ pos x) es ∙ along_row half a b c x y)))
