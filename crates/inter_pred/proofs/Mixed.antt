-- Samples between four whole ones, which are mixed across first.
use Rattle.std.proofs.Common.{◌≡◌, ℕ, ◌+◌, ◌-◌, ◌*◌, ◌/◌, ◌<◌, ◌≤◌, List, length, get_or, replicate, Fits, w8, ap, ◌∙◌, arith}
use lib.Lanes.{Each1}
use Rattle.std.proofs.lemmas.Simd.{Each1-from_get_or}
use Rattle.std.proofs.lemmas.Nat.{mul-le}
use Rattle.inter_pred.specs.Chroma.{eighth}
use Rattle.inter_pred.proofs.LaneLemmas.{Lane, add_lane, all, itself, mul_lane, renamed, shr_lane, w_add, w_mul, w_shr}

mixed_le : (x y p q n : ℕ) → y + x ≡ 8 → p ≤ n → q ≤ n → y * p + x * q ≤ 8 * n
mixed_le x y p q n e p_le q_le = omega (arith, mul-le y p y n (omega arith) p_le, mul-le x q x n (omega arith) q_le, ap (λ z. z * n) e)

-- a mix across fits, and so does one of two
pub across_le : (x p q : ℕ) → x < 8 → p < 256 → q < 256 → (8 - x) * p + x * q ≤ 2040
across_le x p q lt p_fits q_fits = mixed_le x (8 - x) p q 255 (omega arith) (omega arith) (omega arith)

pub both_le : (x y p q r s : ℕ) → x < 8 → y < 8 → p < 256 → q < 256 → r < 256 → s < 256 → (8 - y) * ((8 - x) * p + x * q) + y * ((8 - x) * r + x * s) ≤ 16320
both_le x y p q r s x_lt y_lt p_fits q_fits r_fits s_fits =
    mixed_le y (8 - y) ((8 - x) * p + x * q) ((8 - x) * r + x * s) 2040 (omega arith) (across_le x p q x_lt p_fits q_fits) (across_le x r s x_lt r_fits s_fits)

apart : (x x' y y' p q r s : ℕ) → y' * (x' * p + x * q) + y * (x' * r + x * s) ≡ x' * y' * p + x * y' * q + x' * y * r + x * y * s
apart x x' y y' p q r s = omega arith

pub mixed : (x y p q r s : ℕ) → ((8 - y) * ((8 - x) * p + x * q) + y * ((8 - x) * r + x * s) + 32) / 64 ≡ eighth x y p q r s
unfolding eighth
mixed x y p q r s = ap (λ n. (n + 32) / 64) (apart x (8 - x) y (8 - y) p q r s)

-- four vectors, mixed
abbrev pub mixed_of : ℕ → ℕ → List ℕ → List ℕ → List ℕ → List ℕ → List ℕ
mixed_of x y p q r s = w_shr (w_add (w_add (w_mul (w_add (w_mul p (8 - x)) (w_mul q x)) (8 - y)) (w_mul (w_add (w_mul r (8 - x)) (w_mul s x)) y)) (replicate 8 32)) 6

turned : (x x' y y' p q r s : ℕ) → (p * x' + q * x) * y' + (r * x' + s * x) * y ≡ y' * (x' * p + x * q) + y * (x' * r + x * s)
turned x x' y y' p q r s = omega arith

swapped : (x x' p q : ℕ) → p * x' + q * x ≡ x' * p + x * q
swapped x x' p q = omega arith

part_le : (x y p n : ℕ) → p ≤ n → x ≤ 8 → p * x ≤ 8 * n
part_le x y p n p_le x_le = omega (arith, mul-le p x n 8 p_le x_le)

pub mixed_lane : (k x y p q r s : ℕ) (vp vq vr vs : List ℕ) → Lane k vp p → Lane k vq q → Lane k vr r → Lane k vs s → x < 8 → y < 8 → p < 256 → q < 256 → r < 256 → s < 256 → Lane k (mixed_of x y vp vq vr vs) (eighth x y p q r s)
mixed_lane k x y p q r s vp vq vr vs lp lq lr ls x_lt y_lt p_fits q_fits r_fits s_fits =
    let upper_le : p * (8 - x) + q * x ≤ 2040 = omega (arith, swapped x (8 - x) p q, across_le x p q x_lt p_fits q_fits) in
    let lower_le : r * (8 - x) + s * x ≤ 2040 = omega (arith, swapped x (8 - x) r s, across_le x r s x_lt r_fits s_fits) in
    let upper_part : (p * (8 - x) + q * x) * (8 - y) ≤ 16320 = part_le (8 - y) 0 (p * (8 - x) + q * x) 2040 upper_le (omega arith) in
    let lower_part : (r * (8 - x) + s * x) * y ≤ 16320 = part_le y 0 (r * (8 - x) + s * x) 2040 lower_le (omega arith) in
    let upper = add_lane (mul_lane (8 - x) lp (omega arith)) (mul_lane x lq (omega arith)) (omega arith) in
    let lower = add_lane (mul_lane (8 - x) lr (omega arith)) (mul_lane x ls (omega arith)) (omega arith) in
    let sum = add_lane (mul_lane (8 - y) upper (omega arith)) (mul_lane y lower (omega arith)) (omega arith) in
    renamed (shr_lane 6 (add_lane sum (all k 32 lp.within) (omega arith))) (eighth x y p q r s)
    (ap (λ n. (n + 32) / 64) (turned x (8 - x) y (8 - y) p q r s) ∙ mixed x y p q r s)

pub eighth_le : (x y p q r s : ℕ) → x < 8 → y < 8 → p < 256 → q < 256 → r < 256 → s < 256 → eighth x y p q r s < 256
eighth_le x y p q r s x_lt y_lt p_fits q_fits r_fits s_fits = omega (arith, mixed x y p q r s, both_le x y p q r s x_lt y_lt p_fits q_fits r_fits s_fits)

-- mixes of samples are samples
pub mixed_fits : (x y : ℕ) (vp vq vr vs : List ℕ) → x < 8 → y < 8 → length vp ≡ 8 → length vq ≡ 8 → length vr ≡ 8 → length vs ≡ 8
    → ((k : ℕ) → k < 8 → get_or vp k 0 < 256) → ((k : ℕ) → k < 8 → get_or vq k 0 < 256) → ((k : ℕ) → k < 8 → get_or vr k 0 < 256) → ((k : ℕ) → k < 8 → get_or vs k 0 < 256)
    → Each1 (Fits w8) (mixed_of x y vp vq vr vs)
mixed_fits x y vp vq vr vs x_lt y_lt p_count q_count r_count s_count p_fits q_fits r_fits s_fits =
    let at = λ (k : ℕ) (lt : k < 8). mixed_lane k x y (get_or vp k 0) (get_or vq k 0) (get_or vr k 0) (get_or vs k 0) vp vq vr vs (itself vp k p_count lt) (itself vq k q_count lt) (itself vr k r_count lt) (itself vs k s_count lt) x_lt y_lt (p_fits k lt) (q_fits k lt) (r_fits k lt) (s_fits k lt) in
    let long = (at 0 (omega arith)).count in
    Each1-from_get_or (Fits w8) (mixed_of x y vp vq vr vs) 0
    (λ k lt.
    let within : k < 8 = omega arith in
    record { fits = omega (arith, (at k within).here, eighth_le x y (get_or vp k 0) (get_or vq k 0) (get_or vr k 0) (get_or vs k 0) x_lt y_lt (p_fits k within) (q_fits k within) (r_fits k within) (s_fits k within)) })
