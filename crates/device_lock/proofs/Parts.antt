-- Shares, in parts of a common power of two.
use Rattle.std.proofs.Common.{◌≡◌, ℕ, ◌+◌, ◌-◌, ◌*◌, ◌^◌, ◌≤◌, sym, ap, ◌∙◌, arith}
use Rattle.std.proofs.lemmas.Nat.{pow-add}

-- two halves are the whole
pub half_part : (p h e : ℕ) → h + 1 ≤ e → p * 2 ^ (e - h) ≡ p * 2 ^ (e - (h + 1)) + p * 2 ^ (e - (h + 1))
half_part p h e le = let k : ℕ = e - (h + 1) in let is : e - h ≡ 1 + k = omega arith in let power : 2 ^ (e - h) ≡ 2 * 2 ^ k = ap (λ n. 2 ^ n) is ∙ pow-add 2 1 k in
    ap (λ n. p * n) power ∙ (let x : ℕ = 2 ^ k in let a : p * (2 * x) ≡ p * x + p * x = omega arith in a)

spread : (p a q b k : ℕ) → (p * a + q * b) * k ≡ p * (a * k) + q * (b * k)
spread p a q b k = omega arith

-- the sum of two shares
pub both_part : (p h q i e : ℕ) → h + i ≤ e → (p * 2 ^ i + q * 2 ^ h) * 2 ^ (e - (h + i)) ≡ p * 2 ^ (e - h) + q * 2 ^ (e - i)
both_part p h q i e le = let k : ℕ = e - (h + i) in let one : e - h ≡ i + k = omega arith in let two : e - i ≡ h + k = omega arith in
    let first : 2 ^ i * 2 ^ k ≡ 2 ^ (e - h) = sym (ap (λ n. 2 ^ n) one ∙ pow-add 2 i k) in let second : 2 ^ h * 2 ^ k ≡ 2 ^ (e - i) = sym (ap (λ n. 2 ^ n) two ∙ pow-add 2 h k) in
    spread p (2 ^ i) q (2 ^ h) (2 ^ k) ∙ (λ j. p * first j + q * second j)

-- the whole share, in parts of 2 ^ e
pub whole_part : (h e : ℕ) → h ≤ e → 2 ^ h * 2 ^ (e - h) ≡ 2 ^ e
whole_part h e le = let is : h + (e - h) ≡ e = omega arith in sym (pow-add 2 h (e - h)) ∙ ap (λ n. 2 ^ n) is
