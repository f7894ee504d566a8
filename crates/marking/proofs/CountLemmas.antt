-- Sums and products of counts, and where they stay.
use Rattle.std.proofs.Common.{◌≡◌, ◌≢◌, ℕ, suc, ◌+◌, ◌/◌, ◌^◌, ◌<◌, ◌≤◌, ◌==◌, true, false, List, length, drop, get_or, ℤ, pos, negsuc, ◌+ℤ◌, ◌-ℤ◌, ◌*ℤ◌, ◌≤ℤ◌, ◌<ℤ◌, int_le, int_lt, refl, sym, ap, ◌∙◌, arith, subst}
use Rattle.std.proofs.lemmas.Bool.Decides.{nat_tests}
use Rattle.std.proofs.Math.Nat.{mul-le-mul}
use Rattle.std.proofs.Math.Seq.{drop-cons}
use mir.Syntax.{w32, w64, w128}
use mir.Val.{SFits, of_z, to_z}
use Rattle.std.specs.Int.RustNames.{FitsSigned, unsigned_abs}
use Rattle.std.proofs.lemmas.Int.{fits_signed_from_abs, ints, to_z-of_z, unsigned_abs-mul}
use Rattle.std.proofs.lemmas.List.{drop_all}
use Rattle.marking.specs.OrderCounts.{total, wrapped_msb}

pub le_yes : (a b : ℤ) → a ≤ℤ b → int_le a b ≡ true
le_yes a b h = grind (arith, ints)

le_no : (a b : ℤ) → b <ℤ a → int_le a b ≡ false
le_no a b h = grind (arith, ints)

lt_yes : (a b : ℤ) → a <ℤ b → int_lt a b ≡ true
lt_yes a b h = grind (arith, ints)

lt_no : (a b : ℤ) → b ≤ℤ a → int_lt a b ≡ false
lt_no a b h = grind (arith, ints)

pub wraps_up : (n : ℕ) (m l s : ℤ) → pos (n / 2) ≤ℤ (l -ℤ s) → wrapped_msb n m l s ≡ m +ℤ pos n
wraps_up n m l s h = rw (le_yes (pos (n / 2)) (l -ℤ s) h) refl

pub wraps_down : (n : ℕ) (m l s : ℤ) → (l -ℤ s) <ℤ pos (n / 2) → pos (n / 2) <ℤ (s -ℤ l) → wrapped_msb n m l s ≡ m -ℤ pos n
wraps_down n m l s g h = rw (le_no (pos (n / 2)) (l -ℤ s) g, lt_yes (pos (n / 2)) (s -ℤ l) h) refl

pub wraps_not : (n : ℕ) (m l s : ℤ) → (l -ℤ s) <ℤ pos (n / 2) → (s -ℤ l) ≤ℤ pos (n / 2) → wrapped_msb n m l s ≡ m
wraps_not n m l s g h = rw (le_no (pos (n / 2)) (l -ℤ s) g, lt_no (pos (n / 2)) (s -ℤ l) h) refl

pub total_next : (xs : List ℤ) (k : ℕ) (d : ℤ) → k < length xs → total (drop k xs) ≡ get_or xs k d +ℤ total (drop (k + 1) xs)
unfolding total
total_next xs k d inside = let e : suc k ≡ k + 1 = omega arith in ap total (drop-cons xs k d inside) ∙ ap (λ (n : ℕ). get_or xs k d +ℤ total (drop n xs)) e

pub total_end : (xs : List ℤ) (k : ℕ) → length xs ≤ k → total (drop k xs) ≡ pos 0
unfolding total
total_end xs k past = ap total (drop_all k xs past)

pub abs_from : (z : ℤ) (n : ℕ) → negsuc n ≤ℤ z → z ≤ℤ pos n → unsigned_abs z ≤ n + 1
abs_from z n low high = grind (arith, ints)

pub abs_low : (z : ℤ) (n : ℕ) → unsigned_abs z ≤ n → negsuc n ≤ℤ z
abs_low z n h = grind (arith, ints)

pub abs_high : (z : ℤ) (n : ℕ) → unsigned_abs z ≤ n → z ≤ℤ pos n
abs_high z n h = grind (arith, ints)

-- so many whole cycles
pub cycles_size : (t : ℕ) (w : ℤ) → t ≤ 2 ^ 49 → unsigned_abs w ≤ 2 ^ 41 → unsigned_abs (pos t *ℤ w) ≤ 2 ^ 90
cycles_size t w few small = let most = mul-le-mul few small in omega (arith, unsigned_abs-mul (pos t) w, most)

pub finish : {a : ℤ} (b c : ℤ) → b ≡ c → a ≡ b → a ≡ c
finish b c e f = f ∙ e

-- sums of 64 bits
pub msb_down : (m : ℤ) (n s : ℕ) → negsuc (2 ^ 33) ≤ℤ m → m ≤ℤ pos (2 ^ 32) → n ≤ 2 ^ 16 → s < 2 ^ 32
    → to_z w64 (of_z w64 (to_z w64 (of_z w64 (to_z w64 (of_z w64 m) -ℤ to_z w64 n)) +ℤ to_z w64 s)) ≡ (m -ℤ pos n) +ℤ pos s
msb_down m n s low high small few = omega (arith, ints)

pub msb_same : (m : ℤ) (s : ℕ) → negsuc (2 ^ 33) ≤ℤ m → m ≤ℤ pos (2 ^ 32) → s < 2 ^ 32
    → to_z w64 (of_z w64 (to_z w64 (of_z w64 m) +ℤ to_z w64 s)) ≡ m +ℤ pos s
msb_same m s low high few = omega (arith, ints)

-- products and sums of 128 bits
abbrev pub IsSmall : ℤ → Type 0
IsSmall z = (negsuc (2 ^ 40) ≤ℤ z) × (z ≤ℤ pos (2 ^ 40))

widened : (z : ℤ) → IsSmall z → to_z w128 (of_z w128 (to_z w64 (of_z w64 z))) ≡ z
widened z small = let low = small.0 in let high = small.1 in omega (arith, ints)

counted : (t : ℕ) → t ≤ 2 ^ 49 → to_z w128 t ≡ pos t
counted t few = omega (arith, ints)

product_abs : (t : ℕ) (w : ℤ) → t ≤ 2 ^ 49 → IsSmall w → unsigned_abs (pos t *ℤ w) ≤ 2 ^ 90
product_abs t w few small = let size = abs_from w (2 ^ 40) small.0 small.1 in cycles_size t w few (omega arith)

pub product_fits : (t : ℕ) (w : ℤ) → t ≤ 2 ^ 49 → IsSmall w → FitsSigned w128 (to_z w128 t *ℤ to_z w128 (of_z w128 (to_z w64 (of_z w64 w))))
product_fits t w few small =
    let P : ℤ → ℤ → Type 0 = λ a b. FitsSigned w128 (a *ℤ b) in
    let size = product_abs t w few small in
    let fits : FitsSigned w128 (pos t *ℤ w) = fits_signed_from_abs w128 (pos t *ℤ w) (omega arith) in
    subst (λ (a : ℤ). P a (to_z w128 (of_z w128 (to_z w64 (of_z w64 w))))) (sym (counted t few)) (subst (P (pos t)) (sym (widened w small)) fits)

product_back : (t : ℕ) (w : ℤ) → t ≤ 2 ^ 49 → IsSmall w → to_z w128 (of_z w128 (to_z w128 t *ℤ to_z w128 (of_z w128 (to_z w64 (of_z w64 w))))) ≡ pos t *ℤ w
product_back t w few small =
    let size = product_abs t w few small in
    let fits : SFits w128 (pos t *ℤ w) = fits_signed_from_abs w128 (pos t *ℤ w) (omega arith) in
    ap (λ (a : ℤ). to_z w128 (of_z w128 (a *ℤ to_z w128 (of_z w128 (to_z w64 (of_z w64 w)))))) (counted t few)
    ∙ ap (λ (b : ℤ). to_z w128 (of_z w128 (pos t *ℤ b))) (widened w small) ∙ to_z-of_z w128 (pos t *ℤ w) fits

sum_back : (q p : ℤ) → negsuc (2 ^ 90) ≤ℤ q → q ≤ℤ pos (2 ^ 90) → IsSmall p → to_z w128 (of_z w128 (q +ℤ to_z w128 (of_z w128 (to_z w64 (of_z w64 p))))) ≡ q +ℤ p
sum_back q p low high small = let least = small.0 in let most = small.1 in omega (arith, ints)

sum_fits : (q p : ℤ) → negsuc (2 ^ 90) ≤ℤ q → q ≤ℤ pos (2 ^ 90) → IsSmall p → FitsSigned w128 (q +ℤ to_z w128 (of_z w128 (to_z w64 (of_z w64 p))))
sum_fits q p low high small = let least = small.0 in let most = small.1 in omega (arith, ints)

abbrev pub scaled : ℕ → ℤ → ℤ → ℤ
scaled t w p = to_z w128 (of_z w128 (to_z w128 (of_z w128 (to_z w128 t *ℤ to_z w128 (of_z w128 (to_z w64 (of_z w64 w))))) +ℤ to_z w128 (of_z w128 (to_z w64 (of_z w64 p)))))

pub scaled_fits : (t : ℕ) (w p : ℤ) → t ≤ 2 ^ 49 → IsSmall w → IsSmall p
    → FitsSigned w128 (to_z w128 (of_z w128 (to_z w128 t *ℤ to_z w128 (of_z w128 (to_z w64 (of_z w64 w))))) +ℤ to_z w128 (of_z w128 (to_z w64 (of_z w64 p))))
scaled_fits t w p few small part =
    let size = product_abs t w few small in
    let q = pos t *ℤ w in
    let P : ℤ → Type 0 = λ a. FitsSigned w128 (a +ℤ to_z w128 (of_z w128 (to_z w64 (of_z w64 p)))) in
    subst P (sym (product_back t w few small)) (sum_fits q p (abs_low q (2 ^ 90) size) (abs_high q (2 ^ 90) size) part)

pub scaled_is : (t : ℕ) (w p : ℤ) → t ≤ 2 ^ 49 → IsSmall w → IsSmall p → scaled t w p ≡ (pos t *ℤ w) +ℤ p
scaled_is t w p few small part =
    let size = product_abs t w few small in
    let q = pos t *ℤ w in
    ap (λ (a : ℤ). to_z w128 (of_z w128 (a +ℤ to_z w128 (of_z w128 (to_z w64 (of_z w64 p)))))) (product_back t w few small)
    ∙ sum_back q p (abs_low q (2 ^ 90) size) (abs_high q (2 ^ 90) size) part

total_low : (q p : ℤ) → negsuc (2 ^ 90) ≤ℤ q → IsSmall p → negsuc (2 ^ 91) ≤ℤ (q +ℤ p)
total_low q p low small = let least = small.0 in omega (arith, ints)

total_high : (q p : ℤ) → q ≤ℤ pos (2 ^ 90) → IsSmall p → (q +ℤ p) ≤ℤ pos (2 ^ 91)
total_high q p high small = let most = small.1 in omega (arith, ints)

pub scaled_low : (t : ℕ) (w p : ℤ) → t ≤ 2 ^ 49 → IsSmall w → IsSmall p → negsuc (2 ^ 91) ≤ℤ scaled t w p
scaled_low t w p few small part =
    let P : ℤ → Type 0 = λ a. negsuc (2 ^ 91) ≤ℤ a in
    let q = pos t *ℤ w in
    subst P (sym (scaled_is t w p few small part)) (total_low q p (abs_low q (2 ^ 90) (product_abs t w few small)) part)

pub scaled_high : (t : ℕ) (w p : ℤ) → t ≤ 2 ^ 49 → IsSmall w → IsSmall p → scaled t w p ≤ℤ pos (2 ^ 91)
scaled_high t w p few small part =
    let P : ℤ → Type 0 = λ a. a ≤ℤ pos (2 ^ 91) in
    let q = pos t *ℤ w in
    subst P (sym (scaled_is t w p few small part)) (total_high q p (abs_high q (2 ^ 90) (product_abs t w few small)) part)

pub wide : (z : ℤ) → negsuc (2 ^ 34) ≤ℤ z → z ≤ℤ pos (2 ^ 34) → to_z w128 (of_z w128 (to_z w64 (of_z w64 z))) ≡ z
wide z low high = omega (arith, ints)

pub wide_sum : (z d : ℤ) → negsuc (2 ^ 34) ≤ℤ z → z ≤ℤ pos (2 ^ 34) → SFits w32 d
    → to_z w128 (of_z w128 (to_z w128 (of_z w128 (to_z w64 (of_z w64 z))) +ℤ to_z w128 (of_z w128 (to_z w32 (of_z w32 d))))) ≡ z +ℤ d
wide_sum z d low high fits = omega (arith, ints)

pub within_low : (z e : ℤ) → SFits w128 z → SFits w128 e → negsuc (2 ^ 91) ≤ℤ e → (to_z w128 (of_z w128 e) -ℤ pos (2 ^ 33)) ≤ℤ z → negsuc (2 ^ 92) ≤ℤ to_z w128 (of_z w128 z)
within_low z e f g low near = omega (arith, ints)

pub within_high : (z e : ℤ) → SFits w128 z → SFits w128 e → e ≤ℤ pos (2 ^ 91) → z ≤ℤ (to_z w128 (of_z w128 e) +ℤ pos (2 ^ 33)) → to_z w128 (of_z w128 z) ≤ℤ pos (2 ^ 92)
within_high z e f g high near = omega (arith, ints)

pub zero_no : (a : ℕ) → a ≢ 0 → (a == 0) ≡ false
zero_no a ne = grind (arith, nat_tests)

pub pass_low : (z : ℤ) → SFits w128 z → negsuc (2 ^ 91) ≤ℤ z → negsuc (2 ^ 91) ≤ℤ to_z w128 (of_z w128 z)
pass_low z f low = omega (arith, ints)

pub pass_high : (z : ℤ) → SFits w128 z → z ≤ℤ pos (2 ^ 91) → to_z w128 (of_z w128 z) ≤ℤ pos (2 ^ 91)
pass_high z f high = omega (arith, ints)
