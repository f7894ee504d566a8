-- Numbers and the lists of their bits.
use Rattle.std.proofs.Common.{◌≡◌, ℕ, zero, suc, ◌+◌, ◌-◌, ◌*◌, ◌/◌, ◌%◌, ◌^◌, ◌<◌, ◌≤◌, Bool, true, false, cond, eqb, List, [], ◌∷◌, ◌++◌, length, take, drop, replicate, refl, sym, ap, ap₂, ◌∙◌, subst, arith, add-zero, zero-add, suc-add, one-add, pow-suc, mod-lt}
use Rattle.std.proofs.lemmas.Bool.Decides.{nat_tests}
use Rattle.std.proofs.lemmas.List.{length-append, take-append-drop}
use Rattle.std.proofs.lemmas.Nat.{pow_pos, pow-add, mod-pow-add, shr-shr, shl-shr, shr_high}
use Rattle.std.proofs.Math.Nat.{mul-add-div_right, mul-add-mod_self_right, div-eq_of_lt, div-eq_of_lt-le}
use Rattle.std.proofs.Math.Pow.{shr_lt}
use Rattle.bit_io.specs.Bits.{u}
use Rattle.bit_io.specs.Numbers.{number, ahead}

pub length-u : (v n : ℕ) → length (u v n) ≡ n
unfolding u
length-u v zero = refl
length-u v (suc n) = ap suc (length-u v n)

bit_below : (b : Bool) (p r : ℕ) → r < p → cond b p 0 + r < p * 2
bit_below true p r h = omega arith
bit_below false p r h = omega arith

pub number-lt : (bits : List Bool) → number bits < 2 ^ length bits
unfolding number
number-lt [] = omega arith
number-lt (b ∷ bits) = rw (pow-suc 2 (length bits)) (bit_below b _ _ (number-lt bits))

carried : (b : Bool) (p q n m : ℕ) → cond b (p * q) 0 + (n * q + m) ≡ (cond b p 0 + n) * q + m
carried true p q n m = omega arith
carried false p q n m = omega arith

pub number-append : (xs ys : List Bool) → number (xs ++ ys) ≡ number xs * 2 ^ length ys + number ys
unfolding number
number-append [] ys = omega arith
number-append (b ∷ xs) ys =
    rw (number-append xs ys, length-append xs ys, pow-add 2 (length xs) (length ys)) (carried b _ _ _ _)

-- only the n low bits matter
pub u-add : (a r n : ℕ) → u (a * 2 ^ n + r) n ≡ u r n
unfolding u
u-add a r zero = refl
u-add a r (suc n) =
    let e : a * 2 ^ suc n ≡ a * 2 * 2 ^ n = rw (pow-suc 2 n) (omega arith) in
    let d : (a * 2 * 2 ^ n + r) / 2 ^ n ≡ a * 2 + r / 2 ^ n = mul-add-div_right (pow_pos n) (a * 2) r in
    let head : (a * 2 ^ suc n + r) / 2 ^ n % 2 ≡ r / 2 ^ n % 2 = rw (e, d) (mul-add-mod_self_right a 2 (r / 2 ^ n)) in
    let tail : u (a * 2 ^ suc n + r) n ≡ u r n = rw e (u-add (a * 2) r n) in
    ap₂ (λ (x : ℕ) (y : List Bool). eqb x 1 ∷ y) head tail

bit_worth : (b p : ℕ) → b < 2 → cond (eqb b 1) p 0 ≡ b * p
bit_worth b p h = grind (arith, nat_tests)

pub number-u : (v n : ℕ) → number (u v n) ≡ v % 2 ^ n
unfolding number u
number-u v zero = omega arith
number-u v (suc n) =
    rw (length-u v n, number-u v n, bit_worth (v / 2 ^ n % 2) (2 ^ n) (mod-lt _ (omega arith)), ← one-add n, mod-pow-add v 1 n) refl

bit_is : (b : Bool) (p r : ℕ) → 0 < p → r < p → eqb ((cond b p 0 + r) / p % 2) 1 ≡ b
bit_is true p r h k = let e : (p + r) / p ≡ 1 = div-eq_of_lt-le p {m = p + r} (omega arith) (omega arith) in rw e refl
bit_is false p r h k = let e : (0 + r) / p ≡ 0 = div-eq_of_lt (omega arith) in rw e refl

low_is : (b : Bool) (r n : ℕ) → u (cond b (2 ^ n) 0 + r) n ≡ u r n
low_is true r n = let e : 2 ^ n + r ≡ 1 * 2 ^ n + r = omega arith in rw e (u-add 1 r n)
low_is false r n = rw (zero-add r) refl

pub u-number : (bits : List Bool) → u (number bits) (length bits) ≡ bits
unfolding number u
u-number [] = refl
u-number (b ∷ bits) = rw (bit_is b (2 ^ length bits) (number bits) (pow_pos _) (number-lt bits), low_is b (number bits) (length bits), u-number bits) refl

-- two lists of one length that spell one number are one list
pub same_bits : (xs ys : List Bool) → length xs ≡ length ys → number xs ≡ number ys → xs ≡ ys
same_bits xs ys l e = sym (u-number xs) ∙ ap₂ (λ (x y : ℕ). u x y) e l ∙ u-number ys

pub u-mod : (v n : ℕ) → u (v % 2 ^ n) n ≡ u v n
u-mod v n = ap₂ (λ (x y : ℕ). u x y) (sym (number-u v n)) (sym (length-u v n)) ∙ u-number (u v n)

-- m + n bits: the m high ones, and the n low ones
pub u-split : (v m n : ℕ) → u v (m + n) ≡ u (v / 2 ^ n) m ++ u v n
unfolding u
u-split v zero n = rw (zero-add n) refl
u-split v (suc m) n =
    let e : v / 2 ^ n / 2 ^ m ≡ v / 2 ^ (m + n) = shr-shr v n m ∙ ap (λ (x : ℕ). v / 2 ^ x) (omega arith) in
    rw (suc-add m n, e) (ap (λ (y : List Bool). eqb (v / 2 ^ (m + n) % 2) 1 ∷ y) (u-split v m n))

pub u_zero : (n : ℕ) → u 0 n ≡ replicate n false
unfolding u
u_zero zero = refl
u_zero (suc n) = let e : 0 / 2 ^ n ≡ 0 = div-eq_of_lt (pow_pos n) in rw e (ap (λ (y : List Bool). false ∷ y) (u_zero n))

-- a number of n bits behind zeros
pub u-zeros : (v m n : ℕ) → v < 2 ^ n → u v (m + n) ≡ replicate m false ++ u v n
u-zeros v m n h = let e : v / 2 ^ n ≡ 0 = div-eq_of_lt h in rw (u-split v m n, e, u_zero m) refl

-- a number over n zeros
pub u-shifted : (v m n : ℕ) → u (v * 2 ^ n) (m + n) ≡ u v m ++ replicate n false
u-shifted v m n =
    let e : v * 2 ^ n / 2 ^ n ≡ v = shl-shr v n in
    let z : u (v * 2 ^ n) n ≡ replicate n false = ap (λ (x : ℕ). u x n) (sym (add-zero (v * 2 ^ n))) ∙ u-add v 0 n ∙ u_zero n in
    rw (u-split (v * 2 ^ n) m n, e, z) refl

pub length-ahead : (n : ℕ) (bits : List Bool) → length (ahead n bits) ≡ n
unfolding ahead
length-ahead zero bits = refl
length-ahead (suc n) [] = ap suc (length-ahead n [])
length-ahead (suc n) (b ∷ bits) = ap suc (length-ahead n bits)

drop_nil : (m : ℕ) → drop m [] ≡ drop {A = Bool} (suc m) []
drop_nil zero = refl
drop_nil (suc m) = refl

pub ahead-split : (m n : ℕ) (bits : List Bool) → ahead (m + n) bits ≡ ahead m bits ++ ahead n (drop m bits)
unfolding ahead
ahead-split zero n bits = rw (zero-add n) refl
ahead-split (suc m) n [] = rw (suc-add m n) (ap (λ (y : List Bool). false ∷ y) (ahead-split m n [] ∙ ap (λ (y : List Bool). ahead m [] ++ ahead n y) (drop_nil m)))
ahead-split (suc m) n (b ∷ bits) = rw (suc-add m n) (ap (λ (y : List Bool). b ∷ y) (ahead-split m n bits))

pub ahead_within : (n : ℕ) (bits : List Bool) → n ≤ length bits → ahead n bits ≡ take n bits
unfolding ahead
ahead_within zero bits h = refl
ahead_within (suc n) [] h = absurd (omega arith)
ahead_within (suc n) (b ∷ bits) h = ap (λ (y : List Bool). b ∷ y) (ahead_within n bits (omega arith))

pub ahead_at : (xs bits : List Bool) (n : ℕ) → ahead (length xs + n) (xs ++ bits) ≡ xs ++ ahead n bits
unfolding ahead
ahead_at [] bits n = rw (zero-add n) refl
ahead_at (b ∷ xs) bits n = rw (suc-add (length xs) n) (ap (λ (y : List Bool). b ∷ y) (ahead_at xs bits n))

pub ahead_nil : (n : ℕ) → ahead n [] ≡ replicate n false
unfolding ahead
ahead_nil zero = refl
ahead_nil (suc n) = ap (λ (y : List Bool). false ∷ y) (ahead_nil n)

-- The next n bits, as a number, are those that stand there.
pub spelled : (n c : ℕ) (bits : List Bool) → n ≤ length bits → c ≡ number (ahead n bits) → bits ≡ u c n ++ drop n bits
spelled n c bits h e =
    let t : u c n ≡ take n bits =
    ap₂ (λ (x y : ℕ). u x y) e (sym (length-ahead n bits)) ∙ u-number (ahead n bits) ∙ ahead_within n bits h in
    sym (rw t (take-append-drop n bits))

-- the first n bits, from the number of the first 57
pub front : (w n : ℕ) (bits : List Bool) → n ≤ 57 → w / 2 ^ 7 ≡ number (ahead 57 bits) → w / 2 ^ (64 - n) ≡ number (ahead n bits)
front w n bits h e =
    let m = 57 - n in
    let low = ahead m (drop n bits) in
    let all : n + m ≡ 57 = omega arith in
    let fewer : 7 + m ≡ 64 - n = omega arith in
    let parts : number (ahead 57 bits) ≡ number (ahead n bits) * 2 ^ m + number low =
    ap (λ (x : ℕ). number (ahead x bits)) (sym all) ∙ ap number (ahead-split n m bits) ∙ number-append (ahead n bits) low
    ∙ ap (λ (x : ℕ). number (ahead n bits) * 2 ^ x + number low) (length-ahead m (drop n bits)) in
    ap (λ (x : ℕ). w / 2 ^ x) (sym fewer) ∙ sym (shr-shr w 7 m) ∙ ap (λ (x : ℕ). x / 2 ^ m) (e ∙ parts)
    ∙ shr_high (number (ahead n bits)) m (number low) (subst (λ (x : ℕ). number low < 2 ^ x) (length-ahead m (drop n bits)) (number-lt low))

pub halved : (w n : ℕ) → n ≤ 63 → w / 2 / 2 ^ (63 - n) ≡ w / 2 ^ (64 - n)
halved w n h = let e : 1 + (63 - n) ≡ 64 - n = omega arith in shr-shr w 1 (63 - n) ∙ ap (λ (x : ℕ). w / 2 ^ x) e

pub front_lt : (w n : ℕ) → n ≤ 64 → w < 2 ^ 64 → w / 2 ^ (64 - n) < 2 ^ n
front_lt w n h p = let e : 64 ≡ n + (64 - n) = omega arith in shr_lt n (64 - n) (subst (λ (x : ℕ). w < 2 ^ x) e p)

-- The first n bits are the n high bits of a window over them.
pub front_spelled : (w n : ℕ) (bits : List Bool) → n ≤ 57 → n ≤ length bits → w / 2 ^ 7 ≡ number (ahead 57 bits) → bits ≡ u (w / 2 ^ (64 - n)) n ++ drop n bits
front_spelled w n bits h k e = spelled n (w / 2 ^ (64 - n)) bits k (front w n bits h e)
