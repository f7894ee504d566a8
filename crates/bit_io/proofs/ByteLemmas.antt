-- The bits of bytes, and eight bytes as one number.
use Rattle.std.proofs.Common.{◌≡◌, ℕ, zero, suc, ◌+◌, ◌-◌, ◌*◌, ◌/◌, ◌%◌, ◌^◌, ◌<◌, Bool, false, List, [], ◌∷◌, ◌++◌, length, get_or, drop, replicate, refl, sym, ap, ap₂, ◌∙◌, subst, arith, add-zero, mod-eq_of_lt}
use Rattle.std.proofs.lemmas.Grind.{flat_map-append}
use Rattle.std.proofs.lemmas.List.{length-append, drop-drop, drop_at, get_or-drop}
use Rattle.std.proofs.lemmas.Nat.{pow-add, mod_low, shr_high}
use Rattle.std.proofs.Math.Pow.{shl_lt}
use Rattle.std.specs.Int.{from_be_bytes, w64}
use Rattle.bit_io.proofs.NumberLemmas.{length-u, number-u, number-append, number-lt, length-ahead, ahead-split, ahead_at, ahead_nil}
use Rattle.bit_io.specs.Bits.{u, bits_of}
use Rattle.bit_io.specs.Numbers.{number, ahead}

abbrev pub IsBytes : List ℕ → Type 0
IsBytes bytes = (i : ℕ) → get_or bytes i 0 < 2 ^ 8

pub bits_of-cons : (byte : ℕ) (bytes : List ℕ) → bits_of (byte ∷ bytes) ≡ u byte 8 ++ bits_of bytes
unfolding bits_of
bits_of-cons byte bytes = refl

pub bits_of_nil : bits_of [] ≡ []
unfolding bits_of
bits_of_nil = refl

pub bits_of-append : (xs ys : List ℕ) → bits_of (xs ++ ys) ≡ bits_of xs ++ bits_of ys
unfolding bits_of
bits_of-append xs ys = flat_map-append (λ byte. u byte 8) xs ys

pub length-bits_of : (bytes : List ℕ) → length (bits_of bytes) ≡ 8 * length bytes
length-bits_of [] = ap length bits_of_nil
length-bits_of (b ∷ bytes) =
    ap length (bits_of-cons b bytes) ∙ length-append (u b 8) (bits_of bytes)
    ∙ ap₂ (λ (x y : ℕ). x + y) (length-u b 8) (length-bits_of bytes) ∙ omega arith

drop_nil : (m : ℕ) → drop {A = Bool} m [] ≡ []
drop_nil zero = refl
drop_nil (suc m) = refl

pub drop-bits_of : (n : ℕ) (bytes : List ℕ) → drop (8 * n) (bits_of bytes) ≡ bits_of (drop n bytes)
drop-bits_of zero bytes = refl
drop-bits_of (suc n) [] = rw bits_of_nil (drop_nil (8 * suc n))
drop-bits_of (suc n) (b ∷ bytes) =
    let e : 8 * suc n ≡ 8 + 8 * n = omega arith in
    rw (bits_of-cons b bytes, e, ← drop-drop (8 * n) 8 (u b 8 ++ bits_of bytes), drop_at (u b 8) (bits_of bytes) 8 (length-u b 8)) (drop-bits_of n bytes)

pub number_zeros : (n : ℕ) → number (replicate n false) ≡ 0
unfolding number
number_zeros zero = refl
number_zeros (suc n) = omega (arith, number_zeros n)

number-ahead_nil : (n : ℕ) → number (ahead n []) ≡ 0
number-ahead_nil n = ap number (ahead_nil n) ∙ number_zeros n

byte_front : (n : ℕ) (bytes : List ℕ) → IsBytes bytes → number (ahead (8 + n) (bits_of bytes)) ≡ get_or bytes 0 0 * 2 ^ n + number (ahead n (bits_of (drop 1 bytes)))
byte_front n [] fits = rw (bits_of_nil, number-ahead_nil (8 + n), number-ahead_nil n) (omega arith)
byte_front n (b ∷ bytes) fits =
    let l : 8 ≡ length (u b 8) = sym (length-u b 8) in
    let a : ahead (8 + n) (u b 8 ++ bits_of bytes) ≡ u b 8 ++ ahead n (bits_of bytes) =
    ap (λ (x : ℕ). ahead (x + n) (u b 8 ++ bits_of bytes)) l ∙ ahead_at (u b 8) (bits_of bytes) n in
    rw (bits_of-cons b bytes, a, number-append (u b 8) (ahead n (bits_of bytes)), length-ahead n (bits_of bytes), number-u b 8, mod-eq_of_lt (fits 0)) refl

byte_at : (n k : ℕ) (bytes : List ℕ) → IsBytes bytes → number (ahead (8 + n) (bits_of (drop k bytes))) ≡ get_or bytes k 0 * 2 ^ n + number (ahead n (bits_of (drop (k + 1) bytes)))
byte_at n k bytes fits =
    let front = byte_front n (drop k bytes) (λ i. rw (get_or-drop k bytes i 0) (fits (k + i))) in
    front ∙ ap₂ (λ (x : ℕ) (ys : List ℕ). x * 2 ^ n + number (ahead n (bits_of ys))) (get_or-drop k bytes 0 0 ∙ ap (λ (x : ℕ). get_or bytes x 0) (add-zero k)) (drop-drop 1 k bytes)

none_ahead : (bits : List Bool) → number (ahead 0 bits) ≡ 0
unfolding number ahead
none_ahead bits = refl

-- past the end a byte reads as 0
pub from_be_bytes_is : (bytes : List ℕ) → IsBytes bytes → from_be_bytes w64 bytes ≡ number (ahead 64 (bits_of bytes))
from_be_bytes_is bytes fits =
    omega (arith, byte_at 56 0 bytes fits, byte_at 48 1 bytes fits, byte_at 40 2 bytes fits, byte_at 32 3 bytes fits, byte_at 24 4 bytes fits, byte_at 16 5 bytes fits, byte_at 8 6 bytes fits, byte_at 0 7 bytes fits, none_ahead (bits_of (drop 8 bytes)))

regroup : (a b c f g s x y : ℕ) → f * s ≡ x → g * s ≡ y → (a * f + (b * g + c)) * s ≡ a * x + (b * y + c * s)
regroup a b c f g s x y h k = rw (← h, ← k) (omega arith)

shifted : (a b c s r : ℕ) → s + r ≡ 7 → b < 2 ^ 57 → c < 2 ^ r → (a * 2 ^ (57 + r) + (b * 2 ^ r + c)) * 2 ^ s % 2 ^ 64 / 2 ^ 7 ≡ b
shifted a b c s r h p q =
    let all : 57 + r + s ≡ 64 = omega arith in
    let seven : r + s ≡ 7 = omega arith in
    let high : 2 ^ (57 + r) * 2 ^ s ≡ 2 ^ 64 = sym (pow-add 2 (57 + r) s) ∙ ap (λ (x : ℕ). 2 ^ x) all in
    let low : 2 ^ r * 2 ^ s ≡ 2 ^ 7 = sym (pow-add 2 r s) ∙ ap (λ (x : ℕ). 2 ^ x) seven in
    let small : c * 2 ^ s < 2 ^ 7 = subst (λ (x : ℕ). c * 2 ^ s < 2 ^ x) seven (shl_lt r s q) in
    let whole : (a * 2 ^ (57 + r) + (b * 2 ^ r + c)) * 2 ^ s ≡ a * 2 ^ 64 + (b * 2 ^ 7 + c * 2 ^ s) = regroup a b c (2 ^ (57 + r)) (2 ^ r) (2 ^ s) (2 ^ 64) (2 ^ 7) high low in
    rw (whole, mod_low a 64 (b * 2 ^ 7 + c * 2 ^ s) (omega arith), shr_high b 7 (c * 2 ^ s) small) refl

-- the number of 64 bits without the first few of them, and its 57 high bits
pub window_is : (bits : List Bool) (bit word : ℕ) → bit < 8 → word ≡ number (ahead 64 bits) → word * 2 ^ bit % 2 ^ 64 / 2 ^ 7 ≡ number (ahead 57 (drop bit bits))
window_is bits bit word h e =
    let r = 7 - bit in
    let rest = drop bit bits in
    let low = ahead r (drop 57 rest) in
    let all : 64 ≡ bit + (57 + r) = omega arith in
    let parts : number (ahead 64 bits) ≡ number (ahead bit bits) * 2 ^ (57 + r) + (number (ahead 57 rest) * 2 ^ r + number low) =
    ap (λ (x : ℕ). number (ahead x bits)) all
    ∙ ap number (ahead-split bit (57 + r) bits)
    ∙ number-append (ahead bit bits) (ahead (57 + r) rest)
    ∙ ap₂ (λ (x y : ℕ). number (ahead bit bits) * 2 ^ x + y) (length-ahead (57 + r) rest)
    (ap number (ahead-split 57 r rest) ∙ number-append (ahead 57 rest) low ∙ ap (λ (x : ℕ). number (ahead 57 rest) * 2 ^ x + number low) (length-ahead r (drop 57 rest))) in
    rw (e, parts) (shifted (number (ahead bit bits)) (number (ahead 57 rest)) (number low) bit r (omega arith)
    (subst (λ (x : ℕ). number (ahead 57 rest) < 2 ^ x) (length-ahead 57 rest) (number-lt (ahead 57 rest)))
    (subst (λ (x : ℕ). number low < 2 ^ x) (length-ahead r (drop 57 rest)) (number-lt low)))

-- eight bytes are enough
pub from_be_bytes-chunk : (bytes chunk : List ℕ) → ((i : ℕ) → i < 8 → get_or chunk i 0 ≡ get_or bytes i 0) → from_be_bytes w64 chunk ≡ from_be_bytes w64 bytes
from_be_bytes-chunk bytes chunk same =
    omega (arith, same 0 (omega arith), same 1 (omega arith), same 2 (omega arith), same 3 (omega arith), same 4 (omega arith), same 5 (omega arith), same 6 (omega arith), same 7 (omega arith))

get_or_zeros : (m i : ℕ) → get_or {A = ℕ} (replicate m 0) i 0 ≡ 0
get_or_zeros zero i = refl
get_or_zeros (suc m) zero = refl
get_or_zeros (suc m) (suc i) = get_or_zeros m i

pub get_or_padded : (xs : List ℕ) (n m i : ℕ) → get_or (xs ++ drop n (replicate m 0)) i 0 ≡ get_or xs i 0
get_or_padded [] n m i = get_or-drop n (replicate m 0) i 0 ∙ get_or_zeros m (n + i)
get_or_padded (x ∷ xs) n m zero = refl
get_or_padded (x ∷ xs) n m (suc i) = get_or_padded xs n m i
