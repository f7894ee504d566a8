-- Bits that are written behind others, into the free bits of the last byte and into bytes behind it.
use Rattle.std.proofs.Common.{◌≡◌, ℕ, zero, suc, ◌+◌, ◌-◌, ◌*◌, ◌/◌, ◌%◌, ◌^◌, ◌<◌, ◌≤◌, Bool, false, List, [], ◌∷◌, ◌++◌, length, get_or, take, drop, set, replicate, bit_or, refl, sym, ap, ap₂, ◌∙◌, subst, arith, mod-lt, mod-eq_of_lt, div-add-mod', append-nil, add-zero, pow_mono, lt_of_lt_of_le, true}
use Rattle.std.proofs.lemmas.List.{length-append, append_assoc, length-replicate, take-append-drop, take_at, drop_at, take_all, drop_all, take_more, get_or_read, set_split, length-take-le, length-take, take-take, replicate-append-replicate}
use Rattle.std.proofs.lemmas.Nat.{pow_pos, or_shifted, shr_high, shr-shr, pow_below, one_shl, from_be_bytes-to_be_bytes_8}
use Rattle.std.proofs.Math.Pow.{shl_lt, shr_lt}
use Rattle.bit_io.proofs.EndLemmas.{one_over_zeros}
use Rattle.std.specs.Int.{to_be_bytes, w64, byte_at, bytes_high_first}
use Rattle.bit_io.proofs.ByteLemmas.{IsBytes, bits_of-cons, bits_of_nil, bits_of-append, length-bits_of, number_zeros, from_be_bytes_is}
use Rattle.bit_io.proofs.LawLemmas.{same_front}
use Rattle.bit_io.proofs.NumberLemmas.{length-u, number-u, same_bits, u-add, u-mod, u-split, u-shifted, ahead_within}
use Rattle.bit_io.specs.Bits.{Holds, u, bits_of}
use Rattle.bit_io.specs.Numbers.{number, ahead}
use Rattle.bit_io.specs.Trailing.{trailing_bits}
use Rattle.bit_io.specs.Written.{HasFree, all_but}

pub all_but_is : (bytes : List ℕ) (free : ℕ) (bits : List Bool) → bits_of bytes ≡ bits ++ replicate free false → all_but free bytes ≡ bits
unfolding all_but
all_but_is bytes free bits e =
    let l : 8 * length bytes - free ≡ length bits =
    omega (arith, length-bits_of bytes, ap length e, length-append bits (replicate free false), length-replicate free false) in
    ap (take (8 * length bytes - free)) e ∙ take_at bits (replicate free false) (8 * length bytes - free) (sym l)

pub has_free : (bytes : List ℕ) (free : ℕ) (bits : List Bool) → free < 8 → bits_of bytes ≡ bits ++ replicate free false → HasFree bytes free
has_free bytes free bits few e = record {
  few = few;
  zeros = e ∙ ap (λ (x : List Bool). x ++ replicate free false) (sym (all_but_is bytes free bits e));
}

pub length-all_but : (bytes : List ℕ) (free : ℕ) → HasFree bytes free → length (all_but free bytes) + free ≡ 8 * length bytes
length-all_but bytes free h =
    omega (arith, length-bits_of bytes, ap length h.zeros, length-append (all_but free bytes) (replicate free false), length-replicate free false)

bits_of_push : (front : List ℕ) (byte : ℕ) → bits_of (front ++ byte ∷ []) ≡ bits_of front ++ u byte 8
bits_of_push front byte =
    bits_of-append front (byte ∷ []) ∙ ap (λ (x : List Bool). bits_of front ++ x) (bits_of-cons byte [] ∙ ap (λ (x : List Bool). u byte 8 ++ x) bits_of_nil ∙ append-nil (u byte 8))

-- the high and the low bits of a last byte
last_split : (front : List ℕ) (byte m free : ℕ) → m + free ≡ 8 → bits_of (front ++ byte ∷ []) ≡ (bits_of front ++ u (byte / 2 ^ free) m) ++ u byte free
last_split front byte m free e =
    bits_of_push front byte
    ∙ ap (λ (x : List Bool). bits_of front ++ x) (ap (u byte) (sym e) ∙ u-split byte m free)
    ∙ sym (append_assoc (bits_of front) (u (byte / 2 ^ free) m) (u byte free))

-- The free bits of the last byte are zeros, and what is written into them stands there.
pub fill_last : (front : List ℕ) (byte free value : ℕ) → HasFree (front ++ byte ∷ []) free → value < 2 ^ free
    → bits_of (front ++ bit_or byte value ∷ []) ≡ all_but free (front ++ byte ∷ []) ++ u value free
fill_last front byte free value h small =
    let few : free < 8 = h.few in
    let m = 8 - free in
    let eight : m + free ≡ 8 = omega arith in
    let high = bits_of front ++ u (byte / 2 ^ free) m in
    let parts : (all_but free (front ++ byte ∷ []) ≡ high) × (replicate free false ≡ u byte free) =
    same_front (length high) (all_but free (front ++ byte ∷ [])) high (replicate free false) (u byte free)
    (omega (arith, length-all_but (front ++ byte ∷ []) free h, length-append front (byte ∷ []), length-append (bits_of front) (u (byte / 2 ^ free) m), length-bits_of front, length-u (byte / 2 ^ free) m))
    refl (sym h.zeros ∙ last_split front byte m free eight) in
    let none : byte % 2 ^ free ≡ 0 = sym (number-u byte free) ∙ ap number (sym parts.1) ∙ number_zeros free in
    let q = byte / 2 ^ free in
    let whole : byte ≡ q * 2 ^ free = sym (div-add-mod' byte (2 ^ free)) ∙ ap (λ (x : ℕ). q * 2 ^ free + x) none ∙ add-zero (q * 2 ^ free) in
    let or : bit_or byte value ≡ q * 2 ^ free + value = ap (λ (x : ℕ). bit_or x value) whole ∙ or_shifted q free value small in
    ap (λ (x : ℕ). bits_of (front ++ x ∷ [])) or ∙ last_split front (q * 2 ^ free + value) m free eight
    ∙ ap₂ (λ (x y : List Bool). (bits_of front ++ x) ++ y) (ap (λ (x : ℕ). u x m) (shr_high q free value small)) (u-add q value free)
    ∙ ap (λ (x : List Bool). x ++ u value free) (sym parts.0)

byte_fits : (i n : ℕ) → byte_at i n < 2 ^ 8
byte_fits zero n = mod-lt n (omega arith)
byte_fits (suc i) n = mod-lt (n / 256 ^ suc i) (omega arith)

high_first_fit : (k n : ℕ) → IsBytes (bytes_high_first k n)
high_first_fit zero n i = omega arith
high_first_fit (suc k) n zero = byte_fits k n
high_first_fit (suc k) n (suc i) = high_first_fit k n i

to_be_bytes_fit : (n : ℕ) → IsBytes (to_be_bytes w64 n)
to_be_bytes_fit n = high_first_fit 8 n

to_be_bytes_bits : (n : ℕ) → n < 2 ^ 64 → bits_of (to_be_bytes w64 n) ≡ u n 64
to_be_bytes_bits n h =
    let bytes = to_be_bytes w64 n in
    let long : length (bits_of bytes) ≡ 64 = length-bits_of bytes in
    let all : ahead 64 (bits_of bytes) ≡ bits_of bytes = ahead_within 64 (bits_of bytes) (omega (arith, long)) ∙ take_all 64 (bits_of bytes) (omega (arith, long)) in
    same_bits (bits_of bytes) (u n 64) (long ∙ sym (length-u n 64))
    (ap number (sym all) ∙ sym (from_be_bytes_is bytes (to_be_bytes_fit n)) ∙ from_be_bytes-to_be_bytes_8 n h ∙ sym (mod-eq_of_lt h) ∙ sym (number-u n 64))

take-bits_of : (k : ℕ) (bytes : List ℕ) → k ≤ length bytes → bits_of (take k bytes) ≡ take (8 * k) (bits_of bytes)
take-bits_of k bytes h =
    let parts : bits_of bytes ≡ bits_of (take k bytes) ++ bits_of (drop k bytes) = ap bits_of (sym (take-append-drop k bytes)) ∙ bits_of-append (take k bytes) (drop k bytes) in
    sym (ap (take (8 * k)) parts ∙ take_at (bits_of (take k bytes)) (bits_of (drop k bytes)) (8 * k) (length-bits_of (take k bytes) ∙ ap (λ (x : ℕ). 8 * x) (length-take-le k bytes h)))

-- the first bytes of a number whose low bits are shifted to the top
behind_bits : (value rest count : ℕ) → rest ≤ 8 * count → count ≤ 8
    → bits_of (take count (to_be_bytes w64 (value * 2 ^ (64 - rest) % 2 ^ 64))) ≡ u value rest ++ replicate (8 * count - rest) false
behind_bits value rest count h k =
    let n = value * 2 ^ (64 - rest) in
    let bytes = to_be_bytes w64 (n % 2 ^ 64) in
    let all : 64 ≡ rest + (64 - rest) = omega arith in
    let zeros : 64 - rest ≡ (8 * count - rest) + (64 - 8 * count) = omega arith in
    let front = u value rest ++ replicate (8 * count - rest) false in
    let parts : bits_of bytes ≡ front ++ replicate (64 - 8 * count) false =
    to_be_bytes_bits (n % 2 ^ 64) (mod-lt n (pow_pos 64)) ∙ u-mod n 64 ∙ ap (u n) all ∙ u-shifted value rest (64 - rest)
    ∙ ap (λ (x : List Bool). u value rest ++ x) (ap (λ (x : ℕ). replicate x false) zeros ∙ sym (replicate-append-replicate (8 * count - rest) (64 - 8 * count) false))
    ∙ sym (append_assoc (u value rest) (replicate (8 * count - rest) false) (replicate (64 - 8 * count) false)) in
    take-bits_of count bytes (omega arith) ∙ ap (take (8 * count)) parts
    ∙ take_at front (replicate (64 - 8 * count) false) (8 * count) (omega (arith, length-append (u value rest) (replicate (8 * count - rest) false), length-u value rest, length-replicate (8 * count - rest) false))

pub nonempty : (items : List ℕ) (len free : ℕ) → len ≤ length items → HasFree (take len items) free → 0 < free → 1 ≤ len
nonempty items len free h k p = omega (arith, length-all_but (take len items) free k, length-take-le len items h)

u_none : (value : ℕ) → u value 0 ≡ []
unfolding u
u_none value = refl

-- the last of the first bytes is filled, and the others stay
pub filled : (items : List ℕ) (len free value byte : ℕ) → len ≤ length items → HasFree (take len items) free → 0 < free → value < 2 ^ free → byte ≡ get_or items (len - 1) byte
    → bits_of (set items (len - 1) (bit_or byte value)) ≡ all_but free (take len items) ++ u value free ++ bits_of (drop len items)
filled items len free value byte h k p small e =
    let i = len - 1 in
    let some : 1 ≤ len = nonempty items len free h k p in
    let back : len ≡ i + 1 = omega arith in
    let after : len ≡ suc i = omega arith in
    let here : i < length items = omega arith in
    let front = take i items in
    let read : byte ≡ get_or items i 0 = get_or_read items i byte here e 0 in
    let cut : take len items ≡ front ++ byte ∷ [] =
    ap (λ (x : ℕ). take x items) back ∙ take_more items i 0 here ∙ ap (λ (x : ℕ). front ++ x ∷ []) (sym read) in
    let v = bit_or byte value in
    let parts : set items i v ≡ (front ++ v ∷ []) ++ drop len items =
    set_split items i v here ∙ ap (λ (x : ℕ). front ++ v ∷ drop x items) (sym after) ∙ sym (append_assoc front (v ∷ []) (drop len items)) in
    ap bits_of parts ∙ bits_of-append (front ++ v ∷ []) (drop len items)
    ∙ ap (λ (x : List Bool). x ++ bits_of (drop len items)) (fill_last front byte free value (subst (λ (x : List ℕ). HasFree x free) cut k) small)
    ∙ ap (λ (x : List ℕ). all_but free x ++ u value free ++ bits_of (drop len items)) (sym cut)

pub unfilled : (items : List ℕ) (len free value : ℕ) → HasFree (take len items) free → free ≤ 0
    → bits_of items ≡ all_but free (take len items) ++ u value free ++ bits_of (drop len items)
unfilled items len free value k p =
    let none : free ≡ 0 = omega arith in
    ap bits_of (sym (take-append-drop len items)) ∙ bits_of-append (take len items) (drop len items)
    ∙ ap (λ (x : List Bool). x ++ bits_of (drop len items))
    (k.zeros ∙ ap (λ (x : List Bool). all_but free (take len items) ++ x) (ap (λ (x : ℕ). replicate x false) none ∙ sym (u_none value) ∙ ap (u value) (sym none)))

pub shifted_fits : (value n free : ℕ) → n ≤ free → free < 8 → value < 2 ^ n → (value * 2 ^ (free - n) < 2 ^ free) × (value * 2 ^ (free - n) % 2 ^ 64 ≡ value * 2 ^ (free - n))
shifted_fits value n free h few small =
    let all : n + (free - n) ≡ free = omega arith in
    let wide : free ≤ 64 = omega arith in
    let fits : value * 2 ^ (free - n) < 2 ^ free = subst (λ (x : ℕ). value * 2 ^ (free - n) < 2 ^ x) all (shl_lt n (free - n) small) in
    (fits, mod-eq_of_lt (lt_of_lt_of_le fits (pow_mono wide)))

pub high_fits : (value n free : ℕ) → free < n → value < 2 ^ n → (value / 2 / 2 ^ (n - free - 1) < 2 ^ free) × (value / 2 / 2 ^ (n - free - 1) ≡ value / 2 ^ (n - free))
high_fits value n free h small =
    let all : n ≡ free + (n - free) = omega arith in
    let one : 1 + (n - free - 1) ≡ n - free = omega arith in
    let same : value / 2 / 2 ^ (n - free - 1) ≡ value / 2 ^ (n - free) = shr-shr value 1 (n - free - 1) ∙ ap (λ (x : ℕ). value / 2 ^ x) one in
    (subst (λ (x : ℕ). x < 2 ^ free) (sym same) (shr_lt free (n - free) (subst (λ (x : ℕ). value < 2 ^ x) all small)), same)

-- all of what is written stands in the last byte
pub put_within : (old new : List ℕ) (len free n value : ℕ) → len ≡ length old → n ≤ free → free < 8 → value < 2 ^ n
    → bits_of new ≡ all_but free (take len old) ++ u (value * 2 ^ (free - n) % 2 ^ 64) free ++ bits_of (drop len old)
    → bits_of new ≡ (all_but free old ++ u value n) ++ replicate (free - n) false
put_within old new len free n value l h few small e =
    let all : free ≡ n + (free - n) = omega arith in
    let word : u (value * 2 ^ (free - n) % 2 ^ 64) free ≡ u value n ++ replicate (free - n) false =
    ap (λ (x : ℕ). u x free) (shifted_fits value n free h few small).1 ∙ ap (u (value * 2 ^ (free - n))) all ∙ u-shifted value n (free - n) in
    e ∙ ap₂ (λ (x y : List ℕ). all_but free x ++ u (value * 2 ^ (free - n) % 2 ^ 64) free ++ bits_of y) (take_all len old (omega arith)) (drop_all len old (omega arith))
    ∙ ap (λ (x : List Bool). all_but free old ++ u (value * 2 ^ (free - n) % 2 ^ 64) free ++ x) bits_of_nil
    ∙ append-nil (all_but free old ++ u (value * 2 ^ (free - n) % 2 ^ 64) free)
    ∙ ap (λ (x : List Bool). all_but free old ++ x) word ∙ sym (append_assoc (all_but free old) (u value n) (replicate (free - n) false))

-- some of it stands in the last byte, and the rest in bytes behind it
pub put_behind : (old tail new : List ℕ) (len free n value count : ℕ) → len ≡ length old → free < n → n ≤ 64 → value < 2 ^ n → n - free ≤ 8 * count → count ≤ 8
    → tail ≡ take count (to_be_bytes w64 (value * 2 ^ (64 - (n - free)) % 2 ^ 64))
    → bits_of new ≡ all_but free (take len (old ++ tail)) ++ u (value / 2 / 2 ^ (n - free - 1)) free ++ bits_of (drop len (old ++ tail))
    → bits_of new ≡ (all_but free old ++ u value n) ++ replicate (8 * count - (n - free)) false
put_behind old tail new len free n value count l h few small long room t e =
    let rest = n - free in
    let zeros = replicate (8 * count - rest) false in
    let high = u (value / 2 / 2 ^ (rest - 1)) free in
    let all : n ≡ free + rest = omega arith in
    let word : u value n ≡ high ++ u value rest =
    ap (u value) all ∙ u-split value free rest ∙ ap (λ (x : ℕ). u x free ++ u value rest) (sym (high_fits value n free h small).1) in
    e ∙ ap₂ (λ (x y : List ℕ). all_but free x ++ high ++ bits_of y) (take_at old tail len (sym l)) (drop_at old tail len (sym l))
    ∙ ap (λ (x : List Bool). all_but free old ++ high ++ x) (ap bits_of t ∙ behind_bits value rest count long room)
    ∙ sym (append_assoc (all_but free old ++ high) (u value rest) zeros)
    ∙ ap (λ (x : List Bool). x ++ zeros) (append_assoc (all_but free old) high (u value rest) ∙ ap (λ (x : List Bool). all_but free old ++ x) (sym word))

-- 1 and zeros
pub u_one : (n : ℕ) → u (2 ^ n) (suc n) ≡ true ∷ replicate n false
u_one n =
    same_bits (u (2 ^ n) (suc n)) (true ∷ replicate n false) (length-u (2 ^ n) (suc n) ∙ ap suc (sym (length-replicate n false)))
    (number-u (2 ^ n) (suc n) ∙ mod-eq_of_lt (pow_below n (suc n) (omega arith)) ∙ sym (one_over_zeros n))

pub trailing_word : (n len : ℕ) → 1 ≤ n → n ≤ 8 → 7 - len % 8 ≡ n - 1 → u (1 * 2 ^ (n - 1) % 2 ^ 64) n ≡ trailing_bits len
trailing_word n len some few e =
    let back : n ≡ suc (n - 1) = omega arith in
    ap₂ (λ (x y : ℕ). u x y) (one_shl (n - 1) 64 (omega arith)) back ∙ u_one (n - 1) ∙ ap (λ (x : ℕ). true ∷ replicate x false) (sym e)

length-trailing_bits : (n : ℕ) → length (trailing_bits n) ≡ 8 - n % 8
length-trailing_bits n = ap suc (length-replicate (7 - n % 8) false) ∙ omega arith

-- Bits that are closed by the trailing bits fill whole bytes.
pub holds_finished : (bytes : List ℕ) (bits : List Bool) → Holds bytes (bits ++ trailing_bits (length bits)) → bits_of bytes ≡ bits ++ trailing_bits (length bits)
holds_finished bytes bits (free, few, e) =
    let all = bits ++ trailing_bits (length bits) in
    let none : free ≡ 0 =
    omega (arith, ap length e, length-append all (replicate free false), length-append bits (trailing_bits (length bits)), length-trailing_bits (length bits), length-replicate free false, length-bits_of bytes) in
    e ∙ ap (λ (x : ℕ). all ++ replicate x false) none ∙ append-nil all

-- the bytes up to a place within the last of them, whose bits from there on become zeros
pub cut_within : (items : List ℕ) (len free byte : ℕ) → len ≤ length items → 1 ≤ len → free < 8 → byte ≡ get_or (take len items) (len - 1) 0
    → bits_of (set (take len items) (len - 1) (byte / 2 ^ free * 2 ^ free % 2 ^ 8)) ≡ take (8 * len - free) (bits_of items) ++ replicate free false
cut_within items len free byte h some few e =
    let kept = take len items in
    let i = len - 1 in
    let m = 8 - free in
    let q = byte / 2 ^ free in
    let v = q * 2 ^ free % 2 ^ 8 in
    let front = take i kept in
    let size : length kept ≡ len = length-take-le len items h in
    let here : i < length kept = omega (arith, size) in
    let eight : m + free ≡ 8 = omega arith in
    let back : i + 1 ≡ len = omega arith in
    let after : length kept ≤ suc i = omega (arith, size) in
    let high = bits_of front ++ u q m in
    let whole : kept ≡ front ++ byte ∷ [] =
    sym (take_all len kept (omega (arith, size))) ∙ ap (λ (x : ℕ). take x kept) (sym back) ∙ take_more kept i 0 here ∙ ap (λ (x : ℕ). front ++ x ∷ []) (sym e) in
    let written : set kept i v ≡ front ++ v ∷ [] = set_split kept i v here ∙ ap (λ (x : List ℕ). front ++ v ∷ x) (drop_all (suc i) kept after) in
    let zeros : u v 8 ≡ u q m ++ replicate free false = u-mod (q * 2 ^ free) 8 ∙ ap (u (q * 2 ^ free)) (sym eight) ∙ u-shifted q m free in
    let all : bits_of items ≡ high ++ (u byte free ++ bits_of (drop len items)) =
    ap bits_of (sym (take-append-drop len items)) ∙ bits_of-append kept (drop len items)
    ∙ ap (λ (x : List Bool). x ++ bits_of (drop len items)) (ap bits_of whole ∙ last_split front byte m free eight)
    ∙ append_assoc high (u byte free) (bits_of (drop len items)) in
    let long : length high ≡ 8 * len - free =
    omega (arith, length-append (bits_of front) (u q m), length-bits_of front, length-u q m, length-take-le i kept (omega (arith, size))) in
    ap bits_of written ∙ bits_of_push front v ∙ ap (λ (x : List Bool). bits_of front ++ x) zeros ∙ sym (append_assoc (bits_of front) (u q m) (replicate free false))
    ∙ ap (λ (x : List Bool). x ++ replicate free false) (sym (ap (take (8 * len - free)) all ∙ take_at high (u byte free ++ bits_of (drop len items)) (8 * len - free) long))

pub cut_whole : (items : List ℕ) (len free : ℕ) → len ≤ length items → free ≤ 0 → bits_of (take len items) ≡ take (8 * len - free) (bits_of items) ++ replicate free false
cut_whole items len free h none =
    let e : free ≡ 0 = omega arith in
    let n : 8 * len ≡ 8 * len - free = omega arith in
    take-bits_of len items h ∙ ap (λ (x : ℕ). take x (bits_of items)) n ∙ sym (append-nil (take (8 * len - free) (bits_of items)))
    ∙ ap (λ (x : ℕ). take (8 * len - free) (bits_of items) ++ replicate x false) (sym e)

-- what is left of all that was written
pub take-all_but : (items : List ℕ) (free n : ℕ) → n ≤ length (all_but free items) → take n (all_but free items) ≡ take n (bits_of items)
unfolding all_but
take-all_but items free n h = take-take n (8 * length items - free) (bits_of items) (omega (arith, h, length-take (8 * length items - free) (bits_of items)))
