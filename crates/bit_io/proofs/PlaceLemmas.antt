-- What is left of the bits of bytes behind a place, a byte and a bit of it.
use Rattle.std.proofs.Common.{◌≡◌, ℕ, ◌+◌, ◌-◌, ◌*◌, ◌/◌, ◌%◌, ◌<◌, Bool, List, ◌++◌, length, drop, sym, ap, ap₂, ◌∙◌, arith, length-drop}
use Rattle.std.proofs.lemmas.List.{length-append, drop-drop}
use Rattle.bit_io.proofs.ByteLemmas.{length-bits_of, drop-bits_of}
use Rattle.bit_io.proofs.NumberLemmas.{length-u}
use Rattle.bit_io.specs.Bits.{u, bits_of}

pub length_left : (bytes : List ℕ) (byte bit : ℕ) → length (drop bit (bits_of (drop byte bytes))) ≡ 8 * (length bytes - byte) - bit
length_left bytes byte bit =
    length-drop bit (bits_of (drop byte bytes)) ∙ ap (λ (x : ℕ). x - bit) (length-bits_of (drop byte bytes) ∙ ap (λ (x : ℕ). 8 * x) (length-drop byte bytes))

-- n bits further on
pub moved : (bytes : List ℕ) (byte bit n : ℕ) → drop ((bit + n) % 8) (bits_of (drop (byte + (bit + n) / 8) bytes)) ≡ drop n (drop bit (bits_of (drop byte bytes)))
moved bytes byte bit n =
    let q = (bit + n) / 8 in
    let r = (bit + n) % 8 in
    let parts : 8 * q + r ≡ bit + n = omega arith in
    ap (λ (x : List ℕ). drop r (bits_of x)) (sym (drop-drop q byte bytes))
    ∙ ap (drop r) (sym (drop-bits_of q (drop byte bytes)))
    ∙ drop-drop r (8 * q) (bits_of (drop byte bytes))
    ∙ ap (λ (x : ℕ). drop x (bits_of (drop byte bytes))) parts
    ∙ sym (drop-drop n bit (bits_of (drop byte bytes)))

-- fewer than n bits are no n bits
pub too_short : (n v : ℕ) (bits rest : List Bool) → length bits < n → bits ≡ u v n ++ rest → ⊥
too_short n v bits rest h e = omega (arith, ap length e, length-append (u v n) rest, length-u v n)

-- three bytes further on
pub moved_3 : (bytes : List ℕ) (byte bit : ℕ) → bit < 8 → drop bit (bits_of (drop (byte + 3) bytes)) ≡ drop 24 (drop bit (bits_of (drop byte bytes)))
moved_3 bytes byte bit h =
    let q : 3 ≡ (bit + 24) / 8 = omega arith in
    let r : bit ≡ (bit + 24) % 8 = omega arith in
    ap₂ (λ (x y : ℕ). drop x (bits_of (drop (byte + y) bytes))) r q ∙ moved bytes byte bit 24

-- counted from the first bit
pub from_first : (bytes : List ℕ) (byte bit : ℕ) → drop bit (bits_of (drop byte bytes)) ≡ drop (8 * byte + bit) (bits_of bytes)
from_first bytes byte bit = ap (drop bit) (sym (drop-bits_of byte bytes)) ∙ drop-drop bit (8 * byte) (bits_of bytes)
