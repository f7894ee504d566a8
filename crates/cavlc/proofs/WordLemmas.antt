-- Levels, their codes, and the words of prefix and suffix that spell these.
use Rattle.std.proofs.Common.{◌≡◌, ◌≢◌, ℕ, zero, suc, ◌+◌, ◌-◌, ◌*◌, ◌/◌, ◌%◌, ◌^◌, ◌<◌, ◌≤◌, Bool, true, false, ◌&&◌, List, [], ◌∷◌, ◌++◌, length, drop, replicate, refl, sym, ap, ap₂, ◌∙◌, subst, arith, inl, inr, ℤ, pos, negsuc, eqb, ne_eqb, lt-ltb, le-ltb, pow-suc, mod-lt, div-add-mod', append_assoc, eq-zero-or-pos}
use Rattle.std.proofs.lemmas.Bool.{cases_eq, cases_lt}
use Rattle.std.proofs.lemmas.List.{length-append, length-replicate}
use Rattle.std.proofs.lemmas.Nat.{leading_top, mod-mul-add, mul-add-lt, pow-add, pow_pos, shl-shr, shr_below, shr_high, shr_split}
use Rattle.std.proofs.Math.Nat.{div-lt_iff_lt-mul}
use Rattle.std.proofs.Math.Pow.{shr_mono}
use Rattle.std.specs.Int.Count.{count_leading_zeros, leading_of_zero, leading_unique}
use Rattle.bit_io.proofs.LawLemmas.{u_prefix_free}
use Rattle.bit_io.proofs.NumberLemmas.{length-u, spelled, u-add, u-zeros}
use Rattle.bit_io.specs.Bits.{u}
use Rattle.bit_io.specs.Numbers.{number, ahead}
use Rattle.bit_io.specs.Reads.{BeginsNone, IsPrefixFree}
use Rattle.cavlc.proofs.CodeLemmas.{number_at, window_front}
use Rattle.cavlc.specs.declared.levels.LevelState.{LevelState}
use Rattle.cavlc.specs.declared.levels.LevelWord.{LevelWord}
use Rattle.cavlc.specs.Levels.{HasLevelCode, IsLevelWord, escape, level_bits, level_code, level_word, suffix_size, word_bits, word_code}

two_pow : (k : ℕ) → 2 ^ suc k ≡ 2 ^ k + 2 ^ k
two_pow k = pow-suc 2 k ∙ omega arith

-- words as bits

one_over : (v n : ℕ) → v < 2 ^ n → u (2 ^ n + v) (suc n) ≡ true ∷ u v n
unfolding u
one_over v n h =
    let one : 2 ^ n + v ≡ 1 * 2 ^ n + v = omega arith in
    let top : (2 ^ n + v) / 2 ^ n % 2 ≡ 1 = ap (λ (x : ℕ). x / 2 ^ n % 2) one ∙ ap (λ (x : ℕ). x % 2) (shr_high 1 n v h) in
    ap₂ (λ (x : ℕ) (y : List Bool). eqb x 1 ∷ y) top (ap (λ (x : ℕ). u x n) one ∙ u-add 1 v n)

-- a word is a number behind zeros
pub word_is : (prefix size suffix : ℕ) → suffix < 2 ^ size
    → word_bits (let word : LevelWord = record { prefix = prefix; size = size; suffix = suffix } in word) ≡ u (2 ^ size + suffix) (prefix + suc size)
unfolding word_bits
word_is prefix size suffix h =
    ap (λ (x : List Bool). replicate prefix false ++ x) (sym (one_over suffix size h))
    ∙ sym (u-zeros (2 ^ size + suffix) prefix (suc size) (omega (arith, two_pow size)))

word_length : (word : LevelWord) → length (word_bits word) ≡ word.prefix + suc word.size
unfolding word_bits
word_length word =
    length-append (replicate word.prefix false) (true ∷ u word.suffix word.size)
    ∙ ap₂ (λ (x y : ℕ). x + suc y) (length-replicate word.prefix false) (length-u word.suffix word.size)

zeros_same : (m n : ℕ) (xs ys : List Bool) → replicate m false ++ true ∷ xs ≡ replicate n false ++ true ∷ ys → (m ≡ n) × (xs ≡ ys)
zeros_same zero zero xs ys e = (refl, cc)
zeros_same zero (suc n) xs ys e = cc
zeros_same (suc m) zero xs ys e = cc
zeros_same (suc m) (suc n) xs ys e = let same = zeros_same m n xs ys (cc) in (ap suc same.0, same.1)

same_word : (v w : LevelWord) → v.prefix ≡ w.prefix → v.size ≡ w.size → v.suffix ≡ w.suffix → v ≡ w
same_word v w e f g =
    ap₂ (λ (x y : ℕ). let word : LevelWord = record { prefix = x; size = y; suffix = v.suffix } in word) e f
    ∙ ap (λ (z : ℕ). let word : LevelWord = record { prefix = w.prefix; size = w.size; suffix = z } in word) g

pub word_prefix_free : (suffix_length : ℕ) → IsPrefixFree (IsLevelWord suffix_length) word_bits
unfolding word_bits
word_prefix_free s v w after_v after_w h k e =
    let first = zeros_same v.prefix w.prefix (u v.suffix v.size ++ after_v) (u w.suffix w.size ++ after_w)
    (sym (append_assoc (replicate v.prefix false) (true ∷ u v.suffix v.size) after_v) ∙ e ∙ append_assoc (replicate w.prefix false) (true ∷ u w.suffix w.size) after_w) in
    let size : w.size ≡ v.size = k.size_is ∙ ap (λ (x : ℕ). suffix_size x s) (sym first.0) ∙ sym h.size_is in
    let second = u_prefix_free v.size v.suffix w.suffix after_v after_w h.suffix_fits (subst (λ (x : ℕ). w.suffix < 2 ^ x) size k.suffix_fits)
    (first.1 ∙ ap (λ (x : ℕ). u w.suffix x ++ after_w) size) in
    (same_word v w first.0 (sym size) second.0, second.1)

-- words in a window

u_one : u 1 1 ≡ true ∷ []
unfolding u
u_one = refl

-- a word that begins the bits
word_one : (word : LevelWord) (bits rest : List Bool) → bits ≡ word_bits word ++ rest → number (ahead (suc word.prefix) bits) ≡ 1
unfolding word_bits
word_one word bits rest e =
    let p = word.prefix in
    let tail = u word.suffix word.size in
    let more : p + 1 ≡ suc p = omega arith in
    let one : u 1 (suc p) ≡ replicate p false ++ true ∷ [] = ap (u 1) (sym more) ∙ u-zeros 1 p 1 (omega arith) ∙ ap (λ (x : List Bool). replicate p false ++ x) u_one in
    let small : 1 < 2 ^ suc p = omega (arith, two_pow p, pow_pos p) in
    number_at 1 (suc p) bits (tail ++ rest) small
    (e ∙ append_assoc (replicate p false) (true ∷ tail) rest ∙ sym (append_assoc (replicate p false) (true ∷ []) (tail ++ rest)) ∙ ap (λ (x : List Bool). x ++ (tail ++ rest)) (sym one))

quotient_one : (w p : ℕ) → 0 < p → w / p ≡ 1 → (p ≤ w) × (w < p + p)
quotient_one w p h e =
    let parts : 1 * p + w % p ≡ w = ap (λ (x : ℕ). x * p + w % p) (sym e) ∙ div-add-mod' w p in
    (omega (arith, parts), omega (arith, parts, mod-lt w h))

pub leading_is : (word : LevelWord) (w : ℕ) (bits rest : List Bool) → word.prefix ≤ 15 → w ≡ number (ahead 32 bits) → bits ≡ word_bits word ++ rest → count_leading_zeros 32 w ≡ word.prefix
leading_is word w bits rest below over e =
    let p = word.prefix in
    let m = 31 - p in
    let at : 32 - suc p ≡ m = omega arith in
    let one : w / 2 ^ m ≡ 1 = ap₂ (λ (x y : ℕ). x / 2 ^ y) over (sym at) ∙ window_front (suc p) bits (omega arith) ∙ word_one word bits rest e in
    let bounds : (2 ^ m ≤ w) × (w < 2 ^ m + 2 ^ m) = quotient_one w (2 ^ m) (pow_pos m) one in
    sym (leading_unique 32 w p (suc m) (omega arith) (omega (arith, two_pow m, bounds.1)) (omega (arith, two_pow m, bounds.0)))

pub no_word : (s w : ℕ) (bits : List Bool) → w ≡ number (ahead 32 bits) → 15 < count_leading_zeros 32 w → BeginsNone (IsLevelWord s) word_bits bits
no_word s w bits over high word rest h e =
    omega (arith, h.prefix_fits, leading_is word w bits rest h.prefix_fits over e)

pub short_word : (s w size : ℕ) (bits : List Bool) → w ≡ number (ahead 32 bits) → size ≡ suffix_size (count_leading_zeros 32 w) s → length bits < count_leading_zeros 32 w + 1 + size → BeginsNone (IsLevelWord s) word_bits bits
short_word s w size bits over is short word rest h e =
    let same = leading_is word w bits rest h.prefix_fits over e in
    let sizes : size ≡ word.size = is ∙ ap (λ (x : ℕ). suffix_size x s) same ∙ sym h.size_is in
    omega (arith, ap length e, length-append (word_bits word) rest, word_length word, same, sizes)

positive : (w z : ℕ) → z ≡ count_leading_zeros 32 w → z < 32 → 0 < w
positive w z is below =
    elim (eq-zero-or-pos w) [ inl e ↦ absurd (omega (arith, is ∙ ap (count_leading_zeros 32) e ∙ leading_of_zero 32)) | inr h ↦ h ]

-- the 1 and the suffix behind the prefix's zeros
pub front_bounds : (w z size place : ℕ) → w < 2 ^ 32 → z ≡ count_leading_zeros 32 w → z + suc size + place ≡ 32 → (2 ^ size ≤ w / 2 ^ place) × (w / 2 ^ place < 2 ^ suc size)
front_bounds w z size place fits is all =
    let top = leading_top 32 w (positive w z is (omega arith)) fits in
    let j = top.0 in
    let same : j ≡ size + place = omega (arith, top.1, is) in
    let more : suc j ≡ suc size + place = omega (arith, same) in
    let low : 2 ^ size * 2 ^ place ≤ w = subst (λ (x : ℕ). x ≤ w) (ap (λ (x : ℕ). 2 ^ x) same ∙ pow-add 2 size place) top.2 in
    let high : w < 2 ^ (suc size + place) = subst (λ (x : ℕ). w < 2 ^ x) more top.3 in
    (subst (λ (x : ℕ). x ≤ w / 2 ^ place) (shl-shr (2 ^ size) place) (shr_mono place low), shr_below w (suc size) place high)

-- the word at the front of a window
pub word_at : (w z size n : ℕ) (bits : List Bool) → w < 2 ^ 32 → w ≡ number (ahead 32 bits) → z ≡ count_leading_zeros 32 w → n ≡ z + 1 + size → n ≤ 32 → n ≤ length bits
    → (w / 2 ^ (32 - n) - 2 ^ size < 2 ^ size)
    × (bits ≡ word_bits (let word : LevelWord = record { prefix = z; size = size; suffix = w / 2 ^ (32 - n) - 2 ^ size } in word) ++ drop n bits)
word_at w z size n bits fits over is long few held =
    let place = 32 - n in
    let q = w / 2 ^ place in
    let bounds = front_bounds w z size place fits is (omega (arith, long)) in
    let small : q - 2 ^ size < 2 ^ size = omega (arith, bounds.0, bounds.1, two_pow size) in
    let whole : 2 ^ size + (q - 2 ^ size) ≡ q = omega (arith, bounds.0) in
    let same : z + suc size ≡ n = omega (arith, long) in (
      small,
      spelled n q bits held (ap (λ (x : ℕ). x / 2 ^ place) over ∙ window_front n bits few)
          ∙ ap (λ (x : List Bool). x ++ drop n bits) (ap₂ (λ (x y : ℕ). u x y) (sym whole) (sym same) ∙ sym (word_is z size (q - 2 ^ size) small)),
    )

-- codes and words

not_zero : (n : ℕ) → eqb (suc n) 0 ≡ false
not_zero n = ne_eqb (suc n) 0 (λ e. omega (arith, e))

-- the word of a code: at suffix length 0 the code itself, 14 or 15 as the prefix, else its high bits or 15
pub word_short : (code : ℕ) → code < 14 → level_word 0 code ≡ record { prefix = code; size = 0; suffix = 0 }
unfolding level_word
word_short code h = rw (lt-ltb code 30 (omega arith), lt-ltb code 14 h) refl

pub word_middle : (code : ℕ) → 14 ≤ code → code < 30 → level_word 0 code ≡ record { prefix = 14; size = 4; suffix = code - 14 }
unfolding level_word
word_middle code h k = rw (lt-ltb code 30 k, le-ltb code 14 h) refl

pub word_low : (n code : ℕ) → code < 15 * 2 ^ suc n → level_word (suc n) code ≡ record { prefix = code / 2 ^ suc n; size = suc n; suffix = code % 2 ^ suc n }
unfolding level_word
word_low n code h = rw (lt-ltb code (15 * 2 ^ suc n) h, not_zero n) refl

pub word_escaped : (s code : ℕ) → escape s ≤ code → level_word s code ≡ record { prefix = 15; size = 12; suffix = code - escape s }
unfolding level_word
word_escaped s code h = rw (le-ltb code (escape s) h) refl

and_false : (b : Bool) → (b && false) ≡ false
and_false true = refl
and_false false = refl

-- A code's word gives the code back.
abbrev Gives_back : ℕ → ℕ → LevelWord → Type 0
Gives_back s code word = IsLevelWord s word × (word_code word.prefix word.suffix s ≡ code)

size_short : (prefix : ℕ) → prefix < 14 → suffix_size prefix 0 ≡ 0
size_short prefix h = rw (ne_eqb prefix 15 (λ e. omega (arith, e)), ne_eqb prefix 14 (λ e. omega (arith, e))) refl

size_low : (prefix n : ℕ) → prefix < 15 → suffix_size prefix (suc n) ≡ suc n
size_low prefix n h = rw (ne_eqb prefix 15 (λ e. omega (arith, e)), not_zero n, and_false (eqb prefix 14)) refl

code_short : (prefix suffix : ℕ) → prefix < 15 → word_code prefix suffix 0 ≡ prefix + suffix
code_short prefix suffix h = rw (ne_eqb prefix 15 (λ e. omega (arith, e))) (omega arith)

code_low : (prefix suffix n : ℕ) → word_code prefix suffix (suc n) ≡ prefix * 2 ^ suc n + suffix
code_low prefix suffix n = rw (not_zero n, and_false (eqb prefix 15)) (omega arith)

code_escaped : (s suffix : ℕ) → word_code 15 suffix s ≡ escape s + suffix
code_escaped zero suffix = omega arith
code_escaped (suc n) suffix = rw (not_zero n) (omega arith)

back_short : (code : ℕ) → code < 14 → Gives_back 0 code (level_word 0 code)
back_short code h =
    subst (Gives_back 0 code) (sym (word_short code h))
    (record { prefix_fits = omega arith; size_is = sym (size_short code h); suffix_fits = omega arith }, code_short code 0 (omega arith) ∙ omega arith)

back_middle : (code : ℕ) → 14 ≤ code → code < 30 → Gives_back 0 code (level_word 0 code)
back_middle code h k =
    subst (Gives_back 0 code) (sym (word_middle code h k)) (record { prefix_fits = omega arith; size_is = refl; suffix_fits = omega arith }, omega arith)

back_low : (n code : ℕ) → code < 15 * 2 ^ suc n → Gives_back (suc n) code (level_word (suc n) code)
back_low n code h =
    let prefix = code / 2 ^ suc n in
    let high : prefix < 15 = (div-lt_iff_lt-mul (pow_pos (suc n))).1 h in
    subst (Gives_back (suc n) code) (sym (word_low n code h))
    (record { prefix_fits = omega arith; size_is = sym (size_low prefix n high); suffix_fits = mod-lt code (pow_pos (suc n)) }, code_low prefix (code % 2 ^ suc n) n ∙ shr_split code (suc n))

back_escaped : (s code : ℕ) → escape s ≤ code → code < escape s + 2 ^ 12 → Gives_back s code (level_word s code)
back_escaped s code h k =
    subst (Gives_back s code) (sym (word_escaped s code h))
    (record { prefix_fits = omega arith; size_is = refl; suffix_fits = omega arith }, code_escaped s (code - escape s) ∙ omega arith)

back_at : (s code : ℕ) → code < escape s → Gives_back s code (level_word s code)
back_at zero code h = elim (cases_lt code 14) [ inl l ↦ back_short code l | inr g ↦ back_middle code g h ]
back_at (suc n) code h = back_low n code h

pub word_of_code : (s code : ℕ) → code < escape s + 2 ^ 12 → IsLevelWord s (level_word s code) × (word_code (level_word s code).prefix (level_word s code).suffix s ≡ code)
word_of_code s code h = elim (cases_lt code (escape s)) [ inl l ↦ back_at s code l | inr g ↦ back_escaped s code g h ]

-- A word is that of the code that it gives.
abbrev IsWordOf : ℕ → LevelWord → ℕ → Type 0
IsWordOf s word code = (code < escape s + 2 ^ 12) × (level_word s code ≡ word)

of_short : (word : LevelWord) → IsLevelWord 0 word → word.prefix < 14 → IsWordOf 0 word (word_code word.prefix word.suffix 0)
of_short word h below =
    let size : word.size ≡ 0 = h.size_is ∙ size_short word.prefix below in
    let none : word.suffix < 2 ^ 0 = subst (λ (x : ℕ). word.suffix < 2 ^ x) size h.suffix_fits in
    let code : word.prefix ≡ word_code word.prefix word.suffix 0 = sym (code_short word.prefix word.suffix (omega arith) ∙ omega arith) in
    subst (IsWordOf 0 word) code (omega arith, word_short word.prefix below ∙ same_word _ word refl (sym size) (omega arith))

of_middle : (word : LevelWord) → IsLevelWord 0 word → word.prefix ≡ 14 → IsWordOf 0 word (word_code word.prefix word.suffix 0)
of_middle word h is =
    let size : word.size ≡ 4 = h.size_is ∙ ap (λ (x : ℕ). suffix_size x 0) is in
    let few : word.suffix < 2 ^ 4 = subst (λ (x : ℕ). word.suffix < 2 ^ x) size h.suffix_fits in
    let code : 14 + word.suffix ≡ word_code word.prefix word.suffix 0 = sym (code_short word.prefix word.suffix (omega arith) ∙ omega arith) in
    subst (IsWordOf 0 word) code (omega arith, word_middle (14 + word.suffix) (omega arith) (omega arith) ∙ same_word _ word (sym is) (sym size) (omega arith))

of_low : (n : ℕ) (word : LevelWord) → IsLevelWord (suc n) word → word.prefix < 15 → IsWordOf (suc n) word (word_code word.prefix word.suffix (suc n))
of_low n word h below =
    let p = 2 ^ suc n in
    let size : word.size ≡ suc n = h.size_is ∙ size_low word.prefix n below in
    let few : word.suffix < p = subst (λ (x : ℕ). word.suffix < 2 ^ x) size h.suffix_fits in
    let code = sym (code_low word.prefix word.suffix n) in
    let low : word.prefix * p + word.suffix < 15 * p = omega (arith, mul-add-lt word.prefix p word.suffix 15 below few) in
    subst (IsWordOf (suc n) word) code
    (omega arith, word_low n (word.prefix * p + word.suffix) low ∙ same_word _ word (shr_high word.prefix (suc n) word.suffix few) (sym size) (mod-mul-add word.prefix p word.suffix few))

of_escaped : (s : ℕ) (word : LevelWord) → IsLevelWord s word → word.prefix ≡ 15 → IsWordOf s word (word_code word.prefix word.suffix s)
of_escaped s word h is =
    let size : word.size ≡ 12 = h.size_is ∙ ap (λ (x : ℕ). suffix_size x s) is in
    let few : word.suffix < 2 ^ 12 = subst (λ (x : ℕ). word.suffix < 2 ^ x) size h.suffix_fits in
    let code : escape s + word.suffix ≡ word_code word.prefix word.suffix s = sym (ap (λ (x : ℕ). word_code x word.suffix s) is ∙ code_escaped s word.suffix) in
    subst (IsWordOf s word) code (omega arith, word_escaped s (escape s + word.suffix) (omega arith) ∙ same_word _ word (sym is) (sym size) (omega arith))

of_below : (s : ℕ) (word : LevelWord) → IsLevelWord s word → word.prefix < 15 → IsWordOf s word (word_code word.prefix word.suffix s)
of_below zero word h below = elim (cases_eq word.prefix 14) [ inl e ↦ of_middle word h e | inr n ↦ of_short word h (omega arith) ]
of_below (suc n) word h below = of_low n word h below

pub code_of_word : (s : ℕ) (word : LevelWord) → IsLevelWord s word → (word_code word.prefix word.suffix s < escape s + 2 ^ 12) × (level_word s (word_code word.prefix word.suffix s) ≡ word)
code_of_word s word h = elim (cases_eq word.prefix 15) [ inl e ↦ of_escaped s word h e | inr n ↦ of_below s word h (omega (arith, h.prefix_fits)) ]

-- levels

level_same : (l m : ℤ) → l ≢ pos 0 → m ≢ pos 0 → level_code l ≡ level_code m → l ≡ m
level_same (pos zero) m h k e = absurd (h refl)
level_same (pos (suc a)) (pos zero) h k e = absurd (k refl)
level_same (pos (suc a)) (pos (suc b)) h k e = ap pos (omega (arith, e))
level_same (pos (suc a)) (negsuc b) h k e = absurd (omega (arith, e))
level_same (negsuc a) (pos zero) h k e = absurd (k refl)
level_same (negsuc a) (pos (suc b)) h k e = absurd (omega (arith, e))
level_same (negsuc a) (negsuc b) h k e = ap negsuc (omega (arith, e))

pub level_prefix_free : (state : LevelState) → IsPrefixFree (HasLevelCode state) (level_bits state)
unfolding level_bits
level_prefix_free state v w after_v after_w h k e =
    let s = state.suffix_length in
    let a = word_of_code s (level_code v - state.least) h.prefix in
    let b = word_of_code s (level_code w - state.least) k.prefix in
    let same = word_prefix_free s (level_word s (level_code v - state.least)) (level_word s (level_code w - state.least)) after_v after_w a.0 b.0 e in
    let code : level_code v - state.least ≡ level_code w - state.least = sym a.1 ∙ ap (λ (x : LevelWord). word_code x.prefix x.suffix s) same.0 ∙ b.1 in
    (level_same v w h.nonzero k.nonzero (omega (arith, code, h.least, k.least)), same.1)

-- Where no word begins the bits, no level does.
pub no_level : (state : LevelState) (bits : List Bool) → BeginsNone (IsLevelWord state.suffix_length) word_bits bits → BeginsNone (HasLevelCode state) (level_bits state) bits
unfolding level_bits
no_level state bits none v rest h e =
    let s = state.suffix_length in
    none (level_word s (level_code v - state.least)) rest (word_of_code s (level_code v - state.least) h.prefix).0 e

pub level_is : (state : LevelState) (word : LevelWord) (level : ℤ) (old new : List Bool) → IsLevelWord state.suffix_length word → old ≡ word_bits word ++ new
    → level ≢ pos 0 → level_code level ≡ word_code word.prefix word.suffix state.suffix_length + state.least → HasLevelCode state level × (old ≡ level_bits state level ++ new)
unfolding level_bits
level_is state word level old new h e nonzero is =
    let s = state.suffix_length in
    let back = code_of_word s word h in
    let less : level_code level - state.least ≡ word_code word.prefix word.suffix s = omega (arith, is) in (
      record { nonzero = nonzero; least = omega (arith, is); prefix = omega (arith, less, back.0) },
      e ∙ ap (λ (x : LevelWord). word_bits x ++ new) (sym (ap (level_word s) less ∙ back.1)),
    )

-- the same at a suffix length that isn't known to be 0 or not
pub word_at_low : (s code : ℕ) → 0 < s → code < escape s → level_word s code ≡ record { prefix = code / 2 ^ s; size = s; suffix = code % 2 ^ s }
word_at_low zero code some h = absurd (omega (arith, some))
word_at_low (suc n) code some h = word_low n code h

pub word_at_none : (s code : ℕ) → s ≤ 0 → (code < 14 → level_word s code ≡ record { prefix = code; size = 0; suffix = 0 }) × (14 ≤ code → code < escape s → level_word s code ≡ record { prefix = 14; size = 4; suffix = code - 14 })
word_at_none zero code none = (word_short code, word_middle code)
word_at_none (suc n) code none = absurd (omega (arith, none))
