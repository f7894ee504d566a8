-- The bytes of a unit's front that the payload keeps.
use Rattle.std.proofs.Common.{◌≡◌, ℕ, ◌+◌, ◌-◌, ◌<◌, ◌≤◌, Bool, true, false, not, cond, List, [], ◌∷◌, ◌++◌, length, map, take, drop, arith, refl, sym, ap, ◌∙◌, zero, suc, slice_index, append_assoc, append-nil, add-zero}
use Rattle.std.specs.Prelude.{filter}
use Rattle.std.specs.List.{range_with_len}
use Rattle.std.proofs.lemmas.List.{map-append}
use Rattle.std.proofs.lemmas.List.Elements.{filter-append}
use Rattle.bit_io.specs.Payload.{is_prevention}
use Rattle.bit_io.proofs.Allowed.{IsClear}
use Rattle.bit_io.proofs.Zeros.{no_prevention}
use Rattle.std.proofs.Common.{length-drop}
use Rattle.std.proofs.Math.Seq.{take-suc}
use Rattle.std.proofs.lemmas.List.{get_or-drop}

-- what is kept of the first n bytes
abbrev pub kept : List ℕ → ℕ → List ℕ
kept unit n = map (slice_index unit) (filter (λ i. not (is_prevention unit i)) (range_with_len 0 n))

range_more : (n a : ℕ) → range_with_len a (suc n) ≡ range_with_len a n ++ (a + n) ∷ []
range_more zero a = rw add-zero refl
range_more (suc n) a = ap (λ xs. a ∷ xs) (range_more n (a + 1) ∙ ap (λ x. range_with_len (a + 1) n ++ x ∷ []) (omega arith))

range_from_zero : (n : ℕ) → range_with_len 0 (n + 1) ≡ range_with_len 0 n ++ n ∷ []
range_from_zero n =
    let one : n + 1 ≡ suc n = omega arith in
    let none : 0 + n ≡ n = omega arith in
    rw (one, range_more, none) refl

-- one place more: what the test keeps of it comes after what it kept before
filter_more : (p : ℕ → Bool) (n : ℕ) → filter p (range_with_len 0 (n + 1)) ≡ filter p (range_with_len 0 n) ++ cond (p n) (n ∷ []) []
filter_more p n = ap (filter p) (range_from_zero n) ∙ filter-append p (range_with_len 0 n) (n ∷ [])

pub kept_more : (unit : List ℕ) (n : ℕ) → is_prevention unit n ≡ false → kept unit (n + 1) ≡ kept unit n ++ slice_index unit n ∷ []
kept_more unit n h = rw (filter_more, h, map-append) refl

pub kept_less : (unit : List ℕ) (n : ℕ) → is_prevention unit n ≡ true → kept unit (n + 1) ≡ kept unit n
kept_less unit n h = rw (filter_more, h, map-append) (append-nil _)

-- a run with no emulation prevention byte is kept whole
pub kept_run : (unit : List ℕ) (a n : ℕ) → ((i : ℕ) → a ≤ i → i < a + n → is_prevention unit i ≡ false) → a + n ≤ length unit → kept unit (a + n) ≡ kept unit a ++ take n (drop a unit)
kept_run unit a zero h fits = rw add-zero (sym (append-nil _))
kept_run unit a (suc n) h fits =
    let last : is_prevention unit (a + n) ≡ false = h (a + n) (omega arith) (omega arith) in
    let earlier : kept unit (a + n) ≡ kept unit a ++ take n (drop a unit) = kept_run unit a n (λ i from below. h i from (omega arith)) (omega arith) in
    let one : a + suc n ≡ (a + n) + 1 = omega arith in
    let room : n < length (drop a unit) = simp length-drop (omega arith) in
    ap (kept unit) one ∙ kept_more unit (a + n) last ∙ ap (λ xs. xs ++ slice_index unit (a + n) ∷ []) earlier
    ∙ append_assoc (kept unit a) (take n (drop a unit)) (slice_index unit (a + n) ∷ [])
    ∙ ap (λ xs. kept unit a ++ xs) (sym (take-suc (drop a unit) n 0 room ∙ ap (λ x. take n (drop a unit) ++ x ∷ []) (get_or-drop a unit n 0)))

-- a clear run, copied behind what is kept of the bytes before it
pub copied_run : (unit : List ℕ) (a b : ℕ) (before after : List ℕ) → before ≡ kept unit a → after ≡ before ++ take (b - a) (drop a unit) → (a ≤ b) × (b ≤ length unit) → IsClear unit a b → after ≡ kept unit b
copied_run unit a b before after is adds bounds clear =
    let whole : a + (b - a) ≡ b = omega arith in
    let none : (i : ℕ) → a ≤ i → i < a + (b - a) → is_prevention unit i ≡ false = λ i from below. no_prevention unit i (clear i from (omega arith)) in
    let run : kept unit (a + (b - a)) ≡ kept unit a ++ take (b - a) (drop a unit) = kept_run unit a (b - a) none (omega arith) in
    adds ∙ ap (λ xs. xs ++ take (b - a) (drop a unit)) is ∙ sym run ∙ ap (kept unit) whole
