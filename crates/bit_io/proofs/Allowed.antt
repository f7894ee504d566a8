-- Which places of a unit's front hold no forbidden byte.
use Rattle.std.proofs.Common.{◌&&◌, ◌||◌, nat_lt, nat_le, ◌≡◌, ℕ, ◌+◌, ◌-◌, ◌<◌, ◌≤◌, Bool, true, false, List, length, arith, sym, slice_index, ◌⊎◌, inl, inr, subst}
use Rattle.std.proofs.lemmas.Grind.{common_steps}
use Rattle.bit_io.specs.Payload.{IsAllowedBefore, IsFirstForbidden, follows_zeros, is_prevention, is_forbidden}
use Rattle.bit_io.proofs.Zeros.{zeros_before, prevention_is, not_forbidden}

below_or_from : (i a : ℕ) → (i < a) ⊎ (a ≤ i)
below_or_from i a = grind arith

same_or_more : (a i : ℕ) → a ≤ i → (a ≡ i) ⊎ (a < i)
same_or_more a i from = grind arith

below_or_at : (i at : ℕ) → i < at + 1 → (i < at) ⊎ (i ≡ at)
below_or_at i at below = grind arith

-- each byte after two zero bytes, from a up to b, is above 03
abbrev pub IsClear : List ℕ → ℕ → ℕ → Type 0
IsClear unit a b = (i : ℕ) → a ≤ i → i < b → follows_zeros unit i ≡ true → 3 < slice_index unit i

-- the byte at the place may stand behind an emulation prevention byte, if it does
abbrev pub MayFollow : List ℕ → ℕ → Type 0
MayFollow unit i = 1 ≤ i → i < length unit → is_prevention unit (i - 1) ≡ true → slice_index unit i ≤ 3

-- in a clear run no byte is forbidden but perhaps the first
clear_at : (unit : List ℕ) (a b i : ℕ) → IsClear unit a b → MayFollow unit a → a ≤ i → i < b → i < length unit → is_forbidden unit i ≡ false
clear_at unit a b i clear may from below within =
    not_forbidden unit i (λ zeros. let above : 3 < slice_index unit i = clear i from below zeros in omega arith)
    (λ one after. cases one after (same_or_more a i from))
  where
    cases : 1 ≤ i → is_prevention unit (i - 1) ≡ true → (a ≡ i) ⊎ (a < i) → slice_index unit i ≤ 3
    cases one after = elim [
      | inl same ↦ subst (λ (x : ℕ). 1 ≤ x → x < length unit → is_prevention unit (x - 1) ≡ true → slice_index unit x ≤ 3) same may one within after
      | inr more ↦
          let is : (follows_zeros unit (i - 1) ≡ true) × (slice_index unit (i - 1) ≡ 3) = prevention_is unit (i - 1) after in
          let above : 3 < slice_index unit (i - 1) = clear (i - 1) (omega arith) (omega arith) is.0 in
          absurd (omega arith)
    ]

pub allowed_run : (unit : List ℕ) (a b : ℕ) → IsAllowedBefore unit a → IsClear unit a b → MayFollow unit a → b ≤ length unit → IsAllowedBefore unit b
allowed_run unit a b allowed clear may within = λ i below. split i below (below_or_from i a)
  where
    split : (i : ℕ) → i < b → (i < a) ⊎ (a ≤ i) → is_forbidden unit i ≡ false
    split i below = elim [ inl early ↦ allowed i early | inr late ↦ clear_at unit a b i clear may late below (omega arith) ]

-- an emulation prevention byte isn't forbidden
pub allowed_prevention : (unit : List ℕ) (at : ℕ) → IsAllowedBefore unit at → is_prevention unit at ≡ true → IsAllowedBefore unit (at + 1)
allowed_prevention unit at allowed here = λ i below. split i (below_or_at i at below)
  where
    at_it : is_forbidden unit at ≡ false
    at_it =
        let is : (follows_zeros unit at ≡ true) × (slice_index unit at ≡ 3) = prevention_is unit at here in
        let zeros : (2 ≤ at) × (slice_index unit (at - 2) ≡ 0) × (slice_index unit (at - 1) ≡ 0) = zeros_before unit at is.0 in
        not_forbidden unit at (λ _. omega arith) (λ one after. let is : (follows_zeros unit (at - 1) ≡ true) × (slice_index unit (at - 1) ≡ 3) = prevention_is unit (at - 1) after in absurd (omega arith))

    split : (i : ℕ) → (i < at) ⊎ (i ≡ at) → is_forbidden unit i ≡ false
    split i = elim [ inl early ↦ allowed i early | inr same ↦ subst (λ (x : ℕ). is_forbidden unit x ≡ false) (sym same) at_it ]

forbidden_here : (unit : List ℕ) (at : ℕ) → follows_zeros unit at ≡ true → slice_index unit at < 3 → is_forbidden unit at ≡ true
forbidden_here unit at zeros low = grind (arith, common_steps)

later : (before first : Bool) (i byte : ℕ) → 1 ≤ i → before ≡ true → 3 < byte → (first || (nat_le 1 i && before && nat_lt 3 byte)) ≡ true
later before first i byte one after high = grind (arith, common_steps)

forbidden_next : (unit : List ℕ) (at : ℕ) → is_prevention unit at ≡ true → 3 < slice_index unit (at + 1) → is_forbidden unit (at + 1) ≡ true
forbidden_next unit at here high =
    let back : (at + 1) - 1 ≡ at = omega arith in
    let after : is_prevention unit ((at + 1) - 1) ≡ true = rw back here in
    later (is_prevention unit ((at + 1) - 1)) (follows_zeros unit (at + 1) && nat_lt (slice_index unit (at + 1)) 3) (at + 1) (slice_index unit (at + 1)) (omega arith) after high

-- 00, 01 or 02 behind a clear run
pub first_here : (unit : List ℕ) (at : ℕ) → IsAllowedBefore unit at → at < length unit → follows_zeros unit at ≡ true → slice_index unit at < 3 → IsFirstForbidden unit at
first_here unit at allowed within zeros low = record { within = within; forbidden = forbidden_here unit at zeros low; first = allowed }

-- a byte above 03 behind an emulation prevention byte
pub first_next : (unit : List ℕ) (at : ℕ) → IsAllowedBefore unit at → is_prevention unit at ≡ true → at + 1 < length unit → 3 < slice_index unit (at + 1) → IsFirstForbidden unit (at + 1)
first_next unit at allowed here within high = record { within = within; forbidden = forbidden_next unit at here high; first = allowed_prevention unit at allowed here }

-- the same, up to the unit's end alone
abbrev pub IsClearWithin : List ℕ → ℕ → ℕ → Type 0
IsClearWithin unit a b = (i : ℕ) → a ≤ i → i < b → i < length unit → follows_zeros unit i ≡ true → 3 < slice_index unit i

where_is : (j i s byte : ℕ) → j < i + s → ((s ≡ 1) ⊎ ((s ≡ 3) × (0 < byte))) → (j < i) ⊎ ((j ≡ i) ⊎ ((0 < byte) × ((j ≡ i + 1) ⊎ (j ≡ i + 2))))
where_is j i s byte below size = grind arith

one_is_zero : (j i : ℕ) (byte : ℕ → ℕ) → ((j ≡ i + 1) ⊎ (j ≡ i + 2)) → byte (j - 2) ≡ 0 → byte (j - 1) ≡ 0 → 0 < byte i → ⊥
one_is_zero j i byte after second first high = elim after [
  | inl next ↦ let at : j - 1 ≡ i = omega arith in let none : byte i ≡ 0 = subst (λ (x : ℕ). byte x ≡ 0) at first in omega arith
  | inr next ↦ let at : j - 2 ≡ i = omega arith in let none : byte i ≡ 0 = subst (λ (x : ℕ). byte x ≡ 0) at second in omega arith
]

-- one place more, or three where the byte there isn't 00
pub clear_step : (unit : List ℕ) (a i s : ℕ) → IsClearWithin unit a i → (follows_zeros unit i ≡ true → 3 < slice_index unit i) → ((s ≡ 1) ⊎ ((s ≡ 3) × (0 < slice_index unit i))) → IsClearWithin unit a (i + s)
clear_step unit a i s before here size = λ j from below within zeros. split j from within zeros (where_is j i s (slice_index unit i) below size)
  where
    split : (j : ℕ) → a ≤ j → j < length unit → follows_zeros unit j ≡ true → (j < i) ⊎ ((j ≡ i) ⊎ ((0 < slice_index unit i) × ((j ≡ i + 1) ⊎ (j ≡ i + 2)))) → 3 < slice_index unit j
    split j from within zeros = elim [
      | inl early ↦ before j from early within zeros
      | inr rest ↦ elim rest [
        | inl same ↦ subst (λ (x : ℕ). follows_zeros unit x ≡ true → 3 < slice_index unit x) (sym same) here zeros
        | inr (high, after) ↦
            let is : (2 ≤ j) × (slice_index unit (j - 2) ≡ 0) × (slice_index unit (j - 1) ≡ 0) = zeros_before unit j zeros in
            absurd (one_is_zero j i (slice_index unit) after is.1 is.2 high)
      ]
    ]
