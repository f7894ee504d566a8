-- The bytes of a NAL unit and those of its payload. H.264, 7.3.1 and 7.4.1.
use Rattle.std.specs.Prelude.{◌≡◌, ℕ, ◌-◌, ◌<◌, Bool, false, not, ◌&&◌, ◌||◌, ◌==◌, nat_lt, nat_le, IsTrue, List, length, map, filter, slice_index}
use Rattle.std.specs.List.{range_with_len}

-- two zero bytes stand right before the place
abbrev pub follows_zeros : List ℕ → ℕ → Bool
follows_zeros unit i = nat_le 2 i && (slice_index unit (i - 2) == 0) && (slice_index unit (i - 1) == 0)

-- an emulation_prevention_three_byte stands at the place: 03 after 00 00
abbrev pub is_prevention : List ℕ → ℕ → Bool
is_prevention unit i = follows_zeros unit i && (slice_index unit i == 3)

-- the payload: the bytes of the unit without its emulation prevention bytes
abbrev pub payload : List ℕ → List ℕ
payload unit = map (slice_index unit) (filter (λ i. not (is_prevention unit i)) (range_with_len 0 (length unit)))

-- No unit has such a byte at the place: 00, 01 or 02 after 00 00, or a byte above 03 after 00 00 03.
abbrev pub is_forbidden : List ℕ → ℕ → Bool
is_forbidden unit i = (follows_zeros unit i && nat_lt (slice_index unit i) 3) || (nat_le 1 i && is_prevention unit (i - 1) && nat_lt 3 (slice_index unit i))

-- no byte before the place is forbidden
abbrev pub IsAllowedBefore : List ℕ → ℕ → Type 0
IsAllowedBefore unit end = (i : ℕ) → i < end → is_forbidden unit i ≡ false

-- the place of the first forbidden byte
pub record IsFirstForbidden (unit : List ℕ) (at : ℕ) : Type 0 where
  pub within : at < length unit
  pub forbidden : IsTrue (is_forbidden unit at)
  pub first : IsAllowedBefore unit at
