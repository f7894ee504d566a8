-- The slice units of a submission, which are those of a byte stream (H.264, Annex B).
use Rattle.std.specs.Prelude.{◌≡◌, ◌≢◌, ℕ, ◌+◌, ◌<◌, ◌⊎◌, List, length, map, slice_index_or, slice_range, Option, Some, None, option_map, Vec}
use Rattle.std.specs.declared.alloc.Global.{Global}
use Rattle.bit_io.specs.Payload.{IsFirstForbidden, payload}
use Rattle.nal_units.specs.Units.{Units}

-- the place of a unit of the list, and the bytes that stand at a place
abbrev pub place_at : List (ℕ × ℕ) → ℕ → ℕ × ℕ
place_at places number = slice_index_or places number (0, 0)

abbrev pub bytes_at : List ℕ → ℕ × ℕ → List ℕ
bytes_at text place = slice_range text place.0 place.1

-- A unit is spoiled where a byte of it is forbidden (7.4.1), or where it is the last before a place at which the text is broken.
abbrev pub IsSpoiled : List ℕ → List (ℕ × ℕ) → Option ℕ → ℕ → Type 0
IsSpoiled text places broken number =
    ((at : ℕ) × IsFirstForbidden (bytes_at text (place_at places number)) at)
    ⊎ ((broken ≢ None) × (number + 1 ≡ length places))

-- A unit's payload (7.3.1); a spoiled one has none.
abbrev pub IsPayload : List ℕ → List (ℕ × ℕ) → Option ℕ → ℕ → Option (List ℕ) → Type 0
IsPayload text places broken number None = IsSpoiled text places broken number
IsPayload text places broken number (Some bytes) = (IsSpoiled text places broken number → ⊥) × (bytes ≡ payload (bytes_at text (place_at places number)))

-- the payload of a unit of the list
abbrev pub payload_at : List (Option (List ℕ)) → ℕ → Option (List ℕ)
payload_at payloads number = slice_index_or payloads number None

-- These are the payloads of the text's units, in their order.
pub record ArePayloads (text : List ℕ) (payloads : List (Option (List ℕ))) : Type 0 where
  pub places : List (ℕ × ℕ)
  pub broken : Option ℕ
  pub units : Units text places broken
  pub count : length payloads ≡ length places
  pub each : (number : ℕ) → number < length payloads → IsPayload text places broken number (payload_at payloads number)

-- the bytes of a payload, and of payloads, that are kept
abbrev pub items_of : Option (Vec ℕ Global) → Option (List ℕ)
items_of kept = option_map (λ (bytes : Vec ℕ Global). bytes.items) kept

abbrev pub bytes_of : List (Option (Vec ℕ Global)) → List (Option (List ℕ))
bytes_of kept = map items_of kept
