-- What a table keeps. No public clause cites this module.
use Rattle.std.specs.Prelude.{◌≡◌, ℕ, ◌<◌, ◌+◌, ◌^◌, ◌==◌, ◌&&◌, nat_lt, Bool, false, if◌then◌else◌, List, length, Option, Some, None, option_map, filter_map, slice_index_or}
use Rattle.slab.specs.Slab.{Slab, get}
use Rattle.handle_table.specs.Name.{kind_of, generation_of, index_of}
use Rattle.handle_table.specs.Handles.{Handle}
use Rattle.handle_table.specs.declared.slot.Slot.{Slot}
use Rattle.handle_table.specs.declared.slot.Slot.TheVariants.{Vacant, Live}

-- the slot of an index, as if there were slots for all of them
abbrev pub slot_at : List Slot → ℕ → Slot
slot_at slots i = slice_index_or slots i (Vacant 0)

-- a name can be given at this slot
abbrev pub is_free : Slot → Bool
is_free (Vacant generation) = nat_lt generation (2 ^ 16)
is_free (Live name key) = false

-- There is a slot for each index, and a name can be given at none.
abbrev pub IsUsedUp : List Slot → Type 0
IsUsedUp slots = (length slots ≡ 8192) × ((i : ℕ) → i < length slots → is_free (slot_at slots i) ≡ false)

-- how many names were given at this slot: those of all generations before the next one
abbrev pub used_of : Slot → ℕ
used_of (Vacant generation) = generation
used_of (Live name key) = generation_of name + 1

-- the key of a slot's value, if this kind and name live there
abbrev pub key_in : Slot → ℕ → ℕ → Option ℕ
key_in (Vacant generation) kind name = None
key_in (Live held key) kind name = if (held == name) && (kind_of held == kind) then Some key else None

abbrev pub key_of : List Slot → ℕ → ℕ → Option ℕ
key_of slots kind name = key_in (slot_at slots (index_of name)) kind name

module _ {T : Type 0} where
  -- what lives at a slot
  abbrev pub handle_in : Slab T → Slot → Option (Handle T)
  handle_in values (Vacant generation) = None
  handle_in values (Live name key) = option_map (λ value. record { kind = kind_of name; name = name; value = value }) (get values key)

  abbrev pub live_in : Slab T → List Slot → List (Handle T)
  live_in values slots = filter_map (handle_in values) slots
