-- What is true of each table's slots and values. No public clause cites this module.
use Rattle.std.specs.Prelude.{◌≡◌, ℕ, ◌≤◌, List, length, IsSome}
use Rattle.slab.specs.Slab.{Slab, get, slab_len}
use Rattle.handle_table.specs.Name.{index_of}
use Rattle.handle_table.specs.Slots.{slot_at, live_in}
use Rattle.handle_table.specs.declared.slot.Slot.{Slot}
use Rattle.handle_table.specs.declared.slot.Slot.TheVariants.{Vacant, Live}

module _ {T : Type 0} where
  -- a vacant slot is in the generations, and a live one has the name of its index and a value
  abbrev pub IsSoundAt : Slab T → ℕ → Slot → Type 0
  IsSoundAt values i (Vacant generation) = generation ≤ 65536
  IsSoundAt values i (Live name key) = (index_of name ≡ i) × IsSome (get values key)

  pub record IsSound (slots : List Slot) (values : Slab T) : Type 0 where
    pub few : length slots ≤ 8192
    pub each : (i : ℕ) → IsSoundAt values i (slot_at slots i)
    -- no two slots have one key
    pub keys : (i j a b key : ℕ) → slot_at slots i ≡ Live a key → slot_at slots j ≡ Live b key → i ≡ j
    pub counted : slab_len values ≡ length (live_in values slots)
    pub bounded : slab_len values ≤ 1024
