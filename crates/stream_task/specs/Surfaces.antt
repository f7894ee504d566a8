-- Which pictures are in which video surfaces of a task.
use Rattle.std.specs.Prelude.{◌≡◌, ℕ, count_by, slice_get, Some, None, slice_index_or}
use Rattle.std.specs.Option.{is_some}
use Rattle.stream_task.specs.declared.slots.Slots.{Slots}

-- The picture of this number is in this surface and may still be shown.
abbrev pub IsIn : Slots → (surface picture : ℕ) → Type 0
IsIn slots surface picture = slice_get slots.waits surface ≡ Some (Some picture)

-- No picture that may still be shown is in this surface.
abbrev pub IsFree : Slots → ℕ → Type 0
IsFree slots surface = slice_get slots.waits surface ≡ Some None

-- in how many surfaces there is one
abbrev pub waiting_in : Slots → ℕ
waiting_in slots = count_by is_some slots.waits

-- the surface of an own number
abbrev pub surface_of : Slots → ℕ → ℕ
surface_of slots number = slice_index_or slots.of_number number 0
