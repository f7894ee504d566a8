-- The flips of a history by devices.
use Rattle.std.specs.Prelude.{◌≡◌, ℕ, Bool, List, filter, flat_map}
use Rattle.handle_table.specs.Name.{kind_of}
use Rattle.driver_model.specs.FlipText.{flips_in}
use Rattle.driver_model.specs.Histories.{IsLegal}
use Rattle.driver_model.specs.Parts.{is_among, names_of, part}
use Rattle.driver_model.specs.declared.items.Item.{Item}
use Rattle.driver_model.specs.declared.numbers.TheConstants.{DEVICE}
use Rattle.driver_model.specs.declared.replies.Flipped.{Flipped}

-- the flip is on a queue with one of these names
abbrev pub is_on_one_of : List ℕ → Flipped → Bool
is_on_one_of names flip = is_among names flip.queue

-- The flips of what is about a device are those that the whole history has on the device's queues.
abbrev pub FlipsAreOfTheirParts : Type 0
FlipsAreOfTheirParts =
    (history : List Item) (device : ℕ)
    → IsLegal history
    → kind_of device ≡ DEVICE
    → flat_map flips_in (part history device) ≡ filter (is_on_one_of (names_of history device)) (flat_map flips_in history)
