-- What a core stands for where an object was given other content, or was destroyed. No public clause cites this module.
use Rattle.std.specs.Prelude.{◌≡◌, ℕ, slice_get, Some}
use Rattle.driver_model.specs.Kept.{live_queues_of}
use Rattle.driver_model.specs.Objects as model
use Rattle.driver_model.specs.States.{State, destroyed, with_content}
use Rattle.driver_objects.specs.Kept.{kept_of}
use Rattle.driver_objects.specs.declared.content.Content.{Content}
use Rattle.driver_objects.specs.declared.object.Object.{Object}
use Rattle.driver_core.specs.Stands.{IsContent, Stands, is_owed}
use Rattle.driver_core.specs.declared.driver.Core.{Core}

-- For each state for which the core stood it stands now for the one with this content, where the queues stay.
abbrev pub Writes : (old new : Core) → ℕ → Content → Type 0
Writes old new index what =
    (d : State) (object : Object) (is : model.Content)
    → Stands old d
    → slice_get (kept_of old.objects) index ≡ Some object
    → live_queues_of (with_content d object.place is) ≡ live_queues_of d
    → IsContent old.queues (is_owed d object.place) is what
    → Stands new (with_content d object.place is)

-- It stands for the one in which the object is destroyed.
abbrev pub Destroys : (old new : Core) → ℕ → Type 0
Destroys old new index =
    (d : State) (object : Object) → Stands old d → slice_get (kept_of old.objects) index ≡ Some object → Stands new (destroyed d object.place)
