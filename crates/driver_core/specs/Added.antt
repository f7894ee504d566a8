-- What a core stands for where an object was made, or wasn't. No public clause cites this module.
use Rattle.std.specs.Prelude.{◌≡◌, ◌⊎◌, ℕ, ◌≤◌, true, false, length, Option, unwrap_or}
use Rattle.handle_table.specs.Name.{kind_of}
use Rattle.vd_status.specs.declared.refusal.Refusal.{Refusal}
use Rattle.vd_status.specs.declared.refusal.Refusal.TheVariants.{OutOfMemory}
use Rattle.driver_model.specs.Creates.{handles_full, is_full}
use Rattle.driver_model.specs.Kept.{is_in_queue}
use Rattle.driver_model.specs.Objects as model
use Rattle.driver_model.specs.States.{State, is_given, with_object}
use Rattle.driver_model.specs.declared.numbers.TheConstants.{MANY_NAMES}
use Rattle.driver_objects.specs.declared.content.Content.{Content}
use Rattle.driver_core.specs.Stands.{IsContent, Stands}
use Rattle.driver_core.specs.declared.driver.Core.{Core}

-- the object that is made: it belongs to this device, or, being a device, to itself
abbrev pub made_in : State → ℕ → Option ℕ → model.Content → model.Object
made_in d name device content = record { name = name; device = unwrap_or device (length d.objects); is_live = true; content = content }

-- An object was made under this name.
pub record Adds (old new : Core) (kind name : ℕ) (device : Option ℕ) (what : Content) : Type 0 where
  pub of_kind : kind_of name ≡ kind
  pub room : (d : State) → Stands old d → is_full d ≡ false
  pub fresh : (d : State) → Stands old d → is_given d name ≡ false
  pub stands : (d : State) (content : model.Content) → Stands old d
      → ((place : ℕ) → is_in_queue (with_object d (made_in d name device content)) place ≡ is_in_queue d place)
      → IsContent old.queues false content what
      → Stands new (with_object d (made_in d name device content))

-- None was made: there was no memory, or no name to give.
abbrev pub RefusesAdd : Core → Refusal → Type 0
RefusesAdd old refusal =
    (refusal ≡ OutOfMemory)
    ⊎ ((d : State) → Stands old d → (refusal ≡ handles_full d) × ((is_full d ≡ true) ⊎ (MANY_NAMES ≤ length d.objects)))
