-- What the program does where a create finds no fault in its arguments.
use Rattle.std.specs.Prelude.{◌≡◌, ◌⊎◌, ℕ}
use Rattle.vd_status.specs.declared.refusal.Refusal.TheVariants.{OutOfMemory}
use Rattle.driver_model.specs.Answers.{IsRefused, Reply}
use Rattle.driver_model.specs.Creates.{Makes, MayBeFull}
use Rattle.driver_model.specs.Objects.{Content}
use Rattle.driver_model.specs.States.{State}

-- A live object with this content was added; or as many names were given as the program has; or there was no memory.
abbrev pub IsAdded : (old : State) (reply : Reply) (new : State) (device : ℕ) → Content → Type 0
IsAdded old reply new device content =
    Makes old reply new device (λ x. x ≡ content) ⊎ (MayBeFull old reply new ⊎ IsRefused old reply new OutOfMemory)
