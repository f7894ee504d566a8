-- What two states have alike of an object that both have under one name, though at other places.
use Rattle.std.specs.Prelude.{◌≡◌, ℕ, map, Option}
use Rattle.std.specs.Option.{option_map}
use Rattle.present_queue.specs.Queue.{Queue}
use Rattle.driver_model.specs.Objects.{Content, as_decoder, as_device, as_mixer, as_output, as_queue, as_video}
use Rattle.driver_model.specs.Presented.{status_at}
use Rattle.driver_model.specs.States.{State, Found, is_out, name_at, named}

-- a queue, with the names of its surfaces in place of their places
abbrev pub with_names : State → Queue ℕ → Queue ℕ
with_names s queue = record {
  entries = map (λ entry. record { surface = name_at s entry.surface; earliest = entry.earliest }) queue.entries;
  visible = option_map (name_at s) queue.visible;
  promise = queue.promise;
}

module _ (s t : State) (name : ℕ) where
  -- The same is told in both of the live object of a kind that has the name, if there is one.
  abbrev pub IsToldAlike : {T X : Type 0} → (Content → Option T) → (State → Found T → X) → Type 0
  IsToldAlike as_kind tell = option_map (tell t) (named t as_kind name) ≡ option_map (tell s) (named s as_kind name)

  -- A live object of this name is in the one where it is in the other, and has the same; a surface is out in both or in none, and has
  -- the same status.
  pub record IsAlike : Type 0 where
    pub device : IsToldAlike as_device (λ u on. on.value)
    pub decoder : IsToldAlike as_decoder (λ u on. on.value)
    pub mixer : IsToldAlike as_mixer (λ u on. on.value)
    pub video : IsToldAlike as_video (λ u on. on.value)
    pub video_out : IsToldAlike as_video (λ u on. is_out u on.place)
    pub output_format : IsToldAlike as_output (λ u on. on.value.format)
    pub output_size : IsToldAlike as_output (λ u on. on.value.size)
    pub output_bytes : IsToldAlike as_output (λ u on. on.value.bytes)
    pub output_out : IsToldAlike as_output (λ u on. is_out u on.place)
    pub output_status : IsToldAlike as_output (λ u on. status_at u on.place)
    pub window : IsToldAlike as_queue (λ u on. on.value.window)
    pub queue : IsToldAlike as_queue (λ u on. with_names u on.value.queue)
