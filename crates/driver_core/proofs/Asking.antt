-- What creates look at before they ask for room.
use Rattle.std.proofs.Common.{◌≡◌, ℕ, ◌==◌, nat_lt, true, false, Ok, refl, ap, ◌∙◌}
use Rattle.cb_types.specs.declared.size.SizeMbs.{SizeMbs}
use Rattle.driver_model.specs.Creates.{decoder_create, live_queues, mixer_create, output_create, queue_create, room, video_create}
use Rattle.driver_model.specs.Objects as model
use Rattle.driver_model.specs.Refusals.{◌>>◌, first_handle}
use Rattle.driver_model.specs.Sizes.{is_profile, is_rgba_format, size_for}
use Rattle.driver_model.specs.States.{Found, State, named}
use Rattle.driver_model.specs.declared.numbers.TheConstants.{CHROMA_420, MAX_QUEUES, MAX_REFERENCES}

module _ (d : State) (device width height : ℕ) (on : Found model.Device) (names : first_handle d (named d model.as_device device) ≡ Ok on)
    (place : ℕ) (at_place : on.place ≡ place) (size : SizeMbs) (sized : size_for width height ≡ Ok size) where
  pub decoder_room : (profile most : ℕ) → is_profile profile ≡ true → nat_lt MAX_REFERENCES most ≡ false → decoder_create d device profile width height most ≡ (room d false >> Ok place)
  decoder_room profile most is few = simp (names, is, sized, few) refl ∙ ap (λ p. room d false >> Ok p) at_place

  pub output_room : (format : ℕ) → is_rgba_format format ≡ true → output_create d device format width height ≡ (room d false >> Ok place)
  output_room format is = simp (names, is, sized) refl ∙ ap (λ p. room d false >> Ok p) at_place

  pub mixer_room : mixer_create d device width height ≡ (room d false >> Ok place)
  mixer_room = simp (names, sized) refl ∙ ap (λ p. room d false >> Ok p) at_place

  pub video_room : (chroma : ℕ) → (chroma == CHROMA_420) ≡ true → video_create d device chroma width height ≡ (room d false >> Ok place)
  video_room chroma is = simp (names, is, sized) refl ∙ ap (λ p. room d false >> Ok p) at_place

module _ (d : State) (device : ℕ) (on : Found model.Device) (names : first_handle d (named d model.as_device device) ≡ Ok on) (place : ℕ) (at_place : on.place ≡ place) where
  pub queue_room : queue_create d device ≡ (room d (live_queues d == MAX_QUEUES) >> Ok place)
  queue_room = simp names refl ∙ ap (λ p. room d (live_queues d == MAX_QUEUES) >> Ok p) at_place
