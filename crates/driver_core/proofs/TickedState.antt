-- Ticks, in the state: what becomes of the object at a place.
use Rattle.std.proofs.Common.{◌≡◌, inl, inr, ℕ, ◌==◌, Bool, true, false, if◌then◌else◌, List, [], ◌∷◌, length, slice_get, Option, Some, None, option_map, refl, sym, ap, ◌∙◌, arith}
use Rattle.std.proofs.lemmas.Bool.Decides.{nat_tests}
use Rattle.present_queue.specs.Queue.{Queue, ticked}
use Rattle.driver_model.specs.Clock.{Due, all_shown, shown, with_flip, with_tick}
use Rattle.driver_model.specs.Objects as model
use Rattle.driver_model.specs.States.{changed_at}
use Rattle.driver_objects.proofs.Cases.{either}
use Rattle.driver_core.proofs.ContentStands.{get_changed_other, get_changed_same, length_changed}
use Rattle.driver_core.proofs.TickedQueues.{ticked_through}

-- ---- one change

pub get_changed : (change : model.Object → model.Object) (place p : ℕ) (objects : List model.Object) (one : model.Object) → slice_get objects p ≡ Some one
    → slice_get (changed_at place change objects) p ≡ Some (if p == place then change one else one)
get_changed change place p objects one at = elim (either p place) [
  | inl e ↦
      let test : (p == place) ≡ true = grind (arith, nat_tests, e) in
      ap (slice_get (changed_at place change objects)) e ∙ (get_changed_same change place objects one (ap (slice_get objects) (sym e) ∙ at) ∙ ap (λ b. Some (if b then change one else one)) (sym test))
  | inr apart ↦
      let test : (p == place) ≡ false = grind (arith, nat_tests, apart) in
      get_changed_other change place p objects apart ∙ (at ∙ ap (λ b. Some (if b then change one else one)) (sym test))
]

-- ---- one tick

abbrev tick_if : Bool → ℕ → model.Content → model.Content
tick_if b time content = if b then with_tick time content else content

abbrev flip_if : Bool → (queue time : ℕ) → model.Content → model.Content
flip_if b queue time content = if b then with_flip queue time content else content

-- what becomes of content at this place
abbrev pub content_step : ℕ → Due → (p : ℕ) → model.Content → model.Content
content_step time due p content = flip_if (p == due.surface) due.queue time (tick_if (p == due.queue) time content)

abbrev pub content_through : ℕ → List Due → (p : ℕ) → model.Content → model.Content
content_through time [] p content = content
content_through time (due ∷ later) p content = content_through time later p (content_step time due p content)

module _ (time : ℕ) where
  both : (due : Due) (one : model.Object) (f t : Bool)
      → (if f then (let ticked_one : model.Object = if t then record one { content = with_tick time one.content } else one in record ticked_one { content = with_flip due.queue time ticked_one.content }) else (if t then record one { content = with_tick time one.content } else one))
      ≡ record one { content = flip_if f due.queue time (tick_if t time one.content) }
  both due one true true = refl
  both due one true false = refl
  both due one false true = refl
  both due one false false = refl

  get_shown_one : (due : Due) (p : ℕ) (objects : List model.Object) (one : model.Object) → slice_get objects p ≡ Some one
      → slice_get (shown time due objects) p ≡ Some (record one { content = content_step time due p one.content })
  get_shown_one due p objects one at =
      let tick : model.Object → model.Object = λ object. record object { content = with_tick time object.content } in
      let flip : model.Object → model.Object = λ object. record object { content = with_flip due.queue time object.content } in
      get_changed flip due.surface p (changed_at due.queue tick objects) (if p == due.queue then tick one else one) (get_changed tick due.queue p objects one at)
      ∙ ap Some (both due one (p == due.surface) (p == due.queue))

  pub get_shown : (dues : List Due) (p : ℕ) (objects : List model.Object) (one : model.Object) → slice_get objects p ≡ Some one
      → slice_get (all_shown time dues objects) p ≡ Some (record one { content = content_through time dues p one.content })
  unfolding all_shown
  get_shown [] p objects one at = at
  get_shown (due ∷ later) p objects one at = get_shown later p (shown time due objects) (record one { content = content_step time due p one.content }) (get_shown_one due p objects one at)

  pub length_shown : (dues : List Due) (objects : List model.Object) → length (all_shown time dues objects) ≡ length objects
  unfolding all_shown
  length_shown [] objects = refl
  length_shown (due ∷ later) objects =
      length_shown later (shown time due objects)
      ∙ (length_changed (λ (object : model.Object). record object { content = with_flip due.queue time object.content }) due.surface (changed_at due.queue (λ (object : model.Object). record object { content = with_tick time object.content }) objects)
      ∙ length_changed (λ (object : model.Object). record object { content = with_tick time object.content }) due.queue objects)

  -- ---- the queue of an object

  abbrev pub queue_if : model.Content → Option (Queue ℕ)
  queue_if content = option_map (λ (of : model.PresentationQueue). of.queue) (model.as_queue content)

  flip_keeps : (queue : ℕ) (content : model.Content) → queue_if (with_flip queue time content) ≡ queue_if content
  flip_keeps queue (model.DeviceObject of) = refl
  flip_keeps queue (model.VideoObject of) = refl
  flip_keeps queue (model.OutputObject of) = refl
  flip_keeps queue (model.DecoderObject of) = refl
  flip_keeps queue (model.MixerObject of) = refl
  flip_keeps queue (model.QueueObject of) = refl

  flip_if_keeps : (b : Bool) (queue : ℕ) (content : model.Content) → queue_if (flip_if b queue time content) ≡ queue_if content
  flip_if_keeps true queue content = flip_keeps queue content
  flip_if_keeps false queue content = refl

  tick_queue : (b : Bool) (content : model.Content) → queue_if (tick_if b time content) ≡ option_map (λ queue. if b then ticked queue time else queue) (queue_if content)
  tick_queue true (model.DeviceObject of) = refl
  tick_queue true (model.VideoObject of) = refl
  tick_queue true (model.OutputObject of) = refl
  tick_queue true (model.DecoderObject of) = refl
  tick_queue true (model.MixerObject of) = refl
  tick_queue true (model.QueueObject of) = refl
  tick_queue false (model.DeviceObject of) = refl
  tick_queue false (model.VideoObject of) = refl
  tick_queue false (model.OutputObject of) = refl
  tick_queue false (model.DecoderObject of) = refl
  tick_queue false (model.MixerObject of) = refl
  tick_queue false (model.QueueObject of) = refl

  pub queue_through : (dues : List Due) (p : ℕ) (content : model.Content) → queue_if (content_through time dues p content) ≡ option_map (ticked_through (λ (due : Due). p == due.queue) time dues) (queue_if content)
  queue_through [] p content = by_option (queue_if content) where
    by_option : (o : Option (Queue ℕ)) → o ≡ option_map (λ queue. queue) o
    by_option None = refl
    by_option (Some queue) = refl
  queue_through (due ∷ later) p content =
      queue_through later p (content_step time due p content)
      ∙ (ap (option_map (ticked_through (λ (d : Due). p == d.queue) time later)) (flip_if_keeps (p == due.surface) due.queue (tick_if (p == due.queue) time content) ∙ tick_queue (p == due.queue) content)
      ∙ by_option (queue_if content))
    where
      by_option : (o : Option (Queue ℕ)) → option_map (ticked_through (λ (d : Due). p == d.queue) time later) (option_map (λ queue. if p == due.queue then ticked queue time else queue) o)
          ≡ option_map (ticked_through (λ (d : Due). p == d.queue) time (due ∷ later)) o
      by_option None = refl
      by_option (Some queue) = refl
