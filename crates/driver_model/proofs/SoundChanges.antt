-- Changes of objects that leave all queues sound.
use Rattle.std.proofs.Common.{◌≡◌, ◌⊎◌, inl, inr, ℕ, zero, suc, Bool, List, [], ◌∷◌, slice_get, Option, Some, None, IsSome, MatchOption, refl, ap, sym, ◌∙◌, subst}
use Rattle.present_queue.specs.Queue.{Queue}
use Rattle.driver_model.specs.Objects.{Object, as_output}
use Rattle.driver_model.specs.Presented.{queue_in}
use Rattle.driver_model.specs.Sound.{AreSound, IsOutputOf, IsSoundObject, IsSoundQueue}
use Rattle.driver_model.specs.States.{changed_at}
use Rattle.driver_model.proofs.Named.{object_is}

pub nothing_there : {A : Type 0} (object : Object) → (let o : Option Object = None in o ≡ Some object) → A
nothing_there object e = absurd (let k : (let o : Option Object = None in o ≡ Some object) = e in cc)

-- Each object is still there, of its device, and an output surface if it was one.
abbrev pub Follows : List Object → List Object → Type 0
Follows old new = (place : ℕ) (a : Object) → slice_get old place ≡ Some a
    → (b : Object) × (slice_get new place ≡ Some b) × (b.device ≡ a.device) × (IsSome (as_output a.content) → IsSome (as_output b.content))

pub IsOutputOf-follows : (old new : List Object) → Follows old new → (device place : ℕ) → IsOutputOf old device place → IsOutputOf new device place
IsOutputOf-follows old new follows device place is =
    let f = follows place is.object is.stands in
    record { object = f.0; stands = f.1; of_device = f.2 ∙ is.of_device; is_output = f.3 is.is_output }

pub sound_follows : (old new : List Object) → Follows old new → (device : ℕ) (is_live : Bool) (queue : Option (Queue ℕ)) → MatchOption queue (Unit {0}) (IsSoundQueue old device is_live) → MatchOption queue (Unit {0}) (IsSoundQueue new device is_live)
sound_follows old new follows device is_live None is = tt
sound_follows old new follows device is_live (Some queue) is = record {
  surfaces = λ place n. IsOutputOf-follows old new follows device place (is.surfaces place n);
  empty = is.empty;
  few = is.few;
}

-- ---- one object is changed

module _ (change : Object → Object) where
  -- what stands at a place afterwards stood there before, changed at the place of the change
  pub get-changed_at : (at_place place : ℕ) (objects : List Object) (b : Object) → slice_get (changed_at at_place change objects) place ≡ Some b
      → ((place ≡ at_place) × ((a : Object) × (slice_get objects place ≡ Some a) × (b ≡ change a))) ⊎ (slice_get objects place ≡ Some b)
  unfolding changed_at
  get-changed_at at_place place [] b e = nothing_there b e
  get-changed_at zero zero (object ∷ later) b e = inl (refl, (object, refl, sym (object_is (change object) b e)))
  get-changed_at zero (suc place) (object ∷ later) b e = inr e
  get-changed_at (suc at_place) zero (object ∷ later) b e = inr e
  get-changed_at (suc at_place) (suc place) (object ∷ later) b e = elim (get-changed_at at_place place later b e) [
    | inl here ↦ inl (ap (λ k. suc k) here.0, here.1)
    | inr there ↦ inr there
  ]

  Follows-changed_at : ((a : Object) → (change a).device ≡ a.device) → (at_place : ℕ) (objects : List Object)
      → ((a : Object) → slice_get objects at_place ≡ Some a → IsSome (as_output a.content) → IsSome (as_output (change a).content))
      → Follows objects (changed_at at_place change objects)
  unfolding changed_at
  Follows-changed_at devices at_place [] outputs place a e = nothing_there a e
  Follows-changed_at devices zero (object ∷ later) outputs zero a e =
      let same : object ≡ a = object_is object a e in
      (change object, refl, devices object ∙ ap (λ (o : Object). o.device) same, λ is. outputs object refl (subst (λ (o : Object). IsSome (as_output o.content)) (sym same) is))
  Follows-changed_at devices zero (object ∷ later) outputs (suc place) a e = (a, e, refl, λ is. is)
  Follows-changed_at devices (suc at_place) (object ∷ later) outputs zero a e = (a, e, refl, λ is. is)
  Follows-changed_at devices (suc at_place) (object ∷ later) outputs (suc place) a e = Follows-changed_at devices at_place later outputs place a e

  pub sound_changed_at : ((a : Object) → (change a).device ≡ a.device) → (at_place : ℕ) (objects : List Object)
      → ((a : Object) → slice_get objects at_place ≡ Some a → IsSome (as_output a.content) → IsSome (as_output (change a).content))
      → ((a : Object) → slice_get objects at_place ≡ Some a → IsSoundObject objects a → IsSoundObject objects (change a))
      → AreSound objects → AreSound (changed_at at_place change objects)
  sound_changed_at devices at_place objects outputs keeps sound place b e =
      let new : List Object = changed_at at_place change objects in
      let follows : Follows objects new = Follows-changed_at devices at_place objects outputs in
      let old_sound : IsSoundObject objects b = elim (get-changed_at at_place place objects b e) [
        | inl here ↦
            let a : Object = here.1.0 in
            let there : slice_get objects at_place ≡ Some a = subst (λ k. slice_get objects k ≡ Some a) here.0 here.1.1 in
            subst (IsSoundObject objects) (sym here.1.2) (keeps a there (sound at_place a there))
        | inr there ↦ sound place b there
      ] in
      sound_follows objects new follows b.device b.is_live (queue_in b) old_sound
