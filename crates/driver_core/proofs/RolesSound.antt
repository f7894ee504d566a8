-- What is kept stays sound where each object keeps its role and fits, and where what no queue names any more may be let go.
use Rattle.std.proofs.Common.{◌≡◌, inl, inr, ℕ, ◌==◌, ◌&&◌, true, false, true≢false, List, slice_get, Some, refl, sym, ap, ◌∙◌, subst, arith}
use Rattle.std.specs.List.{list_any}
use Rattle.std.specs.Option.{option_map_or}
use Rattle.handle_table.specs.Name.{kind_of}
use Rattle.present_queue.specs.Queue.{Names, Queue, empty_queue}
use Rattle.present_queue.specs.Queues.{IsWithinLimits, Surface, queue_at}
use Rattle.driver_objects.specs.Kept.{kept_of, made_of}
use Rattle.driver_objects.specs.Kinds.{has_number, is_device_at}
use Rattle.driver_objects.specs.Swept.{is_wanted}
use Rattle.driver_objects.specs.declared.object.Object.{Object}
use Rattle.driver_objects.proofs.Cases.{true_or_false}
use Rattle.driver_objects.proofs.OwnNumbers.{has_number_is}
use Rattle.driver_objects.proofs.Lists.{any_at, one_kept, some_passes}
use Rattle.driver_objects.proofs.Wanted.{IsHeld, held_wanted, wanted_held}
use Rattle.driver_core.specs.Roles.{Fits, SameRole}
use Rattle.driver_core.specs.Sound.{IsSound, is_surface}
use Rattle.driver_core.specs.declared.driver.Core.{Core}
use Rattle.driver_core.proofs.DeadQueues.{dead_number}
use Rattle.driver_core.proofs.Presenting.{holder_is, is_holder}

-- the object has other content, in the same role
pub record IsLike (before now : Object) : Type 0 where
  pub place : now.place ≡ before.place
  pub name : now.name ≡ before.name
  pub device : now.device ≡ before.device
  pub live : now.is_live ≡ before.is_live
  pub role : SameRole before.content now.content

-- what is kept fits
pub fits_of : (core : Core) (i : ℕ) (o : Object) → slice_get (kept_of core.objects) i ≡ Some o → Fits o.content
fits_of core i o at = record {
  video = λ surface is. core.sound.videos i o surface at is;
  output = λ surface is. core.sound.outputs i o surface at is;
  decoder = λ decoder is. core.sound.decoders i o decoder at is;
  mixer = λ mixer is. core.sound.mixers i o mixer at is;
}

module _ (core : Core) (after : List Object) (queues : List (Queue Surface)) where
  -- the object was kept before
  pub record Was (o : Object) : Type 0 where
    pub at : ℕ
    pub before : Object
    pub stood : slice_get (kept_of core.objects) at ≡ Some before
    pub like : IsLike before o
    pub fits : Fits o.content
    pub wanted : is_wanted queues o ≡ true

  -- it is kept still
  pub record Stays (before : Object) : Type 0 where
    pub index : ℕ
    pub now : Object
    pub there : slice_get after index ≡ Some now
    pub like : IsLike before now

  pub record KeepsRoles : Type 0 where
    pub was : (i : ℕ) (o : Object) → slice_get after i ≡ Some o → Was o
    pub stays : (i : ℕ) (o : Object) → slice_get (kept_of core.objects) i ≡ Some o → is_wanted queues o ≡ true → Stays o
    pub places_apart : (i j : ℕ) (a b : Object) → slice_get after i ≡ Some a → slice_get after j ≡ Some b → a.place ≡ b.place → j ≡ i
    -- each queue names what it named before, or less
    pub fewer : (number : ℕ) (surface : Surface) → Names (queue_at queues number) surface → Names (queue_at core.queues number) surface
    pub limits : IsWithinLimits queues
    pub still_empty : (number : ℕ) → queue_at core.queues number ≡ empty_queue → queue_at queues number ≡ empty_queue

  module _ (keeps : KeepsRoles) where
    -- the surface that a destroyed one is named as
    pub held_now : (i : ℕ) (o : Object) → slice_get after i ≡ Some o → o.is_live ≡ false → (h : IsHeld queues o) × (h.surface.object ≡ o.place)
    held_now i o at dead =
        let w = keeps.was i o at in
        let h = wanted_held queues o dead w.wanted in
        (h, (is_holder core w.at w.before h.holder w.stood (sym w.like.role.holder ∙ h.has) h.number h.surface (keeps.fewer h.number h.surface h.named)).0 h.at_holder ∙ sym w.like.place)

    live_stays : (i : ℕ) (o : Object) → slice_get (kept_of core.objects) i ≡ Some o → o.is_live ≡ true → Stays o
    live_stays i o at live = keeps.stays i o at (grind (arith, live))

    devices_stay : (place : ℕ) → list_any (is_device_at place) (kept_of core.objects) ≡ true → list_any (is_device_at place) after ≡ true
    devices_stay place any =
        let s = some_passes (is_device_at place) (kept_of core.objects) any in
        let test = s.3 in
        let n = live_stays s.0 s.1 s.2 (grind (arith, test)) in
        any_at (is_device_at place) after n.index n.now n.there ((λ i. n.like.live i && n.like.place i == place && n.like.role.device i) ∙ test)

    named_stays : (number : ℕ) (surface : Surface) → Names (queue_at queues number) surface → list_any (is_surface surface) after ≡ true
    named_stays number surface named =
        let s = some_passes (is_surface surface) (kept_of core.objects) (core.sound.surfaces number surface (keeps.fewer number surface named)) in
        let is = holder_is surface s.1 s.3 in
        let n = keeps.stays s.0 s.1 s.2 (held_wanted queues s.1 surface.holder number surface is.1 named refl) in
        any_at (is_surface surface) after n.index n.now n.there ((λ i. n.like.place i == surface.object && option_map_or (λ h. h == surface.holder) (n.like.role.holder i) false) ∙ s.3)

    unused : (number : ℕ) → list_any (has_number number) after ≡ false → queue_at queues number ≡ empty_queue
    unused number none = keeps.still_empty number (elim (true_or_false (list_any (has_number number) (kept_of core.objects))) [
      | inl any ↦
          let s = some_passes (has_number number) (kept_of core.objects) any in
          let n = live_stays s.0 s.1 s.2 (dead_number core s.0 s.1 number s.2 (has_number_is number s.1 s.3)) in
          absurd (true≢false (sym (any_at (has_number number) after n.index n.now n.there (ap (λ h. option_map_or (λ own. own == number) h false) n.like.role.number ∙ s.3)) ∙ none))
      | inr never ↦ core.sound.unused number never
    ])

    one_before : (a b : Object) (v : Was a) (w : Was b) → v.at ≡ w.at → a.place ≡ b.place
    one_before a b v w same =
        let before = one_kept (kept_of core.objects) w.at v.before w.before (subst (λ i. slice_get (kept_of core.objects) i ≡ Some v.before) same v.stood) w.stood in
        v.like.place ∙ (ap (λ (x : Object). x.place) before ∙ sym w.like.place)

    pub roles_sound : IsSound after (made_of core.objects) queues core.jobs.items
    roles_sound = record {
      kinds = λ i o at. let w = keeps.was i o at in ap kind_of w.like.name ∙ (core.sound.kinds w.at w.before w.stood ∙ sym w.like.role.kind);
      videos = λ i o surface at is. (keeps.was i o at).fits.video surface is;
      outputs = λ i o surface at is. (keeps.was i o at).fits.output surface is;
      decoders = λ i o decoder at is. (keeps.was i o at).fits.decoder decoder is;
      mixers = λ i o mixer at is. (keeps.was i o at).fits.mixer mixer is;
      devices = λ i o at live.
          let w = keeps.was i o at in
          subst (λ p. list_any (is_device_at p) after ≡ true) (sym w.like.device) (devices_stay w.before.device (core.sound.devices w.at w.before w.stood (sym w.like.live ∙ live)));
      own = λ i o at is. let w = keeps.was i o at in w.like.device ∙ (core.sound.own w.at w.before w.stood (sym w.like.role.device ∙ is) ∙ sym w.like.place);
      named = λ i o at dead.
          let h = held_now i o at dead in
          ∣ (h.0.holder, h.0.has, h.0.number, subst (λ (s : Surface). Names (queue_at queues h.0.number) s) (λ k. record { object = h.1 k; holder = h.0.at_holder k }) h.0.named) ∣₁;
      limits = keeps.limits;
      numbers = λ i o number at is. let w = keeps.was i o at in core.sound.numbers w.at w.before number w.stood (sym w.like.role.number ∙ is);
      numbers_apart = λ i j a b number at bt ia ib.
          let v = keeps.was i a at in
          let w = keeps.was j b bt in
          sym (keeps.places_apart i j a b at bt (one_before a b v w (core.sound.numbers_apart v.at w.at v.before w.before number v.stood w.stood (sym v.like.role.number ∙ ia) (sym w.like.role.number ∙ ib))));
      unused = unused;
      holders = λ i o holder at is. let w = keeps.was i o at in core.sound.holders w.at w.before holder w.stood (sym w.like.role.holder ∙ is);
      holders_apart = λ i j a b holder at bt ia ib.
          let v = keeps.was i a at in
          let w = keeps.was j b bt in
          sym (keeps.places_apart i j a b at bt (one_before a b v w (core.sound.holders_apart v.at w.at v.before w.before holder v.stood w.stood (sym v.like.role.holder ∙ ia) (sym w.like.role.holder ∙ ib))));
      surfaces = named_stays;
      targets = core.sound.targets;
    }
