-- An object is given other content.
use Rattle.std.proofs.Common.{◌≡◌, inl, inr, ℕ, ◌==◌, ◌&&◌, false, List, set, slice_get, Some, refl, sym, ap, ◌∙◌, subst}
use Rattle.std.specs.List.{list_any}
use Rattle.std.specs.Option.{option_map_or}
use Rattle.std.proofs.Math.Logic.{∥∥₁_map}
use Rattle.handle_table.specs.Name.{kind_of}
use Rattle.present_queue.specs.Queue.{Names, Queue}
use Rattle.present_queue.specs.Queues.{Surface, queue_at}
use Rattle.driver_objects.specs.Kinds.{has_number, is_device_at}
use Rattle.driver_objects.specs.Listed.{with_content}
use Rattle.driver_objects.specs.declared.content.Content.{Content}
use Rattle.driver_objects.specs.declared.object.Object.{Object}
use Rattle.driver_objects.specs.declared.jobs.OutJob.{OutJob}
use Rattle.driver_objects.proofs.Lists.{any_set, get_set}
use Rattle.driver_core.specs.Roles.{Fits, SameRole}
use Rattle.driver_core.specs.Sound.{IsSound, is_surface}

module _ (kept : List Object) (made : ℕ) (queues : List (Queue Surface)) (jobs : List OutJob) (sound : IsSound kept made queues jobs)
    (index : ℕ) (object : Object) (what : Content) (there : slice_get kept index ≡ Some object) (role : SameRole object.content what) where
  abbrev now : List Object
  now = set kept index (with_content object what)

  -- each object stood before, or is the changed one
  record Was (i : ℕ) (o : Object) : Type 0 where
    before : Object
    stood : slice_get kept i ≡ Some before
    place : o.place ≡ before.place
    name : o.name ≡ before.name
    device : o.device ≡ before.device
    live : o.is_live ≡ before.is_live
    role_is : SameRole before.content o.content

  was : (i : ℕ) (o : Object) → slice_get now i ≡ Some o → Was i o
  was i o at = elim (get_set kept index i (with_content object what) o at) [
    | inl here ↦ record {
      before = object;
      stood = subst (λ k. slice_get kept k ≡ Some object) (sym here.0) there;
      place = ap (λ (x : Object). x.place) (sym here.1);
      name = ap (λ (x : Object). x.name) (sym here.1);
      device = ap (λ (x : Object). x.device) (sym here.1);
      live = ap (λ (x : Object). x.is_live) (sym here.1);
      role_is = subst (λ (x : Object). SameRole object.content x.content) here.1 role;
    }
    | inr same ↦ record { before = o; stood = same.1; place = refl; name = refl; device = refl; live = refl; role_is = record { kind = refl; device = refl; holder = refl; number = refl } }
  ]

  devices_same : (place : ℕ) → list_any (is_device_at place) now ≡ list_any (is_device_at place) kept
  devices_same place = any_set (is_device_at place) kept index object (with_content object what) there (ap (λ b. object.is_live && object.place == place && b) role.device)

  numbers_same : (number : ℕ) → list_any (has_number number) now ≡ list_any (has_number number) kept
  numbers_same number = any_set (has_number number) kept index object (with_content object what) there (ap (λ n. option_map_or (λ own. own == number) n false) role.number)

  surfaces_same : (surface : Surface) → list_any (is_surface surface) now ≡ list_any (is_surface surface) kept
  surfaces_same surface = any_set (is_surface surface) kept index object (with_content object what) there (ap (λ h. object.place == surface.object && option_map_or (λ holder. holder == surface.holder) h false) role.holder)

  pub content_sound : Fits what → IsSound now made queues jobs
  content_sound fits = record {
    kinds = λ i o at. let w = was i o at in ap kind_of w.name ∙ (sound.kinds i w.before w.stood ∙ sym w.role_is.kind);
    videos = λ i o surface at is. elim (get_set kept index i (with_content object what) o at) [
      | inl here ↦ fits.video surface (ap (λ (x : Object). x.content) here.1 ∙ is)
      | inr same ↦ sound.videos i o surface same.1 is
    ];
    outputs = λ i o surface at is. elim (get_set kept index i (with_content object what) o at) [
      | inl here ↦ fits.output surface (ap (λ (x : Object). x.content) here.1 ∙ is)
      | inr same ↦ sound.outputs i o surface same.1 is
    ];
    decoders = λ i o decoder at is. elim (get_set kept index i (with_content object what) o at) [
      | inl here ↦ fits.decoder decoder (ap (λ (x : Object). x.content) here.1 ∙ is)
      | inr same ↦ sound.decoders i o decoder same.1 is
    ];
    mixers = λ i o mixer at is. elim (get_set kept index i (with_content object what) o at) [
      | inl here ↦ fits.mixer mixer (ap (λ (x : Object). x.content) here.1 ∙ is)
      | inr same ↦ sound.mixers i o mixer same.1 is
    ];
    devices = λ i o at live. let w = was i o at in devices_same o.device ∙ (ap (λ p. list_any (is_device_at p) kept) w.device ∙ sound.devices i w.before w.stood (sym w.live ∙ live));
    own = λ i o at is. let w = was i o at in w.device ∙ (sound.own i w.before w.stood (sym w.role_is.device ∙ is) ∙ sym w.place);
    named = λ i o at dead. let w = was i o at in
        ∥∥₁_map (sound.named i w.before w.stood (sym w.live ∙ dead)) (λ n. (n.0, w.role_is.holder ∙ n.1, n.2, subst (λ p. Names (queue_at queues n.2) (record { object = p; holder = n.0 })) (sym w.place) n.3));
    limits = sound.limits;
    numbers = λ i o number at is. let w = was i o at in sound.numbers i w.before number w.stood (sym w.role_is.number ∙ is);
    numbers_apart = λ i j a b number at bt ia ib. let v = was i a at in let w = was j b bt in sound.numbers_apart i j v.before w.before number v.stood w.stood (sym v.role_is.number ∙ ia) (sym w.role_is.number ∙ ib);
    unused = λ number none. sound.unused number (sym (numbers_same number) ∙ none);
    holders = λ i o holder at is. let w = was i o at in sound.holders i w.before holder w.stood (sym w.role_is.holder ∙ is);
    holders_apart = λ i j a b holder at bt ia ib. let v = was i a at in let w = was j b bt in sound.holders_apart i j v.before w.before holder v.stood w.stood (sym v.role_is.holder ∙ ia) (sym w.role_is.holder ∙ ib);
    surfaces = λ number surface names. surfaces_same surface ∙ sound.surfaces number surface names;
    targets = sound.targets;
  }
