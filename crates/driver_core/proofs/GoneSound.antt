-- An object is let go that is no device, no output surface and no queue.
use Rattle.std.proofs.Common.{◌≡◌, ℕ, ◌==◌, ◌&&◌, Bool, false, List, sym, ap, ◌∙◌, arith}
use Rattle.std.specs.List.{list_any, remove}
use Rattle.std.specs.Option.{option_map_or}
use Rattle.present_queue.specs.Queue.{Queue}
use Rattle.present_queue.specs.Queues.{Surface}
use Rattle.driver_objects.specs.Kinds.{has_number, is_device_at}
use Rattle.driver_objects.specs.declared.object.Object.{Object}
use Rattle.driver_objects.specs.declared.jobs.OutJob.{OutJob}
use Rattle.driver_objects.proofs.Removed.{any_remove, one_place, stood_before}
use Rattle.driver_core.specs.Roles.{MayDestroy}
use Rattle.driver_core.specs.Sound.{IsSound, is_surface}

and_false : (b : Bool) → (b && false) ≡ false
and_false b = grind arith

module _ (kept : List Object) (made : ℕ) (queues : List (Queue Surface)) (jobs : List OutJob) (sound : IsSound kept made queues jobs)
    (index : ℕ) (may : MayDestroy kept index) where
  devices_same : (place : ℕ) → list_any (is_device_at place) (remove kept index) ≡ list_any (is_device_at place) kept
  devices_same place = any_remove (is_device_at place) kept index may.object may.there (let e = may.device in grind (arith, e))

  numbers_same : (number : ℕ) → list_any (has_number number) (remove kept index) ≡ list_any (has_number number) kept
  numbers_same number = any_remove (has_number number) kept index may.object may.there (ap (λ n. option_map_or (λ own. own == number) n false) may.number)

  surfaces_same : (surface : Surface) → list_any (is_surface surface) (remove kept index) ≡ list_any (is_surface surface) kept
  surfaces_same surface =
      any_remove (is_surface surface) kept index may.object may.there
      (ap (λ h. may.object.place == surface.object && option_map_or (λ holder. holder == surface.holder) h false) may.holder ∙ and_false (may.object.place == surface.object))

  pub gone_sound : IsSound (remove kept index) made queues jobs
  gone_sound = record {
    kinds = λ i o at. let w = stood_before kept index i o at in sound.kinds w.place o w.stood;
    videos = λ i o surface at is. let w = stood_before kept index i o at in sound.videos w.place o surface w.stood is;
    outputs = λ i o surface at is. let w = stood_before kept index i o at in sound.outputs w.place o surface w.stood is;
    decoders = λ i o decoder at is. let w = stood_before kept index i o at in sound.decoders w.place o decoder w.stood is;
    mixers = λ i o mixer at is. let w = stood_before kept index i o at in sound.mixers w.place o mixer w.stood is;
    devices = λ i o at live. let w = stood_before kept index i o at in devices_same o.device ∙ sound.devices w.place o w.stood live;
    own = λ i o at is. let w = stood_before kept index i o at in sound.own w.place o w.stood is;
    named = λ i o at dead. let w = stood_before kept index i o at in sound.named w.place o w.stood dead;
    limits = sound.limits;
    numbers = λ i o number at is. let w = stood_before kept index i o at in sound.numbers w.place o number w.stood is;
    numbers_apart = λ i j a b number at bt ia ib. let v = stood_before kept index i a at in let w = stood_before kept index j b bt in
        one_place kept index i j a b v w (sound.numbers_apart v.place w.place a b number v.stood w.stood ia ib);
    unused = λ number none. sound.unused number (sym (numbers_same number) ∙ none);
    holders = λ i o holder at is. let w = stood_before kept index i o at in sound.holders w.place o holder w.stood is;
    holders_apart = λ i j a b holder at bt ia ib. let v = stood_before kept index i a at in let w = stood_before kept index j b bt in
        one_place kept index i j a b v w (sound.holders_apart v.place w.place a b holder v.stood w.stood ia ib);
    surfaces = λ number surface names. surfaces_same surface ∙ sound.surfaces number surface names;
    targets = sound.targets;
  }
