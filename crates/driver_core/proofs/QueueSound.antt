-- A queue is changed.
use Rattle.std.proofs.Common.{◌≡◌, ◌≢◌, ◌⊎◌, inl, inr, ℕ, ◌<◌, ◌≤◌, true, true≢false, List, length, set, slice_get, Some, sym, ap, ◌∙◌, subst, arith}
use Rattle.std.specs.List.{list_any}
use Rattle.std.proofs.Math.Logic.{∥∥₁_map}
use Rattle.std.proofs.lemmas.List.{length-set}
use Rattle.present_queue.specs.Queue.{Names, Queue, most_entries}
use Rattle.present_queue.specs.Queues.{Surface, queue_at}
use Rattle.driver_objects.specs.Kinds.{has_number, number_of}
use Rattle.driver_objects.specs.declared.object.Object.{Object}
use Rattle.driver_objects.specs.declared.jobs.OutJob.{OutJob}
use Rattle.driver_objects.proofs.Cases.{either}
use Rattle.driver_objects.proofs.OwnNumbers.{number_has}
use Rattle.driver_objects.proofs.Lists.{any_at}
use Rattle.driver_objects.proofs.QueueLists.{queue_set_other, queue_set_same}
use Rattle.driver_core.specs.Sound.{IsSound, is_surface}

module _ (kept : List Object) (made : ℕ) (queues : List (Queue Surface)) (jobs : List OutJob) (sound : IsSound kept made queues jobs)
    (index : ℕ) (object : Object) (number : ℕ) (there : slice_get kept index ≡ Some object) (is : number_of object.content ≡ Some number) where
  pub number_within : number < length queues
  number_within = let below = sound.numbers index object number there is in omega (arith, below, sound.limits.count)

  module _ (queue : Queue Surface) (few : length queue.entries ≤ most_entries)
      -- it names what it named before, and beside that kept surfaces alone
      (stays : (surface : Surface) → Names (queue_at queues number) surface → Names queue surface)
      (more : (surface : Surface) → Names queue surface → Names (queue_at queues number) surface ⊎ (list_any (is_surface surface) kept ≡ true)) where
    still_named : (other : ℕ) (surface : Surface) → Names (queue_at queues other) surface → Names (queue_at (set queues number queue) other) surface
    still_named other surface named = elim (either other number) [
      | inl e ↦ subst (λ n. Names (queue_at (set queues number queue) n) surface) (sym e) (subst (λ q. Names q surface) (sym (queue_set_same queues number queue number_within)) (stays surface (subst (λ n. Names (queue_at queues n) surface) e named)))
      | inr apart ↦ subst (λ q. Names q surface) (sym (queue_set_other queues number queue other apart)) named
    ]

    pub queue_sound : IsSound kept made (set queues number queue) jobs
    queue_sound = record {
      kinds = sound.kinds;
      videos = sound.videos;
      outputs = sound.outputs;
      decoders = sound.decoders;
      mixers = sound.mixers;
      devices = sound.devices;
      own = sound.own;
      named = λ i o at dead. ∥∥₁_map (sound.named i o at dead) (λ n. (n.0, n.1, n.2, still_named n.2 (record { object = o.place; holder = n.0 }) n.3));
      limits = record {
        count = length-set queues number queue ∙ sound.limits.count;
        entries = λ other. elim (either other number) [
          | inl e ↦ subst (λ n. length (queue_at (set queues number queue) n).entries ≤ most_entries) (sym e) (subst (λ (q : Queue Surface). length q.entries ≤ most_entries) (sym (queue_set_same queues number queue number_within)) few)
          | inr apart ↦ subst (λ (q : Queue Surface). length q.entries ≤ most_entries) (sym (queue_set_other queues number queue other apart)) (sound.limits.entries other)
        ];
      };
      numbers = sound.numbers;
      numbers_apart = sound.numbers_apart;
      unused = λ other none.
          let apart : other ≢ number = λ e. true≢false (sym (any_at (has_number number) kept index object there (number_has number object is)) ∙ (ap (λ n. list_any (has_number n) kept) (sym e) ∙ none)) in
          queue_set_other queues number queue other apart ∙ sound.unused other none;
      holders = sound.holders;
      holders_apart = sound.holders_apart;
      surfaces = λ other surface named. elim (either other number) [
        | inl e ↦
            let now : Names queue surface = subst (λ q. Names q surface) (queue_set_same queues number queue number_within) (subst (λ n. Names (queue_at (set queues number queue) n) surface) e named) in
            elim (more surface now) [
              | inl was ↦ sound.surfaces number surface was
              | inr is_kept ↦ is_kept
            ]
        | inr apart ↦ sound.surfaces other surface (subst (λ q. Names q surface) (queue_set_other queues number queue other apart) named)
      ];
      targets = sound.targets;
    }
