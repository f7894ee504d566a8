-- The least number that isn't in a list.
use Rattle.std.proofs.Common.{◌≡◌, ℕ, zero, suc, ◌+◌, ◌==◌, true, false, if◌then◌else◌, List, map, refl, ap, ◌∙◌}
use Rattle.std.specs.List.{list_any}
use Rattle.driver_model.specs.States.{free_number_from}
use Rattle.driver_objects.specs.declared.jobs.OutJob.{OutJob}
use Rattle.driver_objects.proofs.Maps.{any_map}

is_taken : (jobs : List OutJob) (number : ℕ) → list_any (λ taken. taken == number) (map (λ (job : OutJob). job.number) jobs) ≡ list_any (λ (job : OutJob). job.number == number) jobs
is_taken jobs number = any_map (λ (job : OutJob). job.number) (λ taken. taken == number) jobs

module _ (jobs : List OutJob) where
  abbrev pub numbers : List ℕ
  numbers = map (λ (job : OutJob). job.number) jobs

  pub number_free : (tries number : ℕ) → list_any (λ (job : OutJob). job.number == number) jobs ≡ false → free_number_from numbers tries number ≡ number
  unfolding free_number_from
  number_free zero number free = refl
  number_free (suc tries) number free = ap (λ b. if b then free_number_from numbers tries (number + 1) else number) (is_taken jobs number ∙ free)

  pub number_taken : (tries left number : ℕ) → list_any (λ (job : OutJob). job.number == number) jobs ≡ true → tries ≡ suc left → free_number_from numbers tries number ≡ free_number_from numbers left (number + 1)
  unfolding free_number_from
  number_taken tries left number taken is =
      ap (λ t. free_number_from numbers t number) is ∙ ap (λ b. if b then free_number_from numbers left (number + 1) else number) (is_taken jobs number ∙ taken)

  pub none_left : (number : ℕ) → free_number_from numbers 0 number ≡ number
  unfolding free_number_from
  none_left number = refl
