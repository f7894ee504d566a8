-- The jobs that are out, in a list.
use Rattle.std.specs.Prelude.{◌≡◌, ℕ, List, slice_get, Some}
use Rattle.driver_objects.specs.declared.jobs.OutJob.{OutJob}

-- at this place of the list is a job of this number
pub record HasJob (jobs : List OutJob) (number at : ℕ) : Type 0 where
  pub job : OutJob
  pub there : slice_get jobs at ≡ Some job
  pub numbered : job.number ≡ number
