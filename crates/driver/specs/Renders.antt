-- What a contract sees of a render on the shared driver.
use Rattle.std.specs.Prelude.{◌≡◌, ℕ, List}
use Rattle.driver_model.specs.declared.calls.Call.{Call}
use Rattle.driver.specs.Jobs.{Begins, Refuses}
use Rattle.driver.specs.declared.driver.Pass.{Pass}
use Rattle.driver.specs.declared.renders.BeginRender.{BeginRender}
use Rattle.driver.specs.declared.renders.BeginRender.TheVariants.{Job, Refused}
use Rattle.driver.specs.declared.renders.RenderDone.{RenderDone}
use Rattle.driver.specs.declared.renders.RenderJob.{RenderJob}

-- the pass that the job holds, and the place of its beginning
abbrev pub pass_of : RenderJob → Pass
pass_of job = job.pass

abbrev pub place_of : RenderJob → ℕ
place_of job = job.place

-- the same of a render that was run
abbrev pub done_pass : RenderDone → Pass
done_pass done = done.pass

abbrev pub done_place : RenderDone → ℕ
done_place done = done.place

-- What was run hands on the job's pass, and the place of its beginning, as they were.
pub record HandsOn (job : RenderJob) (done : RenderDone) : Type 0 where
  pub pass : done_pass done ≡ pass_of job
  pub place : done_place done ≡ place_of job

-- What the call answers that begins a render of these bytes. Where it is refused, they come back.
abbrev pub IsBeginRender : Pass → Call → List ℕ → BeginRender → Type 0
IsBeginRender before call bytes (Job job) = Begins before call (pass_of job) (place_of job)
IsBeginRender before call bytes (Refused pass place submission refusal) = (submission ≡ bytes) × Refuses before call refusal pass place
