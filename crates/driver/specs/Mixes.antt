-- What a contract sees of a mix on the shared driver.
use Rattle.std.specs.Prelude.{ℕ}
use Rattle.driver_model.specs.declared.calls.Call.{Call}
use Rattle.driver.specs.Jobs.{Begins, Refuses}
use Rattle.driver.specs.declared.driver.Pass.{Pass}
use Rattle.driver.specs.declared.mixes.BeginMix.{BeginMix}
use Rattle.driver.specs.declared.mixes.BeginMix.TheVariants.{Job, Refused}
use Rattle.driver.specs.declared.mixes.MixDone.{MixDone}
use Rattle.driver.specs.declared.mixes.MixJob.{MixJob}

-- the pass that the job holds, and the place of its beginning
abbrev pub pass_of : MixJob → Pass
pass_of job = job.pass

abbrev pub place_of : MixJob → ℕ
place_of job = job.place

-- the same of a mix that was run
abbrev pub done_pass : MixDone → Pass
done_pass done = done.pass

abbrev pub done_place : MixDone → ℕ
done_place done = done.place

-- what the call answers that begins a mix
abbrev pub IsBeginMix : Pass → Call → BeginMix → Type 0
IsBeginMix before call (Job job) = Begins before call (pass_of job) (place_of job)
IsBeginMix before call (Refused pass place refusal) = Refuses before call refusal pass place
