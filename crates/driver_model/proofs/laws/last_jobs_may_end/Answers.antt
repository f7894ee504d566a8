use Rattle.driver_model.proofs.LastJobs as last
use Rattle.driver_model.proofs.laws.last_jobs_may_end.Goals as goal

pub returns : goal.returns
returns c = record { noted = last.last_jobs_run; legal = last.last_jobs_may_end }
