use Rattle.driver_model.proofs.OwedRuns as runs
use Rattle.driver_model.proofs.OwedSteps as owed
use Rattle.driver_model.proofs.laws.jobs_keep_what_they_owe.Goals as goal

pub returns : goal.returns
returns c = record {
  steps = owed.steps_keep_targets;
  counts = owed.counts_keep_targets;
  ends = owed.ends_keep_targets;
  runs = runs.runs_keep_targets;
  targets = runs.notes_have_targets;
}
