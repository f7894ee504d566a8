use Rattle.core_runs.proofs.Runs as runs
use Rattle.core_runs.proofs.laws.runs_have_histories.Goals as goal

pub returns : goal.returns
returns c = record {
  histories = runs.runs_have_histories;
  new = runs.new_cores_are_known;
  states = runs.states_are_known;
}
