use Rattle.driver_model.proofs.LastJobs as last
use Rattle.driver_model.proofs.laws.own_items_rest.Goals as goal

pub returns : goal.returns
returns c = record { refused = last.refused_begins_rest; others = last.other_calls_rest; begun = last.jobs_are_open; ended = last.ended_jobs_rest }
