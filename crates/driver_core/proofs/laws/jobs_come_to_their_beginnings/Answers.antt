use Rattle.driver_core.proofs.Comings.{mixes_come_to_their_beginnings, renders_come_to_their_beginnings}
use Rattle.driver_core.proofs.laws.jobs_come_to_their_beginnings.Goals as goal

pub returns-clause-renders : goal.returns-clause-renders
returns-clause-renders c = renders_come_to_their_beginnings

pub returns-clause-mixes : goal.returns-clause-mixes
returns-clause-mixes c = mixes_come_to_their_beginnings
