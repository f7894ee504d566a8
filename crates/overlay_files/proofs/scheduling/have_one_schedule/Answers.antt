use Rattle.overlay_files.proofs.OneSchedule as answer
use Rattle.overlay_files.proofs.scheduling.have_one_schedule.Goals as goal

pub returns : goal.returns
returns c = answer.have_one_schedule
