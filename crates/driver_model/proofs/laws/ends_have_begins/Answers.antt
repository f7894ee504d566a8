use Rattle.driver_model.proofs.NoteMarks as marks
use Rattle.driver_model.proofs.laws.ends_have_begins.Goals as goal

pub returns : goal.returns
returns c = record { marks = marks.marks_end_jobs; notes = marks.notes_keep_replies; one = marks.jobs_have_one_reply }
