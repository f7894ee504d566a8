use Rattle.driver_model.proofs.NoteEntries as entries
use Rattle.driver_model.proofs.laws.notes_are_entries.Goals as goal

pub returns : goal.returns
returns c = record { entries = entries.notes_are_of_entries; noted = entries.running_jobs_are_noted; apart = entries.notes_are_apart }
