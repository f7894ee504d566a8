-- Each mark ends a job that was begun, and a note keeps what the job's end will answer.
use Rattle.std.proofs.Common.{◌≡◌, Bool, true, false, if◌then◌else◌, ◌∷◌, slice_get, Option, Some, refl, ap, sym, ◌∙◌, subst}
use Rattle.std.proofs.lemmas.Bool.{false≢true}
use Rattle.decoder_render.specs.declared.outcome.Outcome.{Outcome}
use Rattle.decoder_render.specs.declared.outcome.Outcome.TheVariants as outcome
use Rattle.driver_model.specs.Answers.{Reply}
use Rattle.driver_model.specs.Ends.{IsReplyOfJob}
use Rattle.driver_model.specs.Histories.{Leads}
use Rattle.driver_model.specs.Jobs.{reply_of}
use Rattle.driver_model.specs.Laws.{JobsHaveOneReply, MarksEndJobs, NotesKeepReplies}
use Rattle.driver_model.specs.Notes.{IsOfEntry, is_ended}
use Rattle.driver_model.specs.Passes.{is_job, is_of_job}
use Rattle.driver_model.specs.States.{empty_state}
use Rattle.driver_model.specs.declared.items.Entry.{Entry}
use Rattle.driver_model.specs.declared.items.Item.{Item}
use Rattle.driver_model.specs.declared.items.Item.TheVariants.{Called, Ended}
use Rattle.driver_model.proofs.Leading.{leads_front}
use Rattle.driver_model.proofs.NoteLists.{get_in, all_so}
use Rattle.driver_model.proofs.NoteEntries.{all_kept, its_note}

begins_so : (asked : Bool) (o : Outcome) (reply : Reply) → asked ≡ true → reply ≡ reply_of o → (if asked then is_of_job reply else false) ≡ true
begins_so true o reply job e = ap is_of_job e ∙ of_job o where
  of_job : (outcome_is : Outcome) → is_of_job (reply_of outcome_is) ≡ true
  of_job outcome.Ok = refl
  of_job (outcome.Bitstream slice) = refl
  of_job (outcome.Incomplete macroblocks) = refl
begins_so false o reply job e = absurd (false≢true job)

pub marks_end_jobs : MarksEndJobs
unfolding Leads
marks_end_jobs front rest mark legal =
    let parts = leads_front empty_state legal.0 front (Ended mark ∷ rest) legal.1 in
    let kept = all_kept front parts.0 parts.1 in
    let its = its_note front parts.0 mark kept parts.2.1.0 in
    let is = its.1 in
    let answers : IsReplyOfJob front mark.place mark.caller is.entry.reply = record {
      entry = is.entry;
      at_place = subst (λ k. slice_get front k ≡ Some (Called is.entry)) its.2 is.at_place;
      of_caller = is.caller ∙ its.3;
      begins = begins_so (is_job is.entry.call) its.0.outcome is.entry.reply is.job is.reply;
      replies = refl;
    } in
    ((is.entry.reply, answers), (λ i. is_ended front (sym its.3 i) (sym its.2 i)) ∙ is.runs)

pub notes_keep_replies : NotesKeepReplies
notes_keep_replies history s leads =
    all_so (IsOfEntry history s) (λ note. IsReplyOfJob history note.place note.caller (reply_of note.outcome))
    (λ note is. record { entry = is.entry; at_place = is.at_place; of_caller = is.caller; begins = begins_so (is_job is.entry.call) note.outcome is.entry.reply is.job is.reply; replies = is.reply })
    s.notes (all_kept history s leads).entries

called_one : (a b : Entry) → (let o : Option Item = Some (Called a) in o ≡ Some (Called b)) → a ≡ b
called_one a b e = cc

pub jobs_have_one_reply : JobsHaveOneReply
jobs_have_one_reply seen more place caller other a b one two =
    let same_entry : one.entry ≡ two.entry = called_one one.entry two.entry (sym (get_in seen more place (Called one.entry) one.at_place) ∙ two.at_place) in
    (sym one.of_caller ∙ (ap (λ (e : Entry). e.caller) same_entry ∙ two.of_caller), sym one.replies ∙ (ap (λ (e : Entry). e.reply) same_entry ∙ two.replies))
