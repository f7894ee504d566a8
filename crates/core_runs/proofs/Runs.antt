-- What is done on a core has a history: deed by deed, and so a whole run.
use Rattle.std.proofs.Common.{◌≡◌, ℕ, ◌+◌, ◌==◌, ◌&&◌, not, Bool, true, false, List, [], ◌∷◌, ◌++◌, length, Some, Ok, Err, slice_get, refl, ap, sym, ◌∙◌, subst, length-append}
use mathlib.Core.List.{append_assoc}
use Rattle.std.specs.List.{AllByRecursion}
use Rattle.std.proofs.lemmas.Bool.{false≢true, eq-eqb}
use Rattle.std.proofs.lemmas.List.{append-nil}
use Rattle.cb_types.specs.declared.picture_info.PictureInfo.{PictureInfo}
use Rattle.decoder_render.specs.Coverage.{Given}
use Rattle.decoder_render.specs.Outcomes.{IsOutcome}
use Rattle.decoder_render.specs.declared.outcome.Outcome.{Outcome}
use Rattle.decoder_render.specs.declared.outcome.Outcome.TheVariants as outcome
use Rattle.device_lock.proofs.Callers.{same_self}
use Rattle.device_lock.specs.Lists.{same}
use Rattle.driver_jobs.specs.Mixes as mixes
use Rattle.driver_jobs.specs.Renders as renders
use Rattle.driver_jobs.specs.declared.mixes.CoreMix.{CoreMix}
use Rattle.driver_jobs.specs.declared.renders.CoreRender.{CoreRender}
use Rattle.mixer.specs.Mixed.{IsMixed}
use Rattle.vd_plane.specs.declared.picture.Picture.{Picture}
use Rattle.driver_core.specs.Answered.{Takes}
use Rattle.driver_core.specs.Begun.{BeginsMix, BeginsRender, TakesWith}
use Rattle.driver_core.specs.Owed.{IsOut, OwesPicture, OwesPixels}
use Rattle.driver_core.specs.Stands.{Stands}
use Rattle.driver_core.specs.declared.driver.Core.{Core}
use Rattle.driver_model.proofs.Leading.{histories_go_on}
use Rattle.driver_model.proofs.NoteEntries.{all_kept, notes_are_apart}
use Rattle.driver_model.proofs.NoteLists.{get_end, get_in, not_true}
use Rattle.driver_model.proofs.NoteMarks.{notes_keep_replies}
use Rattle.driver_model.proofs.OwedSteps.{ends_keep_targets, steps_keep_targets}
use Rattle.driver_model.specs.Answers.{Reply, reply_with}
use Rattle.driver_model.specs.Ends.{IsReplyOfJob}
use Rattle.driver_model.specs.Histories.{IsStateOf, Leads}
use Rattle.driver_model.specs.Jobs.{reply_of}
use Rattle.driver_model.specs.Owed.{KeepsSurface}
use Rattle.driver_model.specs.States.{Note, State, counted, empty_state, has_note, is_note_of, without_note}
use Rattle.driver_model.specs.Steps.{Step}
use Rattle.driver_model.specs.declared.calls.Call.{Call}
use Rattle.driver_model.specs.declared.calls.Call.TheVariants.{Mix, Render}
use Rattle.driver_model.specs.declared.items.Entry.{Entry}
use Rattle.driver_model.specs.declared.items.Item.{Item}
use Rattle.driver_model.specs.declared.items.Item.TheVariants.{Called, Ended}
use Rattle.driver_model.specs.declared.items.Mark.{Mark}
use Rattle.driver_model.specs.declared.replies.Answer.{Answer}
use Rattle.driver_objects.proofs.Lists.{any_at}
use Rattle.core_runs.proofs.Jobs.{one_outcome, noted_still, runs_to}
use Rattle.core_runs.proofs.Lists.{all_and, all_at, all_left, all_middle, all_then, all_with}
use Rattle.core_runs.specs.Deeds.{Began, Deed, Does, Finished, Finishes, Held, IsBegun, IsFinished, IsPutOff, IsReplied, IsRun, Mixed, Moment, OpenJob, PutOff, Ran, Rendered, Replied, Runs, ToMix, ToRender, deed_items, run_items}
use Rattle.core_runs.specs.Histories.{AnswersAsBegun, IsKnown, IsNoteOf, IsNoted, NewCoresAreKnown, RunsHaveHistories, StatesAreKnown}

-- how many items there were says nothing of a core
stands_counted : (core : Core) (d : State) → Stands core d → Stands core (counted d)
stands_counted core d s =
    record {
      kept = λ i object at. let k = s.kept i object at in (k.0, k.1, k.2, record { name = k.3.name; device = k.3.device; live = k.3.live; content = k.3.content });
      needed = s.needed;
      made = s.made;
      given = s.given;
      jobs = s.jobs;
      idle_queues = s.idle_queues;
    }

same_counted : (s t : State) (place : ℕ) → KeepsSurface s t place → KeepsSurface s (counted t) place
same_counted s t place keeps = record { video = λ surface is. keeps.video surface is; output = λ surface is. keeps.output surface is }

one_more : (front : List Item) (item : Item) (before after : ℕ) → before ≡ length front → after ≡ before + 1 → after ≡ length (front ++ item ∷ [])
one_more front item before after was is = is ∙ (ap (λ n. n + 1) was ∙ sym (length-append front (item ∷ [])))

-- ---- steps

-- behind a step each job has its note still
step_noted : (s t : State) (caller : List ℕ) (call : Call) (reply : Reply) → Step s caller call reply t → (job : OpenJob) → IsNoted s job → IsNoted (counted t) job
step_noted s t caller call reply step job is =
    let kept = steps_keep_targets s t caller call reply is.index is.note step is.there in
    noted_still s (counted t) job is ((is.index, kept.0), same_counted s t is.note.target kept.1)

-- Behind a call that was answered the history goes on with it.
replied_known : (front : List Item) (before after : Moment) (entry : Entry) (known : IsKnown front before)
    → Takes after.core known.state entry.caller entry.call entry.reply → after.items ≡ before.items + 1 → after.jobs ≡ before.jobs
    → IsKnown (front ++ Called entry ∷ []) after
replied_known front before after entry known takes items jobs =
    let s = known.state in
    record {
      state = counted takes.after;
      leads = histories_go_on front s (counted takes.after) (Called entry) known.leads (takes.after, takes.step, refl);
      stands = stands_counted after.core takes.after takes.stands;
      count = one_more front (Called entry) before.items after.items known.count items;
      jobs = subst (AllByRecursion (IsNoted (counted takes.after))) (sym jobs)
          (all_then (IsNoted s) (IsNoted (counted takes.after)) (step_noted s takes.after entry.caller entry.call entry.reply takes.step) before.jobs known.jobs);
    }

-- Behind one that began a job, that job has its note, too.
began_known : (front : List Item) (before after : Moment) (caller : List ℕ) (call : Call) (outcome : Outcome) (number : ℕ) (Owes : State → Note → Type 0) (held : Held) (known : IsKnown front before)
    → (t : TakesWith after.core known.state caller call outcome number Owes)
    → IsNoteOf held (counted t.after) t.note
    → after.items ≡ before.items + 1
    → after.jobs ≡ before.jobs ++ record { place = before.items; caller = caller; held = held } ∷ []
    → IsKnown (front ++ Called (record { caller = caller; call = call; reply = reply_of outcome }) ∷ []) after
began_known front before after caller call outcome number Owes held known t owes items jobs =
    let s = known.state in
    let u = counted t.after in
    let item = Called (record { caller = caller; call = call; reply = reply_of outcome }) in
    let job : OpenJob = record { place = before.items; caller = caller; held = held } in
    let count : s.items ≡ length front = (all_kept front s known.leads).items in
    let noted : IsNoted u job =
    record {
      index = length s.notes;
      note = t.note;
      there = subst (λ l. slice_get l (length s.notes) ≡ Some t.note) (sym t.noted) (get_end s.notes t.note);
      at_place = t.at_place ∙ (count ∙ sym known.count);
      of_caller = t.of_caller;
      owes = owes;
    }
    in
    record {
      state = u;
      leads = histories_go_on front s u item known.leads (t.after, t.step, refl);
      stands = stands_counted after.core t.after t.stands;
      count = one_more front item before.items after.items known.count items;
      jobs = subst (AllByRecursion (IsNoted u)) (sym jobs)
          (all_and (IsNoted u) before.jobs job (all_then (IsNoted s) (IsNoted u) (step_noted s t.after caller call (reply_of outcome) t.step) before.jobs known.jobs) noted);
    }

-- ---- calls

pub told : (reply : Reply) → reply_with (λ (answer : Answer). answer) reply ≡ reply
told (Ok answer) = refl
told (Err refusal) = refl

-- the step of a call that was answered
takes : (old new : Core) (call : Call) (reply : Reply) → IsReplied old new call reply → (d : State) (caller : List ℕ) → Stands old d → Takes new d caller call reply
takes old new (Render decoder target info bytes) reply is d caller stands =
    let w = is.2 d caller stands in
    subst (Takes new d caller (Render decoder target info bytes)) (sym is.3) (record { after = d; step = w.1; stands = w.2 })
takes old new (Mix mixer structure video output) reply is d caller stands =
    let w = is.2 d caller stands in
    subst (Takes new d caller (Mix mixer structure video output)) (sym is.3) (record { after = d; step = w.1; stands = w.2 })
takes old new call reply is d caller stands = subst (Takes new d caller call) (told reply) (is d caller stands)

-- the state stays where a call is put off
put_off : (old new : Core) (call : Call) → IsPutOff old new call → (d : State) (caller : List ℕ) → Stands old d → Stands new d
put_off old new (Render decoder target info bytes) is d caller stands = (is.1 d caller stands).2
put_off old new (Mix mixer structure video output) is d caller stands = (is.1 d caller stands).2
put_off old new call is d caller stands = (is d caller stands).1

-- ---- jobs that begin

-- what the core takes at a render that comes to this outcome
render_takes : (core : Core) (d : State) (caller : List ℕ) (decoder target : ℕ) (info : PictureInfo) (bytes : List ℕ) (job : CoreRender) (begins : BeginsRender core d caller decoder target info bytes job)
    → (outcome : Outcome) (picture : Picture) → IsOutcome (renders.given_of job) (renders.payloads_of job) outcome picture
    → (now : Picture) × IsOutcome (renders.given_of job) (renders.payloads_of job) outcome now
    × TakesWith core d caller (Render decoder target info bytes) outcome (renders.number_of job) (λ after note. OwesPicture after note begins.on.decoder.value.size now)
render_takes core d caller decoder target info bytes job begins outcome picture is =
    let one : begins.outcome ≡ outcome = one_outcome job begins.outcome outcome begins.picture picture begins.comes_to is in (
      begins.picture,
      subst (λ o. IsOutcome (renders.given_of job) (renders.payloads_of job) o begins.picture) one begins.comes_to,
      subst (λ o. TakesWith core d caller (Render decoder target info bytes) o (renders.number_of job) (λ after note. OwesPicture after note begins.on.decoder.value.size begins.picture)) one begins.takes,
    )

-- and at a mix
mix_takes : (core : Core) (d : State) (caller : List ℕ) (mixer structure video output : ℕ) (job : CoreMix) (begins : BeginsMix core d caller mixer structure video output job)
    → (bytes : List ℕ) × IsMixed (mixes.picture_of job) (mixes.matrix_of job) (mixes.format_of job) bytes
    × TakesWith core d caller (Mix mixer structure video output) outcome.Ok (mixes.number_of job) (λ after note. OwesPixels after note begins.on.output.value.size bytes)
mix_takes core d caller mixer structure video output job begins = (begins.bytes, begins.comes_to, begins.takes)

begun : (front : List Item) (before after : Moment) (caller : List ℕ) (call : Call) (reply : Reply) (held : Held) (known : IsKnown front before)
    → IsBegun before.core after.core call reply held → after.items ≡ before.items + 1
    → after.jobs ≡ before.jobs ++ record { place = before.items; caller = caller; held = held } ∷ []
    → IsKnown (front ++ Called (record { caller = caller; call = call; reply = reply }) ∷ []) after
begun front before after caller (Render decoder target info bytes) reply (ToRender job) known is items jobs =
    let begins : BeginsRender after.core known.state caller decoder target info bytes job = is.3 known.state caller known.stands in
    let more = render_takes after.core known.state caller decoder target info bytes job begins is.0 is.1 is.2 in
    let t = more.2 in
    let size : (renders.given_of job).size ≡ begins.on.decoder.value.size = ap (λ (g : Given). g.size) begins.holds in
    let owes : OwesPicture (counted t.after) t.note (renders.given_of job).size more.0 =
    record { surface = t.owes.surface; there = t.owes.there; of_size = t.owes.of_size ∙ sym size; owed = t.owes.owed }
    in
    subst (λ (r : Reply). IsKnown (front ++ Called (record { caller = caller; call = Render decoder target info bytes; reply = r }) ∷ []) after) (sym is.4)
    (began_known front before after caller (Render decoder target info bytes) is.0 (renders.number_of job) (λ u note. OwesPicture u note begins.on.decoder.value.size more.0) (ToRender job) known t
    (is.0, more.0, more.1, t.numbered, t.comes_to, owes) items jobs)
begun front before after caller (Mix mixer structure video output) reply (ToMix job) known is items jobs =
    let begins : BeginsMix after.core known.state caller mixer structure video output job = is.0 known.state caller known.stands in
    let more = mix_takes after.core known.state caller mixer structure video output job begins in
    let t = more.2 in
    let owes : OwesPixels (counted t.after) t.note (mixes.size_of job) more.0 =
    record { surface = t.owes.surface; there = t.owes.there; of_size = t.owes.of_size ∙ sym begins.size; owed = t.owes.owed }
    in
    subst (λ (r : Reply). IsKnown (front ++ Called (record { caller = caller; call = Mix mixer structure video output; reply = r }) ∷ []) after) (sym is.1)
    (began_known front before after caller (Mix mixer structure video output) outcome.Ok (mixes.number_of job) (λ u note. OwesPixels u note begins.on.output.value.size more.0) (ToMix job) known t
    (more.0, more.1, t.numbered, t.comes_to, owes) items jobs)
begun front before after caller call reply held known is items jobs = absurd is

-- ---- jobs that are run, and jobs that end

ran : (front : List Item) (before after : Moment) (place : ℕ) → IsKnown front before → Runs before place after → after.items ≡ before.items → after.core ≡ before.core → IsKnown front after
ran front before after place known r items core =
    let s = known.state in
    let all : AllByRecursion (IsNoted s) (r.earlier ++ r.job ∷ r.later) = subst (AllByRecursion (IsNoted s)) r.there known.jobs in
    let noted = all_middle (IsNoted s) r.earlier r.job r.later all in
    let then : IsNoted s (record r.job { held = r.done }) =
    record {
      index = noted.index;
      note = noted.note;
      there = noted.there;
      at_place = noted.at_place;
      of_caller = noted.of_caller;
      owes = runs_to s noted.note r.job.held r.done r.runs noted.owes;
    }
    in
    record {
      state = s;
      leads = known.leads;
      stands = subst (λ c. Stands c s) (sym core) known.stands;
      count = items ∙ known.count;
      jobs = subst (AllByRecursion (IsNoted s)) (sym r.jobs) (all_with (IsNoted s) r.earlier r.job (record r.job { held = r.done }) r.later all then);
    }

both_true : (a b : Bool) → a ≡ true → b ≡ true → (a && b) ≡ true
both_true true b p q = q
both_true false b p q = absurd (false≢true p)

not_both : (a b : Bool) → a ≡ false → (a && b) ≡ false
not_both true b p = absurd (false≢true (sym p))
not_both false b p = refl

-- the note is that of a job which is out
is_out : (front : List Item) (s : State) → IsStateOf front s → (number index : ℕ) (note : Note) → slice_get s.notes index ≡ Some note → note.number ≡ number → IsOut s number note
is_out front s leads number index note there numbered =
    let apart = notes_are_apart front s leads in
    record { index = index; there = there; numbered = numbered; places = apart.0; numbers = apart.1 }

-- the end of a job takes its note away, and answers the outcome that the note has
ended : (front : List Item) (s : State) (old new : Core) (job : OpenJob) (reply : Reply) → IsStateOf front s → Stands old s → (noted : IsNoted s job) → IsFinished old new job.held reply
    → Stands new (without_note s noted.note.caller noted.note.place) × (reply ≡ reply_of noted.note.outcome)
ended front s old new job reply leads stands noted is = by_held job.held noted.owes is where
  by_held : (held : Held) → IsNoteOf held s noted.note → IsFinished old new held reply → Stands new (without_note s noted.note.caller noted.note.place) × (reply ≡ reply_of noted.note.outcome)
  by_held (Rendered done) owes is = (
    is.1.1 s noted.note stands (is_out front s leads (renders.done_number done) noted.index noted.note noted.there owes.0) owes.1 owes.2,
    is.2 ∙ (is.1.0 ∙ ap reply_of (sym owes.1)),
  )
  by_held (Mixed done) owes is = (
    is.1.1 s noted.note stands (is_out front s leads (mixes.done_number done) noted.index noted.note noted.there owes.0) owes.1 owes.2,
    is.2 ∙ (is.1.0 ∙ ap reply_of (sym owes.1)),
  )
  by_held (ToRender job) owes is = absurd is
  by_held (ToMix job) owes is = absurd is

finished : (front : List Item) (before after : Moment) (mark : Mark) (reply : Reply) → IsKnown front before → Finishes before mark reply after → after.items ≡ before.items + 1
    → IsKnown (front ++ Ended mark ∷ []) after × IsReplyOfJob front mark.place mark.caller reply
finished front before after mark reply known r items =
    let s = known.state in
    let noted = all_middle (IsNoted s) r.earlier r.job r.later (subst (AllByRecursion (IsNoted s)) r.there known.jobs) in
    let its_place : noted.note.place ≡ mark.place = noted.at_place ∙ r.at_place in
    let its_caller : noted.note.caller ≡ mark.caller = noted.of_caller ∙ r.of_caller in
    let end = ended front s before.core after.core r.job reply known.leads known.stands noted r.ends in
    let t = without_note s mark.caller mark.place in
    let stands : Stands after.core t =
    subst (λ c. Stands after.core (without_note s c mark.place)) its_caller (subst (λ p. Stands after.core (without_note s noted.note.caller p)) its_place end.0)
    in
    let has : has_note s mark.caller mark.place ≡ true =
    any_at (is_note_of mark.caller mark.place) s.notes noted.index noted.note noted.there
    (both_true (noted.note.place == mark.place) (same mark.caller noted.note.caller) (eq-eqb noted.note.place mark.place its_place) (ap (same mark.caller) its_caller ∙ same_self mark.caller))
    in
    let still : (job : OpenJob) → not (job.place == mark.place) ≡ true → IsNoted s job → IsNoted (counted t) job =
    λ job other is.
    let elsewhere : is_note_of mark.caller mark.place is.note ≡ false =
    not_both (is.note.place == mark.place) (same mark.caller is.note.caller) (ap (λ n. n == mark.place) is.at_place ∙ not_true (job.place == mark.place) other)
    in
    let kept = ends_keep_targets s mark.caller mark.place is.index is.note is.there elsewhere in
    noted_still s (counted t) job is (kept.0, same_counted s t is.note.target kept.1)
    in
    let all = all_at (λ (n : Note). IsReplyOfJob front n.place n.caller (reply_of n.outcome)) s.notes noted.index noted.note (notes_keep_replies front s known.leads) noted.there in (
      record {
        state = counted t;
        leads = histories_go_on front s (counted t) (Ended mark) known.leads (has, refl);
        stands = stands_counted after.core t stands;
        count = one_more front (Ended mark) before.items after.items known.count items;
        jobs = subst (AllByRecursion (IsNoted (counted t))) (sym r.jobs)
            (all_left (λ (job : OpenJob). not (job.place == mark.place)) (IsNoted s) (IsNoted (counted t)) still before.jobs known.jobs);
      },
      subst (λ (a : Reply). IsReplyOfJob front mark.place mark.caller a) (sym end.1)
          (subst (λ c. IsReplyOfJob front mark.place c (reply_of noted.note.outcome)) its_caller (subst (λ p. IsReplyOfJob front p noted.note.caller (reply_of noted.note.outcome)) its_place all)),
    )

-- ---- runs

reply_stays : (front later : List Item) (place : ℕ) (caller : List ℕ) (reply : Reply) → IsReplyOfJob front place caller reply → IsReplyOfJob (front ++ later) place caller reply
reply_stays front later place caller reply is =
    record { entry = is.entry; at_place = get_in front later place (Called is.entry) is.at_place; of_caller = is.of_caller; begins = is.begins; replies = is.replies }

answers_stay : (front later : List Item) (deed : Deed) → AnswersAsBegun front deed → AnswersAsBegun (front ++ later) deed
answers_stay front later (Finished mark reply) is = reply_stays front later mark.place mark.caller reply is
answers_stay front later (Replied entry) is = tt
answers_stay front later (PutOff caller call) is = tt
answers_stay front later (Began entry) is = tt
answers_stay front later (Ran place) is = tt

-- what is known of the front is known of the front and nothing more
and_nothing : (front : List Item) (P : List Item → Type 0) → P front → P (front ++ [])
and_nothing front P is = subst P (sym (append-nil front)) is

does : (front : List Item) (before after : Moment) (deed : Deed) → IsKnown front before → Does before deed after → IsKnown (front ++ deed_items deed) after × AnswersAsBegun (front ++ deed_items deed) deed
does front before after (Replied entry) known is =
    (replied_known front before after entry known (takes before.core after.core entry.call entry.reply is.0 known.state entry.caller known.stands) is.1 is.2, tt)
does front before after (PutOff caller call) known is =
    let s = known.state in
    let stays : IsKnown front after =
    record {
      state = s;
      leads = known.leads;
      stands = put_off before.core after.core call is.0 s caller known.stands;
      count = is.1 ∙ known.count;
      jobs = subst (AllByRecursion (IsNoted s)) (sym is.2) known.jobs;
    }
    in
    (and_nothing front (λ h. IsKnown h after) stays, tt)
does front before after (Began entry) known is = (begun front before after entry.caller entry.call entry.reply is.0 known is.1 is.2 is.3, tt)
does front before after (Ran place) known is = (and_nothing front (λ h. IsKnown h after) (ran front before after place known is.0 is.1 is.2), tt)
does front before after (Finished mark reply) known is =
    let r = finished front before after mark reply known is.0 is.1 in
    (r.0, reply_stays front (Ended mark ∷ []) mark.place mark.caller reply r.1)

pub runs_have_histories : RunsHaveHistories
unfolding IsRun run_items
runs_have_histories front first last [] known run = (and_nothing front (λ h. IsKnown h last) (subst (IsKnown front) (sym run) known), tt)
runs_have_histories front first last (deed ∷ later) known run =
    let one = does front first run.0 deed known run.1 in
    let rest = runs_have_histories (front ++ deed_items deed) run.0 last later one.0 run.2 in
    let parts : (front ++ deed_items deed) ++ run_items later ≡ front ++ (deed_items deed ++ run_items later) = append_assoc front (deed_items deed) (run_items later) in (
      subst (λ h. IsKnown h last) parts rest.0,
      (
        subst (λ h. AnswersAsBegun h deed) parts (answers_stay (front ++ deed_items deed) (run_items later) deed one.1),
        subst (λ h. AllByRecursion (AnswersAsBegun h) later) parts rest.1,
      ),
    )

-- ---- where a run begins

pub new_cores_are_known : NewCoresAreKnown
unfolding Leads
new_cores_are_known core stands = record { state = empty_state; leads = refl; stands = stands; count = refl; jobs = tt }

pub states_are_known : StatesAreKnown
states_are_known core front state leads stands = record { state = state; leads = leads; stands = stands; count = refl; jobs = tt }
