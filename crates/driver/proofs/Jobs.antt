-- Jobs in hand: what is known of one when it is begun, and what follows from that in the turn in which it ends.
use Rattle.std.proofs.Common.{◌≡◌, ℕ, zero, suc, ◌+◌, ◌==◌, ◌&&◌, ◌||◌, Bool, true, false, if◌then◌else◌, List, [], ◌∷◌, ◌++◌, length, slice_get, Option, Some, None, Result, Err, IfSome, refl, ap, sym, ◌∙◌, subst, arith, length-append}
use mathlib.Core.List.{IsPrefix}
use Rattle.std.specs.List.{AllByRecursion, list_any}
use Rattle.std.proofs.lemmas.Bool.{false≢true, and_parts, eqb-true, eq-eqb}
use Rattle.std.proofs.lemmas.List.Elements.{filter-append}
use Rattle.atomic_table.specs.Seated.{TableId}
use Rattle.decoder_render.specs.declared.outcome.Outcome.{Outcome}
use Rattle.decoder_render.specs.declared.outcome.Outcome.TheVariants as outcome
use Rattle.device_lock.proofs.Callers.{same_is, same_self}
use Rattle.device_lock.specs.Lists.{same}
use Rattle.device_lock.specs.Numbers.{Knows, items_of}
use Rattle.device_lock.specs.Views.{IsSamePass}
use Rattle.device_lock.specs.declared.view.View.{View}
use Rattle.vd_status.specs.declared.refusal.Refusal.{Refusal}
use Rattle.driver_core.specs.Answered.{Takes}
use Rattle.driver_core.specs.Begun.{IsBegin, TakesWith}
use Rattle.driver_core.specs.Ended.{Tells}
use Rattle.driver_core.specs.Owed.{IsOut}
use Rattle.driver_core.specs.Stands.{Stands}
use Rattle.driver_core.specs.declared.answer.CoreAnswer.{CoreAnswer}
use Rattle.driver_core.specs.declared.answer.CoreAnswer.TheVariants.{Now}
use Rattle.driver_core.specs.declared.answer.CoreBegin.{CoreBegin}
use Rattle.driver_core.specs.declared.answer.CoreBegin.TheVariants.{Job, Later, Refused}
use Rattle.driver_core.specs.declared.driver.Core.{Core}
use Rattle.driver_model.proofs.LastJobs.{last_jobs_run, refused_begins_rest}
use Rattle.driver_model.proofs.Leading.{histories_go_on, histories_lead_to_one, leads_front}
use Rattle.driver_model.proofs.NoteEntries.{all_kept, notes_are_apart}
use Rattle.driver_model.proofs.NoteLists.{get_end, nothing_at, some_is}
use Rattle.driver_model.proofs.NoteMarks.{notes_keep_replies}
use Rattle.driver_model.proofs.OwedRuns.{runs_keep_targets}
use Rattle.driver_model.specs.Answers.{Reply, reply_with}
use Rattle.driver_model.specs.Ends.{Ends, IsReplyOfJob, mark_of}
use Rattle.driver_model.specs.Histories.{IsStateOf}
use Rattle.driver_model.specs.Jobs.{reply_of}
use Rattle.driver_model.specs.Notes.{is_end_of}
use Rattle.driver_model.specs.Owed.{KeepsSurface}
use Rattle.driver_model.specs.Passes.{begins_job, caller_of, is_job}
use Rattle.driver_model.specs.States.{Note, State, counted, empty_state, has_note, is_note_of, without_note}
use Rattle.driver_model.specs.Steps.{Step}
use Rattle.driver_model.specs.declared.calls.Call.{Call}
use Rattle.driver_model.specs.declared.items.Entry.{Entry}
use Rattle.driver_model.specs.declared.items.Item.{Item}
use Rattle.driver_model.specs.declared.items.Item.TheVariants.{Called, Ended}
use Rattle.driver_model.specs.declared.replies.Answer.TheVariants.{Done}
use Rattle.driver_objects.proofs.JobLists.{one_index}
use Rattle.driver_objects.proofs.Lists.{any_at, some_passes}
use Rattle.driver.proofs.Made.{adds, stands_counted}
use Rattle.driver.specs.InHand.{IsBegun, IsNoted, is_begun_by}
use Rattle.driver.specs.Made.{Logs}
use Rattle.driver.specs.Passes.{view}
use Rattle.driver.specs.Standing.{StandsAt}
use Rattle.driver.specs.declared.driver.Pass.{Pass}

-- ---- lists

-- a list whose last place this is, by its last item
pub last_of : {X : Type 0} (xs : List X) (place : ℕ) (x : X) → length xs ≡ place + 1 → slice_get xs place ≡ Some x
    → (front : List X) × (xs ≡ front ++ x ∷ []) × (length front ≡ place)
last_of [] place x count at = nothing_at x at
last_of (y ∷ []) zero x count at = ([], ap (λ z. z ∷ []) (some_is y x at), refl)
last_of (y ∷ z ∷ xs) zero x count at = absurd (omega (arith, count))
last_of (y ∷ xs) (suc place) x count at =
    let r = last_of xs place x (omega (arith, count)) at in
    (y ∷ r.0, ap (λ l. y ∷ l) r.1, ap suc r.2)

no_more : {X : Type 0} (xs : List X) → length xs ≡ 0 → xs ≡ []
no_more [] none = refl
no_more (x ∷ xs) none = absurd (omega (arith, none))

all_at : {X : Type 0} (P : X → Type 0) (xs : List X) (i : ℕ) (x : X) → AllByRecursion P xs → slice_get xs i ≡ Some x → P x
all_at P [] i x all at = nothing_at x at
all_at P (y ∷ xs) zero x all at = subst P (some_is y x at) all.0
all_at P (y ∷ xs) (suc i) x all at = all_at P xs i x all.1 at

-- who has no item among these ends no job there
none_ends : (caller : List ℕ) (place : ℕ) (items : List Item) → items_of caller_of caller items ≡ [] → list_any (is_end_of caller place) items ≡ false
none_ends caller place [] none = refl
none_ends caller place (Called entry ∷ items) none = by_caller (same caller entry.caller) (none_ends caller place items) none where
  by_caller : (b : Bool) → (items_of caller_of caller items ≡ [] → list_any (is_end_of caller place) items ≡ false)
      → (if b then Called entry ∷ items_of caller_of caller items else items_of caller_of caller items) ≡ [] → list_any (is_end_of caller place) items ≡ false
  by_caller true later e = absurd cc
  by_caller false later e = later e
none_ends caller place (Ended mark ∷ items) none = by_caller (same caller mark.caller) refl (none_ends caller place items) none where
  not_ended : same caller mark.caller ≡ false → (place == mark.place && same mark.caller caller) ≡ false
  not_ended other = by_same (same mark.caller caller) refl where
    by_same : (b : Bool) → same mark.caller caller ≡ b → (place == mark.place && b) ≡ false
    by_same true e = absurd (false≢true (sym other ∙ (ap (same caller) (same_is mark.caller caller e) ∙ same_self caller)))
    by_same false e = by_place (place == mark.place) where
      by_place : (c : Bool) → (c && false) ≡ false
      by_place true = refl
      by_place false = refl

  by_caller : (b : Bool) → same caller mark.caller ≡ b → (items_of caller_of caller items ≡ [] → list_any (is_end_of caller place) items ≡ false)
      → (if b then Ended mark ∷ items_of caller_of caller items else items_of caller_of caller items) ≡ [] → ((place == mark.place && same mark.caller caller) || list_any (is_end_of caller place) items) ≡ false
  by_caller true other later e = absurd cc
  by_caller false other later e = λ i. not_ended other i || later e i

both_true : (a b : Bool) → a ≡ true → b ≡ true → (a && b) ≡ true
both_true true b p q = q
both_true false b p q = absurd (false≢true p)

-- ---- the item that began a job

pub begun_item : (caller : List ℕ) (item : Option Item) → is_begun_by caller item ≡ true
    → (entry : Entry) × (item ≡ Some (Called entry)) × (caller ≡ entry.caller) × (begins_job (Called entry) ≡ true)
begun_item caller None begun = absurd (false≢true begun)
begun_item caller (Some (Ended mark)) begun = absurd (false≢true begun)
begun_item caller (Some (Called entry)) begun =
    let parts = and_parts (same caller entry.caller) (begins_job (Called entry)) begun in
    (entry, refl, same_is caller entry.caller parts.0, parts.1)

-- a job's reply is that of a job
pub job_begins : (call : Call) (outcome : Outcome) (caller : List ℕ) → is_job call ≡ true → begins_job (Called (record { caller = caller; call = call; reply = reply_of outcome })) ≡ true
job_begins call outcome.Ok caller job = ap (λ b. if b then true else false) job
job_begins call (outcome.Bitstream slice) caller job = ap (λ b. if b then true else false) job
job_begins call (outcome.Incomplete macroblocks) caller job = ap (λ b. if b then true else false) job

pub begun_by : (caller : List ℕ) (entry : Entry) → entry.caller ≡ caller → begins_job (Called entry) ≡ true → is_begun_by caller (Some (Called entry)) ≡ true
begun_by caller entry its begins = both_true (same caller entry.caller) (begins_job (Called entry)) (ap (same caller) its ∙ same_self caller) begins

-- What a pass knows of the job's beginning that it has just logged.
pub is_begun : (lock : TableId) (held : View Item) (item : Item) (after : Pass) (place : ℕ)
    → Logs lock held item after place → is_begun_by held.number (Some item) ≡ true → IsBegun (view after) place
is_begun lock held item after place logs begun =
    let seen : (view after).seen ≡ held.seen ++ item ∷ [] = ap (λ (v : View Item). v.seen) logs.leaves in
    let number : (view after).number ≡ held.number = ap (λ (v : View Item). v.number) logs.leaves in (
      ap length seen ∙ (length-append held.seen (item ∷ []) ∙ ap (λ n. n + 1) (sym logs.at_place)),
      (λ i. is_begun_by (number i) (slice_get (seen i) (logs.at_place i))) ∙ (ap (is_begun_by held.number) (get_end held.seen item) ∙ begun),
      ap length logs.knows.0.0,
    )

-- what is known of the history with the item is known of what the pass has seen
pub of_seen : (lock : TableId) (held : View Item) (item : Item) (after : Pass) (place : ℕ) (P : List Item → ℕ → Type 0)
    → Logs lock held item after place → P (held.seen ++ item ∷ []) (length held.seen) → P (view after).seen place
of_seen lock held item after place P logs known =
    let seen : (view after).seen ≡ held.seen ++ item ∷ [] = ap (λ (v : View Item). v.seen) logs.leaves in
    subst (λ l. P l place) (sym seen) (subst (P (held.seen ++ item ∷ [])) (sym logs.at_place) known)

-- ---- the note of a job that has just begun

pub noted : (core : Core) (front : List Item) (d : State) (caller : List ℕ) (call : Call) (outcome : Outcome) (number : ℕ) (Owes Is : State → Note → Type 0)
    → IsStateOf front d → (t : TakesWith core d caller call outcome number Owes)
    → ((note : Note) → note.outcome ≡ outcome → Owes t.after note → Is (counted t.after) note)
    → IsNoted (front ++ Called (record { caller = caller; call = call; reply = reply_of outcome }) ∷ []) (length front) number outcome Is
noted core front d caller call outcome number Owes Is leads t owes s index note state at place =
    let item = Called (record { caller = caller; call = call; reply = reply_of outcome }) in
    let goes = histories_go_on front d (counted t.after) item leads (t.after, t.step, refl) in
    let one : s ≡ counted t.after = histories_lead_to_one (front ++ item ∷ []) s (counted t.after) state goes in
    let notes : s.notes ≡ d.notes ++ t.note ∷ [] = ap (λ (u : State). u.notes) one ∙ t.noted in
    let last : slice_get s.notes (length d.notes) ≡ Some t.note = subst (λ l. slice_get l (length d.notes) ≡ Some t.note) (sym notes) (get_end d.notes t.note) in
    let items : d.items ≡ length front = (all_kept front d leads).items in
    let same_place : note.place ≡ t.note.place = place ∙ (sym items ∙ sym t.at_place) in
    let here = one_index (λ (n : Note). n.place) s.notes (notes_are_apart (front ++ item ∷ []) s state).0 index (length d.notes) note t.note at last same_place in
    let is : t.note ≡ note = some_is t.note note (sym last ∙ (ap (slice_get s.notes) (sym here) ∙ at)) in
    subst (λ (n : Note). (n.number ≡ number) × (n.outcome ≡ outcome) × Is s n) is
    (t.numbered, t.comes_to, subst (λ (u : State). Is u t.note) (sym one) (owes t.note t.comes_to t.owes))

-- ---- a job that is to end

-- Where the pass has its turn again, the job runs: its note is there, and its surface is as the beginning left it.
pub record Runs (v : View Item) (place : ℕ) (t : State) : Type 0 where
  pub before : State
  pub leads : IsStateOf v.seen before
  pub index : ℕ
  pub note : Note
  pub there : slice_get before.notes index ≡ Some note
  pub at_place : note.place ≡ place
  pub of_caller : note.caller ≡ v.number
  pub later : ℕ
  pub still : slice_get t.notes later ≡ Some note
  pub keeps : KeepsSurface before t note.target
  pub replies : IsReplyOfJob v.seen place v.number (reply_of note.outcome)

module _ (v w : View Item) (place : ℕ) (begun : IsBegun v place) (grows : IsPrefix v.seen w.seen) (stays : IsSamePass v w) (knows : Knows caller_of w) where
  none_later : items_of caller_of v.number grows.0 ≡ []
  none_later =
      let test : Item → Bool = λ item. same v.number (caller_of item) in
      let parts : items_of caller_of v.number w.seen ≡ items_of caller_of v.number v.seen ++ items_of caller_of v.number grows.0 =
      ap (items_of caller_of v.number) (sym grows.1) ∙ filter-append test v.seen grows.0
      in
      let own : items_of caller_of v.number w.seen ≡ v.own = ap (λ c. items_of caller_of c w.seen) (sym stays.0) ∙ (knows.0.0 ∙ stays.2) in
      let counts = length-append (items_of caller_of v.number v.seen) (items_of caller_of v.number grows.0) in
      let whole : length (items_of caller_of v.number v.seen ++ items_of caller_of v.number grows.0) ≡ length v.own = ap length (sym parts ∙ own) in
      let mine : length (items_of caller_of v.number v.seen) ≡ length v.own = begun.2 in
      no_more (items_of caller_of v.number grows.0) (omega arith)

  pub runs : (t : State) → IsStateOf w.seen t → Runs v place t
  runs t leads =
      let begins = begun_item v.number (slice_get v.seen place) begun.1 in
      let entry = begins.0 in
      let last = last_of v.seen place (Called entry) begun.0 begins.1 in
      let parts = leads_front empty_state t v.seen grows.0 (subst (λ h. IsStateOf h t) (sym grows.1) leads) in
      let s = parts.0 in
      let has : has_note s entry.caller (length last.0) ≡ true =
      last_jobs_run last.0 [] entry s (subst (λ h. IsStateOf h s) last.1 parts.1) begins.3 refl
      in
      let found = some_passes (is_note_of entry.caller (length last.0)) s.notes has in
      let note = found.1 in
      let both = and_parts (note.place == length last.0) (same entry.caller note.caller) found.3 in
      let its_place : note.place ≡ place = eqb-true note.place (length last.0) both.0 ∙ last.2 in
      let its_caller : note.caller ≡ v.number = sym (same_is entry.caller note.caller both.1) ∙ sym begins.2 in
      let unended : list_any (is_end_of note.caller note.place) grows.0 ≡ false =
      none_ends note.caller note.place grows.0 (ap (λ c. items_of caller_of c grows.0) its_caller ∙ none_later)
      in
      let kept = runs_keep_targets s t grows.0 found.0 note parts.2 found.2 unended in
      let reply = all_at (λ n. IsReplyOfJob v.seen n.place n.caller (reply_of n.outcome)) s.notes found.0 note (notes_keep_replies v.seen s parts.1) found.2 in
      record {
        before = s;
        leads = parts.1;
        index = found.0;
        note = note;
        there = found.2;
        at_place = its_place;
        of_caller = its_caller;
        later = kept.0.0;
        still = kept.0.1;
        keeps = kept.1;
        replies = subst (λ p. IsReplyOfJob v.seen p v.number (reply_of note.outcome)) its_place (subst (λ c. IsReplyOfJob v.seen note.place c (reply_of note.outcome)) its_caller reply);
      }

-- the note is that of a job which is out
pub is_out : (v w : View Item) (place number : ℕ) (t : State) → IsStateOf w.seen t → (r : Runs v place t) → r.note.number ≡ number → IsOut t number r.note
is_out v w place number t leads r numbered =
    let apart = notes_are_apart w.seen t leads in
    record { index = r.later; there = r.still; numbered = numbered; places = apart.0; numbers = apart.1 }

-- behind the mark of a job that has its note there
pub ends_at : (core : Core) (v w : View Item) (place : ℕ) (t : State) → IsStateOf w.seen t → (r : Runs v place t)
    → Stands core (without_note t r.note.caller r.note.place) → w.number ≡ v.number
    → StandsAt core (w.seen ++ mark_of w place ∷ [])
ends_at core v w place t leads r stands number =
    let whose : r.note.caller ≡ w.number = r.of_caller ∙ sym number in
    let has : has_note t w.number place ≡ true =
    any_at (is_note_of w.number place) t.notes r.later r.note r.still
    (both_true (r.note.place == place) (same w.number r.note.caller) (eq-eqb r.note.place place r.at_place) (ap (same w.number) whose ∙ same_self w.number))
    in
    let there : Stands core (without_note t w.number place) = subst (λ c. Stands core (without_note t c place)) whose (subst (λ p. Stands core (without_note t r.note.caller p)) r.at_place stands) in
    record {
      state = counted (without_note t w.number place);
      leads = histories_go_on w.seen t (counted (without_note t w.number place)) (mark_of w place) leads (has, refl);
      stands = stands_counted core (without_note t w.number place) there;
    }

-- What the end of a job promises.
pub ends_job : (v w : View Item) (place mark : ℕ) (lock : TableId) (after : Pass) (core : Core) (outcome : Outcome) (answer : CoreAnswer (Unit {0})) (result : Result (Unit {0}) Refusal)
    → IsPrefix v.seen w.seen → IsSamePass v w → StandsAt core (w.seen ++ mark_of w place ∷ []) → Logs lock w (mark_of w place) after mark
    → Tells outcome answer → answer ≡ Now result → IsReplyOfJob v.seen place v.number (reply_of outcome)
    → Ends v place (reply_with (λ nothing. Done) result) mark (view after)
ends_job v w place mark lock after core outcome answer result grows stays stands logs tells is replies =
    let one : mark_of w place ≡ mark_of v place = ap (λ (n : List ℕ). Ended (record { caller = n; place = place })) stays.0 in
    let told : reply_with (λ nothing. Done) result ≡ reply_of outcome = subst (λ a. Tells outcome a) is tells in
    record {
      adds = adds v w (mark_of v place) lock after mark core grows stays refl
          (subst (λ (i : Item). StandsAt core (w.seen ++ i ∷ [])) one stands)
          (subst (λ (i : Item). Logs lock w i after mark) one logs);
      answers = subst (λ r. IsReplyOfJob v.seen place v.number r) (sym told) replies;
    }

-- ---- a begin

-- behind a call that was answered
pub goes_on_at : (core : Core) (front : List Item) (d : State) (caller : List ℕ) (call : Call) (reply : Reply) → IsStateOf front d → Takes core d caller call reply
    → StandsAt core (front ++ Called (record { caller = caller; call = call; reply = reply }) ∷ [])
goes_on_at core front d caller call reply leads takes =
    record {
      state = counted takes.after;
      leads = histories_go_on front d (counted takes.after) (Called (record { caller = caller; call = call; reply = reply })) leads (takes.after, takes.step, refl);
      stands = stands_counted core takes.after takes.stands;
    }

-- one that was refused, so that the state stays, has begun no job
pub no_job : (d : State) (caller : List ℕ) (call : Call) (refusal : Refusal) → Step d caller call (let r : Reply = Err refusal in r) d
    → begins_job (Called (record { caller = caller; call = call; reply = Err refusal })) ≡ false
no_job d caller call refusal step =
    by_test (begins_job (Called (record { caller = caller; call = call; reply = Err refusal }))) (refused_begins_rest d (record { caller = caller; call = call; reply = Err refusal }) [] step refl) where
      by_test : (b : Bool) → (0 + (if b then 1 else 0)) ≡ 0 → b ≡ false
      by_test true e = absurd (omega (arith, e))
      by_test false e = refl

-- where the core has begun it, has refused it, or has put it off
module _ {J : Type 0} (old new : Core) (front : List Item) (caller : List ℕ) (call : Call) (handed : Option (List ℕ)) (Begins : State → J → Type 0) (answer : CoreBegin J)
    (asked : (d : State) → Stands old d → IsBegin new d caller call handed (Begins d) answer) (s : StandsAt old front) where
  pub begin_refused : (submission : Option (List ℕ)) (refusal : Refusal) → answer ≡ Refused submission refusal
      → (submission ≡ handed) × StandsAt new (front ++ Called (record { caller = caller; call = call; reply = Err refusal }) ∷ []) × (begins_job (Called (record { caller = caller; call = call; reply = Err refusal })) ≡ false)
  begin_refused submission refusal is =
      let w = subst (λ a. IsBegin new s.state caller call handed (Begins s.state) a) is (asked s.state s.stands) in
      (w.0, goes_on_at new front s.state caller call (Err refusal) s.leads (record { after = s.state; step = w.1; stands = w.2 }), no_job s.state caller call refusal w.1)

  pub begin_put_off : (submission : Option (List ℕ)) → answer ≡ Later submission → (submission ≡ handed) × StandsAt new front
  begin_put_off submission is =
      let w = subst (λ a. IsBegin new s.state caller call handed (Begins s.state) a) is (asked s.state s.stands) in
      (w.0, record { state = s.state; leads = s.leads; stands = w.2 })

  pub begin_begun : (job : J) → answer ≡ Job job → Begins s.state job
  begin_begun job is = subst (λ a. IsBegin new s.state caller call handed (Begins s.state) a) is (asked s.state s.stands)

-- ---- what an item is that a turn logs

pub if_some : {X : Type 0} (name : Option X) (P Q : X → Type 0) → ((x : X) → P x → Q x) → IfSome name P → IfSome name Q
if_some None P Q more p = p
if_some (Some x) P Q more p = more x p

pub if_both : {X : Type 0} (name : Option X) (P Q : X → Type 0) → IfSome name P → IfSome name Q → IfSome name (λ x. P x × Q x)
if_both None P Q p q = p
if_both (Some x) P Q p q = (p, q)
