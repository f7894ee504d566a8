-- Each note is that of an entry that began a job which hasn't ended, and each such entry has one.
use Rattle.std.proofs.Common.{◌≡◌, ◌⊎◌, inl, inr, ℕ, zero, suc, ◌+◌, ◌<◌, ◌==◌, Bool, true, false, not, ◌&&◌, ◌||◌, if◌then◌else◌, List, [], ◌∷◌, ◌++◌, filter, length, map, slice_get, Some, refl, ap, sym, ◌∙◌, subst, arith}
use Rattle.std.proofs.lemmas.Bool.{and_parts, eq-eqb, eqb-true, false_from_ne_true, false≢true, ne_eqb, or_left, or_parts, or_right}
use Rattle.std.proofs.lemmas.List.{append_assoc, append-nil, map-append}
use Rattle.std.specs.List.{AllByRecursion, list_any}
use Rattle.decoder_render.specs.declared.outcome.Outcome.{Outcome}
use Rattle.device_lock.specs.Lists.{same}
use Rattle.device_lock.proofs.Callers.{same_is, same_self}
use Rattle.driver_model.specs.Histories.{Happens, IsStateOf, Leads}
use Rattle.driver_model.specs.Jobs.{reply_of}
use Rattle.driver_model.specs.Laws.{NotesAreApart, NotesAreOfEntries, RunningJobsAreNoted}
use Rattle.driver_model.specs.Notes.{IsOfEntry, is_end_of, is_ended, target_name}
use Rattle.driver_model.specs.Objects.{Object}
use Rattle.driver_model.specs.Passes.{begins_job, is_job}
use Rattle.driver_model.specs.States.{State, Note, counted, empty_state, free_number, has_note, is_note_of, without_note}
use Rattle.driver_model.specs.declared.items.Entry.{Entry}
use Rattle.driver_model.specs.declared.items.Item.{Item}
use Rattle.driver_model.specs.declared.items.Item.TheVariants.{Called, Ended}
use Rattle.driver_model.specs.declared.items.Mark.{Mark}
use Rattle.driver_model.proofs.Changes.{names}
use Rattle.driver_model.proofs.Leading.{happens_names}
use Rattle.driver_model.proofs.NoteNumbers.{free_number_is_free, is_taken}
use Rattle.driver_model.proofs.NoteSteps.{NoteStep, begins, step_notes}
use Rattle.driver_model.proofs.NoteLists.{nothing_at, some_is, get_in, get_end, get_or_end, get_below, length_more, any_more, all_more, all_so, all_filter, all_any, or_true_parts, not_true, Differ, differ_more, differ_filter, pairs_differ}

-- ---- what holds at each moment

pub record AreKept (past : List Item) (s : State) : Type 0 where
  pub items : s.items ≡ length past
  pub entries : AllByRecursion (IsOfEntry past s) s.notes
  pub noted : (place : ℕ) (entry : Entry) → slice_get past place ≡ Some (Called entry) → begins_job (Called entry) ≡ true → is_ended past entry.caller place ≡ false → has_note s entry.caller place ≡ true
  pub marks : (caller : List ℕ) (place : ℕ) → is_ended past caller place ≡ true → place < length past
  pub places : Differ (map (λ note. note.place) s.notes)
  pub numbers : Differ (map (λ note. note.number) s.notes)

abbrev Still : State → State → Type 0
Still s t = (place : ℕ) (a : Object) → slice_get s.objects place ≡ Some a → (b : Object) × (slice_get t.objects place ≡ Some b) × (b.name ≡ a.name)

name_there : (objects : List Object) (k : ℕ) (a : Object) → slice_get objects k ≡ Some a → slice_get (names objects) k ≡ Some a.name
name_there [] k a e = nothing_at a e
name_there (object ∷ objects) zero a e = ap (λ (o : Object). Some o.name) (some_is object a e)
name_there (object ∷ objects) (suc k) a e = name_there objects k a e

object_there : (objects : List Object) (k name : ℕ) → slice_get (names objects) k ≡ Some name → (b : Object) × (slice_get objects k ≡ Some b) × (b.name ≡ name)
object_there [] k name e = nothing_at name e
object_there (object ∷ objects) zero name e = (object, refl, some_is object.name name e)
object_there (object ∷ objects) (suc k) name e = object_there objects k name e

still_by : (s t : State) (more : List ℕ) → names t.objects ≡ names s.objects ++ more → Still s t
still_by s t more is place a e =
    object_there t.objects place a.name (ap (λ l. slice_get l place) is ∙ get_in (names s.objects) more place a.name (name_there s.objects place a e))

module _ (past : List Item) (s t : State) (item : Item) (still : Still s t) where
  -- a note that stays
  grown : (note : Note) → is_end_of note.caller note.place item ≡ false → IsOfEntry past s note → IsOfEntry (past ++ item ∷ []) t note
  grown note runs is =
      let b = still note.target is.target is.stands in
      record {
        entry = is.entry;
        at_place = get_in past (item ∷ []) note.place (Called is.entry) is.at_place;
        caller = is.caller;
        job = is.job;
        reply = is.reply;
        target = b.0;
        stands = b.1;
        named = is.named ∙ ap (λ n. Some n) (sym b.2);
        runs = any_more (is_end_of note.caller note.place) past item ∙ (λ i. is.runs i || runs i);
      }

-- ---- a call

begun_places : (past : List Item) (s : State) → AllByRecursion (IsOfEntry past s) s.notes → is_taken (length past) (map (λ note. note.place) s.notes) ≡ false
begun_places past s all = from_notes s.notes all where
  from_notes : (notes : List Note) → AllByRecursion (IsOfEntry past s) notes → is_taken (length past) (map (λ note. note.place) notes) ≡ false
  from_notes [] all = refl
  from_notes (note ∷ notes) all =
      let below = get_below past note.place (Called all.0.entry) all.0.at_place in
      let here : (note.place == length past) ≡ false = ne_eqb note.place (length past) (λ same. omega arith) in
      λ i. here i || from_notes notes all.1 i

module _ (past : List Item) (s t : State) (entry : Entry) (kept : AreKept past s) (still : Still s t) where
  abbrev then_past : List Item
  then_past = past ++ Called entry ∷ []

  one_longer : length then_past ≡ length past + 1
  one_longer = length_more past (Called entry)

  call_marks : (caller : List ℕ) (place : ℕ) → is_ended then_past caller place ≡ true → place < length then_past
  call_marks caller place e = elim (or_true_parts (is_ended past caller place) false (sym (any_more (is_end_of caller place) past (Called entry)) ∙ e)) [
    | inl before ↦ (let below = kept.marks caller place before in omega (arith, one_longer))
    | inr now ↦ absurd (false≢true now)
  ]

  -- an earlier entry is noted as before
  call_before : (place : ℕ) (other : Entry) → slice_get past place ≡ Some (Called other) → begins_job (Called other) ≡ true → is_ended then_past other.caller place ≡ false → has_note s other.caller place ≡ true
  call_before place other e job runs =
      kept.noted place other e job (or_parts (is_ended past other.caller place) false (sym (any_more (is_end_of other.caller place) past (Called entry)) ∙ runs)).0

  kept_left : begins entry.call entry.reply ≡ false → t.notes ≡ s.notes → t.items ≡ s.items + 1 → AreKept then_past t
  kept_left none notes items = record {
    items = items ∙ (ap (λ n. n + 1) kept.items ∙ sym one_longer);
    entries = subst (AllByRecursion (IsOfEntry then_past t)) (sym notes) (all_so (IsOfEntry past s) (IsOfEntry then_past t) (λ note is. grown past s t (Called entry) still note refl is) s.notes kept.entries);
    noted = λ place other e job runs. elim (get_or_end past (Called entry) place (Called other) e) [
      | inl before ↦ ap (list_any (is_note_of other.caller place)) notes ∙ call_before place other before job runs
      | inr last ↦ absurd (false≢true (sym none ∙ (ap begins_job last.1 ∙ job)))
    ];
    marks = call_marks;
    places = subst (λ l. Differ (map (λ (note : Note). note.place) l)) (sym notes) kept.places;
    numbers = subst (λ l. Differ (map (λ (note : Note). note.number) l)) (sym notes) kept.numbers;
  }

  abbrev note_of : ℕ → Outcome → Note
  note_of target o = record { place = s.items; caller = entry.caller; target = target; outcome = o; number = free_number (map (λ note. note.number) s.notes) }

  new_note : (target : ℕ) (o : Outcome) (object : Object) → slice_get s.objects target ≡ Some object → target_name entry.call ≡ Some object.name → is_job entry.call ≡ true → entry.reply ≡ reply_of o
      → IsOfEntry then_past t (note_of target o)
  new_note target o object stands has_name job tells =
      let b = still target object stands in
      record {
        entry = entry;
        at_place = ap (slice_get then_past) kept.items ∙ get_end past (Called entry);
        caller = refl;
        job = job;
        reply = tells;
        target = b.0;
        stands = b.1;
        named = has_name ∙ ap (λ n. Some n) (sym b.2);
        runs =
            any_more (is_end_of entry.caller s.items) past (Called entry)
            ∙ (λ i. false_from_ne_true (is_ended past entry.caller s.items) (λ ended. let below = kept.marks entry.caller s.items ended in let at : s.items ≡ length past = kept.items in absurd (omega arith)) i || false);
      }

  kept_begun : (target : ℕ) (o : Outcome) → IsOfEntry then_past t (note_of target o) → t.notes ≡ s.notes ++ note_of target o ∷ [] → t.items ≡ s.items + 1 → AreKept then_past t
  kept_begun target o is notes items = record {
    items = items ∙ (ap (λ n. n + 1) kept.items ∙ sym one_longer);
    entries =
        subst (AllByRecursion (IsOfEntry then_past t)) (sym notes)
        (all_more (IsOfEntry then_past t) s.notes (note_of target o) (all_so (IsOfEntry past s) (IsOfEntry then_past t) (λ note was. grown past s t (Called entry) still note refl was) s.notes kept.entries) is);
    noted = λ place other e job runs.
        ap (list_any (is_note_of other.caller place)) notes
        ∙ (any_more (is_note_of other.caller place) s.notes (note_of target o)
        ∙ elim (get_or_end past (Called entry) place (Called other) e) [
          | inl before ↦ or_left (has_note s other.caller place) _ (call_before place other before job runs)
          | inr last ↦ or_right (has_note s other.caller place) _ (is_its place other last.0 (called_is entry other last.1))
        ]);
    marks = call_marks;
    places =
        subst Differ (sym (ap (map (λ (note : Note). note.place)) notes ∙ map-append (λ (note : Note). note.place) s.notes (note_of target o ∷ [])))
        (differ_more (map (λ (note : Note). note.place) s.notes) s.items kept.places (ap (λ n. is_taken n (map (λ (note : Note). note.place) s.notes)) kept.items ∙ begun_places past s kept.entries));
    numbers =
        subst Differ (sym (ap (map (λ (note : Note). note.number)) notes ∙ map-append (λ (note : Note). note.number) s.notes (note_of target o ∷ [])))
        (differ_more (map (λ (note : Note). note.number) s.notes) _ kept.numbers (free_number_is_free (map (λ (note : Note). note.number) s.notes)));
  }
    where
      called_is : (a b : Entry) → Called a ≡ Called b → a ≡ b
      called_is a b e = cc

      is_its : (place : ℕ) (other : Entry) → place ≡ length past → entry ≡ other → is_note_of other.caller place (note_of target o) ≡ true
      is_its place other at same_entry =
          let here : (s.items == place) ≡ true = eq-eqb s.items place (kept.items ∙ sym at) in
          let its : same other.caller entry.caller ≡ true = subst (λ (x : Entry). same x.caller entry.caller ≡ true) same_entry (same_self entry.caller) in
          λ i. here i && its i

  kept_called : (after : State) → t ≡ counted after → NoteStep s after entry.caller entry.call entry.reply → AreKept then_past t
  kept_called after e (inl plain) = kept_left plain.0 (ap (λ (u : State). u.notes) e ∙ plain.1.0) (ap (λ (u : State). u.items) e ∙ ap (λ n. n + 1) plain.1.1)
  kept_called after e (inr begun) =
      kept_begun begun.target begun.outcome (new_note begun.target begun.outcome begun.object begun.stands begun.has_name begun.job begun.tells)
      (ap (λ (u : State). u.notes) e ∙ begun.notes) (ap (λ (u : State). u.items) e ∙ ap (λ n. n + 1) begun.items)

-- ---- the end of a job

-- the note of the job that ends
pub its_note : (past : List Item) (s : State) (mark : Mark) → AreKept past s → has_note s mark.caller mark.place ≡ true → (note : Note) × IsOfEntry past s note × (note.place ≡ mark.place) × (note.caller ≡ mark.caller)
its_note past s mark kept has =
    let one = all_any (IsOfEntry past s) (is_note_of mark.caller mark.place) s.notes kept.entries has in
    let parts = and_parts (one.0.place == mark.place) (same mark.caller one.0.caller) one.2 in
    (one.0, one.1, eqb-true one.0.place mark.place parts.0, sym (same_is mark.caller one.0.caller parts.1))

module _ (past : List Item) (s t : State) (mark : Mark) (kept : AreKept past s) (still : Still s t) where
  abbrev ended_past : List Item
  ended_past = past ++ Ended mark ∷ []

  end_marks : has_note s mark.caller mark.place ≡ true → (caller : List ℕ) (place : ℕ) → is_ended ended_past caller place ≡ true → place < length past + 1
  end_marks has caller place e = elim (or_true_parts (is_ended past caller place) _ (sym (any_more (is_end_of caller place) past (Ended mark)) ∙ e)) [
    | inl before ↦ (let below = kept.marks caller place before in omega arith)
    | inr now ↦
        let its = its_note past s mark kept has in
        let below = get_below past its.0.place (Called its.1.entry) its.1.at_place in
        let at : place ≡ mark.place = eqb-true place mark.place (and_parts (place == mark.place) (same mark.caller caller) now).0 in
        let there : its.0.place ≡ mark.place = its.2 in
        omega arith
  ]

  -- another job's note stays
  other_note : (caller : List ℕ) (place : ℕ) → is_end_of caller place (Ended mark) ≡ false → (notes : List Note) → list_any (is_note_of caller place) notes ≡ true
      → list_any (is_note_of caller place) (filter (λ note. not (is_note_of mark.caller mark.place note)) notes) ≡ true
  other_note caller place other [] has = has
  other_note caller place other (note ∷ notes) has =
      by_test (is_note_of mark.caller mark.place note) refl (or_true_parts (is_note_of caller place note) (list_any (is_note_of caller place) notes) has) (other_note caller place other notes)
    where
      not_both : is_note_of mark.caller mark.place note ≡ true → is_note_of caller place note ≡ true → ⊥
      not_both ends is =
          let parts = and_parts (note.place == place) (same caller note.caller) is in
          let at : note.place ≡ place = eqb-true note.place place parts.0 in
          let whose : caller ≡ note.caller = same_is caller note.caller parts.1 in
          let back : place ≡ note.place = sym at in
          let now : is_end_of caller place (Ended mark) ≡ true = (λ i. (back i == mark.place) && same mark.caller (whose i)) ∙ ends in
          false≢true (sym other ∙ now)

      by_test : (b : Bool) → is_note_of mark.caller mark.place note ≡ b → (is_note_of caller place note ≡ true) ⊎ (list_any (is_note_of caller place) notes ≡ true)
          → (list_any (is_note_of caller place) notes ≡ true → list_any (is_note_of caller place) (filter (λ n. not (is_note_of mark.caller mark.place n)) notes) ≡ true)
          → list_any (is_note_of caller place) (if not b then note ∷ filter (λ n. not (is_note_of mark.caller mark.place n)) notes else filter (λ n. not (is_note_of mark.caller mark.place n)) notes) ≡ true
      by_test true e (inl here) rest = absurd (not_both e here)
      by_test true e (inr later) rest = rest later
      by_test false e (inl here) rest = or_left (is_note_of caller place note) _ here
      by_test false e (inr later) rest = or_right (is_note_of caller place note) _ (rest later)

  kept_ended : has_note s mark.caller mark.place ≡ true → t ≡ counted (without_note s mark.caller mark.place) → AreKept ended_past t
  kept_ended has e =
      let test : Note → Bool = λ note. not (is_note_of mark.caller mark.place note) in
      let notes : t.notes ≡ filter test s.notes = ap (λ (u : State). u.notes) e in
      let longer : length ended_past ≡ length past + 1 = length_more past (Ended mark) in
      record {
        items = ap (λ (u : State). u.items) e ∙ (ap (λ n. n + 1) kept.items ∙ sym longer);
        entries =
            subst (AllByRecursion (IsOfEntry ended_past t)) (sym notes)
            (all_filter (IsOfEntry past s) (IsOfEntry ended_past t) test (λ note stays is. grown past s t (Ended mark) still note (not_true (is_note_of mark.caller mark.place note) stays) is) s.notes kept.entries);
        noted = λ place other at job runs. elim (get_or_end past (Ended mark) place (Called other) at) [
          | inl before ↦
              let parts = or_parts (is_ended past other.caller place) _ (sym (any_more (is_end_of other.caller place) past (Ended mark)) ∙ runs) in
              ap (list_any (is_note_of other.caller place)) notes ∙ other_note other.caller place parts.1 s.notes (kept.noted place other before job parts.0)
          | inr last ↦ absurd (ended_not_called other last.1)
        ];
        marks = λ caller place ended. (let below = end_marks has caller place ended in omega (arith, longer));
        places = subst (λ l. Differ (map (λ (note : Note). note.place) l)) (sym notes) (differ_filter (λ note. note.place) test s.notes kept.places);
        numbers = subst (λ l. Differ (map (λ (note : Note). note.number) l)) (sym notes) (differ_filter (λ note. note.number) test s.notes kept.numbers);
      }
    where
      ended_not_called : (other : Entry) → Ended mark ≡ Called other → ⊥
      ended_not_called other k = cc

-- ---- a history

pub happens_kept : (past : List Item) (s t : State) (item : Item) → AreKept past s → Happens s item t → AreKept (past ++ item ∷ []) t
happens_kept past s t (Called entry) kept h =
    kept_called past s t entry kept (still_by s t _ (happens_names s t (Called entry) h)) h.0 h.2 (step_notes s h.0 entry.caller entry.reply entry.call h.1)
happens_kept past s t (Ended mark) kept h = kept_ended past s t mark kept (still_by s t _ (happens_names s t (Ended mark) h)) h.0 h.1

leads_kept : (past : List Item) (s t : State) (history : List Item) → AreKept past s → Leads s history t → AreKept (past ++ history) t
unfolding Leads
leads_kept past s t [] kept leads = subst (λ l. AreKept l t) (sym (append-nil past)) (subst (AreKept past) (sym leads) kept)
leads_kept past s t (item ∷ later) kept leads =
    subst (λ l. AreKept l t) (append_assoc past (item ∷ []) later) (leads_kept (past ++ item ∷ []) leads.0 t later (happens_kept past s leads.0 item kept leads.1) leads.2)

pub nothing_kept : AreKept [] empty_state
nothing_kept = record {
  items = refl;
  entries = tt;
  noted = λ place other at job runs. nothing_at (Called other) at;
  marks = λ caller place ended. absurd (false≢true ended);
  places = tt;
  numbers = tt;
}

pub all_kept : (history : List Item) (s : State) → IsStateOf history s → AreKept history s
all_kept history s leads = leads_kept [] empty_state s history nothing_kept leads

pub notes_are_of_entries : NotesAreOfEntries
notes_are_of_entries history s leads = (all_kept history s leads).entries

pub running_jobs_are_noted : RunningJobsAreNoted
running_jobs_are_noted history s place entry leads at job runs = (all_kept history s leads).noted place entry at job runs

pub notes_are_apart : NotesAreApart
notes_are_apart history s leads =
    let kept = all_kept history s leads in
    (pairs_differ (map (λ note. note.place) s.notes) kept.places, pairs_differ (map (λ note. note.number) s.notes) kept.numbers)
