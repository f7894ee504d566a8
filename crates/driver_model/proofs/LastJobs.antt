-- The last job of a caller, and items at rest.
use Rattle.std.proofs.Common.{◌≡◌, ℕ, ◌+◌, ◌==◌, Bool, true, false, ◌&&◌, ◌||◌, if◌then◌else◌, List, [], ◌∷◌, ◌++◌, length, slice_get, Some, refl, ap, sym, ◌∙◌, subst, arith, inl, inr, length-append}
use Rattle.std.proofs.lemmas.Bool.{false≢true, false_from_ne_true}
use Rattle.std.proofs.lemmas.List.{append_assoc}
use Rattle.std.proofs.lemmas.List.Elements.{filter-append}
use Rattle.std.proofs.lemmas.List.Sums.{fold-append}
use Rattle.std.specs.List.{count_by, list_any}
use Rattle.device_lock.specs.Lists.{same}
use Rattle.device_lock.specs.Numbers.{items_of}
use Rattle.device_lock.proofs.Callers.{same_is, same_self}
use Rattle.driver_model.specs.Histories.{IsStateOf}
use Rattle.driver_model.specs.Laws.{EndedJobsRest, JobsAreOpen, LastJobsMayEnd, LastJobsRun, OtherCallsRest, RefusedBeginsRest}
use Rattle.driver_model.specs.Notes.{is_end_of, is_ended}
use Rattle.driver_model.specs.Passes.{AreAtRest, begins_job, caller_of, ends_job, is_of_job}
use Rattle.driver_model.specs.States.{State, Note, counted, empty_state, has_note, without_note}
use Rattle.driver_model.specs.declared.items.Entry.{Entry}
use Rattle.driver_model.specs.declared.items.Item.{Item}
use Rattle.driver_model.specs.declared.items.Item.TheVariants.{Called, Ended}
use Rattle.driver_model.proofs.Leading.{histories_go_on, leads_front}
use Rattle.driver_model.proofs.NoteEntries.{all_kept}
use Rattle.driver_model.proofs.NoteLists.{get_in, get_end}
use Rattle.driver_model.proofs.NoteSteps.{step_notes}

-- ---- the last job

mine : Item → List ℕ → Bool
mine item caller = same caller (caller_of item)

-- who has no item among these ends no job there
none_ends : (caller : List ℕ) (place : ℕ) (items : List Item) → items_of caller_of caller items ≡ [] → list_any (is_end_of caller place) items ≡ false
none_ends caller place [] none = refl
none_ends caller place (Called entry ∷ items) none = by_caller (same caller entry.caller) (none_ends caller place items) none where
  by_caller : (b : Bool) → (items_of caller_of caller items ≡ [] → list_any (is_end_of caller place) items ≡ false)
      → (if b then Called entry ∷ items_of caller_of caller items else items_of caller_of caller items) ≡ [] → list_any (is_end_of caller place) items ≡ false
  by_caller true later e = absurd cc
  by_caller false later e = later e
none_ends caller place (Ended mark ∷ items) none = by_caller (same caller mark.caller) refl (none_ends caller place items) none where
  not_ended : same caller mark.caller ≡ false → (place == mark.place && same mark.caller caller) ≡ false
  not_ended other = by_same (same mark.caller caller) refl where
    by_same : (b : Bool) → same mark.caller caller ≡ b → (place == mark.place && b) ≡ false
    by_same true e = absurd (false≢true (sym other ∙ (ap (same caller) (same_is mark.caller caller e) ∙ same_self caller)))
    by_same false e = by_place (place == mark.place) where
      by_place : (c : Bool) → (c && false) ≡ false
      by_place true = refl
      by_place false = refl

  by_caller : (b : Bool) → same caller mark.caller ≡ b → (items_of caller_of caller items ≡ [] → list_any (is_end_of caller place) items ≡ false)
      → (if b then Ended mark ∷ items_of caller_of caller items else items_of caller_of caller items) ≡ [] → ((place == mark.place && same mark.caller caller) || list_any (is_end_of caller place) items) ≡ false
  by_caller true other later e = absurd cc
  by_caller false other later e = λ i. not_ended other i || later e i

nothing_more : {A : Type 0} (xs ys : List A) → xs ++ ys ≡ xs → ys ≡ []
nothing_more xs [] e = refl
nothing_more xs (y ∷ ys) e = absurd (let n = length-append xs (y ∷ ys) in let m = ap length e in omega arith)

any_both : {A : Type 0} (test : A → Bool) (xs ys : List A) → list_any test xs ≡ false → list_any test ys ≡ false → list_any test (xs ++ ys) ≡ false
any_both test [] ys p q = q
any_both test (x ∷ xs) ys p q = by_test (test x) (λ e. any_both test xs ys e q) p where
  by_test : (b : Bool) → (list_any test xs ≡ false → list_any test (xs ++ ys) ≡ false) → (b || list_any test xs) ≡ false → (b || list_any test (xs ++ ys)) ≡ false
  by_test true later e = absurd (false≢true (sym e))
  by_test false later e = later e

module _ (front later : List Item) (entry : Entry)
    (alone : items_of caller_of entry.caller (front ++ Called entry ∷ later) ≡ items_of caller_of entry.caller (front ++ Called entry ∷ [])) where
  abbrev until : List Item
  until = front ++ Called entry ∷ []

  parts : until ++ later ≡ front ++ Called entry ∷ later
  parts = append_assoc front (Called entry ∷ []) later

  none_later : items_of caller_of entry.caller later ≡ []
  none_later =
      let test : Item → Bool = λ item. same entry.caller (caller_of item) in
      nothing_more (items_of caller_of entry.caller until) (items_of caller_of entry.caller later)
      (sym (filter-append test until later) ∙ (ap (items_of caller_of entry.caller) parts ∙ alone))

  runs : (s : State) → IsStateOf (front ++ Called entry ∷ later) s → is_ended (front ++ Called entry ∷ later) entry.caller (length front) ≡ false
  runs s leads =
      let before = leads_front empty_state s front (Called entry ∷ later) leads in
      let kept = all_kept front before.0 before.1 in
      let early : is_ended front entry.caller (length front) ≡ false = false_from_ne_true (is_ended front entry.caller (length front)) (λ e. let below = kept.marks entry.caller (length front) e in omega arith) in
      any_both (is_end_of entry.caller (length front)) front (Called entry ∷ later) early (none_ends entry.caller (length front) later none_later)

  noted : (s : State) → IsStateOf (front ++ Called entry ∷ later) s → begins_job (Called entry) ≡ true → has_note s entry.caller (length front) ≡ true
  noted s leads begun =
      (all_kept (front ++ Called entry ∷ later) s leads).noted (length front) entry
      (subst (λ l. slice_get l (length front) ≡ Some (Called entry)) parts (get_in until later (length front) (Called entry) (get_end front (Called entry)))) begun (runs s leads)

pub last_jobs_run : LastJobsRun
last_jobs_run front later entry s leads begun alone = noted front later entry alone s leads begun

pub last_jobs_may_end : LastJobsMayEnd
last_jobs_may_end front later entry legal begun alone =
    let s = legal.0 in
    let after : State = counted (without_note s entry.caller (length front)) in
    (after, histories_go_on (front ++ Called entry ∷ later) s after (Ended (record { caller = entry.caller; place = length front })) legal.1 (noted front later entry alone s legal.1 begun, refl))

-- ---- items at rest

count_more : {A : Type 0} (test : A → Bool) (xs : List A) (x : A) → count_by test (xs ++ x ∷ []) ≡ count_by test xs + (if test x then 1 else 0)
count_more {A = A} test xs x = fold-append (λ (a : ℕ) (one : A). a + (if test one then 1 else 0)) 0 xs (x ∷ [])

-- one item that neither begins nor ends a job
still : (own : List Item) (item : Item) → begins_job item ≡ false → ends_job item ≡ false → AreAtRest own → AreAtRest (own ++ item ∷ [])
still own item none none' rest =
    count_more begins_job own item ∙ ((λ i. rest i + (if none i then 1 else 0)) ∙ sym (count_more ends_job own item ∙ λ i. count_by ends_job own + (if none' i then 1 else 0)))

grows : (notes : List Note) (note : Note) → notes ++ note ∷ [] ≡ notes → ⊥
grows notes note e = let n = length-append notes (note ∷ []) in let m = ap length e in omega arith

pub refused_begins_rest : RefusedBeginsRest
refused_begins_rest s entry own step rest = elim (step_notes s s entry.caller entry.reply entry.call step) [
  | inl left ↦ still own (Called entry) left.0 refl rest
  | inr begun ↦ absurd (grows s.notes _ (sym begun.notes))
]

pub other_calls_rest : OtherCallsRest
other_calls_rest entry own other rest = still own (Called entry) (ap (λ b. if b then is_of_job entry.reply else false) other) refl rest

pub jobs_are_open : JobsAreOpen
jobs_are_open entry own begun rest =
    let more = count_more begins_job own (Called entry) ∙ λ i. count_by begins_job own + (if begun i then 1 else 0) in
    let same_ends = count_more ends_job own (Called entry) in omega (arith, rest)

pub ended_jobs_rest : EndedJobsRest
ended_jobs_rest mark own one_open = let more = count_more ends_job own (Ended mark) in let same_begins = count_more begins_job own (Ended mark) in omega (arith, one_open)
