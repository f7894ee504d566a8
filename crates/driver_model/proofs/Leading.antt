-- What follows for whole histories.
use Rattle.std.proofs.Common.{◌≡◌, ◌≢◌, inl, inr, ℕ, zero, suc, ◌<◌, ◌==◌, Bool, true, false, not, ◌||◌, List, [], ◌∷◌, ◌++◌, length, map, get_or, slice_get, Contains, Option, Some, None, Err, refl, ap, sym, ◌∙◌, subst, arith, AllPairs, filter_map}
use Rattle.std.proofs.lemmas.List.{append-nil, append_assoc}
use Rattle.std.proofs.Math.ListN.{get_or-append, length-append}
use Rattle.std.proofs.Math.Seq.{get_or-append_seam}
use Rattle.std.proofs.lemmas.Bool.{cases_lt, eq-eqb, eqb-true}
use Rattle.std.specs.List.{cons_option, list_any}
use Rattle.std.specs.Option.{option_map_or, option_to_list}
use Rattle.present_queue.specs.Queue.{Names, Queue, Queued, holds, shows}
use Rattle.vd_status.specs.declared.refusal.Refusal.TheVariants.{OutOfMemory}
use Rattle.driver_model.specs.Answers.{Reply}
use Rattle.driver_model.specs.Histories.{Happens, Leads}
use Rattle.driver_model.specs.Laws.{FrontsAreLegal, HasSizes, HistoriesGoOn, HistoriesHaveSizes, HistoriesLeadToOneState, IdleSurfacesAreNotNamed, NamesAreGiven, NamesAreGivenOnce, RefusalsAreOne, RefusalsLeaveTheState, StepsLeaveOneState}
use Rattle.driver_model.specs.Objects.{Object}
use Rattle.driver_model.specs.Parts.{given_by}
use Rattle.driver_model.specs.Presented.{is_idle_at, is_queued_at, is_visible_at, queues_of}
use Rattle.driver_model.specs.States.{State, counted, empty_state, is_given}
use Rattle.driver_model.specs.Steps.{Step}
use Rattle.driver_model.specs.declared.calls.Call.{Call}
use Rattle.driver_model.specs.declared.items.Item.{Item}
use Rattle.driver_model.specs.declared.items.Item.TheVariants.{Called, Ended}
use Rattle.driver_model.proofs.Changes.{names}
use Rattle.driver_model.proofs.OneStep.{OneStep, does_one, refused_one}
use Rattle.driver_model.proofs.SameReplies.{err_one}
use Rattle.driver_model.proofs.SameStep.{does_two}

-- ---- one step

step_one : (old new : State) (caller : List ℕ) (call : Call) (reply : Reply) → Step old caller call reply new → OneStep old new reply
step_one old new caller call reply (inl lacks) = refused_one old new caller reply OutOfMemory lacks.1
step_one old new caller call reply (inr does) = does_one old new caller reply call does

pub refusals_leave : RefusalsLeaveTheState
refusals_leave old new caller call refusal plain step = (step_one old new caller call (Err refusal) step).refused refusal refl plain

pub steps_leave_one : StepsLeaveOneState
steps_leave_one old new other caller call reply sizes (inl p) (inl q) = p.1.1 ∙ sym q.1.1
steps_leave_one old new other caller call reply sizes (inl p) (inr q) = p.1.1 ∙ sym ((does_one old other caller reply call q).refused OutOfMemory p.1.0 refl)
steps_leave_one old new other caller call reply sizes (inr p) (inl q) = (does_one old new caller reply call p).refused OutOfMemory q.1.0 refl ∙ sym q.1.1
steps_leave_one old new other caller call reply sizes (inr p) (inr q) = (does_two old new other caller reply reply call sizes p q).one_state refl

pub refusals_are_one : RefusalsAreOne
refusals_are_one old new other caller call a b sizes not_a not_b (inl p) q = absurd (not_a (err_one a OutOfMemory p.1.0))
refusals_are_one old new other caller call a b sizes not_a not_b (inr p) (inl q) = absurd (not_b (err_one b OutOfMemory q.1.0))
refusals_are_one old new other caller call a b sizes not_a not_b (inr p) (inr q) = (does_two old new other caller (Err a) (Err b) call sizes p q).one_refusal a b refl refl

-- ---- one item

happens_sizes : (s t : State) (item : Item) → HasSizes s → Happens s item t → HasSizes t
happens_sizes s t (Called entry) sizes h = subst HasSizes (sym h.2) ((step_one s h.0 entry.caller entry.call entry.reply h.1).sizes sizes)
happens_sizes s t (Ended mark) sizes h = subst HasSizes (sym h.1) sizes

happens_one : (s t u : State) (item : Item) → HasSizes s → Happens s item t → Happens s item u → t ≡ u
happens_one s t u (Called entry) sizes p q = p.2 ∙ (ap counted (steps_leave_one s p.0 q.0 entry.caller entry.call entry.reply sizes p.1 q.1) ∙ sym q.2)
happens_one s t u (Ended mark) sizes p q = p.1 ∙ sym q.1

pub happens_names : (s t : State) (item : Item) → Happens s item t → names t.objects ≡ names s.objects ++ option_to_list (given_by item)
happens_names s t (Called entry) h = ap (λ (u : State). names u.objects) h.2 ∙ (step_one s h.0 entry.caller entry.call entry.reply h.1).given
happens_names s t (Ended mark) h = ap (λ (u : State). names u.objects) h.1 ∙ sym (append-nil (names s.objects))

happens_fresh : (s t : State) (item : Item) (name : ℕ) → Happens s item t → given_by item ≡ Some name → is_given s name ≡ false
happens_fresh s t (Called entry) name h some = (step_one s h.0 entry.caller entry.call entry.reply h.1).fresh name some
happens_fresh s t (Ended mark) name h some = absurd (let e : None ≡ Some name = some in cc)

-- ---- a history

leads_sizes : (s t : State) (history : List Item) → HasSizes s → Leads s history t → HasSizes t
unfolding Leads
leads_sizes s t [] sizes leads = subst HasSizes (sym leads) sizes
leads_sizes s t (item ∷ later) sizes leads = leads_sizes leads.0 t later (happens_sizes s leads.0 item sizes leads.1) leads.2

leads_one : (s t u : State) (history : List Item) → HasSizes s → Leads s history t → Leads s history u → t ≡ u
unfolding Leads
leads_one s t u [] sizes p q = p ∙ sym q
leads_one s t u (item ∷ later) sizes p q =
    let same : q.0 ≡ p.0 = happens_one s q.0 p.0 item sizes q.1 p.1 in
    leads_one p.0 t u later (happens_sizes s p.0 item sizes p.1) p.2 (subst (λ (v : State). Leads v later u) same q.2)

pub leads_front : (s t : State) (front rest : List Item) → Leads s (front ++ rest) t → (m : State) × Leads s front m × Leads m rest t
unfolding Leads
leads_front s t [] rest leads = (s, refl, leads)
leads_front s t (item ∷ front) rest leads = let r = leads_front leads.0 t front rest leads.2 in (r.0, (leads.0, leads.1, r.1), r.2)

empty_sizes : HasSizes empty_state
empty_sizes = tt

pub histories_have_sizes : HistoriesHaveSizes
histories_have_sizes history s leads = leads_sizes empty_state s history empty_sizes leads

pub histories_lead_to_one : HistoriesLeadToOneState
histories_lead_to_one history s t p q = leads_one empty_state s t history empty_sizes p q

pub fronts_are_legal : FrontsAreLegal
fronts_are_legal front rest legal = let r = leads_front empty_state legal.0 front rest legal.1 in (r.0, r.1)

leads_more : (s t u : State) (history : List Item) (item : Item) → Leads s history t → Happens t item u → Leads s (history ++ item ∷ []) u
unfolding Leads
leads_more s t u [] item leads h = (u, subst (λ (v : State). Happens v item u) leads h, refl)
leads_more s t u (first ∷ later) item leads h = (leads.0, leads.1, leads_more leads.0 t u later item leads.2 h)

pub histories_go_on : HistoriesGoOn
histories_go_on history s t item leads h = leads_more empty_state s t history item leads h

-- ---- names

pub cons_given : (given : Option ℕ) (before later : List ℕ) → (before ++ option_to_list given) ++ later ≡ before ++ cons_option given later
cons_given None before later = ap (λ l. l ++ later) (append-nil before)
cons_given (Some name) before later = append_assoc before (name ∷ []) later

leads_names : (s t : State) (history : List Item) → Leads s history t → names t.objects ≡ names s.objects ++ filter_map given_by history
unfolding Leads
leads_names s t [] leads = ap (λ (u : State). names u.objects) leads ∙ sym (append-nil (names s.objects))
leads_names s t (item ∷ later) leads =
    leads_names leads.0 t later leads.2
    ∙ (ap (λ l. l ++ filter_map given_by later) (happens_names s leads.0 item leads.1)
    ∙ cons_given (given_by item) (names s.objects) (filter_map given_by later))

pub names_are_given : NamesAreGiven
names_are_given history s leads = leads_names empty_state s history leads

Apart : List ℕ → Type 0
Apart xs = AllPairs (λ a b. a ≢ b) xs

-- one more that differs from all
apart_more : (xs : List ℕ) (y : ℕ) → Apart xs → ((i d : ℕ) → i < length xs → get_or xs i d ≢ y) → Apart (xs ++ y ∷ [])
unfolding Apart
apart_more xs y apart other i j d less within = elim (cases_lt j (length xs)) [
  | inl inside ↦ λ same. apart i j d less inside (sym (get_or-append xs (y ∷ []) d i (omega arith)) ∙ (same ∙ get_or-append xs (y ∷ []) d j inside))
  | inr last ↦ λ same.
      let count = length-append xs (y ∷ []) in
      let end : j ≡ length xs = omega arith in
      other i d (omega arith) (sym (get_or-append xs (y ∷ []) d i (omega arith)) ∙ (same ∙ (ap (λ k. get_or (xs ++ y ∷ []) k d) end ∙ get_or-append_seam xs y [] d)))
]

or_parts : (a b : Bool) → (a || b) ≡ false → (a ≡ false) × (b ≡ false)
or_parts true b e = absurd (let k : true ≡ false = e in cc)
or_parts false b e = (refl, e)

eq_but_not : (a b : ℕ) → a ≡ b → (a == b) ≡ false → ⊥
eq_but_not a b same other = let k : true ≡ false = sym (eq-eqb a b same) ∙ other in absurd cc

-- no object has a name that isn't given
not_given : (objects : List Object) (name i d : ℕ) → list_any (λ object. object.name == name) objects ≡ false → i < length (names objects) → get_or (names objects) i d ≢ name
not_given [] name i d none within same = omega arith
not_given (object ∷ later) name zero d none within same = eq_but_not object.name name same (or_parts (object.name == name) _ none).0
not_given (object ∷ later) name (suc i) d none within same = not_given later name i d (or_parts (object.name == name) _ none).1 (omega arith) same

given_apart : (names_before : List ℕ) (given : Option ℕ) → Apart names_before → ((name : ℕ) → given ≡ Some name → (i d : ℕ) → i < length names_before → get_or names_before i d ≢ name) → Apart (names_before ++ option_to_list given)
unfolding Apart
given_apart xs None apart fresh = subst Apart (sym (append-nil xs)) apart
given_apart xs (Some name) apart fresh = apart_more xs name apart (fresh name refl)

leads_apart : (s t : State) (history : List Item) → Apart (names s.objects) → Leads s history t → Apart (names t.objects)
unfolding Leads
leads_apart s t [] apart leads = subst (λ (u : State). Apart (names u.objects)) (sym leads) apart
leads_apart s t (item ∷ later) apart leads =
    leads_apart leads.0 t later
    (subst Apart (sym (happens_names s leads.0 item leads.1))
    (given_apart (names s.objects) (given_by item) apart (λ name some i d within. not_given s.objects name i d (happens_fresh s leads.0 item name leads.1 some) within)))
    leads.2

none_apart : Apart []
unfolding Apart
none_apart i j d less within = absurd (omega arith)

pub names_are_given_once : NamesAreGivenOnce
unfolding Apart
names_are_given_once history legal =
    subst Apart (names_are_given history legal.0 legal.1) (leads_apart empty_state legal.0 history none_apart legal.1)

-- ---- idle surfaces

none_at : {X : Type 0} (test : X → Bool) (xs : List X) (place : ℕ) (x : X) → list_any test xs ≡ false → slice_get xs place ≡ Some x → test x ≡ false
none_at test [] place x none is = absurd (let e : None ≡ Some x = is in cc)
none_at test (y ∷ xs) zero x none is = subst (λ z. test z ≡ false) (let e : Some y ≡ Some x = is in cc) (or_parts (test y) _ none).0
none_at test (y ∷ xs) (suc place) x none is = none_at test xs place x (or_parts (test y) _ none).1 is

no_entry : (surface : ℕ) (entries : List (Queued ℕ)) (k : ℕ) → list_any (λ entry. entry.surface == surface) entries ≡ false → k < length (map (λ entry. entry.surface) entries)
    → get_or (map (λ entry. entry.surface) entries) k surface ≡ surface → ⊥
no_entry surface [] k none within is = omega arith
no_entry surface (entry ∷ later) zero none within is = eq_but_not entry.surface surface is (or_parts (entry.surface == surface) _ none).0
no_entry surface (entry ∷ later) (suc k) none within is = no_entry surface later k (or_parts (entry.surface == surface) _ none).1 (omega arith) is

not_true : (b : Bool) → not b ≡ true → b ≡ false
not_true true e = absurd (let k : false ≡ true = e in cc)
not_true false e = refl

idle_is_unnamed : (s : State) (surface : ℕ) → is_idle_at s surface ≡ true → (place : ℕ) (queue : Queue ℕ) → slice_get (queues_of s) place ≡ Some queue → Names queue surface → ⊥
idle_is_unnamed s surface idle place queue at_place names_it =
    let parts = or_parts (is_visible_at s surface) (is_queued_at s surface) (not_true _ idle) in
    let not_shown : shows (λ object. object == surface) queue ≡ false = none_at (shows (λ object. object == surface)) (queues_of s) place queue parts.0 at_place in
    let not_held : holds (λ object. object == surface) queue ≡ false = none_at (holds (λ object. object == surface)) (queues_of s) place queue parts.1 at_place in
    elim names_it [
      | inl contains ↦ no_entry surface queue.entries contains.0 not_held contains.1 contains.2
      | inr is ↦
          let here : (surface == surface) ≡ false = subst (λ (o : Option ℕ). option_map_or (λ object. object == surface) o false ≡ false) is not_shown in
          eq_but_not surface surface refl here
    ]

-- some item passes the test, and this is one
some_at : {X : Type 0} (test : X → Bool) (xs : List X) → list_any test xs ≡ true → (place : ℕ) × (x : X) × (slice_get xs place ≡ Some x) × (test x ≡ true)
some_at test [] e = absurd (let k : false ≡ true = e in cc)
some_at {X} test (y ∷ xs) e = by_value (test y) refl e (λ k. some_at test xs k) where
  by_value : (b : Bool) → test y ≡ b → (b || list_any test xs) ≡ true
      → (list_any test xs ≡ true → (place : ℕ) × (x : X) × (slice_get xs place ≡ Some x) × (test x ≡ true))
      → (place : ℕ) × (x : X) × (slice_get (y ∷ xs) place ≡ Some x) × (test x ≡ true)
  by_value true t k later = (zero, y, refl, t)
  by_value false t k later = let r = later k in (suc r.0, r.1, r.2, r.3)

pub has_entry : (surface : ℕ) (entries : List (Queued ℕ)) → list_any (λ entry. entry.surface == surface) entries ≡ true → Contains (map (λ entry. entry.surface) entries) surface
has_entry surface [] e = absurd (let k : false ≡ true = e in cc)
has_entry surface (entry ∷ others) e = by_value (entry.surface == surface) refl e (λ k. has_entry surface others k) where
  by_value : (b : Bool) → (entry.surface == surface) ≡ b → (b || list_any (λ other. other.surface == surface) others) ≡ true
      → (list_any (λ other. other.surface == surface) others ≡ true → Contains (map (λ other. other.surface) others) surface)
      → Contains (map (λ other. other.surface) (entry ∷ others)) surface
  by_value true t k later = (zero, omega arith, eqb-true entry.surface surface t)
  by_value false t k later = let r = later k in (suc r.0, omega (arith, r.1), r.2)

pub is_visible_one : (surface : ℕ) (visible : Option ℕ) → option_map_or (λ object. object == surface) visible false ≡ true → visible ≡ Some surface
is_visible_one surface None e = absurd (let k : false ≡ true = e in cc)
is_visible_one surface (Some other) e = ap (λ object. Some object) (eqb-true other surface e)

unnamed_is_idle : (s : State) (surface : ℕ) → ((place : ℕ) (queue : Queue ℕ) → slice_get (queues_of s) place ≡ Some queue → Names queue surface → ⊥) → is_idle_at s surface ≡ true
unnamed_is_idle s surface none = by_values (is_visible_at s surface) (is_queued_at s surface) refl refl where
  by_values : (a b : Bool) → is_visible_at s surface ≡ a → is_queued_at s surface ≡ b → not (a || b) ≡ true
  by_values true b v q = let r = some_at (shows (λ object. object == surface)) (queues_of s) v in absurd (none r.0 r.1 r.2 (inr (is_visible_one surface r.1.visible r.3)))
  by_values false true v q = let r = some_at (holds (λ object. object == surface)) (queues_of s) q in absurd (none r.0 r.1 r.2 (inl (has_entry surface r.1.entries r.3)))
  by_values false false v q = refl

pub idle_surfaces_are_not_named : IdleSurfacesAreNotNamed
idle_surfaces_are_not_named s surface = (idle_is_unnamed s surface, unnamed_is_idle s surface)
