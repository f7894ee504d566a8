-- A tick shows no more surfaces than queues can live.
use Rattle.std.proofs.Common.{◌≡◌, ℕ, ◌+◌, ◌≤◌, ◌==◌, ◌&&◌, Bool, true, false, cond, List, [], ◌∷◌, ◌++◌, length, map, Option, Some, None, Ok, Err, Result, inl, inr, refl, ap, sym, ◌∙◌, subst, arith}
use Rattle.std.proofs.lemmas.Bool.{false≢true}
use Rattle.std.proofs.lemmas.List.{length-map}
use Rattle.std.proofs.lemmas.List.Sums.{sum_by-cons}
use Rattle.std.specs.List.{count_by, enumerate_from, filter_map, cons_option}
use Rattle.std.specs.Result.{is_ok}
use Rattle.std.specs.Option.{is_some, option_and_then, option_map}
use Rattle.vd_status.specs.declared.refusal.Refusal.{Refusal}
use Rattle.vd_status.specs.declared.refusal.Refusal.TheVariants.{OutOfMemory}
use Rattle.driver_model.specs.Answers.{Goes, Reply, reply_with}
use Rattle.driver_model.specs.Clock.{Due, advance, all_due, due_at, due_in, flip_of, is_tick_held, ticked_at}
use Rattle.driver_model.specs.Creates.{live_queues}
use Rattle.driver_model.specs.Histories.{Happens, IsLegal, IsStateOf, Leads}
use Rattle.driver_model.specs.Objects.{Content, Device, Object, PresentationQueue, as_queue}
use Rattle.driver_model.specs.Passes.{Adds}
use Rattle.driver_model.specs.Refusals.{Looked}
use Rattle.driver_model.specs.States.{Found, State, empty_state}
use Rattle.driver_model.specs.Steps.{Does, Step}
use Rattle.driver_model.specs.declared.calls.Call.TheVariants.{Advance}
use Rattle.driver_model.specs.declared.items.Entry.{Entry}
use Rattle.driver_model.specs.declared.items.Item.{Item}
use Rattle.driver_model.specs.declared.items.Item.TheVariants.{Called}
use Rattle.driver_model.specs.declared.replies.Answer.{Answer}
use Rattle.driver_model.specs.declared.replies.Answer.TheVariants.{Flips}
use Rattle.driver_model.specs.declared.replies.Flipped.{Flipped}
use Rattle.driver_model.proofs.Leading.{leads_front}
use Rattle.device_lock.specs.declared.view.View.{View}
use Rattle.driver.specs.Made.{entry_of}
use Rattle.player_laws.proofs.States.{state_sane}

at_most_one : (o : Option Due) (rest : List Due) → length (cons_option o rest) ≤ 1 + length rest
at_most_one None rest = omega arith
at_most_one (Some due) rest = omega arith

-- what an object adds to the queues that are due, and to those that live
one_due : (time place : ℕ) (live its : Bool) (of : Option PresentationQueue) (rest : List Due)
    → length (cons_option (cond (live && its) (option_and_then (due_in time place) of) None) rest) ≤ cond (live && is_some of) 1 0 + length rest
one_due time place false its of rest = omega arith
one_due time place true false None rest = omega arith
one_due time place true false (Some queue) rest = omega arith
one_due time place true true None rest = omega arith
one_due time place true true (Some queue) rest = at_most_one (due_in time place queue) rest

-- no more queues are due than live
due_count : (on time place : ℕ) (objects : List Object)
    → length (filter_map (due_at on time) (enumerate_from place objects)) ≤ count_by (λ (object : Object). object.is_live && is_some (as_queue object.content)) objects
due_count on time place [] = omega arith
due_count on time place (object ∷ later) =
    let rest = due_count on time (place + 1) later in
    let here = one_due time place object.is_live (object.device == on) (as_queue object.content) (filter_map (due_at on time) (enumerate_from (place + 1) later)) in
    let counted = sum_by-cons (λ (one : Object). cond (one.is_live && is_some (as_queue one.content)) 1 0) object later in
    omega (arith, rest, here, counted)

few_due : (s : State) (on time : ℕ) → length (all_due s on time) ≤ live_queues s
few_due s on time = due_count on time 0 s.objects

-- the flips that a reply tells of
flips_in : Reply → List Flipped
flips_in (Ok (Flips flips)) = flips
flips_in other = []

is_answered : Reply → Bool
is_answered (Ok answer) = true
is_answered (Err refusal) = false

-- a reply with an answer isn't a refusal
not_refused : (reply : Reply) (answer : Answer) (refusal : Refusal) → reply ≡ Ok answer → reply ≡ Err refusal → ⊥
unfolding is_answered
not_refused reply answer refusal ok err = false≢true (sym (ap is_answered err) ∙ ap is_answered ok)

few_shown : (s t : State) (time : ℕ) (reply : Reply) (flips : List Flipped) (looked : Looked (Found Device)) → reply ≡ Ok (Flips flips) → live_queues s ≤ 64
    → Goes s reply t looked (λ on. (is_tick_held s on.place time ≡ false) × (reply ≡ Ok (Flips (map (flip_of s time) (all_due s on.place time)))) × (t ≡ ticked_at s on time)) → length flips ≤ 64
unfolding flips_in
few_shown s t time reply flips (Err refusal) told few goes = absurd (not_refused reply (Flips flips) refusal told goes.0)
few_shown s t time reply flips (Ok on) told few goes =
    let same : flips ≡ map (flip_of s time) (all_due s on.place time) = ap flips_in (sym told ∙ goes.1) in
    let long : length flips ≡ length (all_due s on.place time) = ap length same ∙ length-map (all_due s on.place time) (flip_of s time) in
    omega (arith, long, few_due s on.place time, few)

few_stepped : (s t : State) (caller : List ℕ) (device time : ℕ) (reply : Reply) (flips : List Flipped) → reply ≡ Ok (Flips flips) → live_queues s ≤ 64 → Step s caller (Advance device time) reply t → length flips ≤ 64
few_stepped s t caller device time reply flips told few (inl none) = absurd (not_refused reply (Flips flips) OutOfMemory told none.1.0)
few_stepped s t caller device time reply flips told few (inr does) = few_shown s t time reply flips (advance s device time) told few does

-- a tick that was made shows 64 surfaces at most
pub few_flips : (before : List Item) (entry : Entry) (device time : ℕ) (flips : List Flipped)
    → IsLegal (before ++ Called entry ∷ []) → entry.call ≡ Advance device time → entry.reply ≡ Ok (Flips flips) → length flips ≤ 64
unfolding Leads
few_flips before entry device time flips legal call reply =
    let r = leads_front empty_state legal.0 before (Called entry ∷ []) legal.1 in
    let step : Step r.0 entry.caller entry.call entry.reply r.2.1.0 = r.2.1.1 in
    few_stepped r.0 r.2.1.0 entry.caller device time entry.reply flips reply ((state_sane before r.0 r.1).within.queues)
    (subst (λ asked. Step r.0 entry.caller asked entry.reply r.2.1.0) call step)

-- so where a caller's pass has seen it made
pub few_made : {A : Type 0} (before after : View Item) (place device time : ℕ) (flips : List Flipped) (result : Result A Refusal)
    → Adds before (entry_of before (Advance device time) (reply_with (λ _. Flips flips) result)) place after → is_ok result ≡ true → length flips ≤ 64
few_made before after place device time flips (Err refusal) adds ok = absurd (false≢true ok)
few_made before after place device time flips (Ok done) adds ok =
    few_flips (before.seen ++ adds.between) (record { caller = before.number; call = Advance device time; reply = Ok (Flips flips) }) device time flips (subst IsLegal adds.seen adds.legal) refl refl
