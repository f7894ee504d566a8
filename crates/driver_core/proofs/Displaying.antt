-- A surface is displayed on a queue.
use Rattle.std.proofs.Common.{◌≡◌, ◌⊎◌, inl, inr, ℕ, ◌==◌, ◌≤◌, Bool, true, false, true≢false, is_ok, if◌then◌else◌, nat_lt, List, [], ◌∷◌, Contains, length, map, set, slice_get, Some, Result, Ok, Err, IsErr, IsErrAnd, OnOk, OnErr, refl, sym, ap, ◌∙◌, subst, arith}
use mathlib.Core.Bool.{false≢true}
use Rattle.std.proofs.lemmas.Bool.Decides.{nat_tests}
use Rattle.std.proofs.lemmas.List.{length-append, length-map, map_push}
use Rattle.std.proofs.lemmas.List.Elements.{Contains-append_left}
use Rattle.present_queue.specs.Queue.{Names, Queue, Queued, answer_to_display, displayed, most_entries}
use Rattle.present_queue.specs.Queues.{Surface, queue_at}
use Rattle.present_queue.proofs.NameLemmas.{Names-displayed}
use Rattle.vd_status.specs.declared.refusal.Refusal.{Refusal}
use Rattle.vd_status.specs.declared.refusal.Refusal.TheVariants.{EarlierThanPromise, QueueFull}
use Rattle.driver_model.specs.Answers.{reply_with}
use Rattle.driver_model.specs.Objects as model
use Rattle.driver_model.specs.Queues.{QueueAndSurface, presented, queue as queue_named, queue_display}
use Rattle.driver_model.specs.Refusals.{Looked, ◌>>=◌, ◌>>◌, further_handle}
use Rattle.driver_model.specs.States.{Found, State, named, with_content}
use Rattle.driver_model.specs.Steps.{Does}
use Rattle.driver_model.specs.declared.calls.Call.{Call}
use Rattle.driver_model.specs.declared.calls.Call.TheVariants as call
use Rattle.driver_model.specs.declared.numbers.TheConstants as number
use Rattle.driver_model.specs.declared.replies.Answer.TheVariants.{Done}
use Rattle.driver_model.proofs.Named.{found_of}
use Rattle.driver_objects.specs.Kept.{kept_of, made_of}
use Rattle.driver_objects.specs.Kinds.{holder_of, number_of}
use Rattle.driver_objects.specs.Listed.{IsOnly, called}
use Rattle.driver_objects.specs.declared.content.Content.TheVariants as content
use Rattle.driver_objects.specs.declared.content.PresentationQueue.{PresentationQueue}
use Rattle.driver_objects.specs.declared.object.Object.{Object}
use Rattle.driver_objects.proofs.Lists.{any_at, one_kept}
use Rattle.driver_core.specs.Answered.{Takes}
use Rattle.driver_core.specs.Sound.{IsSound, is_surface}
use Rattle.driver_core.specs.Stands.{IsContent, Stands, by_place, is_owed}
use Rattle.driver_core.specs.declared.driver.Core.{Core}
use Rattle.driver_core.proofs.Covering.{stands_same}
use Rattle.driver_core.proofs.QueueSound.{queue_sound}
use Rattle.driver_core.proofs.QueueStands.{IsLiveSurface}
use Rattle.driver_core.proofs.QueueWrites.{queue_written}
use Rattle.driver_core.proofs.Steps.{finding, refusing}

-- ---- surfaces by their places alone

answer_by_place : (queue : Queue Surface) (earliest : ℕ) → answer_to_display (by_place queue) earliest ≡ answer_to_display queue earliest
answer_by_place queue earliest =
    ap (λ (n : ℕ). if n == most_entries then Err QueueFull else if nat_lt earliest queue.promise then Err (EarlierThanPromise queue.promise) else Ok tt)
    (length-map queue.entries (λ (entry : Queued Surface). record { surface = entry.surface.object; earliest = entry.earliest }))

displayed_by_place : (queue : Queue Surface) (entry : Queued Surface) → displayed (by_place queue) (record { surface = entry.surface.object; earliest = entry.earliest }) ≡ by_place (displayed queue entry)
displayed_by_place queue entry =
    ap (λ entries. record (by_place queue) { entries = entries })
    (sym (map_push (λ (e : Queued Surface). record { surface = e.surface.object; earliest = e.earliest }) queue.entries entry))

names_displayed : (queue : Queue Surface) (entry : Queued Surface) (surface : Surface) → Names queue surface → Names (displayed queue entry) surface
names_displayed queue entry surface (inl there) =
    inl (subst (λ surfaces. Contains surfaces surface) (sym (map_push (λ (e : Queued Surface). e.surface) queue.entries entry)) (Contains-append_left (map (λ (e : Queued Surface). e.surface) queue.entries) (entry.surface ∷ []) surface there))
names_displayed queue entry surface (inr shown) = inr shown

-- ---- looks

module _ (d : State) (queue surface : ℕ) (on : Found model.PresentationQueue) (looks : queue_named d queue ≡ Ok on) where
  then_surface : (of : Looked (Found model.OutputSurface)) → further_handle 1 on.device (named d model.as_output surface) ≡ of → presented d queue surface ≡ (of >>= (λ of. Ok (record { queue = on; surface = of })))
  then_surface of further =
      ap (λ (l : Looked (Found model.PresentationQueue)). l >>= (λ on. further_handle 1 on.device (named d model.as_output surface) >>= (λ of. Ok (record { queue = on; surface = of })))) looks
      ∙ ap (λ (l : Looked (Found model.OutputSurface)). l >>= (λ of. Ok (record { queue = on; surface = of }))) further

  pub presented_ok : (of : Found model.OutputSurface) → further_handle 1 on.device (named d model.as_output surface) ≡ Ok of → presented d queue surface ≡ Ok (record { queue = on; surface = of })
  presented_ok of further = then_surface (Ok of) further

  pub presented_err : (refusal : Refusal) (earliest : ℕ) → further_handle 1 on.device (named d model.as_output surface) ≡ Err refusal → queue_display d queue surface earliest ≡ Err refusal
  presented_err refusal earliest further = ap (λ (l : Looked QueueAndSurface). l >>= (λ on. answer_to_display on.queue.value.queue earliest >> Ok on)) (then_surface (Err refusal) further)

-- a call that is refused leaves all as it is
pub refused_takes : (core : Core) (d : State) → Stands core d → (caller : List ℕ) (call : Call) (refusal : Refusal) (result : Result (Unit {0}) Refusal)
    → IsErr result × IsErrAnd result (λ given. given ≡ refusal) → Does d caller call (Err refusal) d → Takes core d caller call (reply_with (λ _. Done) result)
refused_takes core d stands caller call refusal (Ok done) is does = absurd (false≢true is.0)
refused_takes core d stands caller call refusal (Err given) is does = record { after = d; step = inr (subst (λ r. Does d caller call (Err r) d) (sym is.1) does); stands = stands }

-- what is found by its kind and name is live
pub live_called : (core : Core) (name index : ℕ) → IsOnly (called number.OUTPUT_SURFACE name) (kept_of core.objects) (Some index) → (object : Object) → slice_get (kept_of core.objects) index ≡ Some object → object.is_live ≡ true
live_called core name index only object there =
    let passes : called number.OUTPUT_SURFACE name object ≡ true = subst (λ o. called number.OUTPUT_SURFACE name o ≡ true) (one_kept (kept_of core.objects) index only.0.object object only.0.stands there) only.0.passes in
    grind (arith, passes)

-- ---- the entry of a live surface

module _ (kept : List Object) (at : ℕ) (of : Object) (holder earliest : ℕ) (there : slice_get kept at ≡ Some of) (has : holder_of of.content ≡ Some holder) where
  abbrev pub entry : Queued Surface
  entry = record { surface = record { object = of.place; holder = holder }; earliest = earliest }

  is_it : is_surface entry.surface of ≡ true
  is_it = grind (arith, nat_tests, has)

  pub is_live_surface : of.is_live ≡ true → (queue : Queue Surface) (surface : Surface) → Names (displayed queue entry) surface → Names queue surface ⊎ IsLiveSurface kept surface
  is_live_surface live queue surface named = elim (Names-displayed surface queue entry named) [
    | inl was ↦ inl was
    | inr is ↦ inr (record { index = at; object = of; there = there; is = subst (λ s. is_surface s of ≡ true) is is_it; live = live })
  ]

module _ (core : Core) (index : ℕ) (object : Object) (of_kept : PresentationQueue) (there : slice_get (kept_of core.objects) index ≡ Some object) (has : object.content ≡ content.Queue of_kept) (live : object.is_live ≡ true)
    (at : ℕ) (of : Object) (holder earliest : ℕ) (of_there : slice_get (kept_of core.objects) at ≡ Some of) (of_holder : holder_of of.content ≡ Some holder) (of_live : of.is_live ≡ true) where
  abbrev was : Queue Surface
  was = queue_at core.queues of_kept.number

  abbrev now : Queue Surface
  now = displayed was (entry (kept_of core.objects) at of holder earliest of_there of_holder)

  few_now : Ok (tt {0}) ≡ answer_to_display was earliest → length now.entries ≤ most_entries
  few_now answer = by_count (length was.entries == most_entries) refl answer where
    few : length was.entries ≤ most_entries
    few = core.sound.limits.entries of_kept.number

    by_count : (b : Bool) → (length was.entries == most_entries) ≡ b
        → Ok (tt {0}) ≡ (if b then Err QueueFull else if nat_lt earliest was.promise then Err (EarlierThanPromise was.promise) else Ok (tt {0})) → length now.entries ≤ most_entries
    by_count true full answer = absurd (true≢false (ap (λ r. is_ok r) answer))
    by_count false room answer =
        let longer = length-append was.entries (entry (kept_of core.objects) at of holder earliest of_there of_holder ∷ []) in
        let below = few in
        grind (arith, nat_tests, room, longer, below)

  pub display_sound : (queues : List (Queue Surface)) (result : Result (Unit {0}) Refusal) → result ≡ answer_to_display was earliest → OnOk result (queues ≡ set core.queues of_kept.number now) → OnErr result (queues ≡ core.queues)
      → IsSound (kept_of core.objects) (made_of core.objects) queues core.jobs.items
  display_sound queues (Ok done) answer ok err =
      rw ok (queue_sound (kept_of core.objects) (made_of core.objects) core.queues core.jobs.items core.sound index object of_kept.number there (ap number_of has) now (few_now answer)
      (λ surface named. names_displayed was (entry (kept_of core.objects) at of holder earliest of_there of_holder) surface named)
      (λ surface named. elim (is_live_surface (kept_of core.objects) at of holder earliest of_there of_holder of_live was surface named) [
        | inl before ↦ inl before
        | inr alive ↦ inr (any_at (is_surface surface) (kept_of core.objects) alive.index alive.object alive.there alive.is)
      ]))
  display_sound queues (Err refusal) answer ok err = rw err core.sound

  module _ (d : State) (stands : Stands core d) (value : model.PresentationQueue) (is : IsContent core.queues (is_owed d object.place) (model.QueueObject value) (content.Queue of_kept))
      (of_value : model.OutputSurface) (caller : List ℕ) (queue surface : ℕ)
      (looks : presented d queue surface ≡ Ok (record { queue = found_of object.place object.device value; surface = found_of of.place of.device of_value })) where
    abbrev both : QueueAndSurface
    both = record { queue = found_of object.place object.device value; surface = found_of of.place of.device of_value }

    looked : (answer : Looked (Unit {0})) → answer_to_display value.queue earliest ≡ answer → queue_display d queue surface earliest ≡ (answer >> Ok both)
    looked answer is_so = ap (λ l. l >>= (λ on. answer_to_display on.queue.value.queue earliest >> Ok on)) looks ∙ ap (λ l. l >> Ok both) is_so

    pub display_takes : (after : Core) (result : Result (Unit {0}) Refusal) → after.objects ≡ core.objects → after.jobs ≡ core.jobs
        → result ≡ answer_to_display was earliest
        → OnOk result (after.queues ≡ set core.queues of_kept.number now) → OnErr result (after.queues ≡ core.queues)
        → Takes after d caller (call.QueueDisplay queue surface earliest) (reply_with (λ _. Done) result)
    display_takes after (Ok done) objects jobs answer ok err =
        let new = displayed value.queue (record { surface = of.place; earliest = earliest }) in
        let is_now : new ≡ by_place now = ap (λ q. displayed q (record { surface = of.place; earliest = earliest })) is.1 ∙ displayed_by_place was (entry (kept_of core.objects) at of holder earliest of_there of_holder) in
        record {
          after = with_content d object.place (model.QueueObject (record value { queue = new }));
          step = inr (finding _ _ (queue_display d queue surface earliest) both (looked (Ok done) (ap (λ q. answer_to_display q earliest) is.1 ∙ (answer_by_place was earliest ∙ sym answer))) (refl, refl));
          stands = queue_written core d stands index object of_kept there has live value is after now new (ap kept_of objects) (ap made_of objects) (λ names given. rw objects given) ok jobs
              (λ surface named. names_displayed was (entry (kept_of core.objects) at of holder earliest of_there of_holder) surface named)
              (is_live_surface (kept_of core.objects) at of holder earliest of_there of_holder of_live was) is_now;
        }
    display_takes after (Err refusal) objects jobs answer ok err = record {
      after = d;
      step = inr (refusing _ _ (queue_display d queue surface earliest) refusal (looked (Err refusal) (ap (λ q. answer_to_display q earliest) is.1 ∙ (answer_by_place was earliest ∙ sym answer))) (refl, refl));
      stands = stands_same core after d stands objects err jobs;
    }
