-- A picture is displayed, and a time promised.
use Rattle.std.proofs.Common.{◌≡◌, inl, inr, ℕ, ◌+◌, ◌%◌, ◌==◌, true, List, [], ◌∷◌, Option, Some, None, Result, Ok, Err, refl, subst, arith}
use Rattle.std.proofs.Math.Nat.{mod-lt}
use Rattle.std.proofs.lemmas.Bool.{eqb-true, false≢true, or_cases}
use Rattle.device_lock.specs.declared.view.View.{View}
use Rattle.driver.specs.Made.{entry_of}
use Rattle.driver_model.specs.Answers.{reply_with}
use Rattle.driver_model.specs.Parts.{is_among}
use Rattle.driver_model.specs.Passes.{Adds}
use Rattle.driver_model.specs.declared.calls.Call.TheVariants as call
use Rattle.driver_model.specs.declared.items.Item.{Item}
use Rattle.driver_model.specs.declared.replies.Answer.TheVariants as answer
use Rattle.vd_status.specs.declared.refusal.Refusal.{Refusal}
use Rattle.stream_calls.specs.HeldNames.{MayCall}
use Rattle.stream_calls.specs.StreamCalls.{Fed, Stream}
use Rattle.stream_task.specs.Keeping.{AreMade, Ready, made_at, names_held}
use Rattle.stream_task.specs.Leaving.{Went, behind_call, called_answer, displayed, with_phase}
use Rattle.stream_task.specs.declared.objects.Made.{Made}
use Rattle.stream_task.specs.declared.phase.Phase.TheVariants as phase
use Rattle.stream_task.specs.declared.task.StreamTask.{StreamTask}
use Rattle.stream_task.proofs.Done.{done_went, known_done}
use Rattle.stream_task.proofs.Going.{made_still}
use Rattle.stream_task.proofs.Names.{one_held, place_held, queue_held}
use Rattle.stream_task.proofs.Refused.{refused_went}

two_held : (held : List ℕ) (one other name : ℕ) → is_among held one ≡ true → is_among held other ≡ true → is_among (one ∷ other ∷ []) name ≡ true → is_among held name ≡ true
two_held held one other name a b is = elim (or_cases (one == name) (is_among (other ∷ []) name) is) [
  | inl e ↦ subst (λ n. is_among held n ≡ true) (eqb-true one name e) a
  | inr rest ↦ one_held held other name b rest
]

-- ---- a display

may_display : (own : List Item) (stream : ℕ) (held : List ℕ) (queue surface time : ℕ) → is_among held queue ≡ true → is_among held surface ≡ true → MayCall own stream held (call.QueueDisplay queue surface time)
may_display own stream held queue surface time a b = record {
  one_device = λ is. absurd (false≢true is);
  some = λ is e. absurd (let k : (let o : Option ℕ = Some queue in o ≡ None) = e in cc);
  all = λ name among. two_held held queue surface name a b among;
  one_queue = λ is. absurd (false≢true is);
  window = λ d w e. absurd (let k : call.QueueDisplay queue surface time ≡ call.QueueCreate d w = e in cc);
  left_out = refl;
}

pub displayed_went : (start : StreamTask) (of : Stream) (fed : Fed) (v w : View Item) (place queue time : ℕ) (output : Made) (reply : Result (Unit {0}) Refusal)
    → Ready (with_phase start (phase.Displaying time)) of fed v
    → start.objects.queue ≡ Some queue → made_at start.objects (36 + start.turn) ≡ Some output
    → Adds v (entry_of v (call.QueueDisplay queue output.name time) (reply_with (λ nothing. answer.Done) reply)) place w
    → Went (behind_call (with_phase start (phase.Displaying time)) (λ nothing. displayed (with_phase start (phase.Displaying time))) reply) of fed v w (called_answer reply)
displayed_went start of fed v w place queue time output (Err r) ready some is adds =
    refused_went (with_phase start (phase.Displaying time)) of fed v w place (call.QueueDisplay queue output.name time) r ready tt adds
    (may_display v.own of.number (names_held start.objects) queue output.name time (queue_held start.objects queue some) (place_held start.objects (36 + start.turn) output is))
displayed_went start of fed v w place queue time output (Ok nothing) ready some is adds =
    let task : StreamTask = with_phase start (phase.Displaying time) in
    let asked = call.QueueDisplay queue output.name time in
    let may = may_display v.own of.number (names_held start.objects) queue output.name time (queue_held start.objects queue some) (place_held start.objects (36 + start.turn) output is) in
    let known = known_done task of fed v w place asked answer.Done ready tt adds may in
    let made_now : AreMade start.objects w = made_still start.objects v w (entry_of v asked (Ok answer.Done)) ready.stands.made adds.own known.holds refl refl refl in
    let within = ready.stands.few.within in
    done_went task of fed v w place asked answer.Done ready tt adds may start.objects start.slots ((start.turn + 1) % 4) phase.Asking refl refl (mod-lt (start.turn + 1) (omega (arith))) made_now
    (record { not_given = ready.stands.about.not_given; wait = ready.stands.about.wait })
    ((let c = within.0 in omega (arith, c)), (let k = within.1 in omega (arith, k)))

-- ---- a promise

may_promise : (own : List Item) (stream : ℕ) (held : List ℕ) (queue time : ℕ) → is_among held queue ≡ true → MayCall own stream held (call.Promise queue time)
may_promise own stream held queue time a = record {
  one_device = λ is. absurd (false≢true is);
  some = λ is e. absurd (let k : (let o : Option ℕ = Some queue in o ≡ None) = e in cc);
  all = λ name among. one_held held queue name a among;
  one_queue = λ is. absurd (false≢true is);
  window = λ d w e. absurd (let k : call.Promise queue time ≡ call.QueueCreate d w = e in cc);
  left_out = refl;
}

pub promised_went : (start : StreamTask) (of : Stream) (fed : Fed) (v w : View Item) (place queue time : ℕ) (reply : Result (Unit {0}) Refusal)
    → Ready (with_phase start (phase.Promising time)) of fed v
    → start.objects.queue ≡ Some queue
    → Adds v (entry_of v (call.Promise queue time) (reply_with (λ nothing. answer.Done) reply)) place w
    → Went (behind_call (with_phase start (phase.Promising time)) (λ nothing. with_phase start phase.Asking) reply) of fed v w (called_answer reply)
promised_went start of fed v w place queue time (Err r) ready some adds =
    refused_went (with_phase start (phase.Promising time)) of fed v w place (call.Promise queue time) r ready tt adds
    (may_promise v.own of.number (names_held start.objects) queue time (queue_held start.objects queue some))
promised_went start of fed v w place queue time (Ok nothing) ready some adds =
    let task : StreamTask = with_phase start (phase.Promising time) in
    let asked = call.Promise queue time in
    let may = may_promise v.own of.number (names_held start.objects) queue time (queue_held start.objects queue some) in
    let known = known_done task of fed v w place asked answer.Done ready tt adds may in
    let made_now : AreMade start.objects w = made_still start.objects v w (entry_of v asked (Ok answer.Done)) ready.stands.made adds.own known.holds refl refl refl in
    let within = ready.stands.few.within in
    done_went task of fed v w place asked answer.Done ready tt adds may start.objects start.slots start.turn phase.Asking refl refl ready.stands.turn made_now
    (record { not_given = ready.stands.about.not_given; wait = ready.stands.about.wait })
    ((let c = within.0 in omega (arith, c)), (let k = within.1 in omega (arith, k)))

-- Without a queue nothing is promised, and the task goes on.
pub not_promised : (start : StreamTask) (of : Stream) (fed : Fed) (v : View Item) (time : ℕ)
    → Ready (with_phase start (phase.Promising time)) of fed v → Ready (with_phase start phase.Asking) of fed v
not_promised start of fed v time ready =
    let stands = ready.stands in
    let within = stands.few.within in
    record {
      stands = record {
        knows = stands.knows;
        number = stands.number;
        turn = stands.turn;
        made = stands.made;
        way = stands.way;
        course = stands.course;
        fed_is = stands.fed_is;
        about = record { not_given = stands.about.not_given; wait = stands.about.wait };
        few = record {
          renders = stands.few.renders;
          promises = stands.few.promises;
          within = ((let c = within.0 in omega (arith, c)), (let k = within.1 in omega (arith, k)));
        };
      };
      stays = ready.stays;
    }
