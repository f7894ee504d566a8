-- The device and the queue are made.
use Rattle.std.proofs.Common.{◌≡◌, ℕ, ◌+◌, ◌==◌, Bool, true, false, ◌||◌, List, [], ◌∷◌, ◌++◌, count_by, get_or, Option, Some, None, Result, Ok, Err, refl, ap, sym, ◌∙◌, subst, arith}
use Rattle.std.specs.Option.{option_to_list}
use Rattle.std.proofs.lemmas.Bool.{false≢true}
use Rattle.std.proofs.lemmas.List.Folds.{list_any-append}
use Rattle.device_lock.specs.declared.view.View.{View}
use Rattle.driver.specs.Made.{entry_of}
use Rattle.driver_model.specs.Answers.{reply_with}
use Rattle.driver_model.specs.Parts.{is_among}
use Rattle.driver_model.specs.Passes.{Adds}
use Rattle.driver_model.specs.declared.calls.Call.TheVariants as call
use Rattle.driver_model.specs.declared.items.Item.{Item}
use Rattle.driver_model.specs.declared.replies.Answer.TheVariants as answer
use Rattle.player_laws.specs.Room.{given_in}
use Rattle.vd_status.specs.declared.refusal.Refusal.{Refusal}
use Rattle.stream_calls.specs.Counted.{device_of, is_counted}
use Rattle.stream_calls.specs.HeldNames.{HoldsNames, MayCall}
use Rattle.stream_calls.specs.StreamCalls.{Fed, Stream}
use Rattle.stream_calls.proofs.Holding.{held_names_are_a_set}
use Rattle.stream_calls.proofs.ItemLists.{device_new, device_same}
use Rattle.stream_course.specs.Way.{Way}
use Rattle.stream_task.specs.Calls.{queue_of}
use Rattle.stream_task.specs.Keeping.{AreMade, AreWithin, IsAbout, IsMaking, Ready, Wait, names_held, one_if}
use Rattle.stream_task.specs.Leaving.{Went, behind_create, created_answer, with_device, with_queue}
use Rattle.stream_task.specs.declared.objects.Made.{Made}
use Rattle.stream_task.specs.declared.objects.Objects.{Objects}
use Rattle.stream_task.specs.declared.phase.Phase.{Phase}
use Rattle.stream_task.specs.declared.phase.Phase.TheVariants as phase
use Rattle.stream_task.specs.declared.slots.Slots.{Slots}
use Rattle.stream_task.specs.declared.task.StreamTask.{StreamTask}
use Rattle.stream_task.proofs.Bounds.{IsGoing}
use Rattle.stream_task.proofs.Counting.{queue_new, queue_same, queues_more, queues_same}
use Rattle.stream_task.proofs.Done.{done_went, known_done}
use Rattle.stream_task.proofs.Names.{device_held, names, one_held}
use Rattle.stream_task.proofs.Refused.{full_went}

pub making_goes : (p : Phase) → IsMaking p → IsGoing p
making_goes (phase.Rendering picture surface) is = tt
making_goes phase.Asking is = absurd is
making_goes (phase.Mixing surface time) is = absurd is
making_goes (phase.Displaying time) is = absurd is
making_goes (phase.Promising time) is = absurd is
making_goes (phase.Done verdict) is = absurd is

pub wait_still : (slots : Slots) (old new : Objects) (way : Way) (kept : List ℕ) → new.made ≡ old.made → Wait slots old way kept → Wait slots new way kept
wait_still slots old new way kept same wait = record {
  places = wait.places;
  made = λ surface number is. let there = wait.made surface number is in (there.0, ap (λ (m : List (Option Made)). get_or m (2 + surface) None) same ∙ there.1);
  each = wait.each;
  few = wait.few;
}

-- ---- the device

may_device : (objects : Objects) (v : View Item) (stream : ℕ) → AreMade objects v → objects.device ≡ None → MayCall v.own stream (names_held objects) call.DeviceCreate
may_device objects v stream made none = record {
  one_device = λ is. sym made.device ∙ none;
  some = λ is. absurd (false≢true (sym is));
  all = λ name among. absurd (false≢true among);
  one_queue = λ is. absurd (false≢true is);
  window = λ device window e. absurd (let k : call.DeviceCreate ≡ call.QueueCreate device window = e in cc);
  left_out = refl;
}

module _ (task : StreamTask) (name : ℕ) (way : Way) where
  device_about : (p : Phase) → IsMaking p → IsAbout p task way → IsAbout p (with_device task name) way
  device_about (phase.Rendering picture surface) is about = record { renders = about.renders; wait = wait_still task.slots task.objects (with_device task name).objects way [] refl about.wait }
  device_about phase.Asking is about = absurd is
  device_about (phase.Mixing surface time) is about = absurd is
  device_about (phase.Displaying time) is about = absurd is
  device_about (phase.Promising time) is about = absurd is
  device_about (phase.Done verdict) is about = absurd is

  device_within : (p : Phase) (creates calls : ℕ) → IsMaking p → task.objects.device ≡ None → AreWithin p task way creates calls → AreWithin p (with_device task name) way (creates + 1) (calls + 1)
  device_within (phase.Rendering picture surface) creates calls is none within =
      let zero_ : (let n : ℕ = one_if task.objects.device in n ≡ 0) = ap one_if none in
      ((let c = within.0 in omega (arith, c, zero_)), (let k = within.1 in omega (arith, k, zero_)))
  device_within phase.Asking creates calls is none within = absurd is
  device_within (phase.Mixing surface time) creates calls is none within = absurd is
  device_within (phase.Displaying time) creates calls is none within = absurd is
  device_within (phase.Promising time) creates calls is none within = absurd is
  device_within (phase.Done verdict) creates calls is none within = absurd is

pub device_went : (task : StreamTask) (of : Stream) (fed : Fed) (v w : View Item) (place : ℕ) (reply : Result ℕ Refusal)
    → Ready task of fed v → IsMaking task.phase → task.objects.device ≡ None
    → Adds v (entry_of v call.DeviceCreate (reply_with answer.Name reply)) place w
    → Went (behind_create task (with_device task) reply) of fed v w (created_answer reply)
device_went task of fed v w place (Err r) ready making none adds =
    full_went task of fed v w place call.DeviceCreate r ready (making_goes task.phase making) adds (may_device task.objects v of.number ready.stands.made none) refl
device_went task of fed v w place (Ok name) ready making none adds =
    let made = ready.stands.made in
    let may = may_device task.objects v of.number made none in
    let going = making_goes task.phase making in
    let item = entry_of v call.DeviceCreate (Ok (answer.Name name)) in
    let known = known_done task of fed v w place call.DeviceCreate (answer.Name name) ready going adds may in
    let no_device : device_of v.own ≡ None = sym made.device ∙ none in
    let rest : List ℕ = option_to_list task.objects.queue ++ names task.objects.made in
    let empty : rest ≡ [] = sym (ap (λ (d : Option ℕ). option_to_list d ++ rest) none) ∙ made.holds.none no_device in
    let first : HoldsNames w.seen w.own (name ∷ []) = subst (λ (held : List ℕ). HoldsNames w.seen w.own (held ++ name ∷ [])) (made.holds.none no_device) known.holds in
    let made_now : AreMade (with_device task name).objects w = record {
      places = made.places;
      device = sym (ap device_of adds.own ∙ device_new v.own item no_device);
      queue = made.queue ∙ (sym (queue_same v.own item refl) ∙ ap queue_of (sym adds.own));
      queues = queues_same v.own w.own item adds.own refl ∙ made.queues;
      holds = subst (λ (more : List ℕ). HoldsNames w.seen w.own (name ∷ more)) (sym empty) first;
      opened = made.opened;
      sized = made.sized;
    } in
    done_went task of fed v w place call.DeviceCreate (answer.Name name) ready going adds may (with_device task name).objects task.slots task.turn task.phase refl refl ready.stands.turn made_now
    (device_about task name ready.stands.way task.phase making ready.stands.about)
    (device_within task name ready.stands.way task.phase (given_in v.own) (count_by is_counted v.own) making none ready.stands.few.within)

-- ---- the queue

may_queue : (objects : Objects) (v : View Item) (stream window device : ℕ) → AreMade objects v → objects.device ≡ Some device → objects.queue ≡ None → window ≡ stream
    → MayCall v.own stream (names_held objects) (call.QueueCreate device window)
may_queue objects v stream window device made some none same = record {
  one_device = λ is. absurd (false≢true is);
  some = λ is e. absurd (let k : (let o : Option ℕ = Some device in o ≡ None) = e in cc);
  all = λ name among. one_held (names_held objects) device name (device_held objects device some) among;
  one_queue = λ is. made.queues ∙ ap one_if none;
  window = λ other other_window e. (let k : call.QueueCreate device window ≡ call.QueueCreate other other_window = e in let w : window ≡ other_window = cc in sym w ∙ same);
  left_out = refl;
}

or_swap : (a b c : Bool) → ((a || b) || (c || false)) ≡ (a || (c || b))
or_swap true b c = refl
or_swap false true true = refl
or_swap false true false = refl
or_swap false false true = refl
or_swap false false false = refl

module _ (task : StreamTask) (name : ℕ) (way : Way) where
  queue_about : (p : Phase) → IsMaking p → IsAbout p task way → IsAbout p (with_queue task name) way
  queue_about (phase.Rendering picture surface) is about = record { renders = about.renders; wait = wait_still task.slots task.objects (with_queue task name).objects way [] refl about.wait }
  queue_about phase.Asking is about = absurd is
  queue_about (phase.Mixing surface time) is about = absurd is
  queue_about (phase.Displaying time) is about = absurd is
  queue_about (phase.Promising time) is about = absurd is
  queue_about (phase.Done verdict) is about = absurd is

  queue_within : (p : Phase) (creates calls : ℕ) → IsMaking p → task.objects.queue ≡ None → AreWithin p task way creates calls → AreWithin p (with_queue task name) way (creates + 1) (calls + 1)
  queue_within (phase.Rendering picture surface) creates calls is none within =
      let zero_ : (let n : ℕ = one_if task.objects.queue in n ≡ 0) = ap one_if none in
      ((let c = within.0 in omega (arith, c, zero_)), (let k = within.1 in omega (arith, k, zero_)))
  queue_within phase.Asking creates calls is none within = absurd is
  queue_within (phase.Mixing surface time) creates calls is none within = absurd is
  queue_within (phase.Displaying time) creates calls is none within = absurd is
  queue_within (phase.Promising time) creates calls is none within = absurd is
  queue_within (phase.Done verdict) creates calls is none within = absurd is

pub queue_went : (task : StreamTask) (of : Stream) (fed : Fed) (v w : View Item) (place device : ℕ) (reply : Result ℕ Refusal)
    → Ready task of fed v → IsMaking task.phase → task.objects.device ≡ Some device → task.objects.queue ≡ None
    → Adds v (entry_of v (call.QueueCreate device task.stream) (reply_with answer.Name reply)) place w
    → Went (behind_create task (with_queue task) reply) of fed v w (created_answer reply)
queue_went task of fed v w place device (Err r) ready making some none adds =
    full_went task of fed v w place (call.QueueCreate device task.stream) r ready (making_goes task.phase making) adds (may_queue task.objects v of.number task.stream device ready.stands.made some none ready.stands.number) refl
queue_went task of fed v w place device (Ok name) ready making some none adds =
    let made = ready.stands.made in
    let asked = call.QueueCreate device task.stream in
    let may = may_queue task.objects v of.number task.stream device made some none ready.stands.number in
    let going = making_goes task.phase making in
    let item = entry_of v asked (Ok (answer.Name name)) in
    let known = known_done task of fed v w place asked (answer.Name name) ready going adds may in
    let now : Objects = (with_queue task name).objects in
    let same : (n : ℕ) → is_among (names_held task.objects ++ name ∷ []) n ≡ is_among (names_held now) n = λ n.
    list_any-append (λ (other : ℕ). other == n) (names_held task.objects) (name ∷ [])
    ∙ (ap (λ b. b || is_among (name ∷ []) n) (list_any-append (λ (other : ℕ). other == n) (option_to_list task.objects.device) (option_to_list task.objects.queue ++ names task.objects.made) ∙ ap (λ (q : Option ℕ). is_among (option_to_list task.objects.device) n || is_among (option_to_list q ++ names task.objects.made) n) none)
    ∙ (or_swap (is_among (option_to_list task.objects.device) n) (is_among (names task.objects.made) n) (name == n)
    ∙ sym (list_any-append (λ (other : ℕ). other == n) (option_to_list task.objects.device) (name ∷ names task.objects.made)))) in
    let made_now : AreMade now w = record {
      places = made.places;
      device = made.device ∙ (sym (device_same v.own item refl) ∙ ap device_of (sym adds.own));
      queue = sym (ap queue_of adds.own ∙ queue_new v.own item (sym made.queue ∙ none));
      queues = (let more = queues_more v.own w.own item adds.own refl in let before = made.queues in let zero_ : (let n : ℕ = one_if task.objects.queue in n ≡ 0) = ap one_if none in omega (arith, more, before, zero_));
      holds = held_names_are_a_set w.seen w.own (names_held task.objects ++ name ∷ []) (names_held now) same known.holds;
      opened = λ index object is e. (let k : (let o : Option ℕ = Some name in o ≡ None) = e in cc);
      sized = made.sized;
    } in
    done_went task of fed v w place asked (answer.Name name) ready going adds may now task.slots task.turn task.phase refl refl ready.stands.turn made_now
    (queue_about task name ready.stands.way task.phase making ready.stands.about)
    (queue_within task name ready.stands.way task.phase (given_in v.own) (count_by is_counted v.own) making none ready.stands.few.within)
