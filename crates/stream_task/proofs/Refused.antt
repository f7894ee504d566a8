-- What a refused call leaves.
use Rattle.std.proofs.Common.{◌≡◌, ◌⊎◌, inl, inr, ℕ, ◌+◌, ◌≤◌, Bool, true, false, cond, not, ◌&&◌, ◌||◌, [], ◌∷◌, ◌++◌, count_by, length, None, Err, refl, ap, sym, ◌∙◌, subst, arith}
use Rattle.device_lock.specs.declared.view.View.{View}
use Rattle.driver.specs.Made.{entry_of}
use Rattle.driver_model.specs.Parts.{name_given}
use Rattle.driver_model.specs.Passes.{Adds}
use Rattle.driver_model.specs.declared.calls.Call.{Call}
use Rattle.driver_model.specs.declared.items.Entry.{Entry}
use Rattle.driver_model.specs.declared.items.Item.{Item}
use Rattle.driver_model.specs.declared.items.Item.TheVariants.{Called}
use Rattle.player_laws.specs.Room.{given_in}
use Rattle.vd_status.specs.declared.refusal.Refusal.{Refusal}
use Rattle.vd_status.specs.declared.refusal.Refusal.TheVariants.{HandlesFull, OutOfMemory}
use Rattle.stream_calls.specs.Counted.{has_done, is_counted, is_device_create, is_poll, is_queue_create, is_render, is_want, renders_in}
use Rattle.stream_calls.specs.HeldNames.{MayCall}
use Rattle.stream_calls.specs.StreamCalls.{Fed, Stream}
use Rattle.stream_task.specs.Calls.{is_create}
use Rattle.stream_task.specs.Keeping.{AreMade, AreWithin, Ready, StandsFor, names_held}
use Rattle.stream_task.specs.Leaving.{Went, behind_full, behind_refusal, ended_with, full_answer, refused_answer}
use Rattle.stream_task.specs.Tasks.{IsAnswer}
use Rattle.stream_task.specs.declared.answers.Stepped.{Stepped}
use Rattle.stream_task.specs.declared.answers.Stepped.TheVariants as stepped
use Rattle.stream_task.specs.declared.answers.Verdict.TheVariants.{Preempted}
use Rattle.stream_task.specs.declared.task.StreamTask.{StreamTask}
use Rattle.stream_task.proofs.Bounds.{IsGoing, Left, what_is_left}
use Rattle.stream_task.proofs.Counting.{count_more, given_more}
use Rattle.stream_task.proofs.Going.{Known, adds_one, known_behind, known_now, made_still, may_make}

-- ---- kinds of refusals

abbrev IsLost : Refusal → Type 0
IsLost OutOfMemory = ⊥
IsLost (HandlesFull live given) = ⊥
IsLost _ = Unit {0}

split : (r : Refusal) → (r ≡ OutOfMemory) ⊎ (((live : ℕ) × (given : ℕ) × (r ≡ HandlesFull live given)) ⊎ IsLost r)
split OutOfMemory = inl refl
split (HandlesFull live given) = inr (inl (live, given, refl))
split _ = inr (inr tt)

record Lost (r : Refusal) : Type 0 where
  refused : refused_answer r ≡ stepped.Done Preempted
  full : full_answer r ≡ stepped.Done Preempted
  task_refused : (task : StreamTask) → behind_refusal task r ≡ ended_with task Preempted
  task_full : (task : StreamTask) → behind_full task r ≡ ended_with task Preempted

lost : (r : Refusal) → IsLost r → Lost r
lost OutOfMemory is = absurd is
lost (HandlesFull live given) is = absurd is
lost _ is = record { refused = refl; full = refl; task_refused = λ task. refl; task_full = λ task. refl }

-- ---- one refused call

module _ (task : StreamTask) (of : Stream) (fed : Fed) (v w : View Item) (place : ℕ) (asked : Call) (r : Refusal)
    (ready : Ready task of fed v) (going : IsGoing task.phase)
    (adds : Adds v (entry_of v asked (Err r)) place w)
    (may : MayCall v.own of.number (names_held task.objects) asked) where
  abbrev item : Item
  item = entry_of v asked (Err r)

  stands : StandsFor task of fed v
  stands = ready.stands

  left : Left (given_in v.own) (count_by is_counted v.own) (length stands.way.fed.decoded)
  left = what_is_left task.phase task stands.way (given_in v.own) (count_by is_counted v.own) going stands.about stands.few.promises stands.few.within

  entry_call : (entry : Entry) → item ≡ Called entry → MayCall v.own of.number (names_held task.objects) entry.call
  entry_call entry e = subst (λ (c : Call). MayCall v.own of.number (names_held task.objects) c) (let k : item ≡ Called entry = e in cc) may

  known : Known w of.number (names_held task.objects)
  known = known_behind v w item place of.number (names_held task.objects) (known_now task of fed v ready) adds (may_make v.own of.number task.objects item (length stands.way.fed.decoded) stands.made.places stands.few.renders left entry_call)

  no_name : (b : Bool) → (cond b (name_given (Err r)) None) ≡ None
  no_name true = refl
  no_name false = refl

  not_done : (b : Bool) → (b && false) ≡ false
  not_done true = refl
  not_done false = refl

  made : AreMade task.objects w
  made = made_still task.objects v w item stands.made adds.own known.holds (no_name (is_device_create asked)) (no_name (is_queue_create asked)) (not_done (is_queue_create asked))

  renders : renders_in w.own ≡ length stands.way.fed.decoded
  renders =
      let more = count_more (has_done is_render) v.own item in
      let none : (let n : ℕ = cond (has_done is_render item) 1 0 in n ≡ 0) = ap (λ b. cond b 1 0) (not_done (is_render asked)) in
      let own : renders_in w.own ≡ renders_in (v.own ++ item ∷ []) = ap renders_in adds.own in
      let before = stands.few.renders in
      omega (arith, more, none, own, before)

  given : given_in w.own ≡ given_in v.own
  given =
      let more = given_more v.own item in
      let own : given_in w.own ≡ given_in (v.own ++ item ∷ []) = ap given_in adds.own in
      omega (arith, more, own)

  counted : count_by is_counted w.own ≡ count_by is_counted v.own + cond (is_counted item) 1 0
  counted = ap (λ l. count_by is_counted l) adds.own ∙ count_more is_counted v.own item

  one_most : (b : Bool) → cond b 1 0 ≤ 1
  one_most true = omega (arith)
  one_most false = omega (arith)

  -- The stream has ended,
  ended : Ready (ended_with task Preempted) of fed w
  ended = record {
    stands = record {
      knows = known.knows;
      number = stands.number;
      turn = stands.turn;
      made = made;
      way = stands.way;
      course = stands.course;
      fed_is = stands.fed_is;
      about = tt;
      few = record {
        renders = renders;
        promises = stands.few.promises;
        within = (
          (let g = given in let c = left.creates_left in omega (arith, g, c)),
          (let k = counted in let one = one_most (is_counted item) in let c = left.calls_left in omega (arith, k, one, c)),
        );
      };
    };
    stays = known.stays;
  }

  -- or all is as it was, where the call doesn't count.
  still : is_counted item ≡ false → Ready task of fed w
  still not_counted =
      let same : count_by is_counted w.own ≡ count_by is_counted v.own = (let k = counted in let none : (let n : ℕ = cond (is_counted item) 1 0 in n ≡ 0) = ap (λ b. cond b 1 0) not_counted in omega (arith, k, none)) in
      record {
        stands = record {
          knows = known.knows;
          number = stands.number;
          turn = stands.turn;
          made = made;
          way = stands.way;
          course = stands.course;
          fed_is = stands.fed_is;
          about = stands.about;
          few = record {
            renders = renders;
            promises = stands.few.promises;
            within = subst (λ k. AreWithin task.phase task stands.way (given_in w.own) k) (sym same) (subst (λ g. AreWithin task.phase task stands.way g (count_by is_counted v.own)) (sym given) stands.few.within);
          };
        };
        stays = known.stays;
      }

  went : (new : StreamTask) (answer : Stepped) → Ready new of fed w → IsAnswer answer (item ∷ []) new → Went new of fed v w answer
  went new answer ready answers = record { ready = ready; steps = record { items = item ∷ []; adds = adds_one v w item place adds; answers = answers } }

  lost_went : Went (ended_with task Preempted) of fed v w (stepped.Done Preempted)
  lost_went = went (ended_with task Preempted) (stepped.Done Preempted) ended refl

not_counted_want : (b : Bool) → not (b || true) ≡ false
not_counted_want true = refl
not_counted_want false = refl

-- ---- a call that makes nothing, and a create

pub refused_went : (task : StreamTask) (of : Stream) (fed : Fed) (v w : View Item) (place : ℕ) (asked : Call) (r : Refusal)
    → Ready task of fed v → IsGoing task.phase → Adds v (entry_of v asked (Err r)) place w → MayCall v.own of.number (names_held task.objects) asked
    → Went (behind_refusal task r) of fed v w (refused_answer r)
refused_went task of fed v w place asked r ready going adds may = elim (split r) [
  | inl e ↦ subst (λ (x : Refusal). Went (behind_refusal task x) of fed v w (refused_answer x)) (sym e)
      (went task of fed v w place asked r ready going adds may task stepped.OutOfMemory (still task of fed v w place asked r ready going adds may (ap (λ (x : Refusal). not (is_poll asked || is_want (Err x))) e ∙ not_counted_want (is_poll asked))) tt)
  | inr other ↦ elim other [
    | inl full ↦ subst (λ (x : Refusal). Went (behind_refusal task x) of fed v w (refused_answer x)) (sym full.2) (lost_went task of fed v w place asked r ready going adds may)
    | inr is ↦
        let facts = lost r is in
        subst (λ (t : StreamTask). Went t of fed v w (refused_answer r)) (sym (facts.task_refused task))
        (subst (λ (a : Stepped). Went (ended_with task Preempted) of fed v w a) (sym facts.refused) (lost_went task of fed v w place asked r ready going adds may))
  ]
]

pub full_went : (task : StreamTask) (of : Stream) (fed : Fed) (v w : View Item) (place : ℕ) (asked : Call) (r : Refusal)
    → Ready task of fed v → IsGoing task.phase → Adds v (entry_of v asked (Err r)) place w → MayCall v.own of.number (names_held task.objects) asked
    → is_create asked ≡ true
    → Went (behind_full task r) of fed v w (full_answer r)
full_went task of fed v w place asked r ready going adds may create = elim (split r) [
  | inl e ↦ subst (λ (x : Refusal). Went (behind_full task x) of fed v w (full_answer x)) (sym e)
      (went task of fed v w place asked r ready going adds may task stepped.OutOfMemory (still task of fed v w place asked r ready going adds may (ap (λ (x : Refusal). not (is_poll asked || is_want (Err x))) e ∙ not_counted_want (is_poll asked))) tt)
  | inr other ↦ elim other [
    | inl full ↦ subst (λ (x : Refusal). Went (behind_full task x) of fed v w (full_answer x)) (sym full.2)
        (went task of fed v w place asked r ready going adds may task (stepped.Full full.0 full.1)
        (still task of fed v w place asked r ready going adds may (ap (λ (x : Refusal). not (is_poll asked || is_want (Err x))) full.2 ∙ not_counted_want (is_poll asked)))
        (record { before = []; entry = record { caller = v.number; call = asked; reply = Err r }; last = refl; create = create; refused = ap Err full.2 }))
    | inr is ↦
        let facts = lost r is in
        subst (λ (t : StreamTask). Went t of fed v w (full_answer r)) (sym (facts.task_full task))
        (subst (λ (a : Stepped). Went (ended_with task Preempted) of fed v w a) (sym facts.full) (lost_went task of fed v w place asked r ready going adds may))
  ]
]
