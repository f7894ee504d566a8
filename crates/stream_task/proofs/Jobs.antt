-- A job is begun and ended.
use Rattle.std.proofs.Common.{◌≡◌, ℕ, ◌+◌, true, false, cond, not, ◌&&◌, ◌||◌, List, [], ◌∷◌, ◌++◌, count_by, length, None, refl, ap, ◌∙◌, subst, arith}
use Rattle.std.specs.List.{list_any}
use Rattle.std.proofs.lemmas.Bool.{or_left}
use Rattle.decoder_render.specs.declared.outcome.Outcome.{Outcome}
use Rattle.decoder_render.specs.declared.outcome.Outcome.TheVariants as outcome
use Rattle.device_lock.specs.declared.view.View.{View}
use Rattle.driver.specs.Made.{entry_of}
use Rattle.driver_model.specs.Ends.{mark_of}
use Rattle.driver_model.specs.Jobs.{reply_of}
use Rattle.driver_model.specs.Parts.{name_given}
use Rattle.driver_model.specs.Passes.{Adds}
use Rattle.driver_model.specs.declared.calls.Call.{Call}
use Rattle.driver_model.specs.declared.items.Entry.{Entry}
use Rattle.driver_model.specs.declared.items.Item.{Item}
use Rattle.driver_model.specs.declared.items.Item.TheVariants.{Called}
use Rattle.player_laws.specs.Room.{given_in}
use Rattle.stream_calls.specs.Counted.{has_done, is_counted, is_device_create, is_done, is_poll, is_queue_create, is_render, is_want, renders_in}
use Rattle.stream_calls.specs.HeldNames.{MayCall, held_behind, held_when_done}
use Rattle.stream_calls.specs.StreamCalls.{Fed, Stream}
use Rattle.stream_task.specs.Calls.{AddsAll}
use Rattle.stream_task.specs.Keeping.{AreMade, Ready, StandsFor, names_held, one_if}
use Rattle.stream_task.specs.declared.task.StreamTask.{StreamTask}
use Rattle.stream_task.proofs.Bounds.{IsGoing, Left, what_is_left}
use Rattle.stream_task.proofs.Counting.{count_more, given_more}
use Rattle.stream_task.proofs.Going.{Known, adds_more, adds_one, known_behind, known_now, made_still, may_make}

-- what the call of a job is
pub record IsJob (asked : Call) (held : List ℕ) : Type 0 where
  pub not_device : is_device_create asked ≡ false
  pub not_queue : is_queue_create asked ≡ false
  pub not_poll : is_poll asked ≡ false
  pub holds : held_when_done held asked ≡ held

no_want : (o : Outcome) → is_want (reply_of o) ≡ false
no_want outcome.Ok = refl
no_want (outcome.Bitstream slice) = refl
no_want (outcome.Incomplete macroblocks) = refl

no_name : (o : Outcome) → name_given (reply_of o) ≡ None
no_name outcome.Ok = refl
no_name (outcome.Bitstream slice) = refl
no_name (outcome.Incomplete macroblocks) = refl

same_held : (held : List ℕ) (asked : Call) (o : Outcome) → held_when_done held asked ≡ held → held_behind held asked (reply_of o) ≡ held
same_held held asked outcome.Ok e = e
same_held held asked (outcome.Bitstream slice) e = refl
same_held held asked (outcome.Incomplete macroblocks) e = refl

-- what is known behind both items
pub record JobDone (task : StreamTask) (stream : ℕ) (v w : View Item) (asked : Call) (o : Outcome) (items : List Item) : Type 0 where
  pub known : Known w stream (names_held task.objects)
  pub made : AreMade task.objects w
  pub given : given_in w.own ≡ given_in v.own
  pub counted : count_by is_counted w.own ≡ count_by is_counted v.own + 2
  pub renders : renders_in w.own ≡ renders_in v.own + cond (is_render asked && is_done (reply_of o)) 1 0
  pub adds : AddsAll v items w
  pub counts : list_any is_counted items ≡ true

module _ (task : StreamTask) (of : Stream) (fed : Fed) (v u w : View Item) (p1 p2 job : ℕ) (asked : Call) (o : Outcome)
    (ready : Ready task of fed v) (going : IsGoing task.phase)
    (begins : Adds v (entry_of v asked (reply_of o)) p1 u)
    (ends : Adds u (mark_of u job) p2 w)
    (may : MayCall v.own of.number (names_held task.objects) asked)
    (is : IsJob asked (names_held task.objects)) where
  abbrev first : Item
  first = entry_of v asked (reply_of o)

  abbrev second : Item
  second = mark_of u job

  stands : StandsFor task of fed v
  stands = ready.stands

  left : Left (given_in v.own) (count_by is_counted v.own) (length stands.way.fed.decoded)
  left = what_is_left task.phase task stands.way (given_in v.own) (count_by is_counted v.own) going stands.about stands.few.promises stands.few.within

  entry_call : (entry : Entry) → first ≡ Called entry → MayCall v.own of.number (names_held task.objects) entry.call
  entry_call entry e = subst (λ (c : Call). MayCall v.own of.number (names_held task.objects) c) (let k : first ≡ Called entry = e in cc) may

  known_first : Known u of.number (names_held task.objects)
  known_first =
      subst (λ (l : List ℕ). Known u of.number l) (same_held (names_held task.objects) asked o is.holds)
      (known_behind v u first p1 of.number (names_held task.objects) (known_now task of fed v ready) begins
      (may_make v.own of.number task.objects first (length stands.way.fed.decoded) stands.made.places stands.few.renders left entry_call))

  counts_first : is_counted first ≡ true
  counts_first = (λ i. not (is.not_poll i || no_want o i))

  counted_first : count_by is_counted u.own ≡ count_by is_counted v.own + 1
  counted_first = ap (λ l. count_by is_counted l) begins.own ∙ (count_more is_counted v.own first ∙ ap (λ b. count_by is_counted v.own + cond b 1 0) counts_first)

  renders_first : renders_in u.own ≡ renders_in v.own + cond (is_render asked && is_done (reply_of o)) 1 0
  renders_first = ap renders_in begins.own ∙ count_more (has_done is_render) v.own first

  renders_both : renders_in w.own ≡ renders_in v.own + cond (is_render asked && is_done (reply_of o)) 1 0
  renders_both =
      let more : renders_in w.own ≡ renders_in (u.own ++ second ∷ []) = ap renders_in ends.own in
      let one : renders_in (u.own ++ second ∷ []) ≡ renders_in u.own + 0 = count_more (has_done is_render) u.own second in
      let before = renders_first in
      omega (arith, more, one, before)

  no_entry : (entry : Entry) → second ≡ Called entry → MayCall u.own of.number (names_held task.objects) entry.call
  no_entry entry e = absurd (let k : second ≡ Called entry = e in cc)

  made_first : AreMade task.objects u
  made_first = made_still task.objects v u first stands.made begins.own known_first.holds (ap (λ b. cond b (name_given (reply_of o)) None) is.not_device) (ap (λ b. cond b (name_given (reply_of o)) None) is.not_queue) (ap (λ b. b && is_done (reply_of o)) is.not_queue)

  known_second : Known w of.number (names_held task.objects)
  known_second = known_behind u w second p2 of.number (names_held task.objects) known_first ends (record {
    may_call = no_entry;
    room = λ some. absurd (some refl);
    made = λ some. absurd (some refl);
    counted = λ counts.
        let r = renders_both in
        let more : renders_in w.own ≡ renders_in (u.own ++ second ∷ []) = ap renders_in ends.own in
        let k = counted_first in
        let l = left.calls_left in
        let before = stands.few.renders in
        omega (arith, r, more, k, l, before);
  })

  pub job_done : JobDone task of.number v w asked o (first ∷ second ∷ [])
  job_done = record {
    known = known_second;
    made = made_still task.objects u w second made_first ends.own known_second.holds refl refl refl;
    given =
        (let a : given_in u.own ≡ given_in v.own + 0 = ap given_in begins.own ∙ (given_more v.own first ∙ ap (λ n. given_in v.own + one_if n) (no_name o)) in
        let b : given_in w.own ≡ given_in u.own + 0 = ap given_in ends.own ∙ given_more u.own second in
        omega (arith, a, b));
    counted =
        (let a = counted_first in
        let b : count_by is_counted w.own ≡ count_by is_counted u.own + 1 = ap (λ l. count_by is_counted l) ends.own ∙ count_more is_counted u.own second in
        omega (arith, a, b));
    renders = renders_both;
    adds = adds_more v u w (first ∷ []) (second ∷ []) (adds_one v u first p1 begins) (adds_one u w second p2 ends);
    counts = or_left (is_counted first) (list_any is_counted (second ∷ [])) counts_first;
  }
