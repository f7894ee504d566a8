-- What a call leaves that was done.
use Rattle.std.proofs.Common.{◌≡◌, ℕ, ◌+◌, ◌<◌, true, false, cond, not, ◌&&◌, ◌||◌, [], ◌∷◌, ◌++◌, count_by, length, Ok, ap, sym, ◌∙◌, subst, arith}
use Rattle.device_lock.specs.declared.view.View.{View}
use Rattle.driver.specs.Made.{entry_of}
use Rattle.driver_model.specs.Parts.{name_given}
use Rattle.driver_model.specs.Passes.{Adds}
use Rattle.driver_model.specs.declared.calls.Call.{Call}
use Rattle.driver_model.specs.declared.items.Entry.{Entry}
use Rattle.driver_model.specs.declared.items.Item.{Item}
use Rattle.driver_model.specs.declared.items.Item.TheVariants.{Called}
use Rattle.driver_model.specs.declared.replies.Answer.{Answer}
use Rattle.player_laws.specs.Room.{given_in}
use Rattle.stream_calls.specs.Counted.{has_done, is_counted, is_poll, is_render, renders_in}
use Rattle.stream_calls.specs.HeldNames.{MayCall, held_after}
use Rattle.stream_calls.specs.StreamCalls.{Fed, Stream}
use Rattle.stream_task.specs.Keeping.{AreMade, AreWithin, IsAbout, Ready, StandsFor, names_held, one_if}
use Rattle.stream_task.specs.Leaving.{Went}
use Rattle.stream_task.specs.declared.answers.Stepped.TheVariants as stepped
use Rattle.stream_task.specs.declared.objects.Objects.{Objects}
use Rattle.stream_task.specs.declared.phase.Phase.{Phase}
use Rattle.stream_task.specs.declared.slots.Slots.{Slots}
use Rattle.stream_task.specs.declared.task.StreamTask.{StreamTask}
use Rattle.stream_task.proofs.Bounds.{IsGoing, Left, what_is_left}
use Rattle.stream_task.proofs.Counting.{count_more, given_more}
use Rattle.stream_task.proofs.Going.{Known, adds_one, known_behind, known_now, may_make}

-- One call was done that is neither a poll nor a render.
module _ (task : StreamTask) (of : Stream) (fed : Fed) (v w : View Item) (place : ℕ) (asked : Call) (answer : Answer)
    (ready : Ready task of fed v) (going : IsGoing task.phase)
    (adds : Adds v (entry_of v asked (Ok answer)) place w)
    (may : MayCall v.own of.number (names_held task.objects) asked) where
  abbrev pub item : Item
  item = entry_of v asked (Ok answer)

  abbrev pub stands : StandsFor task of fed v
  stands = ready.stands

  left : Left (given_in v.own) (count_by is_counted v.own) (length stands.way.fed.decoded)
  left = what_is_left task.phase task stands.way (given_in v.own) (count_by is_counted v.own) going stands.about stands.few.promises stands.few.within

  entry_call : (entry : Entry) → item ≡ Called entry → MayCall v.own of.number (names_held task.objects) entry.call
  entry_call entry e = subst (λ (c : Call). MayCall v.own of.number (names_held task.objects) c) (let k : item ≡ Called entry = e in cc) may

  pub known_done : Known w of.number (held_after (names_held task.objects) item)
  known_done = known_behind v w item place of.number (names_held task.objects) (known_now task of fed v ready) adds (may_make v.own of.number task.objects item (length stands.way.fed.decoded) stands.made.places stands.few.renders left entry_call)

  module _ (objects : Objects) (slots : Slots) (turn : ℕ) (phase : Phase) where
    abbrev pub new : StreamTask
    new = record task { objects = objects; slots = slots; turn = turn; phase = phase }

    pub done_went : is_poll asked ≡ false → is_render asked ≡ false → turn < 4 → AreMade objects w → IsAbout phase new stands.way
        → AreWithin phase new stands.way (given_in v.own + one_if (name_given (Ok answer))) (count_by is_counted v.own + 1)
        → Went new of fed v w stepped.Moved
    done_went no_poll no_render in_turn made about within =
        let is : is_counted item ≡ true = ap (λ b. not (b || false)) no_poll in
        let counted : count_by is_counted w.own ≡ count_by is_counted v.own + 1 = ap (λ l. count_by is_counted l) adds.own ∙ (count_more is_counted v.own item ∙ ap (λ b. count_by is_counted v.own + cond b 1 0) is) in
        let given : given_in w.own ≡ given_in v.own + one_if (name_given (Ok answer)) = ap given_in adds.own ∙ given_more v.own item in
        let none : (let n : ℕ = cond (has_done is_render item) 1 0 in n ≡ 0) = ap (λ b. cond (b && true) 1 0) no_render in
        let renders : renders_in w.own ≡ length stands.way.fed.decoded = (let own : renders_in w.own ≡ renders_in (v.own ++ item ∷ []) = ap renders_in adds.own in let more = count_more (has_done is_render) v.own item in let before = stands.few.renders in omega (arith, own, more, none, before)) in
        record {
          ready = record {
            stands = record {
              knows = known_done.knows;
              number = stands.number;
              turn = in_turn;
              made = made;
              way = stands.way;
              course = stands.course;
              fed_is = stands.fed_is;
              about = about;
              few = record {
                renders = renders;
                promises = stands.few.promises;
                within = subst (λ k. AreWithin phase new stands.way (given_in w.own) k) (sym counted) (subst (λ g. AreWithin phase new stands.way g (count_by is_counted v.own + 1)) (sym given) within);
              };
            };
            stays = known_done.stays;
          };
          steps = record {
            items = item ∷ [];
            adds = adds_one v w item place adds;
            answers = ap (λ b. b || false) is;
          };
        }
