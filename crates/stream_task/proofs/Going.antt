-- A task goes on: one more item of its caller.
use Rattle.std.proofs.Common.{◌≡◌, ℕ, ◌+◌, false, cond, List, [], ◌∷◌, ◌++◌, count_by, length, None, refl, ap, sym, ◌∙◌, subst, arith}
use Rattle.device_lock.specs.Numbers.{Knows}
use Rattle.device_lock.specs.declared.view.View.{View}
use Rattle.driver_model.specs.Passes.{Adds, caller_of}
use Rattle.driver_model.specs.declared.items.Entry.{Entry}
use Rattle.driver_model.specs.declared.items.Item.{Item}
use Rattle.driver_model.specs.declared.items.Item.TheVariants.{Called}
use Rattle.player_laws.specs.Room.{given_in}
use Rattle.stream_calls.specs.Counted.{device_made, device_of, has_done, is_counted, is_queue_create, is_render, renders_in}
use Rattle.stream_calls.specs.HeldNames.{HoldsNames, MayCall, MayMake, held_after}
use Rattle.stream_calls.specs.OneDevice.{StaysOnOneDevice}
use Rattle.stream_calls.specs.StreamCalls.{Fed, Stream}
use Rattle.stream_calls.proofs.ItemLists.{device_same}
use Rattle.stream_calls.proofs.NextItem.{own_calls_keep_one_device}
use Rattle.stream_task.specs.Calls.{AddsAll, queue_made, queue_of}
use Rattle.stream_task.specs.Keeping.{AreMade, Ready, names_held}
use Rattle.stream_task.specs.declared.objects.Objects.{Objects}
use Rattle.stream_task.specs.declared.task.StreamTask.{StreamTask}
use Rattle.stream_task.proofs.Bounds.{Left}
use Rattle.stream_task.proofs.Counting.{queue_same, queues_same, count_more}
use Rattle.stream_task.proofs.Names.{held_few}

-- ---- what may be made

-- Calls that name what is held may be made while there is room.
pub may_make : (own : List Item) (stream : ℕ) (objects : Objects) (item : Item) (decoded : ℕ)
    → length objects.made ≡ 40
    → renders_in own ≡ decoded
    → Left (given_in own) (count_by is_counted own) decoded
    → ((entry : Entry) → item ≡ Called entry → MayCall own stream (names_held objects) entry.call)
    → MayMake own stream (names_held objects) item
may_make own stream objects item decoded places renders left may =
    let more : renders_in (own ++ item ∷ []) ≡ renders_in own + cond (has_done is_render item) 1 0 = count_more (has_done is_render) own item in
    let few = held_few objects places in
    record {
      may_call = may;
      room = λ some. omega (arith, few);
      made = λ some. let c = left.creates_left in omega (arith, more, renders, c);
      counted = λ some. let k = left.calls_left in omega (arith, more, renders, k);
    }

-- ---- what is known behind one more item

pub record Known (v : View Item) (stream : ℕ) (held : List ℕ) : Type 0 where
  pub knows : Knows caller_of v
  pub stays : StaysOnOneDevice v.seen v.own stream
  pub holds : HoldsNames v.seen v.own held

pub known_now : (task : StreamTask) (of : Stream) (fed : Fed) (v : View Item) → Ready task of fed v → Known v of.number (names_held task.objects)
known_now task of fed v ready = record { knows = ready.stands.knows; stays = ready.stays; holds = ready.stands.made.holds }

pub known_behind : (v w : View Item) (item : Item) (place stream : ℕ) (held : List ℕ)
    → Known v stream held → Adds v item place w → MayMake v.own stream held item → Known w stream (held_after held item)
known_behind v w item place stream held known adds may =
    let both = own_calls_keep_one_device v w item place stream held known.knows adds known.stays known.holds may in
    record { knows = adds.knows; stays = both.0; holds = both.1 }

-- Where no device or queue is made and the same names are held, what was made is as it was.
pub made_still : (objects : Objects) (v w : View Item) (item : Item)
    → AreMade objects v
    → w.own ≡ v.own ++ item ∷ []
    → HoldsNames w.seen w.own (names_held objects)
    → device_made item ≡ None
    → queue_made item ≡ None
    → has_done is_queue_create item ≡ false
    → AreMade objects w
made_still objects v w item made own holds device queue not_queue = record {
  places = made.places;
  device = made.device ∙ (sym (device_same v.own item device) ∙ ap device_of (sym own));
  queue = made.queue ∙ (sym (queue_same v.own item queue) ∙ ap queue_of (sym own));
  queues = queues_same v.own w.own item own not_queue ∙ made.queues;
  holds = holds;
  opened = made.opened;
  sized = made.sized;
}

-- ---- items one after the other

pub adds_one : (v w : View Item) (item : Item) (place : ℕ) → Adds v item place w → AddsAll v (item ∷ []) w
unfolding AddsAll
adds_one v w item place adds = (w, place, adds, refl)

pub adds_more : (v w x : View Item) (items more : List Item) → AddsAll v items w → AddsAll w more x → AddsAll v (items ++ more) x
unfolding AddsAll
adds_more v w x [] more first then = subst (λ (u : View Item). AddsAll u more x) first then
adds_more v w x (item ∷ items) more first then = (first.0, first.1, first.2, adds_more first.0 w x items more first.3 then)
