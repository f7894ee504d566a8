-- A task that was just made.
use Rattle.std.proofs.Common.{◌≡◌, inl, inr, ℕ, zero, suc, ◌≤◌, Bool, List, [], ◌++◌, All, count_by, filter_map, get_or, length, replicate, slice_index_or, Option, Some, None, refl, ap, sym, ◌∙◌, subst, arith}
use Rattle.std.specs.Option.{option_to_list}
use Rattle.std.proofs.lemmas.Bool.{cases_lt}
use Rattle.std.proofs.lemmas.List.{get_or-replicate}
use Rattle.std.proofs.lemmas.List.Elements.{All-replicate}
use Rattle.clock_script.specs.declared.script.ScriptLine.{ScriptLine}
use Rattle.device_lock.specs.Numbers.{Knows}
use Rattle.device_lock.specs.declared.view.View.{View}
use Rattle.driver_model.specs.Passes.{caller_of}
use Rattle.driver_model.specs.declared.items.Item.{Item}
use Rattle.player_laws.specs.Room.{given_in}
use Rattle.stream_calls.proofs.Holding.{no_names_are_held_first}
use Rattle.stream_calls.specs.Counted.{device_of, has_done, is_counted, is_queue_create, renders_in}
use Rattle.stream_calls.specs.HeldNames.{HoldsNames}
use Rattle.stream_course.specs.Standing as course
use Rattle.stream_course.specs.Way.{at_start}
use Rattle.stream_course.specs.declared.course.Course.{Course}
use Rattle.stream_task.specs.Calls.{queue_of}
use Rattle.stream_task.specs.Keeping.{AreMade, IsSized, StandsFor, Wait, name_in, names_held, one_if}
use Rattle.stream_task.specs.Surfaces.{IsIn, waiting_in}
use Rattle.stream_task.specs.Tasks.{no_fed}
use Rattle.stream_task.specs.declared.objects.Made.{Made}
use Rattle.stream_task.specs.declared.objects.Objects.{Objects}
use Rattle.stream_task.specs.declared.phase.Phase.TheVariants as phase
use Rattle.stream_task.specs.declared.slots.Slots.{Slots}

abbrev nothing : List (Option Made)
nothing = replicate 40 None

none_named : (n : ℕ) → filter_map name_in (replicate n None) ≡ []
none_named zero = refl
none_named (suc n) = none_named n

none_there : (index : ℕ) → slice_index_or nothing index None ≡ None
none_there index = elim (cases_lt index 40) [
  | inl inside ↦ get_or-replicate 40 index None None inside
  | inr past ↦ past_end 40 index past
] where
  past_end : (n i : ℕ) → n ≤ i → get_or (replicate n (let o : Option Made = None in o)) i None ≡ None
  past_end zero i le = refl
  past_end (suc n) zero le = absurd (omega (arith, le))
  past_end (suc n) (suc i) le = past_end n i (omega (arith, le))

module _ (objects : Objects) (device : objects.device ≡ None) (queue : objects.queue ≡ None) (made : objects.made ≡ nothing) where
  held_none : names_held objects ≡ []
  held_none =
      ap (λ o. option_to_list o ++ (option_to_list objects.queue ++ filter_map name_in objects.made)) device
      ∙ (ap (λ o. option_to_list o ++ filter_map name_in objects.made) queue ∙ (ap (λ (l : List (Option Made)). filter_map name_in l) made ∙ none_named 40))

  nothing_made : (pass : View Item) → pass.own ≡ [] → AreMade objects pass
  nothing_made pass own = record {
    places = ap length made;
    device = device ∙ sym (ap device_of own);
    queue = queue ∙ sym (ap queue_of own);
    queues = ap (λ l. count_by (has_done is_queue_create) l) own ∙ sym (ap (λ (o : Option ℕ). one_if o) queue);
    holds = subst (λ (l : List Item). HoldsNames pass.seen l (names_held objects)) (sym own) (subst (λ (l : List ℕ). HoldsNames pass.seen [] l) (sym held_none) (no_names_are_held_first pass.seen));
    opened = λ index object is. absurd (let k : (let o : Option Made = None in o ≡ Some object) = sym (ap (λ (l : List (Option Made)). slice_index_or l index None) made ∙ none_there index) ∙ is in cc);
    sized = subst (All IsSized) (sym made) (All-replicate IsSized 40 None tt);
  }

  pub first_stands : (stream period : ℕ) (preempts : Bool) (script : List ScriptLine) (k : Course) (slots : Slots) (pass : View Item)
      → length slots.waits ≡ 34 → waiting_in slots ≡ 0 → ((surface picture : ℕ) → IsIn slots surface picture → ⊥)
      → course.StandsFor k (record { number = stream; period = period; script = script }) at_start
      → Knows caller_of pass → pass.own ≡ []
      → StandsFor (record { stream = stream; preempts = preempts; course = k; objects = objects; slots = slots; turn = 0; phase = phase.Asking })
      (record { number = stream; period = period; script = script }) no_fed pass
  first_stands stream period preempts script k slots pass places none_waits none_in stands knows own =
      let given : given_in pass.own ≡ 0 = ap given_in own in
      let counted : count_by is_counted pass.own ≡ 0 = ap (λ l. count_by is_counted l) own in
      let wait : Wait slots objects at_start [] = record {
        places = places;
        made = λ surface number is. absurd (none_in surface number is);
        each = λ number below untold. absurd (omega (arith, below));
        few = omega (arith, none_waits);
      } in
      record {
        knows = knows;
        number = refl;
        turn = omega (arith);
        made = nothing_made pass own;
        way = at_start;
        course = stands;
        fed_is = refl;
        about = record { not_given = refl; wait = wait };
        few = record {
          renders = ap renders_in own;
          promises = omega (arith);
          within = (omega (arith, given), omega (arith, counted));
        };
      }
