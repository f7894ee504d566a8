-- The object of a place is made, or destroyed.
use Rattle.std.proofs.Common.{◌≡◌, ◌≢◌, inl, inr, ℕ, zero, suc, ◌+◌, ◌<◌, ◌≤◌, ◌==◌, Bool, true, false, cond, not, ◌&&◌, ◌||◌, List, [], ◌∷◌, ◌++◌, count_by, set, length, slice_get, Option, Some, None, Result, Ok, Err, refl, ap, sym, ◌∙◌, subst, arith}
use Rattle.std.specs.Option.{option_to_list}
use Rattle.std.proofs.lemmas.Bool.{cases_Bool, eq-eqb, eqb-true, false≢true, or_cases, or_left, or_right}
use Rattle.std.proofs.lemmas.List.{get_or-set_other, get_or-set_same, length-set}
use Rattle.std.proofs.lemmas.List.Elements.{All-set}
use Rattle.std.proofs.lemmas.List.Folds.{list_any-append}
use Rattle.cb_types.specs.SizeMbs.{IsWithinLimits}
use Rattle.cb_types.specs.declared.size.SizeMbs.{SizeMbs}
use Rattle.device_lock.specs.declared.view.View.{View}
use Rattle.driver.specs.Made.{entry_of}
use Rattle.driver_model.specs.Answers.{reply_with}
use Rattle.driver_model.specs.Parts.{first_name, is_among, names_in, names_of}
use Rattle.driver_model.specs.Passes.{Adds}
use Rattle.driver_model.specs.declared.calls.Call.{Call}
use Rattle.driver_model.specs.declared.items.Item.{Item}
use Rattle.driver_model.specs.declared.replies.Answer.TheVariants as answer
use Rattle.player_laws.specs.Room.{given_in}
use Rattle.vd_status.specs.declared.refusal.Refusal.{Refusal}
use Rattle.stream_calls.specs.Counted.{device_of, is_counted, is_device_create, is_poll, is_queue_create, is_render}
use Rattle.stream_calls.specs.HeldNames.{HoldsNames, MayCall, all_but, held_after}
use Rattle.stream_calls.specs.OneDevice.{is_left_out}
use Rattle.stream_calls.specs.StreamCalls.{Fed, Stream}
use Rattle.stream_calls.proofs.Holding.{held_names_are_a_set}
use Rattle.stream_calls.proofs.ItemLists.{but_less, device_same, names_kept}
use Rattle.stream_course.specs.Way.{Way}
use Rattle.stream_task.specs.Calls.{is_create, queue_of}
use Rattle.stream_task.specs.Keeping.{AreMade, AreWithin, IsAbout, IsSized, IsWanted, Ready, Wait, WantsPlace, base_calls, base_creates, calls_at, creates_at, made_at, names_held}
use Rattle.stream_task.specs.Leaving.{Went, behind_call, behind_create, called_answer, created_answer, with_place}
use Rattle.stream_task.specs.Places.{IsPlace, create_call, destroy_call, fits, index_of}
use Rattle.stream_task.specs.Surfaces.{IsFree, IsIn}
use Rattle.stream_task.specs.declared.objects.Made.{Made}
use Rattle.stream_task.specs.declared.objects.Objects.{Objects}
use Rattle.stream_task.specs.declared.objects.Place.{Place}
use Rattle.stream_task.specs.declared.objects.Place.TheVariants as place
use Rattle.stream_task.specs.declared.phase.Phase.{Phase}
use Rattle.stream_task.specs.declared.phase.Phase.TheVariants as phase
use Rattle.stream_task.specs.declared.slots.Slots.{Slots}
use Rattle.stream_task.specs.declared.task.StreamTask.{StreamTask}
use Rattle.stream_task.proofs.Bounds.{IsGoing}
use Rattle.stream_task.proofs.Counting.{queue_same, queues_same}
use Rattle.stream_task.proofs.Done.{done_went, known_done}
use Rattle.stream_task.proofs.Names.{device_held, held_parts, names, none_more, one_held, one_more, others_stay, place_held}
use Rattle.stream_task.proofs.Refused.{full_went, refused_went}

-- ---- the calls

-- what the calls are that make and destroy objects of places
record IsPlain (asked : Call) (name : ℕ) : Type 0 where
  not_device : is_device_create asked ≡ false
  not_queue : is_queue_create asked ≡ false
  not_poll : is_poll asked ≡ false
  not_render : is_render asked ≡ false
  first : first_name asked ≡ Some name
  names_one : names_in asked ≡ name ∷ []
  not_left : is_left_out asked ≡ false

create_plain : (device : ℕ) (here : Place) (size : SizeMbs) → IsPlain (create_call device here size) device
create_plain device place.Decoder size = record { not_device = refl; not_queue = refl; not_poll = refl; not_render = refl; first = refl; names_one = refl; not_left = refl }
create_plain device place.Mixer size = record { not_device = refl; not_queue = refl; not_poll = refl; not_render = refl; first = refl; names_one = refl; not_left = refl }
create_plain device (place.Video n) size = record { not_device = refl; not_queue = refl; not_poll = refl; not_render = refl; first = refl; names_one = refl; not_left = refl }
create_plain device (place.Output n) size = record { not_device = refl; not_queue = refl; not_poll = refl; not_render = refl; first = refl; names_one = refl; not_left = refl }

destroy_plain : (here : Place) (name : ℕ) → IsPlain (destroy_call here name) name
destroy_plain place.Decoder name = record { not_device = refl; not_queue = refl; not_poll = refl; not_render = refl; first = refl; names_one = refl; not_left = refl }
destroy_plain place.Mixer name = record { not_device = refl; not_queue = refl; not_poll = refl; not_render = refl; first = refl; names_one = refl; not_left = refl }
destroy_plain (place.Video n) name = record { not_device = refl; not_queue = refl; not_poll = refl; not_render = refl; first = refl; names_one = refl; not_left = refl }
destroy_plain (place.Output n) name = record { not_device = refl; not_queue = refl; not_poll = refl; not_render = refl; first = refl; names_one = refl; not_left = refl }

create_is : (device : ℕ) (here : Place) (size : SizeMbs) → is_create (create_call device here size) ≡ true
create_is device place.Decoder size = refl
create_is device place.Mixer size = refl
create_is device (place.Video n) size = refl
create_is device (place.Output n) size = refl

may_plain : (own : List Item) (stream : ℕ) (held : List ℕ) (asked : Call) (name : ℕ) → IsPlain asked name → is_among held name ≡ true → MayCall own stream held asked
may_plain own stream held asked name plain there = record {
  one_device = λ is. absurd (false≢true (sym plain.not_device ∙ is));
  some = λ is e. absurd (let k : (let o : Option ℕ = Some name in o ≡ None) = sym plain.first ∙ e in cc);
  all = λ other among. one_held held name other there (ap (λ (l : List ℕ). is_among l other) (sym plain.names_one) ∙ among);
  one_queue = λ is. absurd (false≢true (sym plain.not_queue ∙ is));
  window = λ d w e. absurd (false≢true (sym plain.not_queue ∙ ap is_queue_create e));
  left_out = plain.not_left;
}

-- ---- phases that want a place

wants_goes : (p : Phase) (task : StreamTask) (here : Place) (size : SizeMbs) → WantsPlace p task here size → IsGoing p
wants_goes (phase.Rendering picture surface) task here size wants = tt
wants_goes (phase.Mixing surface time) task here size wants = tt
wants_goes phase.Asking task here size wants = absurd wants
wants_goes (phase.Displaying time) task here size wants = absurd wants
wants_goes (phase.Promising time) task here size wants = absurd wants
wants_goes (phase.Done verdict) task here size wants = absurd wants

-- ---- pictures that wait

-- No picture waits in the surface of this place.
NotTaken : Slots → ℕ → Type 0
NotTaken slots i = (surface number : ℕ) → IsIn slots surface number → 2 + surface ≢ i

abbrev with_made : Objects → ℕ → Option Made → Objects
with_made objects i object = record objects { made = set objects.made i object }

wait_with : (slots : Slots) (objects : Objects) (way : Way) (kept : List ℕ) (i : ℕ) (object : Option Made)
    → NotTaken slots i → Wait slots objects way kept → Wait slots (with_made objects i object) way kept
unfolding NotTaken
wait_with slots objects way kept i object free wait = record {
  places = wait.places;
  made = λ surface number is. let there = wait.made surface number is in (there.0, get_or-set_other objects.made i (2 + surface) object None (free surface number is) ∙ there.1);
  each = wait.each;
  few = wait.few;
}

taken_apart : (slots : Slots) (i : ℕ) → NotTaken slots i → (surface number : ℕ) → IsIn slots surface number → 2 + surface ≢ i
unfolding NotTaken
taken_apart slots i free surface number is = free surface number is

some_is : (one other : Made) → (let o : Option Made = Some one in o ≡ Some other) → one ≡ other
some_is one other e = (let k : (let o : Option Made = Some one in o ≡ Some other) = e in cc)

low_taken : (slots : Slots) (i : ℕ) → i < 2 → NotTaken slots i
unfolding NotTaken
low_taken slots i low surface number is e = omega (arith, low, e)

free_taken : (slots : Slots) (surface : ℕ) → IsFree slots surface → NotTaken slots (2 + surface)
unfolding NotTaken
free_taken slots surface free other number is e =
    let same : other ≡ surface = omega (arith, e) in
    let both : (let o : Option (Option ℕ) = Some (Some number) in o ≡ Some None) = sym is ∙ (ap (λ s. slice_get slots.waits s) same ∙ free) in
    (let k : (let o : Option (Option ℕ) = Some (Some number) in o ≡ Some None) = both in cc)

get_within : (waits : List (Option ℕ)) (surface number : ℕ) → slice_get waits surface ≡ Some (Some number) → surface < length waits
get_within [] surface number is = absurd (let k : (let o : Option (Option ℕ) = None in o ≡ Some (Some number)) = is in cc)
get_within (one ∷ later) zero number is = omega (arith)
get_within (one ∷ later) (suc surface) number is = let there = get_within later surface number is in omega (arith, there)

high_taken : (slots : Slots) (turn : ℕ) → length slots.waits ≡ 34 → NotTaken slots (36 + turn)
unfolding NotTaken
high_taken slots turn places surface number is e = let within = get_within slots.waits surface number is in omega (arith, within, places, e)

not_taken : (p : Phase) (task : StreamTask) (way : Way) (here : Place) (size : SizeMbs) → WantsPlace p task here size → IsAbout p task way → NotTaken task.slots (index_of here)
not_taken (phase.Rendering picture surface) task way here size wants about = elim wants.1 [
  | inl e ↦ subst (λ (h : Place). NotTaken task.slots (index_of h)) (sym e) (low_taken task.slots 0 (omega (arith)))
  | inr e ↦ subst (λ (h : Place). NotTaken task.slots (index_of h)) (sym e) (free_taken task.slots surface about.renders.free)
]
not_taken (phase.Mixing surface time) task way here size wants about = elim wants.1 [
  | inl e ↦ subst (λ (h : Place). NotTaken task.slots (index_of h)) (sym e) (low_taken task.slots 1 (omega (arith)))
  | inr e ↦ subst (λ (h : Place). NotTaken task.slots (index_of h)) (sym e) (high_taken task.slots task.turn about.wait.places)
]
not_taken phase.Asking task way here size wants about = absurd wants
not_taken (phase.Displaying time) task way here size wants about = absurd wants
not_taken (phase.Promising time) task way here size wants about = absurd wants
not_taken (phase.Done verdict) task way here size wants about = absurd wants

-- ---- what the task is about then

about_with : (p : Phase) (task : StreamTask) (way : Way) (here : Place) (size : SizeMbs) (object : Option Made)
    → WantsPlace p task here size → IsAbout p task way → IsAbout p (with_place task here object) way
about_with (phase.Rendering picture surface) task way here size object wants about =
    let free = not_taken (phase.Rendering picture surface) task way here size wants about in
    record { renders = about.renders; wait = wait_with task.slots task.objects way [] (index_of here) object free about.wait }
about_with (phase.Mixing surface time) task way here size object wants about =
    let free = not_taken (phase.Mixing surface time) task way here size wants about in
    record { not_given = about.not_given; mixes = about.mixes; told = about.told; device = about.device; wait = wait_with task.slots task.objects way (about.mixes.number ∷ []) (index_of here) object free about.wait }
about_with phase.Asking task way here size object wants about = absurd wants
about_with (phase.Displaying time) task way here size object wants about = absurd wants
about_with (phase.Promising time) task way here size object wants about = absurd wants
about_with (phase.Done verdict) task way here size object wants about = absurd wants

-- ---- what has been used up

-- what the object of a place counts, before and then
record Uses (old new : Option Made) (size : SizeMbs) (creates calls : ℕ) : Type 0 where
  creates_then : creates_at old size + creates ≤ creates_at new size
  calls_then : calls_at old size + calls ≤ calls_at new size

same_at : (objects : Objects) (i j : ℕ) (object : Option Made) → j ≢ i → made_at (with_made objects i object) j ≡ made_at objects j
same_at objects i j object other = get_or-set_other objects.made i j object None other

here_at : (objects : Objects) (i : ℕ) (object : Option Made) → i < length objects.made → made_at (with_made objects i object) i ≡ object
here_at objects i object inside = get_or-set_same objects.made i object None inside

within_with : (p : Phase) (task : StreamTask) (way : Way) (here : Place) (size : SizeMbs) (object : Option Made) (creates calls more_creates more_calls : ℕ)
    → WantsPlace p task here size → IsAbout p task way → index_of here < length task.objects.made
    → Uses (made_at task.objects (index_of here)) object size more_creates more_calls
    → AreWithin p task way creates calls → AreWithin p (with_place task here object) way (creates + more_creates) (calls + more_calls)
within_with (phase.Rendering picture surface) task way here size object creates calls mc mk wants about inside uses within =
    let i = index_of here in
    let at_here = here_at task.objects i object inside in
    let c_here : creates_at (made_at (with_made task.objects i object) i) size ≡ creates_at object size = ap (λ o. creates_at o size) at_here in
    let k_here : calls_at (made_at (with_made task.objects i object) i) size ≡ calls_at object size = ap (λ o. calls_at o size) at_here in
    let more_c = uses.creates_then in
    let more_k = uses.calls_then in
    subst (λ (z : SizeMbs). (creates + mc ≤ base_creates task.objects way + creates_at (made_at (with_made task.objects i object) 0) z + creates_at (made_at (with_made task.objects i object) (2 + surface)) z)
    × (calls + mk ≤ base_calls task.objects way + calls_at (made_at (with_made task.objects i object) 0) z + calls_at (made_at (with_made task.objects i object) (2 + surface)) z)) wants.0
    (let w = subst (λ (z : SizeMbs). (creates ≤ base_creates task.objects way + creates_at (made_at task.objects 0) z + creates_at (made_at task.objects (2 + surface)) z)
    × (calls ≤ base_calls task.objects way + calls_at (made_at task.objects 0) z + calls_at (made_at task.objects (2 + surface)) z)) (sym wants.0) within in
    elim wants.1 [
      | inl e ↦
          let is : i ≡ 0 = ap index_of e in
          let other = same_at task.objects i (2 + surface) object (λ same. omega (arith, is, same)) in
          let c_other : creates_at (made_at (with_made task.objects i object) (2 + surface)) size ≡ creates_at (made_at task.objects (2 + surface)) size = ap (λ o. creates_at o size) other in
          let k_other : calls_at (made_at (with_made task.objects i object) (2 + surface)) size ≡ calls_at (made_at task.objects (2 + surface)) size = ap (λ o. calls_at o size) other in
          let c_new : creates_at (made_at (with_made task.objects i object) 0) size ≡ creates_at object size = subst (λ j. creates_at (made_at (with_made task.objects i object) j) size ≡ creates_at object size) is c_here in
          let k_new : calls_at (made_at (with_made task.objects i object) 0) size ≡ calls_at object size = subst (λ j. calls_at (made_at (with_made task.objects i object) j) size ≡ calls_at object size) is k_here in
          let c_old : creates_at (made_at task.objects i) size ≡ creates_at (made_at task.objects 0) size = ap (λ j. creates_at (made_at task.objects j) size) is in
          let k_old : calls_at (made_at task.objects i) size ≡ calls_at (made_at task.objects 0) size = ap (λ j. calls_at (made_at task.objects j) size) is in
          let c = w.0 in
          let k = w.1 in
          (omega (arith, c, c_other, c_new, c_old, more_c), omega (arith, k, k_other, k_new, k_old, more_k))
      | inr e ↦
          let is : i ≡ 2 + surface = ap index_of e in
          let other = same_at task.objects i 0 object (λ same. omega (arith, is, same)) in
          let c_other : creates_at (made_at (with_made task.objects i object) 0) size ≡ creates_at (made_at task.objects 0) size = ap (λ o. creates_at o size) other in
          let k_other : calls_at (made_at (with_made task.objects i object) 0) size ≡ calls_at (made_at task.objects 0) size = ap (λ o. calls_at o size) other in
          let c_new : creates_at (made_at (with_made task.objects i object) (2 + surface)) size ≡ creates_at object size = subst (λ j. creates_at (made_at (with_made task.objects i object) j) size ≡ creates_at object size) is c_here in
          let k_new : calls_at (made_at (with_made task.objects i object) (2 + surface)) size ≡ calls_at object size = subst (λ j. calls_at (made_at (with_made task.objects i object) j) size ≡ calls_at object size) is k_here in
          let c_old : creates_at (made_at task.objects i) size ≡ creates_at (made_at task.objects (2 + surface)) size = ap (λ j. creates_at (made_at task.objects j) size) is in
          let k_old : calls_at (made_at task.objects i) size ≡ calls_at (made_at task.objects (2 + surface)) size = ap (λ j. calls_at (made_at task.objects j) size) is in
          let c = w.0 in
          let k = w.1 in
          (omega (arith, c, c_other, c_new, c_old, more_c), omega (arith, k, k_other, k_new, k_old, more_k))
    ])
within_with (phase.Mixing surface time) task way here size object creates calls mc mk wants about inside uses within = λ video is.
    let i = index_of here in
    let free = not_taken (phase.Mixing surface time) task way here size wants about in
    let apart = taken_apart task.slots i free surface about.mixes.number about.mixes.is_in in
    let is_old : made_at task.objects (2 + surface) ≡ Some video = sym (same_at task.objects i (2 + surface) object apart) ∙ is in
    let same_video : wants.0.0 ≡ video = some_is wants.0.0 video (sym wants.0.1 ∙ is_old) in
    let z_is : size ≡ video.size = wants.0.2 ∙ ap (λ (m : Made). m.size) same_video in
    let at_here = here_at task.objects i object inside in
    let c_here : creates_at (made_at (with_made task.objects i object) i) size ≡ creates_at object size = ap (λ o. creates_at o size) at_here in
    let k_here : calls_at (made_at (with_made task.objects i object) i) size ≡ calls_at object size = ap (λ o. calls_at o size) at_here in
    let more_c = uses.creates_then in
    let more_k = uses.calls_then in
    subst (λ (z : SizeMbs). (creates + mc + 2 ≤ base_creates task.objects way + creates_at (made_at (with_made task.objects i object) 1) z + creates_at (made_at (with_made task.objects i object) (36 + task.turn)) z)
    × (calls + mk + 7 ≤ base_calls task.objects way + calls_at (made_at (with_made task.objects i object) 1) z + calls_at (made_at (with_made task.objects i object) (36 + task.turn)) z)) z_is
    (let w = subst (λ (z : SizeMbs). (creates + 2 ≤ base_creates task.objects way + creates_at (made_at task.objects 1) z + creates_at (made_at task.objects (36 + task.turn)) z)
    × (calls + 7 ≤ base_calls task.objects way + calls_at (made_at task.objects 1) z + calls_at (made_at task.objects (36 + task.turn)) z)) (sym z_is) (within video is_old) in
    elim wants.1 [
      | inl e ↦
          let at : i ≡ 1 = ap index_of e in
          let other = same_at task.objects i (36 + task.turn) object (λ same. omega (arith, at, same)) in
          let c_other : creates_at (made_at (with_made task.objects i object) (36 + task.turn)) size ≡ creates_at (made_at task.objects (36 + task.turn)) size = ap (λ o. creates_at o size) other in
          let k_other : calls_at (made_at (with_made task.objects i object) (36 + task.turn)) size ≡ calls_at (made_at task.objects (36 + task.turn)) size = ap (λ o. calls_at o size) other in
          let c_new : creates_at (made_at (with_made task.objects i object) 1) size ≡ creates_at object size = subst (λ j. creates_at (made_at (with_made task.objects i object) j) size ≡ creates_at object size) at c_here in
          let k_new : calls_at (made_at (with_made task.objects i object) 1) size ≡ calls_at object size = subst (λ j. calls_at (made_at (with_made task.objects i object) j) size ≡ calls_at object size) at k_here in
          let c_old : creates_at (made_at task.objects i) size ≡ creates_at (made_at task.objects 1) size = ap (λ j. creates_at (made_at task.objects j) size) at in
          let k_old : calls_at (made_at task.objects i) size ≡ calls_at (made_at task.objects 1) size = ap (λ j. calls_at (made_at task.objects j) size) at in
          let c = w.0 in
          let k = w.1 in
          (omega (arith, c, c_other, c_new, c_old, more_c), omega (arith, k, k_other, k_new, k_old, more_k))
      | inr e ↦
          let at : i ≡ 36 + task.turn = ap index_of e in
          let other = same_at task.objects i 1 object (λ same. omega (arith, at, same)) in
          let c_other : creates_at (made_at (with_made task.objects i object) 1) size ≡ creates_at (made_at task.objects 1) size = ap (λ o. creates_at o size) other in
          let k_other : calls_at (made_at (with_made task.objects i object) 1) size ≡ calls_at (made_at task.objects 1) size = ap (λ o. calls_at o size) other in
          let c_new : creates_at (made_at (with_made task.objects i object) (36 + task.turn)) size ≡ creates_at object size = subst (λ j. creates_at (made_at (with_made task.objects i object) j) size ≡ creates_at object size) at c_here in
          let k_new : calls_at (made_at (with_made task.objects i object) (36 + task.turn)) size ≡ calls_at object size = subst (λ j. calls_at (made_at (with_made task.objects i object) j) size ≡ calls_at object size) at k_here in
          let c_old : creates_at (made_at task.objects i) size ≡ creates_at (made_at task.objects (36 + task.turn)) size = ap (λ j. creates_at (made_at task.objects j) size) at in
          let k_old : calls_at (made_at task.objects i) size ≡ calls_at (made_at task.objects (36 + task.turn)) size = ap (λ j. calls_at (made_at task.objects j) size) at in
          let c = w.0 in
          let k = w.1 in
          (omega (arith, c, c_other, c_new, c_old, more_c), omega (arith, k, k_other, k_new, k_old, more_k))
    ])
within_with phase.Asking task way here size object creates calls mc mk wants about inside uses within = absurd wants
within_with (phase.Displaying time) task way here size object creates calls mc mk wants about inside uses within = absurd wants
within_with (phase.Promising time) task way here size object creates calls mc mk wants about inside uses within = absurd wants
within_with (phase.Done verdict) task way here size object creates calls mc mk wants about inside uses within = absurd wants

-- ---- made

fits_itself : (name : ℕ) (size : SizeMbs) → fits size (Some (record { name = name; size = size })) ≡ true
fits_itself name size = (λ i. eq-eqb size.width size.width refl i && eq-eqb size.height size.height refl i)

use_made : (name : ℕ) (size : SizeMbs) → Uses None (Some (record { name = name; size = size })) size 1 1
use_made name size =
    let is = fits_itself name size in
    let c : (let n : ℕ = creates_at (Some (record { name = name; size = size })) size in n ≡ 1) = ap (λ b. cond b 1 0) is in
    let k : (let n : ℕ = calls_at (Some (record { name = name; size = size })) size in n ≡ 2) = ap (λ b. cond b 2 0) is in
    record { creates_then = omega (arith, c); calls_then = omega (arith, k) }

use_destroyed : (made : Made) (size : SizeMbs) → fits size (Some made) ≡ false → Uses (Some made) None size 0 1
use_destroyed made size unfit =
    let c : (let n : ℕ = creates_at (Some made) size in n ≡ 0) = ap (λ b. cond b 1 0) unfit in
    let k : (let n : ℕ = calls_at (Some made) size in n ≡ 0) = ap (λ b. cond b 2 0) unfit in
    record { creates_then = omega (arith, c); calls_then = omega (arith, k) }

index_below : (here : Place) → IsPlace here → index_of here < 40
index_below place.Decoder is = omega (arith)
index_below place.Mixer is = omega (arith)
index_below (place.Video n) is = omega (arith, is)
index_below (place.Output n) is = omega (arith, is)

or_last : (a b c d : Bool) → ((a || (b || c)) || (d || false)) ≡ (a || (b || (c || d)))
or_last true b c d = refl
or_last false true c d = refl
or_last false false true d = refl
or_last false false false true = refl
or_last false false false false = refl

pub made_went : (task : StreamTask) (of : Stream) (fed : Fed) (v w : View Item) (place_no device : ℕ) (here : Place) (size : SizeMbs) (reply : Result ℕ Refusal)
    → Ready task of fed v → task.objects.device ≡ Some device → task.objects.queue ≢ None → IsWanted task here size → IsWithinLimits size
    → made_at task.objects (index_of here) ≡ None
    → Adds v (entry_of v (create_call device here size) (reply_with answer.Name reply)) place_no w
    → Went (behind_create task (λ name. with_place task here (Some (record { name = name; size = size }))) reply) of fed v w (created_answer reply)
made_went task of fed v w place_no device here size (Err r) ready some queue wanted limits none adds =
    full_went task of fed v w place_no (create_call device here size) r ready (wants_goes task.phase task here size wanted.wants) adds
    (may_plain v.own of.number (names_held task.objects) (create_call device here size) device (create_plain device here size) (device_held task.objects device some)) (create_is device here size)
made_went task of fed v w place_no device here size (Ok name) ready some queue wanted limits none adds =
    let made = ready.stands.made in
    let asked = create_call device here size in
    let plain = create_plain device here size in
    let may = may_plain v.own of.number (names_held task.objects) asked device plain (device_held task.objects device some) in
    let going = wants_goes task.phase task here size wanted.wants in
    let item = entry_of v asked (Ok (answer.Name name)) in
    let known = known_done task of fed v w place_no asked (answer.Name name) ready going adds may in
    let object : Made = record { name = name; size = size } in
    let now : Objects = (with_place task here (Some object)).objects in
    let inside : index_of here < length task.objects.made = (let below = index_below here wanted.is_place in let places = made.places in omega (arith, below, places)) in
    let same : (n : ℕ) → is_among (names_held task.objects ++ name ∷ []) n ≡ is_among (names_held now) n = λ n.
    list_any-append (λ (other : ℕ). other == n) (names_held task.objects) (name ∷ [])
    ∙ (ap (λ b. b || (name == n || false)) (held_parts task.objects n)
    ∙ (or_last (is_among (option_to_list task.objects.device) n) (is_among (option_to_list task.objects.queue) n) (is_among (names task.objects.made) n) (name == n)
    ∙ (ap (λ b. is_among (option_to_list task.objects.device) n || (is_among (option_to_list task.objects.queue) n || b)) (sym (one_more task.objects.made (index_of here) object n inside none))
    ∙ sym (held_parts now n)))) in
    let no_device : (let o : Option ℕ = cond (is_device_create asked) (Some name) None in o ≡ None) = ap (λ b. cond b (Some name) None) plain.not_device in
    let no_queue : (let o : Option ℕ = cond (is_queue_create asked) (Some name) None in o ≡ None) = ap (λ b. cond b (Some name) None) plain.not_queue in
    let made_now : AreMade now w = record {
      places = length-set task.objects.made (index_of here) (Some object) ∙ made.places;
      device = made.device ∙ (sym (device_same v.own item no_device) ∙ ap device_of (sym adds.own));
      queue = made.queue ∙ (sym (queue_same v.own item no_queue) ∙ ap queue_of (sym adds.own));
      queues = queues_same v.own w.own item adds.own (ap (λ b. b && true) plain.not_queue) ∙ made.queues;
      holds = held_names_are_a_set w.seen w.own (names_held task.objects ++ name ∷ []) (names_held now) same known.holds;
      opened = λ index one is. queue;
      sized = All-set IsSized task.objects.made (index_of here) (Some object) limits made.sized;
    } in
    done_went task of fed v w place_no asked (answer.Name name) ready going adds may now task.slots task.turn task.phase plain.not_poll plain.not_render ready.stands.turn made_now
    (about_with task.phase task ready.stands.way here size (Some object) wanted.wants ready.stands.about)
    (within_with task.phase task ready.stands.way here size (Some object) (given_in v.own) (count_by is_counted v.own) 1 1 wanted.wants ready.stands.about inside
    (subst (λ (o : Option Made). Uses o (Some object) size 1 1) (sym none) (use_made name size)) ready.stands.few.within)

-- ---- destroyed

-- what is held behind the destroy of a place's object
held_destroyed : (held : List ℕ) (v : View Item) (here : Place) (name : ℕ) → held_after held (entry_of v (destroy_call here name) (Ok answer.Done)) ≡ all_but name held
held_destroyed held v place.Decoder name = refl
held_destroyed held v place.Mixer name = refl
held_destroyed held v (place.Video n) name = refl
held_destroyed held v (place.Output n) name = refl

not_same : (one other : ℕ) → (other ≡ one → ⊥) → (one == other) ≡ false
not_same one other apart = elim (cases_Bool (one == other)) [
  | inl t ↦ absurd (apart (sym (eqb-true one other t)))
  | inr f ↦ f
]

but_split : (one other : ℕ) (held : List ℕ) (name : ℕ) → is_among (cond (not (other == one)) (other ∷ all_but one held) (all_but one held)) name ≡ is_among (all_but one (other ∷ held)) name
but_split one other held name = refl

but_apart : (one : ℕ) (held : List ℕ) (name : ℕ) → is_among (all_but one held) name ≡ true → name ≡ one → ⊥
but_apart one [] name among same = false≢true among
but_apart one (other ∷ held) name among same = elim (cases_Bool (other == one)) [
  | inl t ↦ but_apart one held name (sym (ap (λ b. is_among (cond (not b) (other ∷ all_but one held) (all_but one held)) name) t) ∙ (but_split one other held name ∙ among)) same
  | inr f ↦ elim (or_cases (other == name) (is_among (all_but one held) name) (sym (ap (λ b. is_among (cond (not b) (other ∷ all_but one held) (all_but one held)) name) f) ∙ (but_split one other held name ∙ among))) [
    | inl here ↦ false≢true (sym f ∙ eq-eqb other one (eqb-true other name here ∙ same))
    | inr later ↦ but_apart one held name later same
  ]
]

seen_more : (v w : View Item) (item : Item) (place_no : ℕ) → Adds v item place_no w → (device name : ℕ) → is_among (names_of v.seen device) name ≡ true → is_among (names_of w.seen device) name ≡ true
seen_more v w item place_no adds device name is =
    let between = names_kept v.seen adds.between device name is in
    let more = names_kept (v.seen ++ adds.between) (item ∷ []) device name between in
    ap (λ (l : List Item). is_among (names_of l device) name) adds.seen ∙ more

-- All names that are left were held, and each that was held is left but for the destroyed one.
left_held : (objects : Objects) (i : ℕ) (object : Made) (name : ℕ) → made_at objects i ≡ Some object
    → is_among (all_but object.name (names_held objects)) name ≡ true → is_among (names_held (with_made objects i None)) name ≡ true
left_held objects i object name is among =
    let before = but_less object.name (names_held objects) name among in
    let apart = but_apart object.name (names_held objects) name among in
    let other = not_same object.name name apart in
    held_parts (with_made objects i None) name ∙ elim (or_cases (is_among (option_to_list objects.device) name) (is_among (option_to_list objects.queue) name || is_among (names objects.made) name) (sym (held_parts objects name) ∙ before)) [
      | inl d ↦ or_left (is_among (option_to_list objects.device) name) (is_among (option_to_list objects.queue) name || is_among (names (set objects.made i None)) name) d
      | inr rest ↦ or_right (is_among (option_to_list objects.device) name) (is_among (option_to_list objects.queue) name || is_among (names (set objects.made i None)) name)
          (elim (or_cases (is_among (option_to_list objects.queue) name) (is_among (names objects.made) name) rest) [
            | inl q ↦ or_left (is_among (option_to_list objects.queue) name) (is_among (names (set objects.made i None)) name) q
            | inr m ↦ or_right (is_among (option_to_list objects.queue) name) (is_among (names (set objects.made i None)) name) (others_stay objects.made i object name is other m)
          ])
    ]

was_held : (objects : Objects) (i : ℕ) (name : ℕ) → is_among (names_held (with_made objects i None)) name ≡ true → is_among (names_held objects) name ≡ true
was_held objects i name among =
    held_parts objects name ∙ elim (or_cases (is_among (option_to_list objects.device) name) (is_among (option_to_list objects.queue) name || is_among (names (set objects.made i None)) name) (sym (held_parts (with_made objects i None) name) ∙ among)) [
      | inl d ↦ or_left (is_among (option_to_list objects.device) name) (is_among (option_to_list objects.queue) name || is_among (names objects.made) name) d
      | inr rest ↦ or_right (is_among (option_to_list objects.device) name) (is_among (option_to_list objects.queue) name || is_among (names objects.made) name)
          (elim (or_cases (is_among (option_to_list objects.queue) name) (is_among (names (set objects.made i None)) name) rest) [
            | inl q ↦ or_left (is_among (option_to_list objects.queue) name) (is_among (names objects.made) name) q
            | inr m ↦ or_right (is_among (option_to_list objects.queue) name) (is_among (names objects.made) name) (none_more objects.made i name m)
          ])
    ]

pub destroyed_went : (task : StreamTask) (of : Stream) (fed : Fed) (v w : View Item) (place_no device : ℕ) (here : Place) (size : SizeMbs) (object : Made) (reply : Result (Unit {0}) Refusal)
    → Ready task of fed v → task.objects.device ≡ Some device → task.objects.queue ≢ None → IsWanted task here size
    → made_at task.objects (index_of here) ≡ Some object
    → Adds v (entry_of v (destroy_call here object.name) (reply_with (λ nothing. answer.Done) reply)) place_no w
    → Went (behind_call task (λ nothing. with_place task here None) reply) of fed v w (called_answer reply)
destroyed_went task of fed v w place_no device here size object (Err r) ready some queue wanted is adds =
    refused_went task of fed v w place_no (destroy_call here object.name) r ready (wants_goes task.phase task here size wanted.wants) adds
    (may_plain v.own of.number (names_held task.objects) (destroy_call here object.name) object.name (destroy_plain here object.name) (place_held task.objects (index_of here) object is))
destroyed_went task of fed v w place_no device here size object (Ok nothing) ready some queue wanted is adds =
    let made = ready.stands.made in
    let asked = destroy_call here object.name in
    let plain = destroy_plain here object.name in
    let may = may_plain v.own of.number (names_held task.objects) asked object.name plain (place_held task.objects (index_of here) object is) in
    let going = wants_goes task.phase task here size wanted.wants in
    let item = entry_of v asked (Ok answer.Done) in
    let known = known_done task of fed v w place_no asked answer.Done ready going adds may in
    let now : Objects = (with_place task here None).objects in
    let inside : index_of here < length task.objects.made = (let below = index_below here wanted.is_place in let places = made.places in omega (arith, below, places)) in
    let no_device : (let o : Option ℕ = cond (is_device_create asked) None None in o ≡ None) = ap (λ b. cond b None None) plain.not_device in
    let no_queue : (let o : Option ℕ = cond (is_queue_create asked) None None in o ≡ None) = ap (λ b. cond b None None) plain.not_queue in
    let holds_less : HoldsNames w.seen w.own (all_but object.name (names_held task.objects)) = subst (λ (l : List ℕ). HoldsNames w.seen w.own l) (held_destroyed (names_held task.objects) v here object.name) known.holds in
    let device_then : device_of w.own ≡ device_of v.own = ap device_of adds.own ∙ device_same v.own item no_device in
    let holds_now : HoldsNames w.seen w.own (names_held now) = record {
      living = λ s name state among live. left_held task.objects (index_of here) object name is (holds_less.living s name state among live);
      on_device = λ other name e among.
          let before = made.holds.on_device other name (sym device_then ∙ e) (was_held task.objects (index_of here) name among) in
          seen_more v w item place_no adds other name before;
      none = λ none. absurd (let k : (let o : Option ℕ = Some device in o ≡ None) = sym some ∙ (made.device ∙ (sym device_then ∙ none)) in cc);
    } in
    let made_now : AreMade now w = record {
      places = length-set task.objects.made (index_of here) None ∙ made.places;
      device = made.device ∙ sym device_then;
      queue = made.queue ∙ (sym (queue_same v.own item no_queue) ∙ ap queue_of (sym adds.own));
      queues = queues_same v.own w.own item adds.own (ap (λ b. b && true) plain.not_queue) ∙ made.queues;
      holds = holds_now;
      opened = λ index one there. queue;
      sized = All-set IsSized task.objects.made (index_of here) None tt made.sized;
    } in
    done_went task of fed v w place_no asked answer.Done ready going adds may now task.slots task.turn task.phase plain.not_poll plain.not_render ready.stands.turn made_now
    (about_with task.phase task ready.stands.way here size None wanted.wants ready.stands.about)
    (within_with task.phase task ready.stands.way here size None (given_in v.own) (count_by is_counted v.own) 0 1 wanted.wants ready.stands.about inside
    (subst (λ (o : Option Made). Uses o None size 0 1) (sym is) (use_destroyed object size (ap (λ (o : Option Made). fits size o) (sym is) ∙ wanted.unfit))) ready.stands.few.within)
