-- A picture is mixed.
use Rattle.std.proofs.Common.{◌≡◌, inl, inr, ℕ, ◌+◌, ◌==◌, true, List, [], ◌∷◌, count_by, set, Option, Some, None, Result, Ok, refl, ap, sym, ◌∙◌, subst, arith}
use Rattle.std.specs.List.{list_any}
use Rattle.std.proofs.lemmas.Bool.{eqb-true, false≢true, or_cases, or_right}
use Rattle.decoder_render.specs.declared.outcome.Outcome.{Outcome}
use Rattle.device_lock.specs.declared.view.View.{View}
use Rattle.driver.specs.Made.{entry_of}
use Rattle.vd_status.specs.declared.refusal.Refusal.{Refusal}
use Rattle.driver_model.specs.Answers.{reply_with}
use Rattle.driver_model.specs.Ends.{mark_of}
use Rattle.driver_model.specs.Jobs.{reply_of}
use Rattle.driver_model.specs.Parts.{is_among}
use Rattle.driver_model.specs.Passes.{Adds}
use Rattle.driver_model.specs.declared.calls.Call.TheVariants as call
use Rattle.driver_model.specs.declared.calls.Wish.TheVariants as wish
use Rattle.driver_model.specs.declared.items.Item.{Item}
use Rattle.driver_model.specs.declared.replies.Answer.TheVariants as answer
use Rattle.player_laws.specs.Room.{given_in}
use Rattle.stream_calls.specs.Counted.{has_done, is_counted, is_render, renders_in}
use Rattle.stream_calls.specs.HeldNames.{MayCall}
use Rattle.stream_calls.specs.StreamCalls.{Fed, Stream}
use Rattle.stream_task.specs.Keeping.{AreWithin, IsAbout, Mixing, Ready, Wait, made_at, names_held}
use Rattle.stream_task.specs.Calls.{AddsAll}
use Rattle.stream_task.specs.Leaving.{Went}
use Rattle.stream_task.specs.Tasks.{IsAnswer}
use Rattle.stream_task.specs.declared.answers.Stepped.{Stepped}
use Rattle.stream_task.specs.declared.answers.Stepped.TheVariants as stepped
use Rattle.stream_task.specs.declared.objects.Made.{Made}
use Rattle.stream_task.specs.declared.phase.Phase.TheVariants as phase
use Rattle.stream_task.specs.declared.slots.Slots.{Slots}
use Rattle.stream_task.specs.declared.task.StreamTask.{StreamTask}
use Rattle.stream_task.proofs.Counting.{count_more, given_more}
use Rattle.stream_task.proofs.Done.{known_done}
use Rattle.stream_task.proofs.Going.{made_still}
use Rattle.stream_task.proofs.Jobs.{job_done}
use Rattle.stream_task.proofs.Bounds.{IsGoing, calls_most, creates_most}
use Rattle.stream_task.proofs.Names.{one_held, place_held}
use Rattle.stream_task.proofs.Released.{wait_released}

pub three_held : (held : List ℕ) (one two three name : ℕ) → is_among held one ≡ true → is_among held two ≡ true → is_among held three ≡ true
    → is_among (one ∷ two ∷ three ∷ []) name ≡ true → is_among held name ≡ true
three_held held one two three name a b c is = elim (or_cases (one == name) (is_among (two ∷ three ∷ []) name) is) [
  | inl e ↦ subst (λ n. is_among held n ≡ true) (eqb-true one name e) a
  | inr rest ↦ elim (or_cases (two == name) (is_among (three ∷ []) name) rest) [
    | inl e ↦ subst (λ n. is_among held n ≡ true) (eqb-true two name e) b
    | inr last ↦ one_held held three name c last
  ]
]

pub may_mix : (own : List Item) (stream : ℕ) (held : List ℕ) (mixer structure video output : ℕ) → is_among held mixer ≡ true → is_among held video ≡ true → is_among held output ≡ true
    → MayCall own stream held (call.Mix mixer structure video output)
may_mix own stream held mixer structure video output a b c = record {
  one_device = λ is. absurd (false≢true is);
  some = λ is e. absurd (let k : (let o : Option ℕ = Some mixer in o ≡ None) = e in cc);
  all = λ name among. three_held held mixer video output name a b c among;
  one_queue = λ is. absurd (false≢true is);
  window = λ d w e. absurd (let k : call.Mix mixer structure video output ≡ call.QueueCreate d w = e in cc);
  left_out = refl;
}

-- ---- the mix

pub mixed_went : (task : StreamTask) (of : Stream) (fed : Fed) (v u w : View Item) (p1 p2 job mixer surface time : ℕ) (video output : Made) (o : Outcome) (slots : Slots)
    → Ready task of fed v → task.phase ≡ phase.Mixing surface time
    → made_at task.objects 1 ≡ Some (record { name = mixer; size = video.size })
    → made_at task.objects (2 + surface) ≡ Some video
    → made_at task.objects (36 + task.turn) ≡ Some output
    → output.size ≡ video.size
    → Adds v (entry_of v (call.Mix mixer 0 video.name output.name) (reply_of o)) p1 u
    → Adds u (mark_of u job) p2 w
    → slots.of_number ≡ task.slots.of_number → slots.waits ≡ set task.slots.waits surface None
    → Went (record task { slots = slots; phase = phase.Displaying time }) of fed v w stepped.Moved
mixed_went task of fed v u w p1 p2 job mixer surface time video output o slots ready e mixer_there video_there output_there one_size begins ends numbers waits =
    let stands = ready.stands in
    let way = stands.way in
    let about : Mixing task way surface = subst (λ p. IsAbout p task way) e stands.about in
    let going : IsGoing task.phase = subst IsGoing (sym e) tt in
    let may = may_mix v.own of.number (names_held task.objects) mixer 0 video.name output.name (place_held task.objects 1 (record { name = mixer; size = video.size }) mixer_there) (place_held task.objects (2 + surface) video video_there) (place_held task.objects (36 + task.turn) output output_there) in
    let done = job_done task of fed v u w p1 p2 job (call.Mix mixer 0 video.name output.name) o ready going begins ends may (record { not_device = refl; not_queue = refl; not_poll = refl; holds = refl }) in
    let within = (subst (λ p. AreWithin p task way (given_in v.own) (count_by is_counted v.own)) e stands.few.within) video video_there in
    let a = creates_most (made_at task.objects 1) video.size in
    let b = creates_most (made_at task.objects (36 + task.turn)) video.size in
    let x = calls_most (made_at task.objects 1) video.size in
    let y = calls_most (made_at task.objects (36 + task.turn)) video.size in
    let number = about.mixes.number in
    let wait : Wait slots task.objects way [] = wait_released task.slots slots task.objects way surface number about.wait about.mixes.is_in about.told waits in
    record {
      ready = record {
        stands = record {
          knows = done.known.knows;
          number = stands.number;
          turn = stands.turn;
          made = done.made;
          way = way;
          course = stands.course;
          fed_is = stands.fed_is;
          about = record {
            not_given = about.not_given;
            queue = stands.made.opened (2 + surface) video video_there;
            output = λ none. (let k : (let x : Option Made = Some output in x ≡ None) = sym output_there ∙ none in cc);
            wait = wait;
          };
          few = record {
            renders = (let r = done.renders in let before = stands.few.renders in omega (arith, r, before));
            promises = stands.few.promises;
            within = (
              (let g = done.given in let c = within.0 in omega (arith, g, c, a, b)),
              (let n = done.counted in let k = within.1 in omega (arith, n, k, x, y)),
            );
          };
        };
        stays = done.known.stays;
      };
      steps = record { items = entry_of v (call.Mix mixer 0 video.name output.name) (reply_of o) ∷ mark_of u job ∷ []; adds = done.adds; answers = done.counts };
    }

-- ---- a look whether the output surface is idle

pub may_poll : (own : List Item) (stream : ℕ) (held : List ℕ) (surface : ℕ) → is_among held surface ≡ true → MayCall own stream held (call.Poll (wish.OutputIdle surface ∷ []))
may_poll own stream held surface a = record {
  one_device = λ is. absurd (false≢true is);
  some = λ is e. absurd (let k : (let o : Option ℕ = Some surface in o ≡ None) = e in cc);
  all = λ name among. one_held held surface name a among;
  one_queue = λ is. absurd (false≢true is);
  window = λ d w e. absurd (let k : call.Poll (wish.OutputIdle surface ∷ []) ≡ call.QueueCreate d w = e in cc);
  left_out = refl;
}

-- Behind the look all is as it was, whatever it has found.
pub polled : (task : StreamTask) (of : Stream) (fed : Fed) (v w : View Item) (place surface : ℕ) (found : Option ℕ)
    → Ready task of fed v → IsGoing task.phase → is_among (names_held task.objects) surface ≡ true
    → Adds v (entry_of v (call.Poll (wish.OutputIdle surface ∷ [])) (Ok (answer.Holds found))) place w
    → Ready task of fed w
polled task of fed v w place surface found ready going held adds =
    let stands = ready.stands in
    let asked = call.Poll (wish.OutputIdle surface ∷ []) in
    let item = entry_of v asked (Ok (answer.Holds found)) in
    let may = may_poll v.own of.number (names_held task.objects) surface held in
    let known = known_done task of fed v w place asked (answer.Holds found) ready going adds may in
    let given : given_in w.own ≡ given_in v.own + 0 = ap given_in adds.own ∙ given_more v.own item in
    let counted : count_by is_counted w.own ≡ count_by is_counted v.own + 0 = ap (λ l. count_by is_counted l) adds.own ∙ count_more is_counted v.own item in
    let renders : renders_in w.own ≡ renders_in v.own + 0 = ap renders_in adds.own ∙ count_more (has_done is_render) v.own item in
    let g : given_in w.own ≡ given_in v.own = omega (arith, given) in
    let k : count_by is_counted w.own ≡ count_by is_counted v.own = omega (arith, counted) in
    record {
      stands = record {
        knows = known.knows;
        number = stands.number;
        turn = stands.turn;
        made = made_still task.objects v w item stands.made adds.own known.holds refl refl refl;
        way = stands.way;
        course = stands.course;
        fed_is = stands.fed_is;
        about = stands.about;
        few = record {
          renders = (let before = stands.few.renders in omega (arith, renders, before));
          promises = stands.few.promises;
          within = subst (λ n. AreWithin task.phase task stands.way (given_in w.own) n) (sym k) (subst (λ n. AreWithin task.phase task stands.way n (count_by is_counted v.own)) (sym g) stands.few.within);
        };
      };
      stays = known.stays;
    }

-- A step that goes on behind the look has that item too.
answers_more : (told : Stepped) (item : Item) (items : List Item) (task : StreamTask) → IsAnswer told items task → IsAnswer told (item ∷ items) task
answers_more stepped.Moved item items task is = or_right (is_counted item) (list_any is_counted items) is
answers_more (stepped.Full live given) item items task is = record { before = item ∷ is.before; entry = is.entry; last = ap (λ (l : List Item). item ∷ l) is.last; create = is.create; refused = is.refused }
answers_more (stepped.Done verdict) item items task is = is
answers_more _ item items task is = tt

pub went_behind : (task : StreamTask) (of : Stream) (fed : Fed) (u v w : View Item) (item : Item) (place : ℕ) (told : Stepped)
    → Adds u item place v → Went task of fed v w told → Went task of fed u w told
unfolding AddsAll
went_behind task of fed u v w item place told adds went = record {
  ready = went.ready;
  steps = record {
    items = item ∷ went.steps.items;
    adds = (v, place, adds, went.steps.adds);
    answers = answers_more told item went.steps.items task went.steps.answers;
  };
}

pub polled_found : (task : StreamTask) (of : Stream) (fed : Fed) (v w : View Item) (place surface : ℕ) (found : Option ℕ) (reply : Result (Option ℕ) Refusal)
    → Ready task of fed v → IsGoing task.phase → is_among (names_held task.objects) surface ≡ true
    → reply ≡ Ok found
    → Adds v (entry_of v (call.Poll (wish.OutputIdle surface ∷ [])) (reply_with answer.Holds reply)) place w
    → Ready task of fed w
polled_found task of fed v w place surface found reply ready going held e adds =
    polled task of fed v w place surface found ready going held
    (subst (λ (r : Result (Option ℕ) Refusal). Adds v (entry_of v (call.Poll (wish.OutputIdle surface ∷ [])) (reply_with answer.Holds r)) place w) e adds)
