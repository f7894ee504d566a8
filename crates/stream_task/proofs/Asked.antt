-- It was asked what is to be done next: the task behind each turn.
use Rattle.std.proofs.Common.{◌≡◌, ◌≢◌, ℕ, ◌+◌, ◌<◌, ◌≤◌, ◌==◌, Bool, true, false, ◌||◌, List, [], ◌∷◌, ◌++◌, count_by, length, Option, Some, None, refl, ap, sym, ◌∙◌, subst, arith}
use Rattle.std.proofs.lemmas.Bool.{eq-eqb, false≢true, or_left, or_right}
use Rattle.std.proofs.lemmas.List.{length-append}
use Rattle.std.proofs.lemmas.List.Folds.{list_any-append}
use Rattle.access_units.specs.declared.acceptor.Unsettled.{Unsettled}
use Rattle.device_lock.specs.declared.view.View.{View}
use Rattle.driver_model.specs.Parts.{is_among}
use Rattle.driver_model.specs.declared.items.Item.{Item}
use Rattle.player_laws.specs.Room.{given_in}
use Rattle.stream_calls.specs.Counted.{is_counted}
use Rattle.stream_calls.specs.StreamCalls.{Fed, Stream}
use Rattle.stream_course.specs.Standing as course
use Rattle.stream_course.specs.Way.{ComesOut, HasRoom, Way, with_given, with_promise, with_told}
use Rattle.stream_course.specs.declared.course.Course.{Course}
use Rattle.stream_course.specs.declared.course.Ending.{Ending}
use Rattle.stream_course.specs.declared.course.Turn.TheVariants as turn
use Rattle.vd_plane.specs.declared.picture.Picture as samples
use Rattle.stream_task.specs.Keeping.{Asks, AreFew, AreWithin, IsAbout, Ready, Wait, names_held}
use Rattle.stream_task.specs.Leaving.{IsOut, Went, ended_with}
use Rattle.stream_task.specs.Surfaces.{IsFree, IsIn, surface_of, waiting_in}
use Rattle.stream_task.specs.declared.answers.Stepped.{Stepped}
use Rattle.stream_task.specs.declared.answers.Stepped.TheVariants as stepped
use Rattle.stream_task.specs.declared.answers.Verdict.{Verdict}
use Rattle.stream_task.specs.declared.phase.Phase.{Phase}
use Rattle.stream_task.specs.declared.phase.Phase.TheVariants as phase
use Rattle.stream_task.specs.declared.slots.Slots.{Slots}
use Rattle.stream_task.specs.declared.task.StreamTask.{StreamTask}
use Rattle.stream_task.proofs.Acting.{nothing_added}
use Rattle.stream_task.proofs.Bounds.{Left, what_is_left}
use Rattle.stream_task.proofs.Names.{place_held}
use Rattle.stream_task.proofs.Released.{wait_released}

-- ---- what was told

one_told : (told : List ℕ) (number : ℕ) → is_among (told ++ number ∷ []) number ≡ true
one_told told number = list_any-append (λ other. other == number) told (number ∷ []) ∙ or_right (is_among told number) ((number == number) || false) (or_left (number == number) false (eq-eqb number number refl))

untold_before : (told : List ℕ) (number other : ℕ) → is_among (told ++ number ∷ []) other ≡ false → is_among told other ≡ false
untold_before told number other is = none (is_among told other) (is_among (number ∷ []) other) (sym (list_any-append (λ n. n == other) told (number ∷ [])) ∙ is) where
  none : (a b : Bool) → (a || b) ≡ false → a ≡ false
  none true b e = absurd (false≢true (sym e))
  none false b e = refl

more_told : (told : List ℕ) (number : ℕ) → length (told ++ number ∷ []) ≡ length told + 1
more_told told number = length-append told (number ∷ [])

-- ---- the task behind a turn

module _ (start : StreamTask) (k : Course) (of : Stream) (fed : Fed) (v : View Item) (asking : start.phase ≡ phase.Asking) (ready : Ready start of fed v) where
  abbrev way : Way
  way = ready.stands.way

  about : Asks start way
  about = subst (λ (p : Phase). IsAbout p start way) asking ready.stands.about

  within : AreWithin phase.Asking start way (given_in v.own) (count_by is_counted v.own)
  within = subst (λ (p : Phase). AreWithin p start way (given_in v.own) (count_by is_counted v.own)) asking ready.stands.few.within

  pub stands_first : course.StandsFor start.course of way
  stands_first = ready.stands.course

  pub none_given : way.given ≡ None
  none_given = about.not_given

  pub few_wait : HasRoom way → waiting_in start.slots ≤ 17
  few_wait room = let few = about.wait.few in omega (arith, few, room)

  pub one_waits : (number : ℕ) (picture : samples.Picture) → ComesOut way number picture → (surface : ℕ) × IsIn start.slots surface number
  one_waits number picture out = about.wait.each number out.decoded out.once

  left : Left (given_in v.own) (count_by is_counted v.own) (length way.fed.decoded)
  left = what_is_left phase.Asking start way (given_in v.own) (count_by is_counted v.own) tt about ready.stands.few.promises within

  behind : (slots : Slots) (p : Phase) (after : Way) → course.StandsFor k of after → fed ≡ record { bytes = after.fed.text; ended = after.fed.ended }
      → IsAbout p (record start { course = k; slots = slots; phase = p }) after
      → AreFew (record start { course = k; slots = slots; phase = p }) after v.own
      → Ready (record start { course = k; slots = slots; phase = p }) of fed v
  behind slots p after stands fed_is is_about few = record {
    stands = record {
      knows = ready.stands.knows;
      number = ready.stands.number;
      turn = ready.stands.turn;
      made = ready.stands.made;
      way = after;
      course = stands;
      fed_is = fed_is;
      about = is_about;
      few = few;
    };
    stays = ready.stays;
  }

  -- Nothing is to be done.
  pub still : course.StandsFor k of way → (answer : Stepped) → Ready (record start { course = k }) of fed v
  still stands answer = record {
    stands = record {
      knows = ready.stands.knows;
      number = ready.stands.number;
      turn = ready.stands.turn;
      made = ready.stands.made;
      way = way;
      course = stands;
      fed_is = ready.stands.fed_is;
      about = subst (λ (p : Phase). IsAbout p (record start { course = k }) way) (sym asking) (record { not_given = about.not_given; wait = about.wait });
      few = record {
        renders = ready.stands.few.renders;
        promises = ready.stands.few.promises;
        within = subst (λ (p : Phase). AreWithin p (record start { course = k }) way (given_in v.own) (count_by is_counted v.own)) (sym asking) within;
      };
    };
    stays = ready.stays;
  }

  pub wants_memory : course.StandsFor k of way → Went (record start { course = k }) of fed v v stepped.OutOfMemory
  wants_memory stands = record { ready = still stands stepped.OutOfMemory; steps = record { items = []; adds = nothing_added v; answers = tt } }

  pub is_hungry : (at : ℕ) → course.IsAnswered k of way turn.Hungry → Went (record start { course = k }) of fed v v (stepped.Hungry at)
  is_hungry at answered = record {
    ready = still (subst (λ (w : Way). course.StandsFor k of w) answered.is.0 answered.stands) (stepped.Hungry at);
    steps = record { items = []; adds = nothing_added v; answers = tt };
  }

  -- A picture is to be decoded.
  pub is_decode : (picture : Unsettled) (surface : ℕ) → course.IsAnswered k of way (turn.Decode picture)
      → surface < 34 → IsFree start.slots surface → ((other : ℕ) → other < 17 → other ≢ picture.begun.frame → surface_of start.slots other ≢ surface)
      → Ready (record start { course = k; phase = phase.Rendering picture surface }) of fed v
  is_decode picture surface answered inside free apart =
      let one = answered.is.0 in
      let is = answered.is.2 in
      let stands : course.StandsFor k of (with_given way one) = subst (λ (w : Way). course.StandsFor k of w) answered.is.1 answered.stands in
      behind start.slots (phase.Rendering picture surface) (with_given way one) stands ready.stands.fed_is
      (record {
        renders = record {
          one = one;
          given = refl;
          next = is.next;
          shows = is.shows;
          decodable = is.decodable;
          going = is.going;
          within = inside;
          free = free;
          apart = apart;
        };
        wait = record { places = about.wait.places; made = about.wait.made; each = about.wait.each; few = about.wait.few };
      })
      (record {
        renders = ready.stands.few.renders;
        promises = ready.stands.few.promises;
        within = ((let c = within.0 in omega (arith, c)), (let n = within.1 in omega (arith, n)));
      })

  -- A picture came out.
  wait_told : (number : ℕ) (time : Option ℕ) (picture : samples.Picture) → Wait start.slots start.objects (with_told way number time picture) (number ∷ [])
  wait_told number time picture = record {
    places = about.wait.places;
    made = about.wait.made;
    each = λ other below untold. about.wait.each other below (untold_before way.told number other untold);
    few = (let few = about.wait.few in let more = more_told way.told number in omega (arith, few, more));
  }

  has_device : (surface number : ℕ) → IsIn start.slots surface number → start.objects.device ≢ None
  has_device surface number is_in none =
      let there = about.wait.made surface number is_in in
      let held = place_held start.objects (2 + surface) there.0 there.1 in
      let empty : names_held start.objects ≡ [] = ready.stands.made.holds.none (sym ready.stands.made.device ∙ none) in
      false≢true (ap (λ (l : List ℕ). is_among l there.0.name) (sym empty) ∙ held)

  pub is_out : (number : ℕ) (time : Option ℕ) (new : StreamTask) → course.IsAnswered k of way (turn.Out number time)
      → IsOut (record start { course = k }) new number time → Ready new of fed v
  is_out number (Some time) new answered out =
      let picture = answered.is.0 in
      let after = with_told way number (Some time) picture in
      let stands : course.StandsFor k of after = subst (λ (w : Way). course.StandsFor k of w) answered.is.1 answered.stands in
      subst (λ (t : StreamTask). Ready t of fed v) (sym (out.shown time refl))
      (behind start.slots (phase.Mixing out.surface time) after stands ready.stands.fed_is
      (record {
        not_given = about.not_given;
        mixes = record { within = out.within; number = number; is_in = out.is_in };
        told = one_told way.told number;
        device = has_device out.surface number out.is_in;
        wait = wait_told number (Some time) picture;
      })
      (record {
        renders = ready.stands.few.renders;
        promises = (let p = ready.stands.few.promises in let more = more_told way.told number in omega (arith, p, more));
        within = λ video there. (
          (let c = within.0 in let more = more_told way.told number in omega (arith, c, more)),
          (let n = within.1 in let more = more_told way.told number in omega (arith, n, more)),
        );
      }))
  is_out number None new answered out =
      let picture = answered.is.0 in
      let after = with_told way number None picture in
      let stands : course.StandsFor k of after = subst (λ (w : Way). course.StandsFor k of w) answered.is.1 answered.stands in
      let none = out.not_shown refl in
      subst (λ (t : StreamTask). Ready t of fed v) (sym none.0)
      (subst (λ (p : Phase). Ready (record start { course = k; slots = new.slots; phase = p }) of fed v) (sym asking)
      (behind new.slots phase.Asking after stands ready.stands.fed_is
      (record {
        not_given = about.not_given;
        wait = wait_released start.slots new.slots start.objects after out.surface number (wait_told number None picture) out.is_in (one_told way.told number) none.2;
      })
      (record {
        renders = ready.stands.few.renders;
        promises = (let p = ready.stands.few.promises in let more = more_told way.told number in omega (arith, p, more));
        within = (
          (let c = within.0 in let more = more_told way.told number in omega (arith, c, more)),
          (let n = within.1 in let more = more_told way.told number in omega (arith, n, more)),
        );
      })))

  -- A time is to be promised.
  pub is_promise : (time : ℕ) → course.IsAnswered k of way (turn.Promise time) → Ready (record start { course = k; phase = phase.Promising time }) of fed v
  is_promise time answered =
      let after = with_promise way time in
      let stands : course.StandsFor k of after = subst (λ (w : Way). course.StandsFor k of w) answered.is.0 answered.stands in
      behind start.slots (phase.Promising time) after stands ready.stands.fed_is
      (record { not_given = about.not_given; wait = record { places = about.wait.places; made = about.wait.made; each = about.wait.each; few = about.wait.few } })
      (record {
        renders = ready.stands.few.renders;
        promises = (let few = answered.is.1.few in omega (arith, few));
        within = ((let c = within.0 in omega (arith, c)), (let n = within.1 in omega (arith, n)));
      })

  -- Nothing further is to be done.
  pub is_over : (reason : Ending) (verdict : Verdict) → course.IsAnswered k of way (turn.Over reason)
      → Went (ended_with (record start { course = k }) verdict) of fed v v (stepped.Done verdict)
  is_over reason verdict answered =
      let stands : course.StandsFor k of way = subst (λ (w : Way). course.StandsFor k of w) answered.is.0 answered.stands in
      record {
        ready = behind start.slots (phase.Done verdict) way stands ready.stands.fed_is tt (record {
          renders = ready.stands.few.renders;
          promises = ready.stands.few.promises;
          within = ((let c = left.creates_left in omega (arith, c)), (let n = left.calls_left in omega (arith, n)));
        });
        steps = record { items = []; adds = nothing_added v; answers = refl };
      }
