-- Behind each turn the course stands for the way.
use Rattle.std.proofs.Common.{◌≡◌, inl, inr, ℕ, suc, ◌+◌, ◌<◌, ◌≤◌, Bool, true, false, List, [], ◌∷◌, ◌++◌, length, ℤ, Option, Some, None, Result, Ok, Err, ◌↔◌, refl, sym, ap, subst, ◌∙◌, arith, append-nil, length-append}
use Rattle.std.specs.Prelude.{IfSome, OnErr, flat_map, option_to_list}
use Rattle.std.specs.Option.{is_some}
use Rattle.clock_script.specs.Script.{IsLegal}
use Rattle.clock_script.specs.declared.script.ScriptLine.{ScriptLine}
use Rattle.vd_plane.specs.declared.picture.Picture as samples
use Rattle.driver_model.specs.ShownPictures.{ShownPicture}
use Rattle.access_units.specs.Acceptors as acceptors
use Rattle.access_units.specs.Pictures.{Picture}
use Rattle.access_units.specs.Standing as acceptor
use Rattle.access_units.specs.Stands.{HasDepth}
use Rattle.access_units.specs.declared.acceptor.Acceptor.{Acceptor}
use Rattle.access_units.specs.declared.acceptor.Next.{Next}
use Rattle.access_units.specs.declared.acceptor.Next.TheVariants as next
use Rattle.access_units.specs.declared.acceptor.Unsettled.{Unsettled}
use Rattle.accepted_pictures.specs.Files.{Decoded, pictures_in}
use Rattle.accepted_pictures.specs.Streams.{MayFeed, no_stream, past_of, showing}
use Rattle.output_order.specs.OutputOrder as order
use Rattle.output_order.specs.Waiting as waiting
use Rattle.output_order.specs.declared.waiting.Waiting.{Waiting}
use Rattle.frame_pacer.specs.Paced.{IsLast, IsPaced, IsSettled, MayGoOn, no_time, promised, shown_if}
use Rattle.frame_pacer.specs.declared.pacer.Pacer.{Pacer}
use Rattle.stream_calls.specs.OutputPictures.{picture_at}
use Rattle.stream_calls.specs.StreamCalls as calls
use Rattle.stream_course.specs.Laws.{GivenAreNext, WaysAreSmall}
use Rattle.stream_course.specs.Standing.{ArePromises, HasCome, IsAnswered, IsAt, IsKept, IsLeft, IsOut, IsPacedBy, IsSilent, IsStopped, IsUnsettled, Stands, StandsFor, Waits, those_out, place_of, shown_before}
use Rattle.stream_course.specs.Way.{HasEnded, HasRoom, IsTrue, Way, at_start, fed_on, with_decoded, with_failure, with_given, with_promise, with_told}
use Rattle.stream_course.specs.declared.course.Course.{Course}
use Rattle.stream_course.specs.declared.course.Ending.{Ending}
use Rattle.stream_course.specs.declared.course.Ending.TheVariants as ending
use Rattle.stream_course.specs.declared.course.Place.{Place}
use Rattle.stream_course.specs.declared.course.Turn.TheVariants as turn
use Rattle.stream_course.proofs.Joining.{waits_none}
use Rattle.stream_course.proofs.Numbers.{all_out, are_below, comes_out, few_out, pictures_count, pictures_more, pictures_old, room_left}
use Rattle.stream_course.proofs.Reading.{at_fed, at_unfed, ended_refused, ended_whole, left_broken, may_ask, place_is, read_fed, read_more, read_none, same_decoded}
use Rattle.stream_course.proofs.Showing.{kept_by_tick, kept_next, length_more, no_promises, none_shown, nothing_shown, promised_some, promises_last, promises_next, promises_tick, settled_last, settled_next}

-- ---- lists

pub count_came : (way : Way) (last : Option ℕ) → length (those_out way last) ≤ length way.told + 1
count_came way None = let same : length (way.told ++ []) ≡ length way.told = ap length (append-nil way.told) in omega (arith, same)
count_came way (Some last) = let more = length_more way.told last in omega (arith, more)

some_not_none : {A : Type 0} {X : Type 0} (a : A) → (let o : Option A = Some a in o ≡ None) → X
some_not_none {A} a e = absurd (let k : (let o : Option A = Some a in o ≡ None) = e in cc)

not_true : {X : Type 0} → false ≡ true → X
not_true e = absurd cc

-- the number of those that came out
abbrev count_of : Course → Way → ℕ
count_of course way = length (those_out way course.last)

-- ---- at the beginning

pub begins : (course : Course) (of : calls.Stream) (streams : ℕ) → IsLegal streams of.script → acceptor.StandsFor course.acceptor acceptors.no_past
    → course.fed ≡ 0 → course.decoded ≡ 0 → course.ending ≡ None
    → waiting.StandsFor course.waiting order.nothing_yet → IsPaced course.pacer of.script of.number of.period 0 → course.last ≡ None → course.promised ≡ 0
    → StandsFor course of at_start
begins course of streams legal stands fed decoded ending waits paced last promised =
    let A : Option Ending → Type 0 = λ e. IsAt course.acceptor course.unsettled e no_stream None None in
    let P : Option ℕ → Type 0 = λ l. IsPacedBy course.pacer of (length (those_out at_start l)) in
    let R : Option ℕ → Type 0 = λ l. ArePromises of (length (those_out at_start l)) 0 0 in
    let K : Option ℕ → Type 0 = λ l. IsKept of l 0 0 in
    let S : Option ℕ → Type 0 = λ l. (let none : List (ShownPicture samples.Picture) = [] in none ≡ shown_before of l []) in
    let O : Option ℕ → Type 0 = λ l. order.nothing_yet.out ≡ those_out at_start l ++ [] in
    record {
      history = order.nothing_yet;
      stands = record {
        read = record { fed = fed; short = read_none.short; decoded = decoded; few = read_none.few; settled = read_none.settled };
        at = subst A (sym ending) stands;
        failed = λ is. not_true is;
        waits = waits_none course.waiting waits;
        ended = sym (ap is_some ending);
        calm = λ is. not_true is;
        out = subst O (sym last) refl;
        silent = λ none. inl (refl, refl);
        paced = subst P (sym last) (record { streams = streams; legal = legal; paced = paced });
        promised = promised;
        promises = subst R (sym last) (no_promises of);
        kept = subst K (sym last) tt;
        shown = subst S (sym last) (sym (nothing_shown of.script of.number of.period));
      };
    }

-- ---- bytes are fed

pub stands_fed : (course : Course) (a : Acceptor) (of : calls.Stream) (way : Way) (bytes : List ℕ) → MayFeed way.fed bytes
    → ((past : acceptors.Past) → acceptor.StandsFor course.acceptor past → acceptors.MayFeed past bytes → acceptor.StandsFor a (acceptors.fed past bytes))
    → StandsFor course of way → StandsFor (record course { acceptor = a; fed = course.fed + length bytes }) of (fed_on way bytes)
stands_fed course a of way bytes may fed at =
    let s = at.stands in
    let same = same_decoded way.fed bytes in
    record {
      history = at.history;
      stands = record {
        read = read_fed course.fed course.decoded way.fed bytes may s.read;
        at = at_fed course.acceptor a course.unsettled course.ending way.fed way.given way.failed bytes may fed s.at;
        failed = s.failed;
        waits = subst (λ (d : List Decoded). Waits course.waiting d at.history) same s.waits;
        ended = s.ended;
        calm = s.calm;
        out = s.out;
        silent = s.silent;
        paced = s.paced;
        promised = s.promised;
        promises = s.promises;
        kept = s.kept;
        shown = subst (λ (d : List Decoded). way.shown ≡ shown_before of course.last (flat_map (picture_at d) way.told)) same s.shown;
      };
    }

-- The acceptor and the waiting list stand for the same.
pub stands_same : (course : Course) (a : Acceptor) (w : Waiting) (of : calls.Stream) (way : Way) (h : order.History)
    → IsAt a course.unsettled course.ending way.fed way.given way.failed → waiting.StandsFor w h
    → Stands course of way h [] → Stands (record course { acceptor = a; waiting = w }) of way h []
stands_same course a w of way h at waits s = record {
  read = s.read;
  at = at;
  failed = s.failed;
  waits = record { stands = waits; pushed = s.waits.pushed; period = s.waits.period; depth = s.waits.depth };
  ended = s.ended;
  calm = s.calm;
  out = s.out;
  silent = s.silent;
  paced = s.paced;
  promised = s.promised;
  promises = s.promises;
  kept = s.kept;
  shown = s.shown;
}

pub stands_unfed : (course : Course) (a : Acceptor) (of : calls.Stream) (way : Way)
    → ((past : acceptors.Past) → acceptor.StandsFor course.acceptor past → acceptor.StandsFor a past) → StandsFor course of way
    → StandsFor (record course { acceptor = a }) of way
stands_unfed course a of way same at = record {
  history = at.history;
  stands =
      stands_same course a course.waiting of way at.history (at_unfed course.acceptor a course.unsettled course.ending way.fed way.given way.failed same at.stands.at) at.stands.waits.stands at.stands;
}

-- ---- a time is promised

silent_tick : (of : calls.Stream) (way : Way) (h : order.History) (last : Option ℕ) (time : ℕ) → way.promised < time
    → time ≡ promised of.script of.number of.period (length (those_out way last))
    → (last ≡ None → IsSilent way h []) → last ≡ None → IsSilent (with_promise way time) h []
silent_tick of way h last time less is silent none = by_case (silent none) where
  by_case : IsSilent way h [] → IsSilent (with_promise way time) h []
  by_case (inl first) =
      let count : length (those_out way last) ≡ 0 = ap (λ (l : Option ℕ). length (those_out way l)) none ∙ ap (λ (t : List ℕ). length (t ++ [])) first.0 in
      let zeroth : time ≡ 0 = is ∙ ap (promised of.script of.number of.period) count in
      absurd (omega (arith, less, zeroth))
  by_case (inr done) = inr done

pub promises_time : (course : Course) (of : calls.Stream) (way : Way) (time : ℕ) → course.promised < time → time ≤ no_time
    → ((script : List ScriptLine) (stream period count : ℕ) → IsPaced course.pacer script stream period count → time ≡ promised script stream period count)
    → StandsFor course of way → IsAnswered (record course { promised = time }) of way (turn.Promise time)
promises_time course of way time less most is at =
    let s = at.stands in
    let h = at.history in
    let count = count_of course way in
    let same : time ≡ promised of.script of.number of.period count = is of.script of.number of.period count s.paced.paced in
    let later : way.promised < time = (let p = s.promised in omega (arith, less, p)) in
    let promises = promises_tick of count way.promised time way.promises later most same s.promises in
    let some = count_came way course.last in
    let few = promises.1 in
    record {
      after = with_promise way time;
      is = (refl, record { later = later; few = omega (arith, some, few) });
      stands = record {
        history = h;
        stands = record {
          read = s.read;
          at = s.at;
          failed = s.failed;
          waits = s.waits;
          ended = s.ended;
          calm = s.calm;
          out = s.out;
          silent = silent_tick of way h course.last time later same s.silent;
          paced = s.paced;
          promised = refl;
          promises = promises.0;
          kept = kept_by_tick of s.paced.streams time count course.last way.told s.paced.legal refl same;
          shown = s.shown;
        };
      };
    }

pub promised_if : (course new : Course) (r : Option ℕ) (time : ℕ) → time ≤ no_time
    → ((script : List ScriptLine) (stream period count : ℕ) → IsPaced course.pacer script stream period count → time ≡ promised script stream period count)
    → IfSome r (λ (p : ℕ). p ≡ time) → IfSome r (λ (p : ℕ). course.promised < p) → IfSome r (λ (p : ℕ). new ≡ record course { promised = p })
    → IfSome r (λ (p : ℕ). (of : calls.Stream) (way : Way) → StandsFor course of way → IsAnswered new of way (turn.Promise p))
promised_if course new None time most is same later kept = tt
promised_if course new (Some p) time most is same later kept = λ of way at.
    subst (λ (c : Course). IsAnswered c of way (turn.Promise p)) (sym kept)
    (promises_time course of way p later (omega (arith, same, most)) (λ script stream period count paced. same ∙ is script stream period count paced) at)

-- ---- a picture comes out

silent_popped : (way : Way) (h : order.History) (number : ℕ) → (order.has_settled h ≡ false → ⊥) → IsSilent way h []
    → IsSilent way (order.popping h (Some number)) (number ∷ [])
silent_popped way h number some (inl first) = inl first
silent_popped way h number some (inr done) = absurd (some done.1)

with_depth : (h : order.History) (number : ℕ) (pictures : List Picture) → HasDepth h pictures → HasDepth (order.popping h (Some number)) pictures
with_depth h number [] deep = deep
with_depth h number (last ∷ before) deep = deep

pub has_come : (course : Course) (w : Waiting) (of : calls.Stream) (way : Way) (h : order.History) (number : ℕ) → way.given ≡ None
    → (order.has_settled h ≡ false → ⊥)
    → waiting.StandsFor w (order.popping h (Some number)) → Stands course of way h [] → HasCome (record course { waiting = w }) of way number
has_come course w of way h number not_given some waits s = record {
  history = order.popping h (Some number);
  stands = record {
    read = s.read;
    at = s.at;
    failed = s.failed;
    waits =
        record { stands = waits; pushed = s.waits.pushed; period = s.waits.period; depth = with_depth h number (pictures_in way.fed.decoded) s.waits.depth };
    ended = s.ended;
    calm = λ is. not_true (sym (ap is_some not_given) ∙ is);
    out = ap (λ (l : List ℕ). l ++ number ∷ []) (s.out ∙ append-nil (those_out way course.last));
    silent = λ none. silent_popped way h number some (s.silent none);
    paced = s.paced;
    promised = s.promised;
    promises = s.promises;
    kept = s.kept;
    shown = s.shown;
  };
}

-- another one may come out
pub may_go_on : (course : Course) (of : calls.Stream) (way : Way) (number : ℕ) → HasCome course of way number → MayGoOn course.pacer
may_go_on course of way number come =
    let s = come.stands in
    let few = few_out course.waiting way.fed.decoded come.history s.waits in
    let most = s.read.few in
    let out : length come.history.out ≡ suc (count_of course way) = ap length s.out ∙ length_more (those_out way course.last) number in
    record {
      streams = s.paced.streams;
      script = of.script;
      stream = of.number;
      period = of.period;
      count = count_of course way;
      paced = s.paced.paced;
      legal = s.paced.legal;
      few = omega (arith, few, most, out);
    }

-- the course with what it keeps as the last one
abbrev pub with_last : Course → Option ℕ → Course
with_last course last = record course { last = last }

shifted : (xs : List ℕ) (x : ℕ) (ys : List ℕ) → (xs ++ x ∷ []) ++ ys ≡ xs ++ x ∷ ys
shifted [] x ys = refl
shifted (y ∷ xs) x ys = ap (λ (l : List ℕ). y ∷ l) (shifted xs x ys)

-- The one before it is told,
pub came_next : (course : Course) (pacer : Pacer) (of : calls.Stream) (way : Way) (h : order.History) (before number : ℕ) (time : Option ℕ)
    → ((script : List ScriptLine) (stream period count : ℕ) → IsPaced course.pacer script stream period count → IsSettled script stream period count time)
    → ((script : List ScriptLine) (stream period count : ℕ) → IsPaced course.pacer script stream period count → IsPaced pacer script stream period (count + 1))
    → Stands (with_last course (Some before)) of way h (number ∷ [])
    → IsAnswered (record course { pacer = pacer; last = Some number }) of way (turn.Out before time)
came_next course pacer of way h before number time settled paced s =
    let decoded = way.fed.decoded in
    let told = way.told in
    let many : length (told ++ before ∷ []) ≡ suc (length told) = length_more told before in
    let next : length ((told ++ before ∷ []) ++ number ∷ []) ≡ length (told ++ before ∷ []) + 1 =
    (let more = length_more (told ++ before ∷ []) number in omega (arith, more)) in
    let out = comes_out course.waiting way h before (number ∷ []) s.waits s.out in
    let picture = out.0 in
    let below = are_below course.waiting decoded h told (before ∷ number ∷ []) s.waits (s.out ∙ shifted told before (number ∷ [])) in
    let is : IsSettled of.script of.number of.period (suc (length told)) time =
    subst (λ n. IsSettled of.script of.number of.period n time) many (settled of.script of.number of.period (length (told ++ before ∷ [])) s.paced.paced) in
    record {
      after = with_told way before time picture;
      is = (picture, refl, out.1);
      stands = record {
        history = h;
        stands = record {
          read = s.read;
          at = s.at;
          failed = s.failed;
          waits = s.waits;
          ended = s.ended;
          calm = s.calm;
          out = s.out ∙ sym (append-nil ((told ++ before ∷ []) ++ number ∷ []));
          silent = λ none. some_not_none number none;
          paced = record {
            streams = s.paced.streams;
            legal = s.paced.legal;
            paced =
                subst (λ n. IsPaced pacer of.script of.number of.period n) (sym next) (paced of.script of.number of.period (length (told ++ before ∷ [])) s.paced.paced);
          };
          promised = s.promised;
          promises = promises_next of (length (told ++ before ∷ [])) _ way.promised way.promises next s.promises;
          kept = kept_next of before number (length told) (length (told ++ before ∷ [])) way.promised picture (omega (arith, many)) s.kept;
          shown = ap (λ (l : List (ShownPicture samples.Picture)). l ++ shown_if time picture) s.shown
              ∙ settled_next of.script of.number of.period (flat_map (picture_at decoded) told) picture (length told) time (pictures_count decoded told below) is
              ∙ ap (λ (l : List samples.Picture). shown_before of (Some number) (flat_map (picture_at decoded) told ++ l)) (sym out.1.is)
              ∙ ap (λ (l : List samples.Picture). shown_before of (Some number) l) (sym (pictures_more decoded told before));
        };
      };
    }

-- or there is none, and the tick is promised.
first_promise : (course : Course) (pacer : Pacer) (of : calls.Stream) (way : Way) (h : order.History) (number time : ℕ) → way.promised ≡ 0 → time ≤ no_time
    → IsPaced pacer of.script of.number of.period 1 → time ≡ promised of.script of.number of.period 1
    → Stands (with_last course None) of (record way { told = [] }) h (number ∷ [])
    → IsAnswered (record course { pacer = pacer; last = Some number; promised = time }) of (record way { told = [] }) (turn.Promise time)
first_promise course pacer of way h number time none fits paced is s =
    let some = promised_some s.paced.streams of.script of.number of.period s.paced.legal in
    let zeroth : way.promised < no_time = omega (arith, none) in
    let few = s.promises.before_last zeroth in
    record {
      after = with_promise (record way { told = [] }) time;
      is = (refl, record { later = omega (arith, none, some, is); few = omega (arith, few) });
      stands = record {
        history = h;
        stands = record {
          read = s.read;
          at = s.at;
          failed = s.failed;
          waits = s.waits;
          ended = s.ended;
          calm = s.calm;
          out = s.out;
          silent = λ none. some_not_none number none;
          paced = record { streams = s.paced.streams; legal = s.paced.legal; paced = paced };
          promised = refl;
          promises = record {
            fits = fits;
            most = omega (arith, few);
            before_last = λ less. omega (arith, few);
            before_tick = λ less tick. let same : time < time = subst (λ t. time < t) (sym is) tick in absurd (omega (arith, same));
          };
          kept = kept_by_tick of s.paced.streams time 1 (Some number) [] s.paced.legal refl is;
          shown = s.shown ∙ none_shown of.script of.number of.period;
        };
      };
    }

pub came_first : (course : Course) (pacer : Pacer) (of : calls.Stream) (way : Way) (h : order.History) (number time : ℕ) → time ≤ no_time
    → ((script : List ScriptLine) (stream period count : ℕ) → IsPaced course.pacer script stream period count → IsPaced pacer script stream period (count + 1))
    → ((script : List ScriptLine) (stream period count : ℕ) → IsPaced pacer script stream period count → time ≡ promised script stream period count)
    → Stands (with_last course None) of way h (number ∷ [])
    → IsAnswered (record course { pacer = pacer; last = Some number; promised = time }) of way (turn.Promise time)
came_first course pacer of way h number time fits paced is s = by_case (s.silent refl) where
  by_case : IsSilent way h (number ∷ []) → IsAnswered (record course { pacer = pacer; last = Some number; promised = time }) of way (turn.Promise time)
  by_case (inl first) =
      let T : List ℕ → Type 0 = λ told. Stands (with_last course None) of (record way { told = told }) h (number ∷ []) in
      let A : List ℕ → Type 0 =
      λ told. IsAnswered (record course { pacer = pacer; last = Some number; promised = time }) of (record way { told = told }) (turn.Promise time) in
      let empty = subst T first.0 s in
      let on = paced of.script of.number of.period 0 empty.paced.paced in
      subst A (sym first.0) (first_promise course pacer of way h number time first.1 fits on (is of.script of.number of.period 1 on) empty)
  by_case (inr done) = absurd (let some : number ∷ [] ≡ [] = done.2 in cc)

-- ---- no further picture is decoded

ended_depth : (h : order.History) (pictures : List Picture) → HasDepth h pictures → HasDepth (order.ending h) pictures
ended_depth h [] deep = deep
ended_depth h (last ∷ before) deep = deep

silent_ended : (way : Way) (h : order.History) → h.ended ≡ false → IsSilent way h [] → IsSilent way (order.ending h) []
silent_ended way h going (inl first) = inl first
silent_ended way h going (inr done) = absurd (let k : true ≡ false = sym done.0 ∙ going in cc)

-- The course ends for this reason.
pub stands_ended : (course : Course) (w : Waiting) (of : calls.Stream) (way : Way) (h : order.History) (reason : Ending) → course.ending ≡ None
    → way.given ≡ None → IsLeft course.acceptor reason way.fed way.failed
    → waiting.StandsFor w (order.ending h) → Stands course of way h [] → Stands (record course { ending = Some reason; waiting = w }) of way (order.ending h) []
stands_ended course w of way h reason going not_given left waits s =
    let G : Option Picture → Type 0 = λ g. IsAt course.acceptor course.unsettled (Some reason) way.fed g way.failed in
    record {
      read = s.read;
      at = subst G (sym not_given) left;
      failed = λ is. refl;
      waits = record { stands = waits; pushed = s.waits.pushed; period = s.waits.period; depth = ended_depth h (pictures_in way.fed.decoded) s.waits.depth };
      ended = refl;
      calm = λ is. not_true (sym (ap is_some not_given) ∙ is);
      out = s.out;
      silent = λ none. silent_ended way h (s.ended ∙ ap is_some going) (s.silent none);
      paced = s.paced;
      promised = s.promised;
      promises = s.promises;
      kept = s.kept;
      shown = s.shown;
    }

pub at_rest : (course : Course) (way : Way) → course.ending ≡ None → way.given ≡ None
    → IsAt course.acceptor course.unsettled course.ending way.fed way.given way.failed → acceptor.StandsFor course.acceptor (past_of way.fed)
at_rest course way going not_given at =
    let E : Option Ending → Type 0 = λ e. IsAt course.acceptor course.unsettled e way.fed way.given way.failed in
    let G : Option Picture → Type 0 = λ g. IsAt course.acceptor course.unsettled None way.fed g way.failed in
    subst G not_given (subst E going at)

-- It is stopped.
pub stops : (course : Course) (w : Waiting) (of : calls.Stream) (way : Way) (reason : Ending) → (is : IsStopped course of way reason)
    → waiting.StandsFor w (order.ending is.history)
    → Stands (record course { ending = Some reason; waiting = w }) of way (order.ending is.history) []
stops course w of way reason is waits =
    stands_ended course w of way is.history reason is.going is.not_given
    (record { past = past_of way.fed; stands = at_rest course way is.going is.not_given is.stands.at; text = refl; ended = refl; has_ended = is.has_ended }) waits is.stands

pub is_out : (course : Course) (w : Waiting) (of : calls.Stream) (way : Way) (h : order.History) (reason : Ending) → course.ending ≡ Some reason
    → way.given ≡ None → order.has_settled h ≡ false
    → waiting.StandsFor w h → Stands course of way h [] → IsOut (record course { waiting = w }) of way reason
is_out course w of way h reason ending not_given none waits s = record {
  history = h;
  stands = stands_same course course.acceptor w of way h s.at waits s;
  none = none;
  ending = ending;
  not_given = not_given;
}

-- ---- behind the last picture

-- It is told,
pub last_told : (course : Course) (of : calls.Stream) (way : Way) (h : order.History) (number : ℕ) (reason : Ending) (time : Option ℕ)
    → order.has_settled h ≡ false → course.ending ≡ Some reason
    → ((script : List ScriptLine) (stream period count : ℕ) → IsPaced course.pacer script stream period count → IsLast script stream period count time)
    → Stands (with_last course (Some number)) of way h [] → IsAnswered (with_last course None) of way (turn.Out number time)
last_told course of way h number reason time none ending settled s =
    let decoded = way.fed.decoded in
    let told = way.told in
    let many : length (told ++ number ∷ []) ≡ suc (length told) = length_more told number in
    let all : (told ++ number ∷ []) ++ [] ≡ told ++ number ∷ [] = append-nil (told ++ number ∷ []) in
    let count : length ((told ++ number ∷ []) ++ []) ≡ length (told ++ number ∷ []) = ap length all in
    let out = comes_out course.waiting way h number [] s.waits s.out in
    let picture = out.0 in
    let below = are_below course.waiting decoded h told (number ∷ []) s.waits (s.out ∙ all) in
    let is : IsLast of.script of.number of.period (suc (length told)) time =
    subst (λ n. IsLast of.script of.number of.period n time) many (settled of.script of.number of.period (length (told ++ number ∷ [])) s.paced.paced) in
    record {
      after = with_told way number time picture;
      is = (picture, refl, out.1);
      stands = record {
        history = h;
        stands = record {
          read = s.read;
          at = s.at;
          failed = s.failed;
          waits = s.waits;
          ended = s.ended;
          calm = s.calm;
          out = s.out ∙ sym (append-nil ((told ++ number ∷ []) ++ []));
          silent = λ last. inr (s.ended ∙ ap is_some ending, none, refl);
          paced =
              record { streams = s.paced.streams; legal = s.paced.legal; paced = subst (λ n. IsPaced course.pacer of.script of.number of.period n) (sym count) s.paced.paced };
          promised = s.promised;
          promises = subst (λ n. ArePromises of n way.promised way.promises) (sym count) s.promises;
          kept = tt;
          shown = ap (λ (l : List (ShownPicture samples.Picture)). l ++ shown_if time picture) s.shown
              ∙ settled_last of.script of.number of.period (flat_map (picture_at decoded) told) picture (length told) time (pictures_count decoded told below) is
              ∙ ap (λ (l : List samples.Picture). shown_before of None (flat_map (picture_at decoded) told ++ l)) (sym out.1.is)
              ∙ ap (λ (l : List samples.Picture). shown_before of None l) (sym (pictures_more decoded told number));
        };
      };
    }

-- and then the last promise is made,
pub last_promised : (course : Course) (of : calls.Stream) (way : Way) (h : order.History) (reason : Ending) → order.has_settled h ≡ false
    → course.ending ≡ Some reason → course.promised < no_time
    → Stands (with_last course None) of way h [] → IsAnswered (record course { last = None; promised = no_time }) of way (turn.Promise no_time)
last_promised course of way h reason none ending less s =
    let count = length (way.told ++ []) in
    let later : way.promised < no_time = (let p = s.promised in omega (arith, less, p)) in
    let promises = promises_last of count way.promised way.promises later s.promises in
    let few = promises.1 in
    let same : count ≡ length way.told = ap length (append-nil way.told) in
    record {
      after = with_promise way no_time;
      is = (refl, record { later = later; few = omega (arith, few, same) });
      stands = record {
        history = h;
        stands = record {
          read = s.read;
          at = s.at;
          failed = s.failed;
          waits = s.waits;
          ended = s.ended;
          calm = s.calm;
          out = s.out;
          silent = λ last. inr (s.ended ∙ ap is_some ending, none, refl);
          paced = s.paced;
          promised = refl;
          promises = promises.0;
          kept = tt;
          shown = s.shown;
        };
      };
    }

-- and nothing is left.
pub all_over : (course : Course) (of : calls.Stream) (way : Way) (h : order.History) (reason : Ending) → order.has_settled h ≡ false
    → course.ending ≡ Some reason → way.given ≡ None
    → no_time ≤ course.promised → Stands (with_last course None) of way h [] → IsAnswered (with_last course None) of way (turn.Over reason)
all_over course of way h reason none ending not_given least s =
    let E : Option Ending → Type 0 = λ e. IsAt course.acceptor course.unsettled e way.fed way.given way.failed in
    let G : Option Picture → Type 0 = λ g. IsAt course.acceptor course.unsettled (Some reason) way.fed g way.failed in
    let left : IsLeft course.acceptor reason way.fed way.failed = subst G not_given (subst E ending s.at) in
    let all = all_out course.waiting way.fed.decoded h s.waits (s.ended ∙ ap is_some ending) none in
    let told : way.told ≡ h.out = sym (s.out ∙ append-nil (way.told ++ []) ∙ append-nil way.told) in
    record {
      after = way;
      is = (
        refl,
        record {
          ended = left.has_ended;
          told = told ∙ all.0;
          all = ap length told ∙ all.1;
          shown = s.shown ∙ ap (λ (l : List ℕ). shown_before of None (flat_map (picture_at way.fed.decoded) l)) (told ∙ all.0);
          promised = (let p = s.promised in let most = s.promises.fits in omega (arith, least, most, p));
        },
      );
      stands = record { history = h; stands = s };
    }

-- ---- the acceptor answers

room_of : (course : Course) (of : calls.Stream) (way : Way) (h : order.History) → order.has_settled h ≡ false → Stands course of way h [] → HasRoom way
room_of course of way h none s =
    let room = room_left course.waiting way.fed.decoded h s.waits none in
    let out : length h.out ≡ count_of course way = ap length (s.out ∙ append-nil (those_out way course.last)) in
    let some = count_came way course.last in
    omega (arith, room, out, some)

-- More bytes are wanted.
pub wants_more : (course : Course) (a : Acceptor) (w : Waiting) (of : calls.Stream) (way : Way) (h : order.History) → course.ending ≡ None → way.given ≡ None
    → acceptors.IsHungry (past_of way.fed)
    → order.has_settled h ≡ false → acceptor.StandsFor a (past_of way.fed) → waiting.StandsFor w h → Stands course of way h []
    → IsAnswered (record course { acceptor = a; waiting = w }) of way turn.Hungry
wants_more course a w of way h going not_given hungry none stands waits s =
    let E : Option Ending → Type 0 = λ e. IsAt a course.unsettled e way.fed way.given way.failed in
    let G : Option Picture → Type 0 = λ g. IsAt a course.unsettled None way.fed g way.failed in
    record {
      after = way;
      is = (refl, hungry, room_of course of way h none s);
      stands = record { history = h; stands = stands_same course a w of way h (subst E (sym going) (subst G (sym not_given) stands)) waits s };
    }

not_failed : (failed : Option Picture) → (is_some failed ≡ true → false ≡ true) → failed ≡ None
not_failed None never = refl
not_failed (Some picture) never = not_true (never refl)

-- A picture is given.
pub is_given : (course : Course) (a : Acceptor) (w : Waiting) (of : calls.Stream) (way : Way) (h : order.History) (unsettled : Unsettled) (poc : ℤ)
    → poc ≡ unsettled.begun.poc → course.ending ≡ None → order.has_settled h ≡ false
    → (picture : Picture) × acceptors.IsNext (past_of way.fed) picture × acceptors.Shows unsettled picture × acceptor.StandsFor a (acceptors.giving (past_of way.fed) picture)
    → acceptors.IsDecodable (past_of way.fed) unsettled → waiting.StandsFor w h → Stands course of way h []
    → IsAnswered (record course { acceptor = a; waiting = w; unsettled = place_of poc unsettled.begun.period unsettled.depth }) of way (turn.Decode unsettled)
is_given course a w of way h unsettled poc count going none (picture, next, shows, stands) decodable waits s =
    let place = place_of poc unsettled.begun.period unsettled.depth in
    let E : Option Ending → Type 0 = λ e. IsAt a place e way.fed (Some picture) way.failed in
    let small = decodable.depth in
    let deep = shows.depth in
    record {
      after = with_given way picture;
      is = (
        picture,
        refl,
        record {
          next = next;
          shows = shows;
          decodable = decodable;
          going = not_failed way.failed (λ is. sym (ap is_some going) ∙ s.failed is);
          room = room_of course of way h none s;
        },
      );
      stands = record {
        history = h;
        stands = record {
          read = s.read;
          at =
              subst E (sym going) (record { stands = stands; next = next; small = omega (arith, small, deep); place = place_is unsettled picture poc shows count });
          failed = s.failed;
          waits = record { stands = waits; pushed = s.waits.pushed; period = s.waits.period; depth = s.waits.depth };
          ended = s.ended;
          calm = λ is. none;
          out = s.out;
          silent = s.silent;
          paced = s.paced;
          promised = s.promised;
          promises = s.promises;
          kept = s.kept;
          shown = s.shown;
        };
      };
    }

-- ---- the picture is settled

-- what is known of it
pub unsettled_is : (course : Course) (way : Way) (picture : Picture) → way.given ≡ Some picture
    → IsAt course.acceptor course.unsettled course.ending way.fed way.given way.failed
    → (course.ending ≡ None) × IsUnsettled course.acceptor course.unsettled way.fed picture
unsettled_is course way picture given at =
    let G : Option Picture → Type 0 = λ g. IsAt course.acceptor course.unsettled course.ending way.fed g way.failed in
    by_ending course.ending refl (subst G given at)
  where
    by_ending : (e : Option Ending) → course.ending ≡ e → IsAt course.acceptor course.unsettled e way.fed (Some picture) way.failed
        → (course.ending ≡ None) × IsUnsettled course.acceptor course.unsettled way.fed picture
    by_ending None is here = (is, here)
    by_ending (Some reason) is here = absurd here

silent_joined : (way : Way) (h now : order.History) (one : Decoded) → h.ended ≡ false → IsSilent way h [] → IsSilent (with_decoded way one) now []
silent_joined way h now one going (inl first) = inl first
silent_joined way h now one going (inr done) = absurd (let k : true ≡ false = sym done.0 ∙ going in cc)

-- It is whole.
pub stands_decoded : (course : Course) (a : Acceptor) (w : Waiting) (place : Option Place) (of : calls.Stream) (way : Way) (h now : order.History) (one : Decoded) → course.ending ≡ None
    → acceptors.IsNext (past_of way.fed) one.picture → acceptor.StandsFor a (past_of (showing way.fed one))
    → Waits w (one ∷ way.fed.decoded) now → now.out ≡ h.out → now.ended ≡ h.ended → Stands course of way h []
    → Stands (record course { acceptor = a; unsettled = place; waiting = w; decoded = course.decoded + 1 }) of (with_decoded way one) now []
stands_decoded course a w place of way h now one going next stands waits out ended s =
    let E : Option Ending → Type 0 = λ e. IsAt a place e (showing way.fed one) None way.failed in
    let below = are_below course.waiting way.fed.decoded h way.told (option_to_list course.last) s.waits (s.out ∙ append-nil (those_out way course.last)) in
    record {
      read = read_more course.fed course.decoded way.fed one s.read next;
      at = subst E (sym going) stands;
      failed = s.failed;
      waits = waits;
      ended = ended ∙ s.ended;
      calm = λ is. not_true is;
      out = out ∙ s.out;
      silent = λ none. silent_joined way h now one (s.ended ∙ ap is_some going) (s.silent none);
      paced = s.paced;
      promised = s.promised;
      promises = s.promises;
      kept = s.kept;
      shown = s.shown ∙ ap (shown_before of course.last) (sym (pictures_old one way.fed.decoded way.told below));
    }

-- It isn't.
pub stands_failed : (course : Course) (a : Acceptor) (w : Waiting) (place : Option Place) (of : calls.Stream) (way : Way) (h : order.History) (picture : Picture) (offset : ℕ) → course.ending ≡ None
    → acceptors.IsNext (past_of way.fed) picture → offset ≡ picture.offset
    → acceptor.StandsFor a (acceptors.settling (acceptors.giving (past_of way.fed) picture) false) → waiting.StandsFor w (order.ending h)
    → Stands course of way h []
    → Stands (record course { acceptor = a; unsettled = place; waiting = w; ending = Some (ending.Refused offset false) }) of (with_failure way picture) (order.ending h) []
stands_failed course a w place of way h picture offset going next is stands waits s = record {
  read = s.read;
  at = left_broken a way.fed picture offset next is stands;
  failed = λ failed. refl;
  waits = record { stands = waits; pushed = s.waits.pushed; period = s.waits.period; depth = ended_depth h (pictures_in way.fed.decoded) s.waits.depth };
  ended = refl;
  calm = λ some. not_true some;
  out = s.out;
  silent = λ last. silent_ended way h (s.ended ∙ ap is_some going) (s.silent last);
  paced = s.paced;
  promised = s.promised;
  promises = s.promises;
  kept = s.kept;
  shown = s.shown;
}

-- ---- between the calls of a turn

pub same_course : (course new : Course) (of : calls.Stream) (way : Way) → new ≡ course → StandsFor course of way → StandsFor new of way
same_course course new of way same at = subst (λ (c : Course). StandsFor c of way) (sym same) at

pub on_err_any : {A E : Type 0} (r : Result A E) (P : Type 0) → P → OnErr r P
on_err_any (Ok value) P p = tt
on_err_any (Err fault) P p = p

abbrev MaySettle : Waiting → Option ℕ → Type 0
MaySettle w r = (h : order.History) → waiting.StandsFor w h → (r ≡ None) ↔ (order.has_settled h ≡ false)

abbrev Pops : Waiting → Waiting → Option ℕ → Type 0
Pops w new r = (h : order.History) → waiting.StandsFor w h → waiting.StandsFor new (order.popping h r)

-- A picture was popped.
pub next_come : (course : Course) (w : Waiting) (of : calls.Stream) (way : Way) (number : ℕ) (r : Option ℕ) → r ≡ Some number → MaySettle course.waiting r
    → Pops course.waiting w r
    → StandsFor course of way → way.given ≡ None → HasCome (record course { waiting = w }) of way number
next_come course w of way number r is settle pops at not_given =
    let h = at.history in
    let here = at.stands.waits.stands in
    has_come course w of way h number not_given (λ none. some_not_none number (sym is ∙ (settle h here).1 none))
    (subst (λ (o : Option ℕ). waiting.StandsFor w (order.popping h o)) is (pops h here)) at.stands

-- None was.
pub none_come : (course : Course) (w : Waiting) (of : calls.Stream) (way : Way) (r : Option ℕ) (at : StandsFor course of way) → r ≡ None
    → MaySettle course.waiting r → Pops course.waiting w r
    → (order.has_settled at.history ≡ false) × waiting.StandsFor w at.history
none_come course w of way r at is settle pops =
    let h = at.history in
    let here = at.stands.waits.stands in
    ((settle h here).0 is, subst (λ (o : Option ℕ). waiting.StandsFor w (order.popping h o)) is (pops h here))

-- It is stopped.
pub has_stopped : (course new : Course) (of : calls.Stream) (way : Way) (reason : Ending) → IsStopped course of way reason
    → ((h : order.History) → waiting.StandsFor course.waiting h → waiting.StandsFor new.waiting (order.ending h))
    → new ≡ record course { ending = Some reason; waiting = new.waiting } → StandsFor new of way × (new.ending ≡ Some reason)
has_stopped course new of way reason is waits kept = (
  record { history = order.ending is.history; stands = subst (λ (c : Course). Stands c of way (order.ending is.history) []) (sym kept) (stops course new.waiting of way reason is (waits is.history is.stands.waits.stands)) },
  ap (λ (c : Course). c.ending) kept,
)

pub rest_of : (course : Course) (w : Waiting) (of : calls.Stream) (way : Way) (reason : Ending) (r : Option ℕ) → StandsFor course of way
    → course.ending ≡ Some reason → way.given ≡ None → r ≡ None
    → MaySettle course.waiting r → Pops course.waiting w r → IsOut (record course { waiting = w }) of way reason
rest_of course w of way reason r at ending not_given is settle pops =
    let none = none_come course w of way r at is settle pops in
    is_out course w of way at.history reason ending not_given none.0 none.1 at.stands

-- The acceptor answered this, and stands for it.
pub record Answered (old new : Acceptor) (told : Next) : Type 0 where
  pub answer : (past : acceptors.Past) → acceptor.StandsFor old past → acceptors.MayAsk past → acceptors.IsAnswer past told
  pub stands : (past : acceptors.Past) → acceptor.StandsFor old past → acceptors.MayAsk past → acceptor.StandsBehindAnswer new past told
  pub decodable : (past : acceptors.Past) → acceptor.StandsFor old past → acceptors.MayAsk past → acceptors.IsDecodableIn past told

pub asked : (course : Course) (of : calls.Stream) (way : Way) → StandsFor course of way → course.ending ≡ None → way.given ≡ None
    → (past : acceptors.Past) × acceptor.StandsFor course.acceptor past × acceptors.MayAsk past
asked course of way at going not_given = (past_of way.fed, at_rest course way going not_given at.stands.at, may_ask way.fed)

module _ (course : Course) (a : Acceptor) (w : Waiting) (of : calls.Stream) (way : Way) (r : Option ℕ) (at : StandsFor course of way) (going : course.ending ≡ None) (not_given : way.given ≡ None) (is : r ≡ None)
    (settle : MaySettle course.waiting r) (pops : Pops course.waiting w r) where
  asks : acceptor.StandsFor course.acceptor (past_of way.fed)
  asks = at_rest course way going not_given at.stands.at

  stands_at : acceptor.StandsFor a (past_of way.fed) → IsAt a course.unsettled course.ending way.fed way.given way.failed
  stands_at stands =
      let E : Option Ending → Type 0 = λ e. IsAt a course.unsettled e way.fed way.given way.failed in
      let G : Option Picture → Type 0 = λ g. IsAt a course.unsettled None way.fed g way.failed in
      subst E (sym going) (subst G (sym not_given) stands)

  pub turn_hungry : Answered course.acceptor a next.Hungry → IsAnswered (record course { acceptor = a; waiting = w }) of way turn.Hungry
  turn_hungry told =
      let none = none_come course w of way r at is settle pops in
      wants_more course a w of way at.history going not_given (told.answer (past_of way.fed) asks (may_ask way.fed)) none.0 (told.stands (past_of way.fed) asks (may_ask way.fed)) none.1 at.stands

  stopped_by : (reason : Ending) → (IsTrue way → HasEnded reason way.fed) → acceptor.StandsFor a (past_of way.fed)
      → IsStopped (record course { acceptor = a; waiting = w }) of way reason
  stopped_by reason has_ended stands =
      let none = none_come course w of way r at is settle pops in
      record {
        history = at.history;
        stands = stands_same course a w of way at.history (stands_at stands) none.1 at.stands;
        none = none.0;
        going = going;
        not_given = not_given;
        has_ended = has_ended;
      }

  pub turn_end : Answered course.acceptor a next.End → IsStopped (record course { acceptor = a; waiting = w }) of way ending.Whole
  turn_end told =
      stopped_by ending.Whole (λ are. ended_whole way.fed are.whole (told.answer (past_of way.fed) asks (may_ask way.fed))) (told.stands (past_of way.fed) asks (may_ask way.fed))

  pub turn_refused : (offset : ℕ) (large : Bool) → Answered course.acceptor a (next.Refused offset large)
      → IsStopped (record course { acceptor = a; waiting = w }) of way (ending.Refused offset large)
  turn_refused offset large told =
      stopped_by (ending.Refused offset large) (λ are. ended_refused way.fed offset large are.whole (told.answer (past_of way.fed) asks (may_ask way.fed))) (told.stands (past_of way.fed) asks (may_ask way.fed))

  pub turn_given : (unsettled : Unsettled) → Answered course.acceptor a (next.Picture unsettled)
      → IsAnswered (record course { acceptor = a; waiting = w; unsettled = place_of unsettled.begun.poc unsettled.begun.period unsettled.depth }) of way (turn.Decode unsettled)
  turn_given unsettled told =
      let none = none_come course w of way r at is settle pops in
      is_given course a w of way at.history unsettled unsettled.begun.poc refl going none.0 (told.stands (past_of way.fed) asks (may_ask way.fed)) (told.decodable (past_of way.fed) asks (may_ask way.fed)) none.1 at.stands

  pub turn_untouched : ((past : acceptors.Past) → acceptor.StandsFor course.acceptor past → acceptor.StandsFor a past)
      → StandsFor (record course { acceptor = a; waiting = w }) of way
  turn_untouched same =
      let none = none_come course w of way r at is settle pops in
      record { history = at.history; stands = stands_same course a w of way at.history (stands_at (same (past_of way.fed) asks)) none.1 at.stands }

-- ---- what is kept of the picture that was given

pub one_place : (p : Place) (old result : Option Place) (poc : ℤ) (period : Bool) (depth : ℕ) → result ≡ old → result ≡ Some p
    → old ≡ place_of poc period depth → p ≡ record { poc = poc; period = period; depth = depth }
one_place p old result poc period depth same is kept = same_place p (record { poc = poc; period = period; depth = depth }) (sym is ∙ same ∙ kept) where
  same_place : (x y : Place) → Some x ≡ Some y → x ≡ y
  same_place x y e = cc

-- ---- what is known of a way

pub ways_are_small : WaysAreSmall
ways_are_small course of way at =
    let s = at.stands in
    let out : length at.history.out ≡ count_of course way = ap length (s.out ∙ append-nil (those_out way course.last)) in
    let some : count_of course way ≡ length way.told + length (option_to_list course.last) = length-append way.told (option_to_list course.last) in
    let few = few_out course.waiting way.fed.decoded at.history s.waits in
    let most = s.promises.most in
    let one = count_came way course.last in
    record {
      bytes = s.read.short;
      decoded = s.read.few;
      told = omega (arith, out, some, few);
      promises = omega (arith, most, one);
    }

pub given_are_next : GivenAreNext
given_are_next course of way picture at given =
    let is = unsettled_is course way picture given at.stands.at in
    (is.1.next, not_failed way.failed (λ failed. sym (ap is_some is.0) ∙ at.stands.failed failed))
