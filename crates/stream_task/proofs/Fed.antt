-- A task is fed, or its bytes aren't taken: what it stands for then.
use Rattle.std.proofs.Common.{◌≡◌, ℕ, List, [], ◌∷◌, count_by, length, Result, Ok, Err, refl, sym, ◌∙◌}
use Rattle.std.specs.Prelude.{OnErr, OnOk}
use Rattle.accepted_pictures.specs.Streams as streams
use Rattle.device_lock.specs.declared.view.View.{View}
use Rattle.driver_model.specs.declared.items.Item.{Item}
use Rattle.player_laws.specs.Room.{given_in}
use Rattle.stream_calls.specs.Counted.{is_counted}
use Rattle.stream_calls.specs.Laws.{feeding}
use Rattle.stream_calls.specs.StreamCalls.{Fed, Stream}
use Rattle.stream_course.specs.Standing as course
use Rattle.stream_course.specs.Way.{Way, fed_on}
use Rattle.stream_course.specs.declared.course.Course.{Course}
use Rattle.stream_task.specs.Keeping.{AreWithin, IsAbout, StandsFor}
use Rattle.stream_task.specs.Tasks.{MayFeed}
use Rattle.stream_task.specs.declared.phase.Phase.{Phase}
use Rattle.stream_task.specs.declared.phase.Phase.TheVariants as phase
use Rattle.stream_task.specs.declared.task.StreamTask.{StreamTask}
use Rattle.stream_task.proofs.Asking.{fed_still, may_be_fed, renders_fed, wait_fed}

pub on_ok : {A E : Type 0} (r : Result A E) (P Q : Type 0) → (P → Q) → OnOk r P → OnOk r Q
on_ok (Ok value) P Q then is = then is
on_ok (Err refusal) P Q then is = tt

pub on_err : {A E : Type 0} (r : Result A E) (P Q : Type 0) → (P → Q) → OnErr r P → OnErr r Q
on_err (Ok value) P Q then is = tt
on_err (Err refusal) P Q then is = then is

-- ---- another course

about_still : (p : Phase) (start : StreamTask) (k : Course) (way : Way) → IsAbout p start way → IsAbout p (record start { course = k }) way
about_still phase.Asking start k way about = record { not_given = about.not_given; wait = about.wait }
about_still (phase.Rendering picture surface) start k way about = record { renders = about.renders; wait = about.wait }
about_still (phase.Mixing surface time) start k way about = record { not_given = about.not_given; mixes = about.mixes; told = about.told; device = about.device; wait = about.wait }
about_still (phase.Displaying time) start k way about = record { not_given = about.not_given; queue = about.queue; output = about.output; wait = about.wait }
about_still (phase.Promising time) start k way about = record { not_given = about.not_given; wait = about.wait }
about_still (phase.Done verdict) start k way about = tt

within_still : (p : Phase) (start : StreamTask) (k : Course) (way : Way) (creates calls : ℕ) → AreWithin p start way creates calls → AreWithin p (record start { course = k }) way creates calls
within_still phase.Asking start k way creates calls within = within
within_still (phase.Rendering picture surface) start k way creates calls within = within
within_still (phase.Mixing surface time) start k way creates calls within = within
within_still (phase.Displaying time) start k way creates calls within = within
within_still (phase.Promising time) start k way creates calls within = within
within_still (phase.Done verdict) start k way creates calls within = within

pub stands_still : (start : StreamTask) (k : Course) (of : Stream) (fed : Fed) (pass : View Item) (stands : StandsFor start of fed pass)
    → course.StandsFor k of stands.way → StandsFor (record start { course = k }) of fed pass
stands_still start k of fed pass stands new = record {
  knows = stands.knows;
  number = stands.number;
  turn = stands.turn;
  made = stands.made;
  way = stands.way;
  course = new;
  fed_is = stands.fed_is;
  about = about_still start.phase start k stands.way stands.about;
  few = record {
    renders = stands.few.renders;
    promises = stands.few.promises;
    within = within_still start.phase start k stands.way (given_in pass.own) (count_by is_counted pass.own) stands.few.within;
  };
}

-- ---- more bytes

about_fed : (p : Phase) (start : StreamTask) (way : Way) (bytes : List ℕ) → streams.MayFeed way.fed bytes → IsAbout p start way → IsAbout p start (fed_on way bytes)
about_fed phase.Asking start way bytes may about = record { not_given = about.not_given; wait = wait_fed start.slots start.objects way [] bytes about.wait }
about_fed (phase.Rendering picture surface) start way bytes may about =
    record { renders = renders_fed start.slots way picture surface bytes may about.renders; wait = wait_fed start.slots start.objects way [] bytes about.wait }
about_fed (phase.Mixing surface time) start way bytes may about = record {
  not_given = about.not_given;
  mixes = about.mixes;
  told = about.told;
  device = about.device;
  wait = wait_fed start.slots start.objects way (about.mixes.number ∷ []) bytes about.wait;
}
about_fed (phase.Displaying time) start way bytes may about = record {
  not_given = about.not_given;
  queue = about.queue;
  output = about.output;
  wait = wait_fed start.slots start.objects way [] bytes about.wait;
}
about_fed (phase.Promising time) start way bytes may about = record { not_given = about.not_given; wait = wait_fed start.slots start.objects way [] bytes about.wait }
about_fed (phase.Done verdict) start way bytes may about = tt

within_fed : (p : Phase) (start : StreamTask) (way : Way) (bytes : List ℕ) (creates calls : ℕ) → AreWithin p start way creates calls → AreWithin p start (fed_on way bytes) creates calls
within_fed phase.Asking start way [] creates calls within = within
within_fed phase.Asking start way (byte ∷ bytes) creates calls within = within
within_fed (phase.Rendering picture surface) start way [] creates calls within = within
within_fed (phase.Rendering picture surface) start way (byte ∷ bytes) creates calls within = within
within_fed (phase.Mixing surface time) start way [] creates calls within = within
within_fed (phase.Mixing surface time) start way (byte ∷ bytes) creates calls within = within
within_fed (phase.Displaying time) start way [] creates calls within = within
within_fed (phase.Displaying time) start way (byte ∷ bytes) creates calls within = within
within_fed (phase.Promising time) start way [] creates calls within = within
within_fed (phase.Promising time) start way (byte ∷ bytes) creates calls within = within
within_fed (phase.Done verdict) start way [] creates calls within = within
within_fed (phase.Done verdict) start way (byte ∷ bytes) creates calls within = within

as_many : (way : Way) (bytes : List ℕ) → length (fed_on way bytes).fed.decoded ≡ length way.fed.decoded
as_many way [] = refl
as_many way (byte ∷ bytes) = refl

pub stands_fed : (start : StreamTask) (k : Course) (of : Stream) (fed : Fed) (pass : View Item) (bytes : List ℕ) (stands : StandsFor start of fed pass)
    → MayFeed fed bytes
    → (streams.MayFeed stands.way.fed bytes → course.StandsFor k of (fed_on stands.way bytes))
    → StandsFor (record start { course = k }) of (feeding fed bytes) pass
stands_fed start k of fed pass bytes stands may new =
    let way = stands.way in
    let after = fed_on way bytes in
    let may_feed = may_be_fed way fed bytes stands.fed_is may in
    let about = about_still start.phase start k after (about_fed start.phase start way bytes may_feed stands.about) in
    let within = within_still start.phase start k after (given_in pass.own) (count_by is_counted pass.own) (within_fed start.phase start way bytes (given_in pass.own) (count_by is_counted pass.own) stands.few.within) in
    record {
      knows = stands.knows;
      number = stands.number;
      turn = stands.turn;
      made = stands.made;
      way = after;
      course = new may_feed;
      fed_is = fed_still way fed bytes stands.fed_is;
      about = about;
      few = record { renders = stands.few.renders ∙ sym (as_many way bytes); promises = stands.few.promises; within = within };
    }
