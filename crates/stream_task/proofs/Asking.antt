-- A task is fed: what it stands for then.
use Rattle.std.proofs.Common.{◌≡◌, ℕ, List, [], ◌∷◌, ap, subst}
use Rattle.access_units.proofs.LastAnswer.{next_on}
use Rattle.access_units.specs.declared.acceptor.Unsettled.{Unsettled}
use Rattle.accepted_pictures.specs.Streams as streams
use Rattle.stream_calls.specs.Laws.{feeding}
use Rattle.stream_calls.specs.StreamCalls.{Fed}
use Rattle.stream_course.specs.Way.{Way, fed_on}
use Rattle.stream_task.specs.Keeping.{Renders, Wait}
use Rattle.stream_task.specs.Tasks.{MayFeed}
use Rattle.stream_task.specs.declared.objects.Objects.{Objects}
use Rattle.stream_task.specs.declared.slots.Slots.{Slots}

abbrev fed_of : Way → Fed
fed_of way = record { bytes = way.fed.text; ended = way.fed.ended }

-- What was fed of the file is so behind more bytes, too.
pub fed_still : (way : Way) (fed : Fed) (bytes : List ℕ) → fed ≡ fed_of way → feeding fed bytes ≡ fed_of (fed_on way bytes)
fed_still way fed [] is = ap (λ (f : Fed). feeding f []) is
fed_still way fed (byte ∷ bytes) is = ap (λ (f : Fed). feeding f (byte ∷ bytes)) is

-- They may be fed to the course.
pub may_be_fed : (way : Way) (fed : Fed) (bytes : List ℕ) → fed ≡ fed_of way → MayFeed fed bytes → streams.MayFeed way.fed bytes
may_be_fed way fed bytes is may =
    let kept = subst (λ (f : Fed). MayFeed f bytes) is may in
    record { not_ended = kept.not_ended; room = kept.room }

-- The pictures that wait still do.
pub wait_fed : (slots : Slots) (objects : Objects) (way : Way) (kept bytes : List ℕ) → Wait slots objects way kept → Wait slots objects (fed_on way bytes) kept
wait_fed slots objects way kept [] wait = record { places = wait.places; made = wait.made; each = wait.each; few = wait.few }
wait_fed slots objects way kept (byte ∷ bytes) wait = record { places = wait.places; made = wait.made; each = wait.each; few = wait.few }

-- The picture that is to be decoded still is.
pub renders_fed : (slots : Slots) (way : Way) (picture : Unsettled) (surface : ℕ) (bytes : List ℕ)
    → streams.MayFeed way.fed bytes → Renders slots way picture surface → Renders slots (fed_on way bytes) picture surface
renders_fed slots way picture surface [] may renders = record {
  one = renders.one;
  given = renders.given;
  next = next_on (streams.past_of way.fed) [] renders.one (record { not_ended = may.not_ended; room = may.room }) renders.next;
  shows = renders.shows;
  decodable = let d = renders.decodable in
      record { info = d.info; baseline = d.baseline; size = d.size; depth = d.depth; frame = d.frame; named = d.named; sequence = d.sequence; one_size = d.one_size; none_at_idr = d.none_at_idr; apart = d.apart };
  going = renders.going;
  within = renders.within;
  free = renders.free;
  apart = renders.apart;
}
renders_fed slots way picture surface (byte ∷ bytes) may renders = record {
  one = renders.one;
  given = renders.given;
  next = next_on (streams.past_of way.fed) (byte ∷ bytes) renders.one (record { not_ended = may.not_ended; room = may.room }) renders.next;
  shows = renders.shows;
  decodable = let d = renders.decodable in
      record { info = d.info; baseline = d.baseline; size = d.size; depth = d.depth; frame = d.frame; named = d.named; sequence = d.sequence; one_size = d.one_size; none_at_idr = d.none_at_idr; apart = d.apart };
  going = renders.going;
  within = renders.within;
  free = renders.free;
  apart = renders.apart;
}
