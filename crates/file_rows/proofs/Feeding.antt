-- What turns and fed bytes do to where a course stands.
use Rattle.std.proofs.Common.{◌≡◌, ℕ, ◌+◌, ◌≤◌, Bool, true, false, List, [], ◌∷◌, length, slice_range, drop, ◌-◌, ◌<◌, None, Some, refl, ◌∙◌, ap, subst, arith, length-append}
use Rattle.std.proofs.lemmas.List.{length-drop, length-take}
use Rattle.accepted_pictures.specs.Streams.{MayFeed}
use Rattle.stream_course.specs.declared.course.Course.{Course}
use Rattle.stream_course.specs.declared.course.Turn.{Turn}
use Rattle.stream_course.specs.declared.course.Turn.TheVariants as turn
use Rattle.stream_course.specs.Standing.{IsAnswered, StandsFor}
use Rattle.stream_course.specs.Way.{Way, fed_on, with_decoded, with_given}
use Rattle.stream_calls.specs.StreamCalls.{Stream}
use Rattle.accepted_pictures.specs.Files.{Decoded}
use Rattle.access_units.specs.Pictures.{Picture}
use Rattle.vd_plane.specs.declared.picture.Picture as samples
use Rattle.file_rows.specs.Courses.{StandsAt, Stays}

pub may_feed : (course : Course) (bytes : List ℕ) (count : ℕ) (at : StandsAt course count false) → count + length bytes ≤ 1073741824 → MayFeed at.way.fed bytes
may_feed course bytes count at room = record { not_ended = at.ended; room = omega (arith, length-append at.way.fed.text bytes, at.fed, room) }

pub fed_some : (before after : Course) (byte : ℕ) (bytes : List ℕ) (count : ℕ) (at : StandsAt before count false) → StandsFor after at.stream (fed_on at.way (byte ∷ bytes))
    → StandsAt after (count + length (byte ∷ bytes)) false
fed_some before after byte bytes count at h = record {
  stream = at.stream;
  way = fed_on at.way (byte ∷ bytes);
  stands = h;
  not_given = at.not_given;
  fed = length-append at.way.fed.text (byte ∷ bytes) ∙ ap (λ (n : ℕ). n + length (byte ∷ bytes)) at.fed;
  ended = at.ended;
}

pub fed_end : (before after : Course) (count : ℕ) (at : StandsAt before count false) → StandsFor after at.stream (fed_on at.way []) → StandsAt after count true
fed_end before after count at h = record {
  stream = at.stream;
  way = fed_on at.way [];
  stands = h;
  not_given = at.not_given;
  fed = at.fed;
  ended = refl;
}

-- what a turn says, wherever the course stands
abbrev pub Answers : (before after : Course) → Turn → Type 0
Answers before after t = (stream : Stream) (way : Way) → StandsFor before stream way → way.given ≡ None → IsAnswered after stream way t

abbrev pub GivesNone : Turn → Type 0
GivesNone (turn.Decode unsettled) = ⊥
GivesNone t = Unit {0}

stays_at : (before after : Course) (t : Turn) (count : ℕ) (over : Bool) (at : StandsAt before count over) → GivesNone t → IsAnswered after at.stream at.way t → StandsAt after count over
stays_at before after turn.Hungry count over at n a =
    let e : a.after ≡ at.way = a.is.0 in
    record { stream = at.stream; way = a.after; stands = a.stands; not_given = ap (λ (w : Way). w.given) e ∙ at.not_given; fed = ap (λ (w : Way). length w.fed.text) e ∙ at.fed; ended = ap (λ (w : Way). w.fed.ended) e ∙ at.ended }
stays_at before after (turn.Decode unsettled) count over at n a = absurd n
stays_at before after (turn.Out number time) count over at n a =
    let e = a.is.1 in
    record { stream = at.stream; way = a.after; stands = a.stands; not_given = ap (λ (w : Way). w.given) e ∙ at.not_given; fed = ap (λ (w : Way). length w.fed.text) e ∙ at.fed; ended = ap (λ (w : Way). w.fed.ended) e ∙ at.ended }
stays_at before after (turn.Promise time) count over at n a =
    let e = a.is.0 in
    record { stream = at.stream; way = a.after; stands = a.stands; not_given = ap (λ (w : Way). w.given) e ∙ at.not_given; fed = ap (λ (w : Way). length w.fed.text) e ∙ at.fed; ended = ap (λ (w : Way). w.fed.ended) e ∙ at.ended }
stays_at before after (turn.Over reason) count over at n a =
    let e : a.after ≡ at.way = a.is.0 in
    record { stream = at.stream; way = a.after; stands = a.stands; not_given = ap (λ (w : Way). w.given) e ∙ at.not_given; fed = ap (λ (w : Way). length w.fed.text) e ∙ at.fed; ended = ap (λ (w : Way). w.fed.ended) e ∙ at.ended }

pub stays : (before after : Course) (t : Turn) → Answers before after t → GivesNone t → Stays before after
stays before after t h n count over at = stays_at before after t count over at n (h at.stream at.way at.stands at.not_given)

abbrev pub Settles : (before after : Course) → Type 0
Settles before after = (stream : Stream) (way : Way) (one : Decoded) → StandsFor before stream way → way.given ≡ Some one.picture → StandsFor after stream (with_decoded way one)

given_one : (middle : Course) (stream : Stream) (way : Way) (t : Turn) → (GivesNone t → ⊥) → IsAnswered middle stream way t → (picture : Picture) × StandsFor middle stream (with_given way picture)
given_one middle stream way turn.Hungry n a = absurd (n tt)
given_one middle stream way (turn.Decode unsettled) n a = (a.is.0, subst (λ (w : Way). StandsFor middle stream w) a.is.1 a.stands)
given_one middle stream way (turn.Out number time) n a = absurd (n tt)
given_one middle stream way (turn.Promise time) n a = absurd (n tt)
given_one middle stream way (turn.Over reason) n a = absurd (n tt)

pub may_settle : (before middle : Course) (t : Turn) → Answers before middle t → (GivesNone t → ⊥) → ((count : ℕ) × ((over : Bool) × StandsAt before count over))
    → (stream : Stream) × ((way : Way) × ((picture : Picture) × StandsFor middle stream way × (way.given ≡ Some picture)))
may_settle before middle t h n (count, (over, at)) =
    let one = given_one middle at.stream at.way t n (h at.stream at.way at.stands at.not_given) in
    (at.stream, (with_given at.way one.0, (one.0, one.1, refl)))

pub settled : (before middle after : Course) (t : Turn) (picture : samples.Picture) → Answers before middle t → (GivesNone t → ⊥) → Settles middle after → Stays before after
settled before middle after t picture h n k count over at =
    let given = given_one middle at.stream at.way t n (h at.stream at.way at.stands at.not_given) in
    let one : Decoded = record { picture = given.0; samples = picture } in
    record {
      stream = at.stream;
      way = with_decoded (with_given at.way given.0) one;
      stands = k at.stream (with_given at.way given.0) one given.1 refl;
      not_given = refl;
      fed = at.fed;
      ended = at.ended;
    }

abbrev pub Feeds : (before after : Course) → List ℕ → Type 0
Feeds before after bytes = (stream : Stream) (way : Way) → StandsFor before stream way → MayFeed way.fed bytes → StandsFor after stream (fed_on way bytes)

piece_fed : (before after : Course) (bytes : List ℕ) (count : ℕ) → StandsAt before count false → 0 < length bytes → count + length bytes ≤ 1073741824 → Feeds before after bytes → StandsAt after (count + length bytes) false
piece_fed before after [] count at some room h = absurd (omega arith)
piece_fed before after (byte ∷ bytes) count at some room h = fed_some before after byte bytes count at (h at.stream at.way at.stands (may_feed before (byte ∷ bytes) count at room))

pub fed_piece : (before after : Course) (text : List ℕ) (from many : ℕ) → StandsAt before from false → 0 < many → from + many ≤ length text → length text ≤ 1000000
    → Feeds before after (slice_range text from (from + many)) → StandsAt after (from + many) false
fed_piece before after text from many at some within short h =
    let size : length (slice_range text from (from + many)) ≡ many =
    omega (arith, length-take (from + many - from) (drop from text), length-drop from text, within) in
    subst (λ (n : ℕ). StandsAt after (from + n) false) size (piece_fed before after (slice_range text from (from + many)) from at (omega (arith, size, some)) (omega (arith, size, within, short)) h)

pub ends : (before after : Course) (count : ℕ) → StandsAt before count false → count ≤ 1073741824 → Feeds before after [] → StandsAt after count true
ends before after count at few h = fed_end before after count at (h at.stream at.way at.stands (may_feed before [] count at (omega (arith, few))))
