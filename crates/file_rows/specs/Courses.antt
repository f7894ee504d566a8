-- Where a course stands between the calls of a line.
use Rattle.std.specs.Prelude.{◌≡◌, ℕ, Bool, length, None}
use Rattle.stream_calls.specs.StreamCalls.{Stream}
use Rattle.stream_course.specs.Standing.{StandsFor}
use Rattle.stream_course.specs.Way.{Way}
use Rattle.stream_course.specs.declared.course.Course.{Course}

-- So many bytes were fed, and the end or not, and no picture is given.
pub record StandsAt (course : Course) (count : ℕ) (over : Bool) : Type 0 where
  pub stream : Stream
  pub way : Way
  pub stands : StandsFor course stream way
  pub not_given : way.given ≡ None
  pub fed : length way.fed.text ≡ count
  pub ended : way.fed.ended ≡ over

-- Nothing was fed between.
abbrev pub Stays : Course → Course → Type 0
Stays before after = (count : ℕ) (over : Bool) → StandsAt before count over → StandsAt after count over
