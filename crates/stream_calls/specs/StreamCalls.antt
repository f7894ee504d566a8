-- What the calls of one stream are, in the history that its caller has seen.
use Rattle.std.specs.Prelude.{◌≡◌, ℕ, ◌≤◌, Bool, true, false, List, ◌++◌, length, Option}
use Rattle.clock_script.specs.declared.script.ScriptLine.{ScriptLine}
use Rattle.device_lock.specs.Numbers.{items_of}
use Rattle.vd_plane.specs.declared.picture.Picture.{Picture}
use Rattle.driver_model.specs.Passes.{caller_of}
use Rattle.driver_model.specs.ShownPictures.{ShownPicture, shown_pictures}
use Rattle.driver_model.specs.declared.items.Item.{Item}
use Rattle.accepted_pictures.specs.Files.{Decoded, Fault, HasPictures}
use Rattle.stream_calls.specs.Displays.{DisplaysTheShown}
use Rattle.stream_calls.specs.OneDevice.{StaysOnOneDevice}
use Rattle.stream_calls.specs.OutputPictures.{in_output_order}
use Rattle.stream_calls.specs.Promises.{PromisesInTime}
use Rattle.stream_calls.specs.Renders.{RendersTheFile}
use Rattle.stream_calls.specs.Strangers.{has_strangers}

-- a stream: which of the player's files it is, the time from one picture to the next, and the script
pub record Stream : Type 0 where
  pub number : ℕ
  pub period : ℕ
  pub script : List ScriptLine

-- what was fed of its file, and whether that was all
pub record Fed : Type 0 where
  pub bytes : List ℕ
  pub ended : Bool

-- The file may be that of which these bytes were fed: it begins with them, has no byte at place 2^30, and is they where the end was fed.
pub record MayBeFile (fed : Fed) (file : List ℕ) : Type 0 where
  pub rest : List ℕ
  pub begins : file ≡ fed.bytes ++ rest
  pub short : length file ≤ 1073741824
  pub whole : fed.ended ≡ true → file ≡ fed.bytes

-- what the script shows of the stream's accepted pictures, of which the newest is the first
abbrev pub shown_of : Stream → List Decoded → List (ShownPicture Picture)
shown_of stream accepted = shown_pictures stream.script stream.number stream.period (in_output_order accepted)

-- The calls follow a file whose accepted pictures are these.
pub record FollowsTheFile (stream : Stream) (seen : List Item) (caller : List ℕ) (accepted : List Decoded) : Type 0 where
  pub renders : RendersTheFile seen caller accepted
  pub displays : DisplaysTheShown seen caller (shown_of stream accepted)
  pub promises : PromisesInTime (items_of caller_of caller seen) (shown_of stream accepted)

-- The calls of this caller in the history that it has seen are those of the stream. They stay on one device; and if no strangers called
-- there, they follow whatever file the bytes fed may begin.
pub record AreStreamCalls (stream : Stream) (fed : Fed) (seen : List Item) (caller : List ℕ) : Type 0 where
  pub device : StaysOnOneDevice seen (items_of caller_of caller seen) stream.number
  pub follows : has_strangers seen (items_of caller_of caller seen) caller stream.script stream.number ≡ false
      → (file : List ℕ) (accepted : List Decoded) (fault : Option Fault)
      → MayBeFile fed file
      → HasPictures file accepted fault
      → FollowsTheFile stream seen caller accepted
