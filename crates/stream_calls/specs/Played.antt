-- What is kept of what a stream's calls have played, and what follows for a file.
use Rattle.std.specs.Prelude.{◌≡◌, ℕ, true, false, List, [], ◌∷◌, ◌++◌, reverse}
use Rattle.device_lock.specs.Numbers.{items_of}
use Rattle.device_lock.specs.declared.view.View.{View}
use Rattle.vd_plane.specs.declared.picture.Picture.{Picture}
use Rattle.driver_model.specs.Histories.{IsLegal}
use Rattle.driver_model.specs.Passes.{caller_of}
use Rattle.driver_model.specs.ShownPictures.{ShownPicture}
use Rattle.driver_model.specs.States.{State, empty_state}
use Rattle.driver_model.specs.declared.calls.Call.TheVariants as call
use Rattle.driver_model.specs.declared.items.Entry.{Entry}
use Rattle.driver_model.specs.declared.items.Item.{Item}
use Rattle.driver_model.specs.declared.items.Item.TheVariants.{Called}
use Rattle.accepted_pictures.specs.Files.{Decoded}
use Rattle.stream_calls.specs.Counted.{has_done, is_display, is_render}
use Rattle.stream_calls.specs.Displays.{AreDisplayed, IsDisplayAt}
use Rattle.stream_calls.specs.DisplaysGoOn.{FindsIdleAt, MixesFindIdle}
use Rattle.stream_calls.specs.Gained.{Gains}
use Rattle.stream_calls.specs.Promises.{PromisesInTime}
use Rattle.stream_calls.specs.PromisesGoOn.{AreShownFrom, is_promise}
use Rattle.stream_calls.specs.Renders.{AreRendered, IsRenderAt}
use Rattle.stream_calls.specs.StreamCalls.{FollowsTheFile, Stream, shown_of}

-- what was rendered, the newest picture first, and what was displayed, in order
pub record Played : Type 0 where
  pub rendered : List Decoded
  pub displayed : List (ShownPicture Picture)

abbrev pub nothing_played : Played
nothing_played = record { rendered = []; displayed = [] }

abbrev pub rendering : Played → Decoded → Played
rendering played one = record played { rendered = one ∷ played.rendered }

abbrev pub displaying : Played → ShownPicture Picture → Played
displaying played one = record played { displayed = played.displayed ++ one ∷ [] }

-- ---- of the history alone

-- The caller's calls in the history have rendered and displayed this, and mixed into idle surfaces only.
pub record HasPlayed (seen : List Item) (caller : List ℕ) (played : Played) : Type 0 where
  pub renders : AreRendered caller empty_state seen (reverse played.rendered)
  pub displays : AreDisplayed caller empty_state seen played.displayed
  pub mixes : MixesFindIdle seen caller

-- ---- of a file

-- It is what comes first of a file whose accepted pictures are these.
pub record ComesFirst (stream : Stream) (played : Played) (accepted : List Decoded) : Type 0 where
  pub later : List Decoded
  pub pictures : accepted ≡ later ++ played.rendered
  pub others : List (ShownPicture Picture)
  pub shown : shown_of stream accepted ≡ played.displayed ++ others

-- And these items' promises are in time for that file.
pub record IsPlayedOf (stream : Stream) (own : List Item) (played : Played) (accepted : List Decoded) : Type 0 where
  pub first : ComesFirst stream played accepted
  pub promises : PromisesInTime own (shown_of stream accepted)

-- Both say that the calls follow the file.
abbrev pub WhatIsPlayedFollows : Type 0
WhatIsPlayedFollows =
    (stream : Stream) (seen : List Item) (caller : List ℕ) (played : Played) (accepted : List Decoded)
    → HasPlayed seen caller played
    → IsPlayedOf stream (items_of caller_of caller seen) played accepted
    → FollowsTheFile stream seen caller accepted

-- ---- how the first goes on

-- Who has made no calls has played nothing.
abbrev pub NoCallsPlayNothing : Type 0
NoCallsPlayNothing =
    (seen : List Item) (caller : List ℕ)
    → IsLegal seen
    → items_of caller_of caller seen ≡ []
    → HasPlayed seen caller nothing_played

abbrev pub OthersPlayNothing : Type 0
OthersPlayNothing =
    (caller : List ℕ) (seen between : List Item) (played : Played)
    → IsLegal (seen ++ between)
    → items_of caller_of caller between ≡ []
    → HasPlayed seen caller played
    → HasPlayed (seen ++ between) caller played

abbrev pub OtherCallsPlayNothing : Type 0
OtherCallsPlayNothing =
    (before after : View Item) (item : Item) (s t : State) (played : Played)
    → Gains before item after s t
    → has_done is_render item ≡ false
    → has_done is_display item ≡ false
    → FindsIdleAt s item
    → HasPlayed before.seen before.number played
    → HasPlayed after.seen after.number played

abbrev pub RendersArePlayed : Type 0
RendersArePlayed =
    (before after : View Item) (item : Item) (s t : State) (played : Played) (one : Decoded)
    → Gains before item after s t
    → has_done is_render item ≡ true
    → IsRenderAt item t one
    → HasPlayed before.seen before.number played
    → HasPlayed after.seen after.number (rendering played one)

abbrev pub DisplaysArePlayed : Type 0
DisplaysArePlayed =
    (before after : View Item) (item : Item) (s t : State) (played : Played) (one : ShownPicture Picture)
    → Gains before item after s t
    → has_done is_display item ≡ true
    → IsDisplayAt s item one
    → HasPlayed before.seen before.number played
    → HasPlayed after.seen after.number (displaying played one)

-- ---- how the second goes on

abbrev pub NothingIsOfEachFile : Type 0
NothingIsOfEachFile = (stream : Stream) (accepted : List Decoded) → IsPlayedOf stream [] nothing_played accepted

-- Behind any item but a promise that was done, with whatever was played then, if that comes first too.
abbrev pub OtherCallsStayOfTheFile : Type 0
OtherCallsStayOfTheFile =
    (stream : Stream) (own : List Item) (item : Item) (old new : Played) (accepted : List Decoded)
    → has_done is_promise item ≡ false
    → IsPlayedOf stream own old accepted
    → ComesFirst stream new accepted
    → IsPlayedOf stream (own ++ item ∷ []) new accepted

-- Behind a promise of a time at which, or later, all is shown that isn't displayed yet.
abbrev pub PromisesStayOfTheFile : Type 0
PromisesStayOfTheFile =
    (stream : Stream) (seen : List Item) (caller : List ℕ) (entry : Entry) (queue time : ℕ) (played : Played)
    (accepted : List Decoded) (others : List (ShownPicture Picture))
    → HasPlayed seen caller played
    → IsPlayedOf stream (items_of caller_of caller seen) played accepted
    → entry.call ≡ call.Promise queue time
    → shown_of stream accepted ≡ played.displayed ++ others
    → AreShownFrom time others
    → IsPlayedOf stream (items_of caller_of caller seen ++ Called entry ∷ []) played accepted
