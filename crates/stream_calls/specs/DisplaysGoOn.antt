-- How the displays of a stream go on, and its mixes.
use Rattle.std.specs.Prelude.{◌≡◌, ℕ, Bool, true, false, List, [], ◌∷◌, ◌++◌, length, Some}
use Rattle.device_lock.specs.Lists.{same}
use Rattle.device_lock.specs.Numbers.{items_of}
use Rattle.device_lock.specs.declared.view.View.{View}
use Rattle.vd_plane.specs.declared.picture.Picture.{Picture}
use Rattle.driver_model.specs.Histories.{IsStateOf}
use Rattle.driver_model.specs.Objects.{OutputSurface, as_output}
use Rattle.driver_model.specs.Passes.{caller_of}
use Rattle.driver_model.specs.Presented.{is_idle_at}
use Rattle.driver_model.specs.ShownPictures.{ShownPicture}
use Rattle.driver_model.specs.States.{State, Found, empty_state, named}
use Rattle.driver_model.specs.declared.calls.Call.{Call}
use Rattle.driver_model.specs.declared.calls.Call.TheVariants as call
use Rattle.driver_model.specs.declared.items.Entry.{Entry}
use Rattle.driver_model.specs.declared.items.Item.{Item}
use Rattle.driver_model.specs.declared.items.Item.TheVariants.{Called, Ended}
use Rattle.stream_calls.specs.Counted.{displays_in, has_done, is_call, is_display}
use Rattle.stream_calls.specs.Displays.{AreDisplayed, IsDisplayAt}
use Rattle.stream_calls.specs.Gained.{Gains}

-- Behind items of others the displays are those of the same shown pictures.
abbrev pub OthersDisplayNothing : Type 0
OthersDisplayNothing =
    (caller : List ℕ) (seen between : List Item) (s : State) (shown : List (ShownPicture Picture))
    → IsStateOf (seen ++ between) s
    → items_of caller_of caller between ≡ []
    → AreDisplayed caller empty_state seen shown
    → AreDisplayed caller empty_state (seen ++ between) shown

-- So are they behind an item of the caller that is no display that was done.
abbrev pub OtherCallsDisplayNothing : Type 0
OtherCallsDisplayNothing =
    (before after : View Item) (item : Item) (s t : State) (shown : List (ShownPicture Picture))
    → Gains before item after s t
    → has_done is_display item ≡ false
    → AreDisplayed before.number empty_state before.seen shown
    → AreDisplayed after.number empty_state after.seen shown

-- Behind a display of a shown picture that was done they are those of that one, too.
abbrev pub DisplaysGoOn : Type 0
DisplaysGoOn =
    (before after : View Item) (item : Item) (s t : State) (shown : List (ShownPicture Picture))
    (one : ShownPicture Picture)
    → Gains before item after s t
    → has_done is_display item ≡ true
    → IsDisplayAt s item one
    → AreDisplayed before.number empty_state before.seen shown
    → AreDisplayed after.number empty_state after.seen (shown ++ one ∷ [])

-- There are as many as shown pictures.
abbrev pub DisplaysAreCounted : Type 0
DisplaysAreCounted =
    (caller : List ℕ) (s : State) (seen : List Item) (shown : List (ShownPicture Picture))
    → AreDisplayed caller s seen shown
    → displays_in (items_of caller_of caller seen) ≡ length shown

-- ---- mixes

abbrev pub is_mix : Call → Bool
is_mix (call.Mix mixer structure video output) = true
is_mix _ = false

-- A mix goes into a surface that is idle in this state.
abbrev pub FindsIdle : State → Call → Type 0
FindsIdle s (call.Mix mixer structure video output) =
    (on : Found OutputSurface) → named s as_output output ≡ Some on → is_idle_at s on.place ≡ true
FindsIdle s _ = Unit {0}

abbrev pub FindsIdleAt : State → Item → Type 0
FindsIdleAt s (Called entry) = FindsIdle s entry.call
FindsIdleAt s (Ended mark) = Unit {0}

-- So does each of the caller, in the state before it.
abbrev pub MixesFindIdle : (seen : List Item) (caller : List ℕ) → Type 0
MixesFindIdle seen caller =
    (front behind : List Item) (s : State) (entry : Entry)
    → seen ≡ front ++ Called entry ∷ behind
    → IsStateOf front s
    → same caller entry.caller ≡ true
    → FindsIdle s entry.call

-- That stays so behind items of others, and behind an item of the caller that is no mix, or such a one.
abbrev pub OthersLeaveMixes : Type 0
OthersLeaveMixes =
    (caller : List ℕ) (seen between : List Item)
    → items_of caller_of caller between ≡ []
    → MixesFindIdle seen caller
    → MixesFindIdle (seen ++ between) caller

abbrev pub OtherCallsLeaveMixes : Type 0
OtherCallsLeaveMixes =
    (before after : View Item) (item : Item) (s t : State)
    → Gains before item after s t
    → is_call is_mix item ≡ false
    → MixesFindIdle before.seen before.number
    → MixesFindIdle after.seen after.number

abbrev pub MixesGoOn : Type 0
MixesGoOn =
    (before after : View Item) (item : Item) (s t : State)
    → Gains before item after s t
    → FindsIdleAt s item
    → MixesFindIdle before.seen before.number
    → MixesFindIdle after.seen after.number
