-- How the promises of a stream go on.
use Rattle.std.specs.Prelude.{◌≡◌, ℕ, ◌+◌, ◌≤◌, Bool, true, false, List, [], ◌∷◌, ◌++◌, length, drop, if◌then◌else◌}
use Rattle.std.specs.List.{AllByRecursion}
use Rattle.vd_plane.specs.declared.picture.Picture.{Picture}
use Rattle.driver_model.specs.ShownPictures.{ShownPicture}
use Rattle.driver_model.specs.declared.calls.Call.{Call}
use Rattle.driver_model.specs.declared.calls.Call.TheVariants as call
use Rattle.driver_model.specs.declared.items.Entry.{Entry}
use Rattle.driver_model.specs.declared.items.Item.{Item}
use Rattle.driver_model.specs.declared.items.Item.TheVariants.{Called}
use Rattle.stream_calls.specs.Counted.{displays_in, has_done, is_display}
use Rattle.stream_calls.specs.Promises.{PromisesInTime}

abbrev pub is_promise : Call → Bool
is_promise (call.Promise queue time) = true
is_promise _ = false

-- These are shown at the time or later.
abbrev pub AreShownFrom : ℕ → List (ShownPicture Picture) → Type 0
AreShownFrom time shown = AllByRecursion (λ (one : ShownPicture Picture). time ≤ one.time) shown

-- An item that is no promise that was done asks nothing.
abbrev pub OtherCallsPromiseNothing : Type 0
OtherCallsPromiseNothing =
    (own : List Item) (item : Item) (shown : List (ShownPicture Picture))
    → has_done is_promise item ≡ false
    → PromisesInTime own shown
    → PromisesInTime (own ++ item ∷ []) shown

-- A promise asks that what isn't displayed yet is shown at its time or later.
abbrev pub PromisesGoOn : Type 0
PromisesGoOn =
    (own : List Item) (entry : Entry) (queue time : ℕ) (shown : List (ShownPicture Picture))
    → entry.call ≡ call.Promise queue time
    → AreShownFrom time (drop (displays_in own) shown)
    → PromisesInTime own shown
    → PromisesInTime (own ++ Called entry ∷ []) shown

-- that is, all but the first ones, as many as were displayed
abbrev pub PromisesGoOnBehind : Type 0
PromisesGoOnBehind =
    (own : List Item) (entry : Entry) (queue time : ℕ) (displayed others : List (ShownPicture Picture))
    → entry.call ≡ call.Promise queue time
    → displays_in own ≡ length displayed
    → AreShownFrom time others
    → PromisesInTime own (displayed ++ others)
    → PromisesInTime (own ++ Called entry ∷ []) (displayed ++ others)

-- A display that was done is one more.
abbrev pub DisplaysAddUp : Type 0
DisplaysAddUp =
    (own : List Item) (item : Item)
    → displays_in (own ++ item ∷ []) ≡ displays_in own + (if has_done is_display item then 1 else 0)
