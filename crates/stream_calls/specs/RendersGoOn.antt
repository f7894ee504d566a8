-- How the renders of a stream go on.
use Rattle.std.specs.Prelude.{◌≡◌, ℕ, true, false, List, [], ◌∷◌, ◌++◌, length}
use Rattle.device_lock.specs.Numbers.{items_of}
use Rattle.device_lock.specs.declared.view.View.{View}
use Rattle.driver_model.specs.Histories.{IsStateOf}
use Rattle.driver_model.specs.Passes.{caller_of}
use Rattle.driver_model.specs.States.{State, empty_state}
use Rattle.driver_model.specs.declared.items.Item.{Item}
use Rattle.accepted_pictures.specs.Files.{Decoded}
use Rattle.stream_calls.specs.Counted.{has_done, is_render, renders_in}
use Rattle.stream_calls.specs.Gained.{Gains}
use Rattle.stream_calls.specs.Renders.{AreRendered, IsRenderAt}

-- Behind items of others the renders are those of the same pictures.
abbrev pub OthersRenderNothing : Type 0
OthersRenderNothing =
    (caller : List ℕ) (seen between : List Item) (s : State) (pictures : List Decoded)
    → IsStateOf (seen ++ between) s
    → items_of caller_of caller between ≡ []
    → AreRendered caller empty_state seen pictures
    → AreRendered caller empty_state (seen ++ between) pictures

-- So are they behind an item of the caller that is no render that was done.
abbrev pub OtherCallsRenderNothing : Type 0
OtherCallsRenderNothing =
    (before after : View Item) (item : Item) (s t : State) (pictures : List Decoded)
    → Gains before item after s t
    → has_done is_render item ≡ false
    → AreRendered before.number empty_state before.seen pictures
    → AreRendered after.number empty_state after.seen pictures

-- Behind a render of a picture that was done they are those of that one, too.
abbrev pub RendersGoOn : Type 0
RendersGoOn =
    (before after : View Item) (item : Item) (s t : State) (pictures : List Decoded) (one : Decoded)
    → Gains before item after s t
    → has_done is_render item ≡ true
    → IsRenderAt item t one
    → AreRendered before.number empty_state before.seen pictures
    → AreRendered after.number empty_state after.seen (pictures ++ one ∷ [])

-- There are as many as pictures.
abbrev pub RendersAreCounted : Type 0
RendersAreCounted =
    (caller : List ℕ) (s : State) (seen : List Item) (pictures : List Decoded)
    → AreRendered caller s seen pictures
    → renders_in (items_of caller_of caller seen) ≡ length pictures
