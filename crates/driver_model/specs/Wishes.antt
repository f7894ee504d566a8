-- What callers wait for. A list of wishes is gone through from the front, up to one that holds or whose object can't be used.
use Rattle.std.specs.Prelude.{ℕ, ◌+◌, nat_lt, Bool, not, if◌then◌else◌, List, [], ◌∷◌, Option, Some, None, Ok, MatchOption}
use Rattle.driver_model.specs.Answers.{Goes, Reply, Tells}
use Rattle.driver_model.specs.Objects.{as_output, as_queue, as_video}
use Rattle.driver_model.specs.Presented.{is_idle_at}
use Rattle.driver_model.specs.Refusals.{Looked, ◌>>=◌, in_use}
use Rattle.driver_model.specs.States.{State, is_out, named}
use Rattle.driver_model.specs.declared.calls.Wish.{Wish}
use Rattle.driver_model.specs.declared.calls.Wish.TheVariants.{OutputIdle, VideoHome, OutputHome, PromisePast}
use Rattle.driver_model.specs.declared.replies.Answer.TheVariants.{Holds}

-- Whether the wish at this place holds. Its object stands for an only handle, with the wish's place as its number.
abbrev pub wish_holds : State → ℕ → Wish → Looked Bool
wish_holds s arg (OutputIdle surface) = do
  on ← in_use s arg (named s as_output surface)
  Ok (is_idle_at s on.place)
wish_holds s arg (VideoHome surface) = do
  on ← in_use s arg (named s as_video surface)
  Ok (not (is_out s on.place))
wish_holds s arg (OutputHome surface) = do
  on ← in_use s arg (named s as_output surface)
  Ok (not (is_out s on.place))
wish_holds s arg (PromisePast queue time) = do
  on ← in_use s arg (named s as_queue queue)
  Ok (nat_lt time on.value.queue.promise)

-- which wish of a list is the first to hold, if one does; the list's first wish has this place
unfoldable pub first_wish_from : State → ℕ → List Wish → Looked (Option ℕ)
first_wish_from s arg [] = Ok None
first_wish_from s arg (wish ∷ later) = do
  holds ← wish_holds s arg wish
  if holds then Ok (Some arg) else first_wish_from s (arg + 1) later

abbrev pub first_wish : State → List Wish → Looked (Option ℕ)
first_wish s wishes = first_wish_from s 0 wishes

module _ (old : State) (reply : Reply) (new : State) where
  -- which wish holds, if one does
  abbrev pub Poll : List Wish → Type 0
  Poll wishes = Goes old reply new (first_wish old wishes) (λ place. Tells old reply new (Holds place))

  -- the same, but never None: there is no answer before some wish holds
  abbrev pub WaitUntil : List Wish → Type 0
  WaitUntil wishes =
      Goes old reply new (first_wish old wishes) (λ place. MatchOption place ⊥ (λ found. Tells old reply new (Holds (Some found))))
