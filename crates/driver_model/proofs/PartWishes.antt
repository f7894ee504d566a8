-- Waits in the part about a device: a wish holds there where it holds in the whole.
use Rattle.std.proofs.Common.{◌≡◌, ℕ, ◌+◌, ◌==◌, nat_lt, Bool, true, false, not, if◌then◌else◌, List, [], ◌∷◌, map, Option, Some, None, Ok, refl, ap}
use Rattle.std.proofs.lemmas.Bool.{eq-eqb, or_left, or_right}
use Rattle.driver_model.specs.Objects.{as_output, as_queue, as_video}
use Rattle.driver_model.specs.Parts.{is_among, wish_name}
use Rattle.driver_model.specs.Presented.{is_idle_at}
use Rattle.driver_model.specs.Refusals.{Looked, ◌>>=◌, in_use}
use Rattle.driver_model.specs.States.{State, Found, is_out, named}
use Rattle.driver_model.specs.Wishes.{first_wish, first_wish_from, wish_holds}
use Rattle.driver_model.specs.declared.calls.Wish.{Wish}
use Rattle.driver_model.specs.declared.calls.Wish.TheVariants.{OutputIdle, VideoHome, OutputHome, PromisePast}
use Rattle.driver_model.proofs.PartContents.{moved_output, moved_presentation, output_moves, queue_moves, video_moves}
use Rattle.driver_model.proofs.PartFinds.{Alike, alike_use, ok_alike, then_alike}
use Rattle.driver_model.proofs.PartLooks.{IsOwnFound, IsOwnName, moved_found}
use Rattle.driver_model.proofs.PartNotes.{part-out}
use Rattle.driver_model.proofs.PartPlaces.{Cut, place_in}
use Rattle.driver_model.proofs.PartStates.{Pair, part-idle}

-- a name stands in a list that begins with it, and in a longer one
pub among_first : (name : ℕ) (names : List ℕ) → is_among (name ∷ names) name ≡ true
among_first name names = or_left (name == name) (is_among names name) (eq-eqb name name refl)

pub among_later : (other name : ℕ) (names : List ℕ) → is_among names name ≡ true → is_among (other ∷ names) name ≡ true
among_later other name names is = or_right (other == name) (is_among names name) is

abbrev pub same_value : {A : Type 0} → A → A
same_value a = a

-- of what a look finds nothing more is said
abbrev pub Anything : {A : Type 0} → A → Type 0
Anything a = Unit {0}

module _ (c : Cut) (on : ℕ) (q : ℕ → Option ℕ) (s t : State) (pair : Pair c on q s t) where
  home : (place : ℕ) → c.own place ≡ true → not (is_out t (place_in c place)) ≡ not (is_out s place)
  home place own = ap not (part-out c q s t pair.notes pair.targets place own)

  -- a wish whose object was found
  module _ {T : Type 0} (move : T → T) (there : State → Found T → Bool) (same : (found : Found T) → IsOwnFound c on found → there t (moved_found c move found) ≡ there s found) where
    pub wish_alike : (m n : Looked (Found T)) → Alike (moved_found c move) (IsOwnFound c on) m n
        → Alike (same_value {A = Bool}) Anything (m >>= λ found. Ok (there s found)) (n >>= λ found. Ok (there t found))
    wish_alike m n is =
        then_alike (moved_found c move) (IsOwnFound c on) (same_value {A = Bool}) Anything m n (λ found. Ok (there s found)) (λ found. Ok (there t found)) is
        (λ found own. record { same = ap (λ (b : Bool). Ok b) (same found own); own = λ b e. tt })

  wish-part : (arg : ℕ) (wish : Wish) → IsOwnName c.own s.objects (wish_name wish) → Alike (same_value {A = Bool}) Anything (wish_holds s arg wish) (wish_holds t arg wish)
  wish-part arg (OutputIdle surface) is_own =
      wish_alike (moved_output c) (λ st found. is_idle_at st found.place) (λ found own. part-idle c on q s t pair found.place own.place)
      (in_use s arg (named s as_output surface)) (in_use t arg (named t as_output surface)) (alike_use c on q s t pair as_output (moved_output c) (output_moves c) arg surface is_own)
  wish-part arg (VideoHome surface) is_own =
      wish_alike (λ of. of) (λ st found. not (is_out st found.place)) (λ found own. home found.place own.place)
      (in_use s arg (named s as_video surface)) (in_use t arg (named t as_video surface)) (alike_use c on q s t pair as_video (λ of. of) (video_moves c) arg surface is_own)
  wish-part arg (OutputHome surface) is_own =
      wish_alike (moved_output c) (λ st found. not (is_out st found.place)) (λ found own. home found.place own.place)
      (in_use s arg (named s as_output surface)) (in_use t arg (named t as_output surface)) (alike_use c on q s t pair as_output (moved_output c) (output_moves c) arg surface is_own)
  wish-part arg (PromisePast queue time) is_own =
      wish_alike (moved_presentation c) (λ st found. nat_lt time found.value.queue.promise) (λ found own. refl)
      (in_use s arg (named s as_queue queue)) (in_use t arg (named t as_queue queue)) (alike_use c on q s t pair as_queue (moved_presentation c) (queue_moves c) arg queue is_own)

  -- Each name of the wishes is the device's own.
  abbrev pub AreOwnWishes : List Wish → Type 0
  AreOwnWishes wishes = (name : ℕ) → is_among (map wish_name wishes) name ≡ true → IsOwnName c.own s.objects name

  abbrev place_or : State → ℕ → List Wish → Bool → Looked (Option ℕ)
  place_or st arg later holds = if holds then Ok (Some arg) else first_wish_from st (arg + 1) later

  first-part : (arg : ℕ) (wishes : List Wish) → AreOwnWishes wishes → Alike (same_value {A = Option ℕ}) Anything (first_wish_from s arg wishes) (first_wish_from t arg wishes)
  unfolding first_wish_from
  first-part arg [] own = ok_alike (same_value {A = Option ℕ}) Anything None tt
  first-part arg (wish ∷ later) own =
      let rest = first-part (arg + 1) later (λ name is. own name (among_later (wish_name wish) name (map wish_name later) is)) in
      then_alike (same_value {A = Bool}) Anything (same_value {A = Option ℕ}) Anything (wish_holds s arg wish) (wish_holds t arg wish) (place_or s arg later) (place_or t arg later)
      (wish-part arg wish (own (wish_name wish) (among_first (wish_name wish) (map wish_name later))))
      (λ holds is. by_value holds rest)
    where
      by_value : (holds : Bool) → Alike (same_value {A = Option ℕ}) Anything (first_wish_from s (arg + 1) later) (first_wish_from t (arg + 1) later)
          → Alike (same_value {A = Option ℕ}) Anything (place_or s arg later holds) (place_or t arg later holds)
      by_value true rest = ok_alike (same_value {A = Option ℕ}) Anything (Some arg) tt
      by_value false rest = rest

  pub alike_wish : (wishes : List Wish) → AreOwnWishes wishes → Alike (same_value {A = Option ℕ}) Anything (first_wish s wishes) (first_wish t wishes)
  alike_wish wishes own = first-part 0 wishes own
