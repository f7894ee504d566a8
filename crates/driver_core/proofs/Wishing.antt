-- What is looked at of a wish, in what is kept and in the state.
use Rattle.std.proofs.Common.{◌≡◌, ℕ, zero, suc, ◌+◌, ◌<◌, ◌≤◌, Bool, if◌then◌else◌, List, [], ◌∷◌, drop, get_or, length, Option, Some, None, Ok, Err, refl, sym, ap, ◌∙◌, arith}
use Rattle.vd_status.specs.declared.refusal.Refusal.{Refusal}
use Rattle.driver_model.specs.Objects as model
use Rattle.driver_model.specs.Refusals.{Looked, ◌>>=◌, in_use}
use Rattle.driver_model.specs.States.{Found, State, named}
use Rattle.driver_model.specs.Wishes.{first_wish_from, wish_holds}
use Rattle.driver_model.specs.declared.calls.Wish.{Wish}
use Rattle.driver_objects.specs.Contents.{HasContent}
use Rattle.driver_objects.specs.Kept.{kept_of}
use Rattle.driver_objects.specs.Kinds.{number_of}
use Rattle.driver_objects.specs.declared.content.Content.TheVariants as content
use Rattle.driver_objects.specs.declared.content.PresentationQueue.{PresentationQueue}
use Rattle.driver_core.specs.Looked.{IsInUse}
use Rattle.driver_core.specs.Standing.{OfPlace}
use Rattle.driver_core.specs.Stands.{Stands}
use Rattle.driver_core.specs.declared.driver.Core.{Core}
use Rattle.driver_core.proofs.Handles.{looked_err, looked_ok}

-- ---- an object that a wish names

module _ {T : Type 0} (as_kind : model.Content → Option T) (kind : ℕ)
    (of_kind : (content : model.Content) → model.kind_number content ≡ kind → (value : T) × (as_kind content ≡ Some value))
    (of_other : (content : model.Content) → (model.kind_number content ≡ kind → ⊥) → as_kind content ≡ None)
    (core : Core) (arg name : ℕ) (Is : State → ℕ → Bool) where
  abbrev asked : State → Looked Bool
  asked d = in_use d arg (named d as_kind name) >>= (λ on. Ok (Is d on.place))

  pub asked_ok : (index : ℕ) → IsInUse (kept_of core.objects) arg kind name (Ok index) → (holds : Bool) → OfPlace core index (λ d place. holds ≡ Is d place)
      → (d : State) → Stands core d → Ok holds ≡ asked d
  asked_ok index is holds of_place d stands =
      let l = looked_ok as_kind kind of_kind of_other core d stands arg name index is in
      let next : Found T → Looked Bool = λ on. Ok (Is d on.place) in
      ap Ok (of_place d l.object stands l.there) ∙ sym (ap (λ r. r >>= next) l.looks)

  pub asked_err : (refusal : Refusal) → IsInUse (kept_of core.objects) arg kind name (Err refusal) → (d : State) → Stands core d → Err refusal ≡ asked d
  asked_err refusal is d stands =
      let next : Found T → Looked Bool = λ on. Ok (Is d on.place) in
      sym (ap (λ r. r >>= next) (looked_err as_kind kind of_kind of_other core d stands arg name refusal is))

pub number_below : (core : Core) (index : ℕ) (queue : PresentationQueue) → HasContent (kept_of core.objects) index (content.Queue queue) → queue.number < 64
number_below core index queue has = core.sound.numbers index has.object queue.number has.there (ap number_of has.has)

-- ---- a list of wishes

drop_at : {X : Type 0} (xs : List X) (place : ℕ) (default : X) → place < length xs → drop place xs ≡ get_or xs place default ∷ drop (suc place) xs
drop_at [] place default within = absurd (omega (arith, within))
drop_at (x ∷ xs) zero default within = refl
drop_at (x ∷ xs) (suc place) default within = drop_at xs place default (omega (arith, within))

module _ (d : State) (wishes : List Wish) (place : ℕ) where
  abbrev pub behind : Looked Bool → Looked (Option ℕ)
  behind looked = looked >>= (λ holds. if holds then Ok (Some place) else first_wish_from d (place + 1) (drop (place + 1) wishes))

  first_of : (wish : Wish) → first_wish_from d place (wish ∷ drop (place + 1) wishes) ≡ behind (wish_holds d place wish)
  unfolding first_wish_from
  first_of wish = refl

  -- what comes of the wishes from this one on is settled by it and those behind it
  pub first_by : (wish : Wish) → place < length wishes → (looked : Looked Bool) → looked ≡ wish_holds d place (get_or wishes place wish) → first_wish_from d place (drop place wishes) ≡ behind looked
  first_by wish within looked is =
      let next : suc place ≡ place + 1 = omega arith in
      ap (first_wish_from d place) (drop_at wishes place wish within ∙ ap (λ n. get_or wishes place wish ∷ drop n wishes) next) ∙ (first_of (get_or wishes place wish) ∙ ap behind (sym is))

  pub first_none : length wishes ≤ place → first_wish_from d place (drop place wishes) ≡ Ok None
  unfolding first_wish_from
  first_none past = ap (first_wish_from d place) (drop_past wishes place past) where
    drop_past : (xs : List Wish) (n : ℕ) → length xs ≤ n → drop n xs ≡ []
    drop_past [] zero past = refl
    drop_past [] (suc n) past = refl
    drop_past (x ∷ xs) zero past = absurd (omega (arith, past))
    drop_past (x ∷ xs) (suc n) past = drop_past xs n (omega (arith, past))
