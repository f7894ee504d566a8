-- Which wish of a list is the first to hold.
use Rattle.std.proofs.Common.{◌≡◌, ℕ, suc, ◌+◌, ◌<◌, ◌≤◌, nat_lt, Bool, true, false, if◌then◌else◌, List, length, drop, get_or, Option, Some, None, Ok, Err, ap, sym, ◌∙◌, subst, arith}
use Rattle.std.proofs.Math.ListN.{drop_of_length-le}
use Rattle.std.proofs.Math.Seq.{drop-cons}
use Rattle.vd_status.specs.declared.refusal.Refusal.{Refusal}
use Rattle.vd_status.specs.declared.refusal.Refusal.TheVariants.{Preempted}
use Rattle.driver_model.specs.Objects.{Content, PresentationQueue, as_queue}
use Rattle.driver_model.specs.Refusals.{Looked, ◌>>=◌, in_use}
use Rattle.driver_model.specs.States.{State, Found, content_at, is_preempted, named}
use Rattle.driver_model.specs.Wishes.{first_wish_from, wish_holds}
use Rattle.driver_model.specs.declared.calls.Wish.{Wish}
use Rattle.driver_model.specs.declared.calls.Wish.TheVariants as wish
use Rattle.driver_model.proofs.Looks.{err_not_ok, ok_is}
use Rattle.plain_driver.specs.Looks.{placed}
use Rattle.plain_driver.proofs.Goes.{content_at-named, placed-Ok, some_one}

in_use-Ok : {T : Type 0} (s : State) (arg : ℕ) (found : Option (Found T)) (on : Found T) → in_use s arg found ≡ Ok on → found ≡ Some on
in_use-Ok s arg None on h = absurd (err_not_ok _ on h)
in_use-Ok s arg (Some found) on h = alive (is_preempted s found.device) h where
  alive : (preempted : Bool) → (if preempted then Err Preempted else Ok found) ≡ Ok on → Some found ≡ Some on
  alive true e = absurd (err_not_ok Preempted on e)
  alive false e = ap Some (ok_is found on e)

pub used_content : {T : Type 0} (as_kind : Content → Option T) (name : ℕ) (s : State) (arg place : ℕ) → Ok place ≡ placed (in_use s arg (named s as_kind name))
    → (on : Found T) × (in_use s arg (named s as_kind name) ≡ Ok on) × (content_at s as_kind place ≡ Some on.value)
used_content as_kind name s arg place e =
    let on = placed-Ok (in_use s arg (named s as_kind name)) place e in
    let is = in_use-Ok s arg (named s as_kind name) on.0 on.1 in
    (on.0, on.1, subst (λ p. content_at s as_kind p ≡ Some on.0.value) on.2 (content_at-named as_kind name s on.0 is))

pub promise_past : (s : State) (arg name time place : ℕ) (of : PresentationQueue) → Ok place ≡ placed (in_use s arg (named s as_queue name)) → content_at s as_queue place ≡ Some of
    → Ok (nat_lt time of.queue.promise) ≡ wish_holds s arg (wish.PromisePast name time)
promise_past s arg name time place of told is =
    let on = used_content as_queue name s arg place told in
    let same : of ≡ on.0.value = some_one of on.0.value (sym is ∙ on.2) in
    let answer : Found PresentationQueue → Looked Bool = λ x. Ok (nat_lt time x.value.queue.promise) in
    ap (λ (v : PresentationQueue). Ok (nat_lt time v.queue.promise)) same ∙ ap (λ m. m >>= answer) (sym on.1)

module _ (s : State) (wishes : List Wish) (place : ℕ) (one d : Wish) (below : place < length wishes) (at : one ≡ get_or wishes place d) where
  next : Bool → Looked (Option ℕ)
  next holds = if holds then Ok (Some place) else first_wish_from s (place + 1) (drop (suc place) wishes)

  from_here : first_wish_from s place (drop place wishes) ≡ (wish_holds s place one >>= next)
  unfolding first_wish_from next
  from_here = ap (first_wish_from s place) (drop-cons wishes place d below) ∙ ap (λ w. wish_holds s place w >>= next) (sym at)

  pub wish_no : Ok false ≡ wish_holds s place one → first_wish_from s place (drop place wishes) ≡ first_wish_from s (place + 1) (drop (place + 1) wishes)
  unfolding next
  wish_no e = from_here ∙ (ap (λ m. m >>= next) (sym e) ∙ ap (λ n. first_wish_from s (place + 1) (drop n wishes)) (let more : suc place ≡ place + 1 = omega arith in more))

  pub wish_yes : Ok true ≡ wish_holds s place one → first_wish_from s place (drop place wishes) ≡ Ok (Some place)
  unfolding next
  wish_yes e = from_here ∙ ap (λ m. m >>= next) (sym e)

  pub wish_refused : (refusal : Refusal) → Err refusal ≡ wish_holds s place one → first_wish_from s place (drop place wishes) ≡ Err refusal
  wish_refused refusal e = from_here ∙ ap (λ m. m >>= next) (sym e)

pub no_wish : (s : State) (wishes : List Wish) (place : ℕ) → length wishes ≤ place → first_wish_from s place (drop place wishes) ≡ Ok None
unfolding first_wish_from
no_wish s wishes place past = ap (first_wish_from s place) (drop_of_length-le wishes past)
