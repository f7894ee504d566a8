-- How the promises of a stream go on.
use Rattle.std.proofs.Common.{◌≡◌, inl, inr, ℕ, true, false, cond, List, [], ◌∷◌, ◌++◌, length, drop, refl, ap, sym, ◌∙◌, subst}
use Rattle.std.proofs.lemmas.List.Sums.{sum_by_push}
use Rattle.vd_plane.specs.declared.picture.Picture.{Picture}
use Rattle.driver_model.specs.ShownPictures.{ShownPicture}
use Rattle.driver_model.specs.declared.calls.Call.TheVariants as call
use Rattle.driver_model.specs.declared.items.Entry.{Entry}
use Rattle.driver_model.specs.declared.items.Item.{Item}
use Rattle.driver_model.specs.declared.items.Item.TheVariants.{Called}
use Rattle.stream_calls.specs.Counted.{displays_in, has_done, is_display, is_done}
use Rattle.stream_calls.specs.PromisesGoOn.{AreShownFrom, DisplaysAddUp, OtherCallsPromiseNothing, PromisesGoOn, PromisesGoOnBehind, is_promise}
use Rattle.stream_calls.proofs.LastItems.{and_true, split_last}

abbrev Shown : Type 0
Shown = ShownPicture Picture

one_time : (queue time other_queue other : ℕ) → call.Promise queue time ≡ call.Promise other_queue other → time ≡ other
one_time queue time other_queue other e = cc

one_entry : (a b : Entry) → Called a ≡ Called b → a ≡ b
one_entry a b e = cc

pub drop_first : {A : Type 0} (xs ys : List A) → drop (length xs) (xs ++ ys) ≡ ys
drop_first [] ys = refl
drop_first (x ∷ xs) ys = drop_first xs ys

pub other_calls_promise_nothing : OtherCallsPromiseNothing
other_calls_promise_nothing own item shown not old = record {
  promised = λ front later entry queue time splits asked done.
      elim (split_last own front later item (Called entry) splits) [
        | inl there ↦ old.promised front there.0 entry queue time there.1 asked done
        | inr here ↦
            let is : is_promise entry.call ≡ true = ap is_promise asked in
            let both : has_done is_promise (Called entry) ≡ true = and_true (is_promise entry.call) (is_done entry.reply) is done in
            let other : has_done is_promise (Called entry) ≡ false = subst (λ (i : Item). has_done is_promise i ≡ false) here.0 not in
            absurd (let k : true ≡ false = sym both ∙ other in cc)
      ];
}

pub promises_go_on : PromisesGoOn
promises_go_on own made queue time shown asks all old = record {
  promised = λ front later entry other_queue other splits asked done.
      elim (split_last own front later (Called made) (Called entry) splits) [
        | inl there ↦ old.promised front there.0 entry other_queue other there.1 asked done
        | inr here ↦
            let same : made ≡ entry = one_entry made entry here.0 in
            let calls : call.Promise queue time ≡ call.Promise other_queue other = sym asks ∙ (ap (λ (e : Entry). e.call) same ∙ asked) in
            let when : time ≡ other = one_time queue time other_queue other calls in
            let behind : AreShownFrom time (drop (displays_in front) shown) =
            subst (λ items. AreShownFrom time (drop (displays_in items) shown)) (sym here.1) all in
            subst (λ n. AreShownFrom n (drop (displays_in front) shown)) when behind
      ];
}

pub promises_go_on_behind : PromisesGoOnBehind
promises_go_on_behind own entry queue time displayed others asks count all old =
    let same : drop (displays_in own) (displayed ++ others) ≡ others = ap (λ n. drop n (displayed ++ others)) count ∙ drop_first displayed others in
    promises_go_on own entry queue time (displayed ++ others) asks (subst (λ l. AreShownFrom time l) (sym same) all) old

pub displays_add_up : DisplaysAddUp
displays_add_up own item = sum_by_push (λ one. cond (has_done is_display one) 1 0) own item
