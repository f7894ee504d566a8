-- What the end of a job answers is the reply of its beginning.
use Rattle.std.proofs.Common.{◌≡◌, ℕ, List, [], ◌∷◌, ◌++◌, length, slice_get, Option, Some, Result, Ok, Err, refl, ap, sym, ◌∙◌}
use Rattle.std.specs.Prelude.{is_ok}
use Rattle.device_lock.specs.declared.view.View.{View}
use Rattle.driver.specs.Made.{entry_of}
use Rattle.driver_model.specs.Answers.{Reply, reply_with}
use Rattle.driver_model.specs.Ends.{IsReplyOfJob}
use Rattle.driver_model.specs.Passes.{Adds}
use Rattle.driver_model.specs.declared.calls.Call.{Call}
use Rattle.driver_model.specs.declared.items.Entry.{Entry}
use Rattle.driver_model.specs.declared.items.Item.{Item}
use Rattle.driver_model.specs.declared.items.Item.TheVariants.{Called}
use Rattle.driver_model.specs.declared.replies.Answer.TheVariants.{Done}
use Rattle.stream_calls.specs.Counted.{is_done}
use Rattle.vd_status.specs.declared.refusal.Refusal.{Refusal}

get_last : {X : Type 0} (xs : List X) (y : X) → slice_get (xs ++ y ∷ []) (length xs) ≡ Some y
get_last [] y = refl
get_last (x ∷ xs) y = get_last xs y

same_item : (one other : Item) → (let o : Option Item = Some one in o ≡ Some other) → one ≡ other
same_item one other e = (let k : (let o : Option Item = Some one in o ≡ Some other) = e in cc)

same_entry : (one other : Entry) → Called one ≡ Called other → one ≡ other
same_entry one other e = (let k : Called one ≡ Called other = e in cc)

pub reply_found : (v u : View Item) (asked : Call) (r reply : Reply) (place : ℕ) (caller : List ℕ)
    → Adds v (entry_of v asked r) place u → IsReplyOfJob u.seen place caller reply → r ≡ reply
reply_found v u asked r reply place caller adds is =
    let begun : Entry = record { caller = v.number; call = asked; reply = r } in
    let last : slice_get u.seen place ≡ Some (Called begun) =
    ap (λ (l : List Item). slice_get l place) adds.seen
    ∙ (ap (λ n. slice_get ((v.seen ++ adds.between) ++ entry_of v asked r ∷ []) n) adds.at_place ∙ get_last (v.seen ++ adds.between) (entry_of v asked r)) in
    let same : begun ≡ is.entry = same_entry begun is.entry (same_item (Called begun) (Called is.entry) (sym last ∙ is.at_place)) in
    ap (λ (e : Entry). e.reply) same ∙ is.replies

pub done_or_not : (result : Result (Unit {0}) Refusal) → is_done (reply_with (λ nothing. Done) result) ≡ is_ok result
done_or_not (Ok nothing) = refl
done_or_not (Err refusal) = refl
