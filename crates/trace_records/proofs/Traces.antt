-- Traces of histories that go on.
use Rattle.std.proofs.Common.{◌≡◌, ℕ, suc, ◌+◌, List, [], ◌∷◌, ◌++◌, length, refl, sym, ap, ◌∙◌, append_assoc, zero-add, arith}
use Rattle.std.proofs.lemmas.List.{append-nil}
use Rattle.driver_model.specs.declared.items.Item.{Item}
use Rattle.driver_model.specs.declared.items.Item.TheVariants.{Called, Ended}
use Rattle.trace_records.specs.Laws.{TracesGoOn, added}
use Rattle.trace_records.specs.Traces.{records_of, trace_from}

pub goes_on : (place : ℕ) (history : List Item) (item : Item) → trace_from place (history ++ item ∷ []) ≡ trace_from place history ++ added (place + length history) item
unfolding trace_from
goes_on place [] (Called entry) = let e : place + 0 ≡ place = omega arith in rw (e, append-nil) refl
goes_on place [] (Ended mark) = refl
goes_on place (Called entry ∷ later) item =
    let e : place + 1 + length later ≡ place + suc (length later) = omega arith in
    ap (λ r. records_of place entry.call entry.reply ++ r) (goes_on (place + 1) later item ∙ ap (λ at. trace_from (place + 1) later ++ added at item) e)
    ∙ sym (append_assoc (records_of place entry.call entry.reply) (trace_from (place + 1) later) (added (place + suc (length later)) item))
goes_on place (Ended mark ∷ later) item =
    let e : place + 1 + length later ≡ place + suc (length later) = omega arith in
    goes_on (place + 1) later item ∙ ap (λ at. trace_from (place + 1) later ++ added at item) e

pub traces_go_on : TracesGoOn
traces_go_on history item = goes_on 0 history item ∙ ap (λ at. trace_from 0 history ++ added at item) (zero-add (length history))
