use Rattle.std.proofs.Common.{rules, ◌∙◌, ap}
use Rattle.std.proofs.lemmas.Fn.{always_returns_same}
use Rattle.std.proofs.lemmas.List.Sorted.{IsNonDecreasingBy-from_sort_by_key}
use Rattle.std.proofs.lemmas.Result.{IfOk-weaker}
use Rattle.trace_records.proofs.Sorting.{each_place}
use Rattle.trace_records.specs.Records.{bytes_of_all}
use Rattle.trace_records.specs.declared.record.Record.{Record}
use Rattle.trace_records.proofs.bytes.write_by_place.Goals as goal

pub returns : goal.returns
returns c =
    let sorted = c.sort_by_key.new.self.items in
    let rising = IsNonDecreasingBy-from_sort_by_key (λ (r : Record). r.place) sorted (c.in_ok-sort_by_key.ensures.sorted) (λ a r q k. search rules) in
    IfOk-weaker c.write_records.result _ _ (λ bytes is. (sorted, record { rising = rising; each = each_place c.args.records.items sorted (c.in_ok-sort_by_key.ensures.stable (λ (r : Record). r.place) (always_returns_same _ _ _ (λ a r q k. search rules))) }, is ∙ ap bytes_of_all c.deref.ensures.value)) c.write_records.ensures
