use Rattle.std.proofs.Common.{◌++◌, ◌∷◌, [], List, ap, sym, ◌∙◌, length, length-append, arith}
use Rattle.driver_objects.specs.Flips.{flipped, told}
use Rattle.trace_records.specs.declared.record.Event.TheVariants.{Advance}
use Rattle.trace_records.specs.declared.record.Record.{Record}
use Rattle.trace_records.specs.Traces.{flip_event, record_at}
use Rattle.call_trace.proofs.Recording.{tick_more}
use Rattle.call_trace.proofs.calls.put_tick.Goals as goal

pub loop-i-preserved : goal.loop-i-preserved
loop-i-preserved c =
    let flips = flipped c.args.flips.now in
    let one : Record = record_at c.args.place (flip_event (told c.get-flip.result.now)) in
    let put = c.put-in-loop-i.ensures in
    let long = ap length put.is ∙ length-append c.loop-i.records.items (one ∷ []) in
    let before = c.loop-i.invariant in
    record {
      is = put.is ∙ ap (λ (b : List Record). b ++ one ∷ []) before.is ∙ sym (tick_more c.args.records.now.items c.args.place _ flips c.loop-i.i _ c.get-flip.ensures);
      many = omega (arith, long, before.many);
      room = omega (arith, before.room, put.room);
      few = before.few;
      all = before.all;
    }
