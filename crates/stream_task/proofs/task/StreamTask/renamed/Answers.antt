use Rattle.std.proofs.Common.{◌≡◌, ◌<◌, [], false, length, arith, rules, refl, ap}
use Rattle.std.proofs.Math.ListN.{length-set}
use Rattle.cb_types.specs.declared.picture_info.Reference.{Reference}
use Rattle.decoder_render.specs.Renamed.{with_references}
use Rattle.stream_task.specs.Renaming.{name_or, renamed_entry}
use Rattle.stream_task.proofs.Entries.{all_done, done_more}
use Rattle.stream_task.proofs.task.StreamTask.renamed.Goals as goal

abbrev some_entry : Reference
some_entry = record { surface = 0; is_long_term = false; top_is_reference = false; bottom_is_reference = false; field_order_cnt = []; frame_idx = 0 }

pub loop-place-preserved : goal.loop-place-preserved
loop-place-preserved c =
    let size : length c.args.info.now.references ≡ 16 = first_of (search rules, omega arith) in
    let place : c.loop-place.place < 16 = c.loop-place-test.true in
    let i = c.loop-place.invariant in
    let task = c.args.self.now in
    let change = renamed_entry (name_or task.slots task.objects c.args.decoder) in
    record {
      count = rw length-set i.count;
      done = done_more change c.args.info.now.references c.loop-place.references c.loop-place.place (omega (arith, size, place)) i.count _
          c.renamed_entry.result c.renamed_entry.ensures i.done;
      all = λ more. size;
    }

pub loop-place-init : goal.loop-place-init
loop-place-init c = record { count = refl; done = λ k d lt. absurd (omega arith); all = λ more. absurd (omega arith) }

pub returns : goal.returns
returns c =
    let i = c.loop-place.invariant in
    let size : length c.args.info.now.references ≡ 16 = i.all (omega (arith, c.loop-place-test.false)) in
    let task = c.args.self.now in
    let change = renamed_entry (name_or task.slots task.objects c.args.decoder) in
    ap (with_references c.args.info.now) (all_done change c.args.info.now.references c.loop-place.references some_entry i.count
    (λ k lt. i.done k some_entry (omega (arith, size, c.loop-place-test.false))))
