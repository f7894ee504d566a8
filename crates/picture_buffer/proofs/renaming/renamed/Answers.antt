use Rattle.std.proofs.Common.{◌≡◌, ◌<◌, length, arith, rules, refl, ap}
use Rattle.std.proofs.Math.ListN.{length-set}
use Rattle.decoder_render.specs.Renamed.{with_references}
use Rattle.picture_buffer.specs.Renaming.{renamed_entry}
use Rattle.picture_buffer.proofs.Renamed.{all_done, done_more}
use Rattle.picture_buffer.proofs.renaming.renamed.Goals as goal

pub renamed_entry-requires : goal.renamed_entry-requires
renamed_entry-requires c =
    let size : length c.args.info.now.references ≡ 16 = first_of (search rules, omega arith) in
    let place : c.loop-place.place < 16 = c.loop-place-test.true in
    c.requires c.loop-place.place _ (omega (arith, size, place))

pub loop-place-preserved : goal.loop-place-preserved
loop-place-preserved c =
    let size : length c.args.info.now.references ≡ 16 = first_of (search rules, omega arith) in
    let place : c.loop-place.place < 16 = c.loop-place-test.true in
    let i = c.loop-place.invariant in
    record {
      count = rw length-set i.count;
      done = done_more (renamed_entry c.args.surfaces.now) c.args.info.now.references c.loop-place.references c.loop-place.place (omega (arith, size, place)) i.count _ c.renamed_entry.result c.renamed_entry.ensures i.done;
      all = λ more. size;
    }

pub loop-place-init : goal.loop-place-init
loop-place-init c = record { count = refl; done = λ k lt. absurd (omega arith); all = λ more. absurd (omega arith) }

pub returns : goal.returns
returns c =
    let i = c.loop-place.invariant in
    let size : length c.args.info.now.references ≡ 16 = i.all (omega (arith, c.loop-place-test.false)) in
    ap (with_references c.args.info.now) (all_done (renamed_entry c.args.surfaces.now) c.args.info.now.references c.loop-place.references i.count (λ k lt. i.done k (omega (arith, size, c.loop-place-test.false))))
