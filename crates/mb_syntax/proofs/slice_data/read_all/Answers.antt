use Rattle.std.proofs.Common.{◌≡◌, ◌∙◌, false, true, drop, take, arith, refl}
use Rattle.bit_io.specs.Trailing.{HasMoreData}
use Rattle.mb_syntax.proofs.PlaceLemmas.{further, in_two}
use Rattle.mb_syntax.proofs.ReadLemmas.{all_read, begun, read_on, stands_there}
use Rattle.mb_syntax.specs.MacroblockLayer.{place_before}
use Rattle.mb_syntax.specs.SliceData.{start}
use Rattle.mb_syntax.proofs.slice_data.read_all.Goals as goal

pub loop-columns-init : goal.loop-columns-init
loop-columns-init c = (omega arith, refl, begun c.args.slice.now c.args.reader.now c.new-columns.result (c.new-columns.ensures c.args.slice.now))

pub loop-columns-preserved : goal.loop-columns-preserved
loop-columns-preserved c =
    let slice = c.args.slice.now in
    let old = c.args.reader.now in
    let at = start (place_before old) in
    let count = c.loop-columns.count in
    let next = c.in_ok-count.count in
    let mid = c.loop-columns.reader in
    let first = take count c.loop-columns.into in
    let order = c.in_ok-count.ensures.next.0 in
    let more : HasMoreData mid = c.loop-columns-test.ensures.0 refl in
    let b = stands_there slice at old mid first c.loop-columns.columns count c.loop-columns.invariant.2 more in
    let second = drop count (take next c.read_step.new.into) in
    let parts = in_two c.read_step.new.into c.loop-columns.into count next order (omega (arith, c.in_ok-count.ensures.next.1, c.read_step.auto.into)) c.in_ok-count.ensures.before in (
      c.in_ok-count.ensures.next.1,
      c.in_ok-count.ensures.behind ∙ further c.loop-columns.into c.args.into.now count next order c.loop-columns.invariant.1,
      read_on slice at old mid first c.loop-columns.columns count b second (take next c.read_step.new.into) c.read_step.new.reader c.read_step.new.columns next parts
          (c.in_ok-count.ensures.reads b.to b.no_run b.stands),
    )

pub loop-columns-smaller : goal.loop-columns-smaller
loop-columns-smaller c =
    let b = stands_there c.args.slice.now (start (place_before c.args.reader.now)) c.args.reader.now c.loop-columns.reader (take c.loop-columns.count c.loop-columns.into) c.loop-columns.columns c.loop-columns.count
    c.loop-columns.invariant.2 (c.loop-columns-test.ensures.0 refl) in
    c.in_ok-count.ensures.shorter b.to.before b.stands.size b.stands.counts

pub returns-clause-reads : goal.returns-clause-reads
returns-clause-reads c =
    all_read c.args.slice.now (start (place_before c.args.reader.now)) c.args.reader.now c.loop-columns.reader (take c.loop-columns.count c.loop-columns.into) c.loop-columns.columns c.loop-columns.count
    c.loop-columns.invariant.0 (λ more. let e : false ≡ true = c.loop-columns-test.ensures.1 more in absurd cc) c.loop-columns.invariant.2
