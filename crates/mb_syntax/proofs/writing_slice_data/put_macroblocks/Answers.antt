use Rattle.std.proofs.Common.{◌<◌, [], arith, length, pos}
use Rattle.cb_types.specs.declared.macroblock.Macroblock.{Macroblock}
use Rattle.cb_types.specs.declared.macroblock.MbKind.TheVariants.{Skip}
use Rattle.mb_syntax.proofs.WriteLemmas.{at, columns_more, next_is, none_yet, one_written}
use Rattle.mb_syntax.proofs.writing_slice_data.put_macroblocks.Goals as goal

abbrev missing : Macroblock
missing = record { kind = Skip; qp_delta = pos 0; luma_dc = []; luma = []; chroma_dc = []; chroma = [] }

pub loop-k-init : goal.loop-k-init
loop-k-init c = record { written = none_yet c.args.slice.now c.args.mbs.now c.args.out.now; counts = c.new-columns.ensures c.args.slice.now; few = omega arith }

pub put_next-requires-clause-spelling : goal.put_next-requires-clause-spelling
put_next-requires-clause-spelling c =
    let slice = c.args.slice.now in
    let mbs = c.args.mbs.now in
    let old = c.args.out.now in
    (at slice mbs old c.loop-k.k, next_is slice mbs old c.loop-k.out c.loop-k.columns c.loop-k.k c.loop-k.run missing c.requires.spelling (omega arith) c.loop-k.invariant.written c.loop-k.invariant.counts)

pub loop-k-preserved : goal.loop-k-preserved
loop-k-preserved c =
    let slice = c.args.slice.now in
    let mbs = c.args.mbs.now in
    let old = c.args.out.now in
    let k = c.loop-k.k in
    let below : k < length mbs = omega arith in
    let next = next_is slice mbs old c.loop-k.out c.loop-k.columns k c.loop-k.run missing c.requires.spelling below c.loop-k.invariant.written c.loop-k.invariant.counts in
    let put = c.in_ok-run.ensures.ok (at slice mbs old k) next in
    record {
      written = one_written slice mbs old c.loop-k.out c.put_next.new.out k c.loop-k.run c.in_ok-run.run' missing below c.loop-k.invariant.written put.0 put.1;
      counts = columns_more slice mbs old c.put_next.new.columns k missing below (c.in_ok-run.ensures.columns (at slice mbs old k) next);
      few = c.in_ok-run.ensures.run;
    }
