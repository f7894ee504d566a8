use Rattle.std.proofs.Common.{ℕ, ◌+◌, ◌<◌, length, sym, ap, ◌∙◌, arith, length-set}
use Rattle.decoder_render.proofs.ParsedLemmas.{kept_behind, more_behind, none_behind, none_parsed, start_behind, starts_at_none}
use Rattle.decoder_render.proofs.parsing.parse_slices.Goals as goal

pub loop-number-init : goal.loop-number-init
loop-number-init c = record {
  room = c.requires.slices;
  whole = c.requires.macroblocks;
  parsed = none_parsed c.args.info.now c.args.size _ c.args.slices.now c.args.macroblocks.now;
  starts = sym (starts_at_none c.args.slices.now);
  inside = omega arith;
  some = omega arith;
}

pub loop-number-preserved : goal.loop-number-preserved
loop-number-preserved c =
    let slices = c.loop-number.slices in
    let k = c.loop-number.number in
    let was = c.loop-number.invariant in
    let count = c.in-Some.ensures.count in
    let below = c.loop-number-test.true in
    let room : k < length slices = omega (arith, was.room, was.some, below, count) in
    record {
      room = length-set slices k c.in-Some.slice ∙ was.room;
      whole = c.parse_unit.auto.macroblocks ∙ was.whole;
      parsed = more_behind c.args.info.now c.args.size c.args.units.now slices k c.loop-number.covered below was.starts
          c.index-units-number.result c.loop-number.macroblocks c.parse_unit.new.macroblocks c.in-Some.slice room c.index-units-number.is c.in-Some.ensures.kept c.in-Some.ensures.some c.in-Some.ensures.reads was.parsed;
      starts = ap (λ (n : ℕ). n + c.in-Some.slice.count) was.starts ∙ sym (start_behind slices k c.in-Some.slice room);
      inside = count.1;
      some = omega (arith, was.some, count.0);
    }

pub returns-in_default-clause-parsed : goal.returns-in_default-clause-parsed
returns-in_default-clause-parsed c =
    kept_behind c.args.info.now c.args.size c.args.units.now c.loop-number.slices c.loop-number.number c.loop-number.covered c.loop-number-test.true c.loop-number.invariant.starts
    c.loop-number.macroblocks c.parse_unit.new.macroblocks c.parse_unit.ensures.kept c.loop-number.invariant.parsed

pub returns-in_default-clause-unparsed : goal.returns-in_default-clause-unparsed
returns-in_default-clause-unparsed c _ =
    let was = c.loop-number.invariant in
    let below = c.loop-number-test.true in
    none_behind c.args.info.now c.args.size c.args.units.now c.loop-number.slices c.loop-number.number c.loop-number.covered below was.starts
    c.index-units-number.result (omega (arith, was.room, was.some, was.inside, below)) c.index-units-number.is c.in_default.ensures.reads
