use Rattle.std.proofs.Common.{◌≡◌, ℕ, None, length, refl, sym, subst, arith, rules}
use Rattle.cb_types.specs.SizeMbs.{macroblocks}
use Rattle.recon.specs.Laws.{AreWhole}
use Rattle.decoder_render.specs.Halves.{CanBuild, part_from}
use Rattle.decoder_render.specs.Parsed.{start_of}
use Rattle.decoder_render.specs.declared.halves.Source.{Source}
use Rattle.decoder_render.proofs.AtOnceLemmas.{all_inside, answer_accepted, answer_marks, each_slice}
use Rattle.decoder_render.proofs.HalvesLemmas.{first_below, none_built}
use Rattle.decoder_render.proofs.ParsedLemmas.{starts_at_none}
use Rattle.decoder_render.proofs.halves.construct_at_once.Goals as goal

pub construct_part-requires : goal.construct_part-requires
construct_part-requires g c =
    let source : Source = record { info = c.args.info; refs = c.args.refs; size = c.args.size; slices = c.args.slices; macroblocks = c.args.macroblocks } in
    let units = c.requires.parsed.0 in
    let none = starts_at_none source.slices.now in
    let inside = all_inside source units c.args.count c.requires.info c.requires.size (search rules) c.requires.macroblocks c.requires.parsed.1 c.args.count (omega arith) in
    let can : CanBuild source 0 c.args.count (part_from (start_of source.slices.now 0) c.args.marks.now c.args.into.now) =
    record {
      some = omega (arith, c.if-count-eq0.false);
      slices = c.requires.slices;
      few = c.requires.few;
      each = each_slice source units c.args.count c.requires.info c.requires.size (search rules) c.requires.macroblocks c.requires.parsed.1;
      start = refl;
      room = omega (arith, none, inside, c.requires.marks);
      tiles = omega (arith, c.requires.tiles, c.requires.marks);
      whole = subst (λ (n : ℕ). AreWhole c.args.marks.now c.args.into.now n) (sym c.requires.marks) c.requires.whole;
    } in
    search (rules, can)

pub returns-then-count-eq0-clause-accepted : goal.returns-then-count-eq0-clause-accepted
returns-then-count-eq0-clause-accepted g c = λ units parsed.
    let source : Source = record { info = c.args.info; refs = c.args.refs; size = c.args.size; slices = c.args.slices; macroblocks = c.args.macroblocks } in
    answer_accepted source units c.args.count c.requires.info c.requires.size (search rules) c.requires.macroblocks parsed c.args.marks.now c.args.into.now
    c.requires.marks c.requires.tiles c.requires.whole None (none_built source _ c.args.count c.if-count-eq0.true)

pub returns-then-count-eq0-clause-marks : goal.returns-then-count-eq0-clause-marks
returns-then-count-eq0-clause-marks g c =
    let source : Source = record { info = c.args.info; refs = c.args.refs; size = c.args.size; slices = c.args.slices; macroblocks = c.args.macroblocks } in
    answer_marks source c.requires.parsed.0 c.args.count c.requires.info c.requires.size (search rules) c.requires.macroblocks c.requires.parsed.1 c.args.marks.now c.args.into.now
    c.requires.marks c.requires.tiles c.requires.whole None (none_built source _ c.args.count c.if-count-eq0.true)

pub returns-clause-accepted : goal.returns-clause-accepted
returns-clause-accepted g c = λ units parsed.
    let source : Source = record { info = c.args.info; refs = c.args.refs; size = c.args.size; slices = c.args.slices; macroblocks = c.args.macroblocks } in
    let of_marks : length c.construct_part.new.marks ≡ macroblocks c.args.size = omega (arith, c.requires.marks, c.construct_part.auto.marks) in
    answer_accepted source units c.args.count c.requires.info c.requires.size (search rules) c.requires.macroblocks parsed c.construct_part.new.marks c.construct_part.new.into
    of_marks (omega (arith, c.requires.tiles, c.construct_part.auto.into))
    (subst (λ (n : ℕ). AreWhole c.construct_part.new.marks c.construct_part.new.into n) of_marks c.construct_part.ensures.whole) c.construct_part.result c.construct_part.ensures.built

pub returns-clause-marks : goal.returns-clause-marks
returns-clause-marks g c =
    let source : Source = record { info = c.args.info; refs = c.args.refs; size = c.args.size; slices = c.args.slices; macroblocks = c.args.macroblocks } in
    let of_marks : length c.construct_part.new.marks ≡ macroblocks c.args.size = omega (arith, c.requires.marks, c.construct_part.auto.marks) in
    answer_marks source c.requires.parsed.0 c.args.count c.requires.info c.requires.size (search rules) c.requires.macroblocks c.requires.parsed.1 c.construct_part.new.marks c.construct_part.new.into
    of_marks (omega (arith, c.requires.tiles, c.construct_part.auto.into))
    (subst (λ (n : ℕ). AreWhole c.construct_part.new.marks c.construct_part.new.into n) of_marks c.construct_part.ensures.whole) c.construct_part.result c.construct_part.ensures.built

pub returns-clause-number : goal.returns-clause-number
returns-clause-number g c =
    let source : Source = record { info = c.args.info; refs = c.args.refs; size = c.args.size; slices = c.args.slices; macroblocks = c.args.macroblocks } in
    first_below source _ 0 c.args.count c.construct_part.result c.construct_part.ensures.built

pub returns-clause-whole : goal.returns-clause-whole
returns-clause-whole g c =
    let of_marks : length c.construct_part.new.marks ≡ macroblocks c.args.size = omega (arith, c.requires.marks, c.construct_part.auto.marks) in
    subst (λ (n : ℕ). AreWhole c.construct_part.new.marks c.construct_part.new.into n) of_marks c.construct_part.ensures.whole
