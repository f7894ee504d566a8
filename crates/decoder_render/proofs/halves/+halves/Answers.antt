use Rattle.std.proofs.Common.{◌≡◌, ◌+◌, ◌++◌, ℕ, Option, length, refl, sym, subst, arith}
use Rattle.decoder_render.specs.Halves.{IsFirstStop, part_from}
use Rattle.decoder_render.specs.Parsed.{start_of}
use Rattle.decoder_render.proofs.HalvesLemmas.{can_back, can_front, first_of_both, starts_in_order, starts_next_in, whole_both}
use Rattle.decoder_render.proofs.halves.+halves.Goals as goal

pub construct_part-overflow_sub-count : goal.construct_part-overflow_sub-count
construct_part-overflow_sub-count g t c =
    let some = c.requires.some in
    let order = starts_next_in c.args.source c.args.from c.args.to some c.requires.each in
    omega (arith, order)

pub construct_part-overflow_sub-here : goal.construct_part-overflow_sub-here
construct_part-overflow_sub-here g t c =
    let middle : ℕ = c.middle_of-middle.result in
    let order = starts_in_order c.args.source.slices.now c.args.from middle (omega (arith, c.middle_of-middle.ensures.some)) in
    let low = (c.requires.each c.args.from c.requires.some).first in
    let high = (c.requires.each middle c.middle_of-middle.ensures.less).first in
    omega (arith, order, low, high)

pub construct_part-split_at_mut-low_marks-requires : goal.construct_part-split_at_mut-low_marks-requires
construct_part-split_at_mut-low_marks-requires g t c =
    let middle : ℕ = c.middle_of-middle.result in
    let order = starts_in_order c.args.source.slices.now middle c.args.to (omega (arith, c.middle_of-middle.ensures.less)) in
    let low = (c.requires.each c.args.from c.requires.some).first in
    let high = (c.requires.each middle c.middle_of-middle.ensures.less).first in
    omega (arith, order, low, high, c.requires.room)

pub construct_part-both_halves-front-requires-clause-front : goal.construct_part-both_halves-front-requires-clause-front
construct_part-both_halves-front-requires-clause-front g t c κs within =
    let middle : ℕ = c.middle_of-middle.result in
    let order = starts_in_order c.args.source.slices.now c.args.from middle (omega (arith, c.middle_of-middle.ensures.some)) in
    let low = (c.requires.each c.args.from c.requires.some).first in
    let high = (c.requires.each middle c.middle_of-middle.ensures.less).first in
    let marks = c.split_at_mut-low_marks in
    let tiles = c.split_at_mut-low_tiles in
    can_front c.args.source c.args.from middle c.args.to c.args.marks.now marks.result.0.now marks.result.1.now c.args.into.now tiles.result.0.now tiles.result.1.now
    c.middle_of-middle.ensures.some c.middle_of-middle.ensures.less marks.ensures.value tiles.ensures.value
    (omega (arith, order, low, high, marks.ensures.front_len)) (omega (arith, marks.ensures.front_len, tiles.ensures.front_len)) c.requires

pub construct_part-both_halves-front-requires-clause-back : goal.construct_part-both_halves-front-requires-clause-back
construct_part-both_halves-front-requires-clause-back g t c κs within =
    let middle : ℕ = c.middle_of-middle.result in
    let order = starts_in_order c.args.source.slices.now c.args.from middle (omega (arith, c.middle_of-middle.ensures.some)) in
    let low = (c.requires.each c.args.from c.requires.some).first in
    let high = (c.requires.each middle c.middle_of-middle.ensures.less).first in
    let marks = c.split_at_mut-low_marks in
    let tiles = c.split_at_mut-low_tiles in
    can_back c.args.source c.args.from middle c.args.to c.args.marks.now marks.result.0.now marks.result.1.now c.args.into.now tiles.result.0.now tiles.result.1.now
    c.middle_of-middle.ensures.some c.middle_of-middle.ensures.less marks.ensures.value tiles.ensures.value
    (omega (arith, order, low, high, marks.ensures.front_len)) (omega (arith, marks.ensures.front_len, tiles.ensures.front_len)) c.requires

pub construct_part-returns-clause-built : goal.construct_part-returns-clause-built
construct_part-returns-clause-built g t c =
    let source = c.args.source in
    let middle : ℕ = c.middle_of-middle.result in
    let order = starts_in_order source.slices.now c.args.from middle (omega (arith, c.middle_of-middle.ensures.some)) in
    let low = (c.requires.each c.args.from c.requires.some).first in
    let high = (c.requires.each middle c.middle_of-middle.ensures.less).first in
    let marks = c.split_at_mut-low_marks in
    let tiles = c.split_at_mut-low_tiles in
    let both = c.both_halves-front in
    let front : ℕ = start_of source.slices.now c.args.from in
    let next : ℕ = start_of source.slices.now middle in
    let seam : front + length both.new.low_marks ≡ next = omega (arith, order, low, high, marks.ensures.front_len, both.auto.low_marks) in
    let same : length both.new.low_tiles ≡ length both.new.low_marks = omega (arith, marks.ensures.front_len, tiles.ensures.front_len, both.auto.low_marks, both.auto.low_tiles) in
    let made = first_of_both source c.args.from middle c.args.to front next both.new.low_marks both.new.high_marks both.new.low_tiles both.new.high_tiles refl refl seam same
    c.middle_of-middle.ensures.some c.middle_of-middle.ensures.less both.result.0 both.result.1 both.ensures.front both.ensures.back in
    subst (λ (answer : Option ℕ). IsFirstStop source (part_from front (both.new.low_marks ++ both.new.high_marks) (both.new.low_tiles ++ both.new.high_tiles)) c.args.from c.args.to answer) (sym c.or.ensures) made

pub construct_part-returns-clause-whole : goal.construct_part-returns-clause-whole
construct_part-returns-clause-whole g t c =
    let marks = c.split_at_mut-low_marks in
    let tiles = c.split_at_mut-low_tiles in
    let both = c.both_halves-front in
    let same : length both.new.low_tiles ≡ length both.new.low_marks = omega (arith, marks.ensures.front_len, tiles.ensures.front_len, both.auto.low_marks, both.auto.low_tiles) in
    let others : length both.new.high_tiles ≡ length both.new.high_marks = omega (arith, marks.ensures.back_len, tiles.ensures.back_len, both.auto.high_marks, both.auto.high_tiles, c.requires.tiles) in
    whole_both both.new.low_marks both.new.high_marks both.new.low_tiles both.new.high_tiles same others both.ensures.front_whole both.ensures.back_whole
