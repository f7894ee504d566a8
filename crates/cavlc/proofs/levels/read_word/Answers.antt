use Rattle.std.proofs.Common.{◌+◌, ◌-◌, ◌<◌, ◌≤◌, length, refl, arith, rules}
use Rattle.std.proofs.lemmas.Nat.{one_shl}
use Rattle.std.specs.Int.Count.{count_leading_zeros}
use Rattle.cavlc.proofs.WordLemmas.{front_bounds, no_word, short_word, word_at}
use Rattle.cavlc.proofs.levels.read_word.Goals as goal

pub returns-then-prefix-gt15 : goal.returns-then-prefix-gt15
returns-then-prefix-gt15 c = no_word c.args.suffix_length c.peek-window.result c.args.reader.now c.peek-window.ensures (omega arith)

pub returns-then-not-holds : goal.returns-then-not-holds
returns-then-not-holds c =
    let size = c.size_of-size.result in
    let short : length c.args.reader.now < count_leading_zeros 32 c.peek-window.result + 1 + size = search rules in
    short_word c.args.suffix_length c.peek-window.result size c.args.reader.now c.peek-window.ensures c.size_of-size.ensures.size short

pub overflow_sub-suffix-2 : goal.overflow_sub-suffix-2
overflow_sub-suffix-2 c =
    let w = c.peek-window.result in
    let z = count_leading_zeros 32 w in
    let size = c.size_of-size.result in
    let few : size ≤ 12 = c.size_of-size.ensures.few in
    let low : z ≤ 15 = omega arith in
    let bounds = front_bounds w z size (32 - (z + 1 + size)) c.peek-window.type_inv refl (omega (arith, few, low)) in
    let one = one_shl size 32 (omega (arith, few)) in
    rw one bounds.0

pub returns : goal.returns
returns c =
    let w = c.peek-window.result in
    let z = count_leading_zeros 32 w in
    let size = c.size_of-size.result in
    let few : size ≤ 12 = c.size_of-size.ensures.few in
    let low : z ≤ 15 = omega arith in
    let n = z + 1 + size in
    let held : n ≤ length c.args.reader.now = search rules in
    let word = word_at w z size n c.args.reader.now c.peek-window.type_inv c.peek-window.ensures refl refl (omega (arith, few, low)) held in
    let one = one_shl size 32 (omega (arith, few)) in
    rw (one, c.skip.ensures) (record { prefix_fits = low; size_is = c.size_of-size.ensures.size; suffix_fits = word.0 }, word.1)
