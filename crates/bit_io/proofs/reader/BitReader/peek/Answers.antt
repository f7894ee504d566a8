use Rattle.std.proofs.Common.{◌≤◌, ◌^◌, ◌<◌, ◌/◌, ◌-◌, ◌∙◌, arith, pow_mono}
use Rattle.bit_io.proofs.NumberLemmas.{front, front_lt, halved}
use Rattle.bit_io.proofs.reader.BitReader.peek.Goals as goal

pub overflow_cast-result-2 : goal.overflow_cast-result-2
overflow_cast-result-2 c =
    let w = c.window.result in
    let small : w / 2 ^ (64 - c.args.n) < 2 ^ c.args.n = front_lt w c.args.n (omega arith) c.window.type_inv in
    let within : c.args.n ≤ 32 = c.requires in
    let value = halved w c.args.n (omega arith) in
    rw value (omega (arith, small, pow_mono within))

pub returns : goal.returns
returns c = halved c.window.result c.args.n (omega arith) ∙ front c.window.result c.args.n c.args.self.now (omega arith) c.window.ensures
