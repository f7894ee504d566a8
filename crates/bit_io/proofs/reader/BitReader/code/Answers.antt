use Rattle.std.proofs.Common.{◌≡◌, ℕ, ◌+◌, ◌*◌, ◌-◌, ◌/◌, ◌^◌, ap, ◌∙◌, arith}
use Rattle.bit_io.proofs.NumberLemmas.{front}
use Rattle.bit_io.proofs.UeLemmas.{later_code}
use Rattle.bit_io.proofs.reader.BitReader.code.Goals as goal

pub returns-then-zeros-le28 : goal.returns-then-zeros-le28
returns-then-zeros-le28 c =
    let shift : 63 - 2 * c.args.zeros ≡ 64 - (2 * c.args.zeros + 1) = omega arith in
    ap (λ (x : ℕ). c.args.window / 2 ^ x) shift ∙ front c.args.window (2 * c.args.zeros + 1) c.args.self.now (omega arith) c.requires.over

pub returns-else-zeros-le28 : goal.returns-else-zeros-le28
returns-else-zeros-le28 c =
    later_code c.args.window c.later_window.result c.args.zeros c.args.self.now (omega arith) c.requires.few c.requires.leading c.requires.over c.later_window.ensures
