use Rattle.std.proofs.Common.{length, ap, sym, ◌∙◌, arith}
use Rattle.bit_io.proofs.PlaceLemmas.{length_left}
use Rattle.bit_io.proofs.reader.BitReader.bits_to_byte.Goals as goal

pub returns : goal.returns
returns c =
    let left = ap length (sym c.self.view_is) ∙ length_left c.self.inside.bytes.now c.self.inside.place.byte c.self.inside.place.bit in
    let bit = c.self.invariant.of_byte in
    let within = c.self.invariant.within in
    omega (arith, left, bit, within)
