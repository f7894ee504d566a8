use Rattle.std.proofs.Common.{length, ap, sym, ◌∙◌, arith}
use Rattle.std.proofs.lemmas.Bool.Decides.{nat_tests}
use Rattle.bit_io.proofs.PlaceLemmas.{length_left}
use Rattle.bit_io.proofs.reader.BitReader.holds.Goals as goal

pub returns-then-byte-self : goal.returns-then-byte-self
returns-then-byte-self c =
    let left = ap length (sym c.self.view_is) ∙ length_left c.self.inside.bytes.now c.self.inside.place.byte c.self.inside.place.bit in
    grind (arith, nat_tests, left)

pub returns-then-byte-self-2 : goal.returns-then-byte-self-2
returns-then-byte-self-2 c =
    let left = ap length (sym c.self.view_is) ∙ length_left c.self.inside.bytes.now c.self.inside.place.byte c.self.inside.place.bit in
    grind (arith, nat_tests, left)

pub returns-else-byte-self-2 : goal.returns-else-byte-self-2
returns-else-byte-self-2 c =
    let left = ap length (sym c.self.view_is) ∙ length_left c.self.inside.bytes.now c.self.inside.place.byte c.self.inside.place.bit in
    grind (arith, nat_tests, left)
