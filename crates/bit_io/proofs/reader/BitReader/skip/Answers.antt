use Rattle.std.proofs.Common.{length, ap, sym, ◌∙◌, drop, arith}
use Rattle.bit_io.proofs.PlaceLemmas.{length_left, moved}
use Rattle.bit_io.proofs.reader.BitReader.skip.Goals as goal

pub invariant_of-self : goal.invariant_of-self
invariant_of-self c =
    let left = ap length (sym c.self.view_is) ∙ length_left c.self.inside.bytes.now c.self.inside.place.byte c.self.inside.place.bit in
    record {
      of_byte = omega arith;
      within = omega (arith, left);
      last_of_byte = c.self.invariant.last_of_byte;
      last = c.self.invariant.last;
    }

pub returns : goal.returns
returns c = moved c.self.inside.bytes.now c.self.inside.place.byte c.self.inside.place.bit c.args.n ∙ ap (drop c.args.n) c.self.view_is
