use Rattle.std.proofs.Common.{◌≡◌, ◌+◌, ◌*◌, length, ap, sym, ◌∙◌, arith}
use Rattle.bit_io.proofs.WriteLemmas.{length-all_but}
use Rattle.bit_io.proofs.writer.BitWriter.bits_to_byte.Goals as goal

pub returns : goal.returns
returns c =
    let whole : length c.args.self.now + c.self.inside.free ≡ 8 * length c.self.inside.bytes.items =
    ap (λ x. length x + c.self.inside.free) (sym c.self.view_is) ∙ length-all_but c.self.inside.bytes.items c.self.inside.free c.self.invariant in
    let few = c.self.invariant.few in
    omega (arith, whole, few)
