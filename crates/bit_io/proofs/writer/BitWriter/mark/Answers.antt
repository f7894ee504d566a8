use Rattle.std.proofs.Common.{◌≡◌, length, ap, arith, rules}
use Rattle.bit_io.proofs.WriteLemmas.{length-all_but}
use Rattle.bit_io.proofs.writer.BitWriter.mark.Goals as goal

pub invariant_of-result : goal.invariant_of-result
invariant_of-result c =
    let size : c.len.result ≡ length c.self.inside.bytes.items = search rules in
    (c.self.invariant.few, omega (arith, size, length-all_but c.self.inside.bytes.items c.self.inside.free c.self.invariant))

pub returns : goal.returns
returns c =
    let size : c.len.result ≡ length c.self.inside.bytes.items = search rules in
    omega (arith, size, length-all_but c.self.inside.bytes.items c.self.inside.free c.self.invariant, ap length c.self.view_is)
