use Rattle.std.proofs.Common.{◌≤◌, ◌*◌, ◌-◌, length, take, ap, ap₂, sym, ◌∙◌, arith, rules}
use Rattle.bit_io.proofs.WriteLemmas.{all_but_is, has_free, length-all_but, take-all_but}
use Rattle.bit_io.specs.Bits.{bits_of}
use Rattle.bit_io.specs.Written.{all_but}
use Rattle.bit_io.proofs.writer.BitWriter.back_to.Goals as goal

pub cut-requires-clause-len : goal.cut-requires-clause-len
cut-requires-clause-len c =
    let items = c.self.inside.bytes.items in
    let free = c.self.inside.free in
    let fewer : c.mark.inside.bytes ≤ length items =
    omega (arith, c.requires, c.mark.view_is, c.mark.invariant.0, c.mark.invariant.1, length-all_but items free c.self.invariant, ap length c.self.view_is) in
    search (rules, fewer)

pub invariant_of-self : goal.invariant_of-self
invariant_of-self c =
    let m = c.mark.inside in
    has_free c.cut.new.bytes.items m.free (take (8 * m.bytes - m.free) (bits_of c.self.inside.bytes.items)) c.mark.invariant.0 c.cut.ensures.bits

pub returns : goal.returns
returns c =
    let m = c.mark.inside in
    let items = c.self.inside.bytes.items in
    let is = c.mark.view_is in
    let n = 8 * m.bytes - m.free in
    let all = c.self.view_is in
    let enough : n ≤ length (all_but c.self.inside.free items) = omega (arith, c.requires, is, ap length all) in
    all_but_is c.cut.new.bytes.items m.free (take n (bits_of items)) c.cut.ensures.bits
    ∙ sym (take-all_but items c.self.inside.free n enough) ∙ ap₂ (λ x y. take x y) is all
