use Rattle.std.proofs.Common.{◌≡◌, ◌≤◌, ◌+◌, ◌*◌, ◌-◌, ◌%◌, ◌++◌, length, ap, sym, ◌∙◌, arith}
use Rattle.std.proofs.lemmas.Result.{on_ok_weaker}
use Rattle.bit_io.proofs.WriteLemmas.{length-all_but, trailing_word}
use Rattle.bit_io.proofs.writer.BitWriter.finish.Goals as goal
use Rattle.bit_io.proofs.writer.BitWriter.finish.Goals.{then-self-eq0, else-self-eq0}

pub returns-clause-ok : goal.returns-clause-ok
returns-clause-ok c =
    let n = c.if-self-eq0.n in
    let len = length c.args.self.now in
    let whole : len + c.self.inside.free ≡ 8 * length c.self.inside.bytes.items =
    ap (λ x. length x + c.self.inside.free) (sym c.self.view_is) ∙ length-all_but c.self.inside.bytes.items c.self.inside.free c.self.invariant in
    let few = c.self.invariant.few in
    let fits : (1 ≤ n) × (n ≤ 8) × (7 - len % 8 ≡ n - 1) = elim c.if-self-eq0.branch [
      | then-self-eq0 w ↦ (omega arith, omega arith, omega arith)
      | else-self-eq0 w ↦ (omega arith, omega arith, omega arith)
    ] in
    on_ok_weaker c.put_bits.result (λ e. e ∙ ap (λ x. c.args.self.now ++ x) (trailing_word n len fits.0 fits.1 fits.2)) c.put_bits.ensures.ok
