use Rattle.std.proofs.Common.{◌+◌, ◌*◌, ◌-◌, ◌++◌, ap, ◌∙◌, refl}
use Rattle.std.proofs.lemmas.Result.{on_ok_weaker}
use Rattle.std.specs.Int.Count.{count_leading_zeros}
use Rattle.bit_io.proofs.UeLemmas.{ue_word}
use Rattle.bit_io.proofs.writer.BitWriter.put_ue.Goals as goal

pub put_bits-requires-clause-few : goal.put_bits-requires-clause-few
put_bits-requires-clause-few c =
    rw c.from-code.ensures (ue_word c.args.value (2 * (63 - count_leading_zeros 64 (c.args.value + 1)) + 1) c.requires refl).0

pub put_bits-requires-clause-value : goal.put_bits-requires-clause-value
put_bits-requires-clause-value c =
    rw c.from-code.ensures (ue_word c.args.value (2 * (63 - count_leading_zeros 64 (c.args.value + 1)) + 1) c.requires refl).1

pub returns-clause-ok : goal.returns-clause-ok
returns-clause-ok c =
    let word = (ue_word c.args.value (2 * (63 - count_leading_zeros 64 (c.args.value + 1)) + 1) c.requires refl).2 in
    on_ok_weaker c.put_bits.result (λ e. e ∙ ap (λ x. c.args.self.now ++ x) (rw c.from-code.ensures word)) c.put_bits.ensures.ok
