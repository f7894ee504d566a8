use Rattle.std.proofs.Common.{◌≡◌, ◌++◌, ap, sym, ◌∙◌, to_z-of_z}
use Rattle.std.proofs.lemmas.Result.{on_ok_weaker}
use Rattle.bit_io.proofs.LawLemmas.{se_is}
use Rattle.bit_io.specs.Codewords.{ue, se, se_number}
use Rattle.bit_io.proofs.writer.BitWriter.put_se.Goals as goal

pub returns-clause-ok : goal.returns-clause-ok
returns-clause-ok c =
    let word : ue c.number_of.result ≡ se c.args.value = ap ue (c.number_of.ensures ∙ ap se_number (to_z-of_z c.ranges.value)) ∙ sym (se_is c.args.value) in
    on_ok_weaker c.put_ue.result (λ e. e ∙ ap (λ x. c.args.self.now ++ x) word) c.put_ue.ensures.ok
