use Rattle.std.proofs.Common.{◌++◌, ◌∙◌, Bool, List, ap, sym}
use Rattle.std.proofs.lemmas.Result.{on_ok_weaker}
use Rattle.mb_syntax.proofs.ModeLemmas.{predicted_bits, remaining_bits}
use Rattle.mb_syntax.specs.Prediction.{IsMode, mode_bits}
use Rattle.cb_types.specs.declared.macroblock.Mode.{Mode}
use Rattle.std.proofs.Common.{subst}
use Rattle.mb_syntax.proofs.writing_kinds.put_mode.Goals as goal

pub returns-in-Predicted-clause-ok : goal.returns-in-Predicted-clause-ok
returns-in-Predicted-clause-ok c = on_ok_weaker c.put_u.result (λ e. e ∙ ap (λ (x : List Bool). c.args.out.now ++ x) (predicted_bits ∙ ap mode_bits (sym c.in-Predicted.is))) c.put_u.ensures.ok

pub returns-in-Remaining-clause-ok : goal.returns-in-Remaining-clause-ok
returns-in-Remaining-clause-ok c =
    let is = subst (λ (x : Mode). IsMode x) c.in-Remaining.is c.requires in
    on_ok_weaker c.put_u-in-Remaining.result (λ e. e ∙ ap (λ (x : List Bool). c.args.out.now ++ x) (remaining_bits c.in-Remaining.remaining is ∙ ap mode_bits (sym c.in-Remaining.is))) c.put_u-in-Remaining.ensures.ok
