use Rattle.std.proofs.Common.{Option, false, refl, subst, sym, true}
use Rattle.std.proofs.lemmas.Result.{on_ok_weaker}
use Rattle.element_tables.specs.Syntax.{Appends, any}
use Rattle.element_tables.proofs.OneElement.{flag_appended}
use Rattle.slice_header.proofs.Written.{flagged_none, flagged_some}
use Rattle.slice_header.specs.Spelling.{weight}
use Rattle.slice_header.specs.Lists.{flagged}
use Rattle.cb_types.specs.declared.header.Weight.{Weight}
use Rattle.slice_header.proofs.weights_writing.put_luma.Goals as goal

pub returns-in_ok-put_flag-in-Some-clause-ok : goal.returns-in_ok-put_flag-in-Some-clause-ok
returns-in_ok-put_flag-in-Some-clause-ok c =
    on_ok_weaker c.put_weight.result (λ e. subst (λ (x : Option (Weight)). Appends (flagged weight) x c.args.out.now c.put_weight.new.out) (sym c.in-Some.is)
    (flagged_some weight c.in-Some.weight _ _ _ (flag_appended any true _ _ refl c.in_ok-put_flag-in-Some.ensures.ok) e)) c.put_weight.ensures.ok

pub returns-in-None-clause-ok : goal.returns-in-None-clause-ok
returns-in-None-clause-ok c =
    on_ok_weaker c.put_flag-in-None.result (λ e. subst (λ (x : Option (Weight)). Appends (flagged weight) x c.args.out.now c.put_flag-in-None.new.out) (sym c.in-None.is)
    (flagged_none weight _ _ (flag_appended any false _ _ refl e))) c.put_flag-in-None.ensures.ok
