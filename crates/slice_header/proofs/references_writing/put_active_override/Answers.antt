use Rattle.std.proofs.Common.{Option, false, refl, subst, sym, true}
use Rattle.std.proofs.lemmas.Result.{on_ok_weaker}
use Rattle.element_tables.specs.Syntax.{Appends, any}
use Rattle.element_tables.proofs.OneElement.{flag_appended}
use Rattle.slice_header.proofs.Written.{flagged_none, flagged_some}
use Rattle.std.proofs.Common.{arith, ℕ, ◌≤◌}
use Rattle.element_tables.specs.Syntax.{ue, up_to}
use Rattle.element_tables.proofs.OneElement.{ue_appended}
use Rattle.element_tables.proofs.Rules.{up_to_is}
use Rattle.slice_header.specs.Spelling.{active_override}
use Rattle.slice_header.proofs.Actives.{IsOverride}
use Rattle.slice_header.proofs.references_writing.put_active_override.Goals as goal

pub returns-in_ok-put_flag-in-Some-clause-ok : goal.returns-in_ok-put_flag-in-Some-clause-ok
unfolding active_override
returns-in_ok-put_flag-in-Some-clause-ok c =
    let most : c.in-Some.minus1 ≤ 15 = subst IsOverride c.in-Some.is c.requires in
    on_ok_weaker c.put_ue.result (λ e. subst (λ (x : Option (ℕ)). Appends active_override x c.args.out.now c.put_ue.new.self) (sym c.in-Some.is)
    (flagged_some (ue (up_to 15)) c.in-Some.minus1 _ _ _ (flag_appended any true _ _ refl c.in_ok-put_flag-in-Some.ensures.ok) (ue_appended (up_to 15) c.in-Some.minus1 _ _ (omega (arith, most)) (up_to_is c.in-Some.minus1 15 most) e))) c.put_ue.ensures.ok

pub returns-in-None-clause-ok : goal.returns-in-None-clause-ok
unfolding active_override
returns-in-None-clause-ok c =
    on_ok_weaker c.put_flag-in-None.result (λ e. subst (λ (x : Option (ℕ)). Appends active_override x c.args.out.now c.put_flag-in-None.new.out) (sym c.in-None.is)
    (flagged_none (ue (up_to 15)) _ _ (flag_appended any false _ _ refl e))) c.put_flag-in-None.ensures.ok
