use Rattle.std.proofs.Common.{sym, ◌∙◌}
use Rattle.driver_core.proofs.RenderLooks.{info_refused, own_refused, render_seen, size_refused}
use Rattle.driver_core.proofs.driver.Core.may_render.Goals as goal

pub returns-then-is_reference-clause-refuses : goal.returns-then-is_reference-clause-refuses
returns-then-is_reference-clause-refuses c =
    let a = c.args in
    own_refused a.self.now a.decoder a.target a.info.now c.in-Ok.on c.in-Ok.ensures.sees (sym c.is_reference.ensures ∙ c.if-is_reference.true)

pub returns-then-some_other_size-clause-refuses : goal.returns-then-some_other_size-clause-refuses
returns-then-some_other_size-clause-refuses c =
    let a = c.args in
    size_refused a.self.now a.decoder a.target a.info.now c.in-Ok.on c.in-Ok.ensures.sees (sym c.is_reference.ensures ∙ c.if-is_reference.false) (sym (rw c.kept.ensures at c.some_other_size.ensures) ∙ c.if-some_other_size.true)

pub returns-in-None-clause-sees : goal.returns-in-None-clause-sees
returns-in-None-clause-sees c =
    let a = c.args in
    render_seen a.self.now a.decoder a.target a.info.now c.in-Ok.on c.in-Ok.ensures.sees (sym c.is_reference.ensures ∙ c.if-is_reference.false) (sym (rw c.kept.ensures at c.some_other_size.ensures) ∙ c.if-some_other_size.false) c.in-None.ensures

pub returns-in-Some-clause-refuses : goal.returns-in-Some-clause-refuses
returns-in-Some-clause-refuses c =
    let a = c.args in
    info_refused a.self.now a.decoder a.target a.info.now c.in-Ok.on c.in-Ok.ensures.sees (sym c.is_reference.ensures ∙ c.if-is_reference.false) (sym (rw c.kept.ensures at c.some_other_size.ensures) ∙ c.if-some_other_size.false) c.in-Some.field c.in-Some.ensures
