use Rattle.std.proofs.Common.{Err, Ok, refl, subst}
use Rattle.driver_core.specs.RenderStarts.{StartRender}
use Rattle.driver_core.specs.declared.answer.CoreAnswer.TheVariants.{Later, Now}
use Rattle.driver_core.proofs.driver.Core.begin_counted.Goals as goal

pub returns-in-Now-Ok : goal.returns-in-Now-Ok
returns-in-Now-Ok c =
    let a = c.args in
    subst (λ bytes. StartRender a.self.now c.start_render.new.self a.decoder a.target a.info.now bytes (Now (Ok c.in-Now-Ok.job))) c.bytes.ensures (rw c.in-Now-Ok.field-0-is at c.in-Now-Ok.ensures)

pub returns-in-Now-Err : goal.returns-in-Now-Err
returns-in-Now-Err c d caller stands =
    let a = c.args in
    let s = subst (λ bytes. StartRender a.self.now c.start_render.new.self a.decoder a.target a.info.now bytes (Now (Err c.in-Now-Err.refusal))) c.bytes.ensures (rw c.in-Now-Err.field-0-is at c.in-Now-Err.ensures) d caller stands in
    (refl, s.0, s.1)

pub returns-in-Later : goal.returns-in-Later
returns-in-Later c d caller stands =
    let a = c.args in
    let s = subst (λ bytes. StartRender a.self.now c.start_render.new.self a.decoder a.target a.info.now bytes Later) c.bytes.ensures c.in-Later.ensures d caller stands in
    (refl, s.0, s.1)
