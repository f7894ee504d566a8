use Rattle.std.proofs.Common.{◌≡◌, ◌==◌, true, false, length, Err, sym, ◌∙◌, subst, arith}
use Rattle.std.proofs.lemmas.Bool.Decides.{nat_tests}
use Rattle.vd_status.specs.declared.refusal.Refusal.TheVariants.{SliceCount}
use Rattle.driver_model.specs.Steps.{Step}
use Rattle.driver_model.specs.declared.calls.Call.TheVariants.{Render}
use Rattle.driver_core.proofs.RenderStarts.{count_refused, render_waits, started}
use Rattle.driver_core.proofs.RenderTests.{held_is}
use Rattle.driver_core.proofs.driver.Core.start_render.Goals as goal

pub returns-then-units-info : goal.returns-then-units-info
returns-then-units-info c d caller stands =
    let a = c.args in
    let r = c.in-Ok.ensures.sees d stands in
    let has = c.requires.units in
    let other : (length has.0 == a.info.now.slice_count) ≡ false = let e = has.2 in let n = c.if-units-info.true in grind (arith, nat_tests, e, n) in (
      subst (λ count. Step d caller (Render a.decoder a.target a.info.now a.bytes.now) (Err (SliceCount count)) d) (sym has.2)
          (count_refused d caller a.decoder a.target a.info.now a.bytes.now r.0 r.1 has.0 has.1 other),
      stands,
    )

pub returns-then-some_written : goal.returns-then-some_written
returns-then-some_written c d caller stands =
    let a = c.args in
    let r = c.in-Ok.ensures.sees d stands in
    let has = c.requires.units in
    let counted : (length has.0 == a.info.now.slice_count) ≡ true = let e = has.2 in let n = c.if-units-info.false in grind (arith, nat_tests, e, n) in (
      render_waits d caller a.decoder a.target a.info.now a.bytes.now r.0 r.1 has.0 has.1 counted
          (held_is a.self.now d c.in-Ok.on r.0 r.2 stands ∙ (sym c.some_written.ensures ∙ c.if-some_written.true)),
      stands,
    )

pub returns : goal.returns
returns c d caller stands =
    let a = c.args in
    let counted : (a.units == a.info.now.slice_count) ≡ true = let n = c.if-units-info.false in grind (arith, nat_tests, n) in
    started a.self.now c.render_job.new.self a.decoder a.target a.info.now a.bytes.now c.in-Ok.on c.in-Ok.ensures.sees a.units c.requires.units counted
    (sym c.some_written.ensures ∙ c.if-some_written.false) c.in-Ok.ensures.videos.count d caller stands c.render_job.result c.render_job.ensures.ok c.render_job.ensures.err
