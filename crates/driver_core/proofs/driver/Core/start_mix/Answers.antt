use Rattle.std.proofs.Common.{sym, ◌∙◌}
use Rattle.driver_core.proofs.MixBegins.{held_is, started}
use Rattle.driver_core.proofs.driver.Core.start_mix.Goals as goal

pub returns-else-is_mix_held : goal.returns-else-is_mix_held
returns-else-is_mix_held c d caller stands =
    let a = c.args in
    let finds = c.in-Ok.ensures.finds in
    let home = sym (held_is a.self.now c.mix_job.new.self a.mixer a.structure a.video a.output c.in-Ok.at finds d caller stands c.is_mix_held.result (c.is_mix_held.ensures d stands)) ∙ c.if-is_mix_held.false in
    started a.self.now c.mix_job.new.self a.mixer a.structure a.video a.output c.in-Ok.at finds d caller stands home c.mix_job.result c.mix_job.ensures.ok c.mix_job.ensures.err
