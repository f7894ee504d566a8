use Rattle.driver.specs.Passes.{view}
use Rattle.driver.proofs.RenderJobs.{render_done}
use Rattle.driver.proofs.renders.RenderJob.run_at_once.Goals as goal

pub invariant_of-result : goal.invariant_of-result
invariant_of-result g c = record {
  begun = c.args.self.begun;
  knows = render_done (view c.args.self.pass).seen c.args.self.place c.args.self.job c.run_at_once-done.result c.args.self.knows c.run_at_once-done.ensures;
}
