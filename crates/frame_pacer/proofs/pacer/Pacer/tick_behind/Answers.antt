use Rattle.std.proofs.Common.{sym, subst, ◌∙◌}
use Rattle.clock_script.specs.Script.{IsLegal}
use Rattle.frame_pacer.proofs.Pacing.{no_tick_so_late}
use Rattle.frame_pacer.proofs.pacer.Pacer.tick_behind.Goals as goal

pub returns-in-None : goal.returns-in-None
returns-in-None c = λ script stream period count paced found.
    let legal = subst (IsLegal c.requires.streams) (sym c.requires.paced.of_script ∙ paced.of_script) c.requires.legal in
    sym (no_tick_so_late c.args.self.now c.requires.streams script stream period count paced legal (c.in-None.ensures))
