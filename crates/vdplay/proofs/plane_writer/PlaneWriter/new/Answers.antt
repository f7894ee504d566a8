use Rattle.std.proofs.Common.{refl}
use Rattle.vdplay.proofs.HoldLemmas.{new_calm}
use Rattle.vdplay.proofs.plane_writer.PlaneWriter.new.Goals as goal

pub returns : goal.returns
returns c = new_calm _ c.new.ensures c.new-2.ensures.items refl
