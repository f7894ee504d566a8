use Rattle.std.proofs.Common.{arith}
use Rattle.recon.proofs.OneSolution.{one_solution}
use Rattle.recon.proofs.laws.slices_have_one_solution.Goals as goal

pub returns-clause-marks : goal.returns-clause-marks
returns-clause-marks c = λ slice count m n s t wide whole other of_m of_n number lt. (one_solution slice count m n s t wide whole other of_m of_n count (omega arith)).of_marks.same number lt

pub returns-clause-tiles : goal.returns-clause-tiles
returns-clause-tiles c = λ slice count m n s t wide whole other of_m of_n number lt. (one_solution slice count m n s t wide whole other of_m of_n count (omega arith)).of_tiles.same number lt
