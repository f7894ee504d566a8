use Rattle.std.proofs.Common.{arith}
use Rattle.std.proofs.lemmas.List.{length-drop}
use Rattle.vdplay.proofs.tests.accepted_in_pieces.Goals as goal

pub accepted-requires-3 : goal.accepted-requires-3
accepted-requires-3 c =
    let h = c.in_ok-second.ensures c.in-Hungry-second.is in
    let size = h.4 in
    let within = c.requires.0 in
    let most = c.requires.1 in
    (h.0, h.1, h.2, h.3, omega (arith, size, within, length-drop c.args.cut c.args.file.now), omega (arith, most))
