use Rattle.std.proofs.Common.{length, ap, ◌∙◌}
use Rattle.std.proofs.lemmas.List.{take_rest}
use Rattle.overlay_files.proofs.NumberTexts.{wrong_count}
use Rattle.overlay_files.proofs.reading.read_bitmap.Goals as goal

pub returns-then-pixels-header-clause-err : goal.returns-then-pixels-header-clause-err
returns-then-pixels-header-clause-err c = λ a file.
    let h = c.in-Some.header in
    let right = wrong_count c.args.bytes.now a.bytes h.width h.height h.end a.width a.height c.in-Some.ensures file.bitmap.width file.bitmap.height file.is file.bitmap.count in
    c.if-pixels-header.true (ap length (take_rest c.args.bytes.now h.end) ∙ right)
