use Rattle.std.proofs.Common.{◌≡◌, true, false, arith, drop, subst, sym, ◌∙◌}
use Rattle.overlay_files.specs.Pixels.{IsSide}
use Rattle.overlay_files.proofs.NumberTexts.{one_field}
use Rattle.overlay_files.proofs.reading.read_side.Goals as goal

pub returns-else-is_side : goal.returns-else-is_side
returns-else-is_side c = λ n rest side is.
    let e = c.in-Some.ensures in
    let same = one_field c.args.text.now (drop c.in-Some.side.end c.args.text.now) rest c.args.ending c.in-Some.side.number n c.requires e.small (omega (arith, side.most)) e.is is in
    let off : false ≡ true → ⊥ = λ e. cc in
    off (sym c.if-is_side.false ∙ c.is_side.ensures.no (subst IsSide (sym same.0) side))
