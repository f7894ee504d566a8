use Rattle.std.proofs.Common.{◌≡◌, ℕ, arith, subst}
use Rattle.nal_units.specs.Finder.{IsInside}
use Rattle.nal_units.proofs.Advancing.{inside_by_zero, inside_by_byte}
use Rattle.nal_units.proofs.finder.inside.Goals as goal

pub returns-then-zeros-lt2 : goal.returns-then-zeros-lt2
returns-then-zeros-lt2 c = λ t s i here. inside_by_zero t s c.args.start c.args.zeros c.args.byte i (omega arith) (omega arith)

pub returns-then-zeros-lt2-2 : goal.returns-then-zeros-lt2-2
returns-then-zeros-lt2-2 c = λ t s i here. inside_by_byte t s c.args.start c.args.zeros c.args.byte i (λ e. let few = i.few in omega (arith, c.if-zeros-lt2-2.either, c.else-byte-eq0.either)) (λ e. omega (arith, c.if-zeros-lt2-2.either))

pub returns-else-zeros-lt2-2 : goal.returns-else-zeros-lt2-2
returns-else-zeros-lt2-2 c = λ t s i here.
    let few = i.few in
    let P : ℕ → Type 0 = λ z. IsInside t s c.args.start z in
    let two : c.args.zeros ≡ 2 = omega arith in
    c.ended.ensures t s (subst P two i) (omega arith)
