use Rattle.std.proofs.Common.{◌≡◌, ◌++◌, ◌∷◌, [], ◌∙◌, OnOk, Bool, SFits, ap, rules, subst, sym, to_z-of_z, w32}
use Rattle.bit_io.specs.Bits.{u}
use Rattle.cavlc.specs.Levels.{sign}
use Rattle.cavlc.proofs.levels.put_sign.Goals as goal

pub returns-then-is_minus-clause-ok : goal.returns-then-is_minus-clause-ok
unfolding u
returns-then-is_minus-clause-ok c =
    let fits : SFits w32 c.args.level = search rules in
    let is = sym c.if-is_minus.true ∙ c.is_minus.ensures ∙ ap sign (to_z-of_z fits) in
    subst (λ (x : Bool). OnOk c.put_u.result (c.put_u.new.self ≡ c.args.out.now ++ x ∷ [])) is c.put_u.ensures.ok

pub returns-else-is_minus-clause-ok : goal.returns-else-is_minus-clause-ok
unfolding u
returns-else-is_minus-clause-ok c =
    let fits : SFits w32 c.args.level = search rules in
    let put = c.put_u-else-is_minus in
    let is = sym c.if-is_minus.false ∙ c.is_minus.ensures ∙ ap sign (to_z-of_z fits) in
    subst (λ (x : Bool). OnOk put.result (put.new.self ≡ c.args.out.now ++ x ∷ [])) is put.ensures.ok
