use Rattle.std.proofs.Common.{◌≡◌, ◌≤◌, ◌++◌, ◌⊎◌, ◌∙◌, OnOk, inl, inr, ap, subst, sym, arith, append-nil}
use Rattle.cavlc.specs.Blocks.{code_bits, zeros_code}
use Rattle.cavlc.proofs.ElementLemmas.{dc_zeros_bits, other_zeros_bits, zeros_spelled, zeros_unspelled}
use Rattle.cavlc.proofs.elements.put_zeros.Goals as goal
use Rattle.cavlc.proofs.elements.put_zeros.Goals.{then-most-eq4, else-most-eq4}

pub returns-then-total-eq0-clause-ok : goal.returns-then-total-eq0-clause-ok
returns-then-total-eq0-clause-ok c =
    let none : (c.args.total ≡ 0) ⊎ (c.args.most ≤ c.args.total) = elim c.then-total-eq0.either [ inl e ↦ inl e | inr e ↦ inr e.1 ] in
    sym (append-nil c.args.out.now) ∙ ap (λ x. c.args.out.now ++ x) (sym (zeros_unspelled c.args.most c.args.total c.args.zeros_before none))

pub returns-clause-ok : goal.returns-clause-ok
returns-clause-ok c =
    let most = c.args.most in
    let total = c.args.total in
    let zeros = c.args.zeros_before in
    let code : c.if-most-eq4.code ≡ zeros_code most total zeros = elim c.if-most-eq4.branch [
      | then-most-eq4 w ↦ w.code-is ∙ w.dc_zeros-code.ensures.entry ∙ sym (dc_zeros_bits most total zeros w.if-most-eq4.true)
      | else-most-eq4 w ↦ w.code-is ∙ w.zeros-code.ensures.entry ∙ sym (other_zeros_bits most total zeros w.if-most-eq4.false)
    ] in
    let word = ap code_bits code ∙ sym (zeros_spelled most total zeros (omega arith) (omega arith)) in
    subst (λ x. OnOk c.put_code.result (c.put_code.new.out ≡ c.args.out.now ++ x)) word c.put_code.ensures.ok
