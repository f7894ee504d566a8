use Rattle.std.proofs.Common.{◌≡◌, ℕ, ◌+◌, ◌*◌, ◌<◌, ◌^◌, pos, ◌+ℤ◌, lit<, refl, sym, ap, ◌∙◌, arith}
use lib.Signed.{shr_z}
use Rattle.std.proofs.lemmas.List.{get_or-take, length-take}
use Rattle.int_transform.specs.Scan.{value_at}
use Rattle.int_transform.proofs.BlockRows.{flat_is}
use Rattle.int_transform.proofs.Whole.{kept_within}
use Rattle.int_transform.proofs.blocks.block.Goals as goal

pub returns-then-are_zero-clause-samples : goal.returns-then-are_zero-clause-samples
returns-then-are_zero-clause-samples c =
    let ac = c.args.ac.now in
    let all = c.if-are_zero.ensures.0 refl in
    let zero_at : (k : ℕ) → k < 15 → value_at ac k ≡ pos 0 = λ k h. sym (get_or-take 15 ac k (pos 0) h) ∙ all k (pos 0) (omega (arith, length-take 15 ac)) in
    let dc = ap (λ z. shr_z (z +ℤ pos 32) 64) (kept_within (2 ^ 27) _ (lit< tt) c.requires.dc) in
    λ row column hr hc. c.flat.ensures.samples (4 * row + column) (omega arith) ∙ (dc ∙ sym (flat_is ac c.args.dc c.args.qp zero_at row column hr hc))
