use Rattle.std.proofs.Common.{◌≡◌, ◌∙◌, true, ap, sym, subst, pos, negsuc, FitsSigned, to_z, of_z, w8, w32, arith}
use Rattle.std.specs.Prelude.{ℤ, int_le}
use Rattle.std.proofs.lemmas.Int.{ints, to_z-of_z}
use Rattle.cb_types.proofs.InfoFacts.{info_facts}
use Rattle.int_transform.specs.Bounds.{IsWithin}
use Rattle.int_transform.specs.ChromaQuantizer.{chroma_qp_from}
use Rattle.recon.proofs.quantizer.chroma_qp_of.Goals as goal

kept : (z r : ℤ) → int_le (negsuc 11) z ≡ true → int_le z (pos 12) ≡ true → r ≡ to_z w8 (of_z w8 z) → to_z w32 (of_z w32 r) ≡ z
kept z r least most is =
    let fits : FitsSigned w8 z = omega (arith, ints) in
    let wide : FitsSigned w32 z = omega (arith, ints) in
    ap (λ t. to_z w32 (of_z w32 t)) (is ∙ to_z-of_z w8 z fits) ∙ to_z-of_z w32 z wide

within : (z : ℤ) → int_le (negsuc 11) z ≡ true → int_le z (pos 12) ≡ true → IsWithin 12 z
within z least most = record { least = omega (arith, ints); most = omega (arith, ints) }

pub chroma_qp-requires-clause-offset : goal.chroma_qp-requires-clause-offset
chroma_qp-requires-clause-offset c =
    let facts = info_facts c.args.info.now c.requires.info in
    subst (IsWithin 12) (sym (kept c.args.info.now.chroma_qp_index_offset c.from.result facts.chroma_qp_least facts.chroma_qp_greatest c.from.ensures)) (within c.args.info.now.chroma_qp_index_offset facts.chroma_qp_least facts.chroma_qp_greatest)

pub returns-clause-qpc : goal.returns-clause-qpc
returns-clause-qpc c =
    let facts = info_facts c.args.info.now c.requires.info in
    c.chroma_qp.ensures.value ∙ ap (chroma_qp_from c.args.qp) (kept c.args.info.now.chroma_qp_index_offset c.from.result facts.chroma_qp_least facts.chroma_qp_greatest c.from.ensures)
