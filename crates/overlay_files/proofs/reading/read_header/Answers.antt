use Rattle.std.proofs.Common.{rules, ◌≡◌, ℕ, ◌∷◌, ◌++◌, List, subst}
use Rattle.std.specs.Prelude.{codes, decimal}
use Rattle.std.proofs.lemmas.List.{take_rest}
use Rattle.overlay_files.specs.Ended.{IsEnded}
use Rattle.overlay_files.specs.Pixels.{IsSide}
use Rattle.overlay_files.proofs.NumberTexts.{headed, no_height}
use Rattle.overlay_files.proofs.reading.read_header.Goals as goal

pub returns-in_default-read_side-2 : goal.returns-in_default-read_side-2
returns-in_default-read_side-2 c =
    let operands : List ℕ = c.in-Some.operands.now in
    let side = c.in-Some-read_side.width in
    let text_is : c.args.text.now ≡ codes "RGBA " ++ operands = search rules in
    no_height c.args.text.now operands side.number side.end text_is c.in-Some-read_side.ensures.1
    (subst (λ (t : List ℕ). (n : ℕ) (rest : List ℕ) → IsSide n → t ≡ decimal n ++ 10 ∷ rest → ⊥) (take_rest operands side.end) c.in_default-read_side-2.ensures)

pub returns : goal.returns
returns c =
    let operands : List ℕ = c.in-Some.operands.now in
    let w = c.in-Some-read_side.width in
    let h = c.in-Some-read_side-2.height in
    let text_is : c.args.text.now ≡ codes "RGBA " ++ operands = search rules in
    headed c.args.text.now operands w.number h.number w.end h.end text_is c.in-Some-read_side.ensures.0 c.in-Some-read_side-2.ensures.0 c.in-Some-read_side.ensures.1
    (subst (λ (t : List ℕ). IsEnded t 10 h.number h.end) (take_rest operands w.end) c.in-Some-read_side-2.ensures.1)
