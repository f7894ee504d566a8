use Rattle.std.proofs.Common.{◌≡◌, ◌-◌, ◌++◌, ◌∙◌, List, SFits, ap, ap₂, arith, length, min, rules, subst, sym, take, to_z-of_z, w32, ℕ, ℤ}
use Rattle.std.proofs.lemmas.List.{take_rest}
use Rattle.cavlc.proofs.BlockLemmas.{its_levels}
use Rattle.cavlc.proofs.PartLemmas.{block_written, block_written_short, but_last}
use Rattle.cavlc.proofs.RunLemmas.{runs_bits}
use Rattle.cavlc.specs.Blocks.{HasRunCode, left_behind, token_bits, zeros_bits}
use Rattle.cavlc.specs.Coefficients.{gaps, leading_ones, levels, runs, total_coeff, trailing_ones}
use Rattle.cavlc.specs.Levels.{levels_bits}
use Rattle.cavlc.specs.Parts.{AreLevels}
use Rattle.cavlc.specs.Turns.{AreInTurn}
use Rattle.cavlc.proofs.writing.put_block.Goals as goal

pub put_levels-requires-clause-levels : goal.put_levels-requires-clause-levels
put_levels-requires-clause-levels c =
    let parts = c.parts_of-parts.result in
    let block = c.args.block.now in
    let ones = c.ones_of-ones.result in
    let same = take_rest parts.levels parts.first ∙ c.parts_of-parts.ensures.levels in
    let ones_same : ones ≡ trailing_ones block = c.ones_of-ones.ensures ∙ ap (λ (x : List ℤ). min 3 (leading_ones x)) same in
    subst (λ (x : List ℤ). AreLevels (length x) ones x) (sym same)
    (subst (λ (x : ℕ). AreLevels (total_coeff block) x (levels block)) (sym ones_same) (its_levels c.args.nc c.args.most block c.requires))

pub put_runs-requires : goal.put_runs-requires
put_runs-requires c =
    let parts = c.parts_of-parts.result in
    let block = c.args.block.now in
    let same = take_rest parts.runs parts.first ∙ c.parts_of-parts.ensures.runs in
    let all_but = ap (λ (x : List ℕ). take (length x - 1) x) same ∙ but_last (gaps 0 block) in
    subst (λ (x : List ℕ). AreInTurn HasRunCode left_behind parts.zeros x) (sym all_but)
    (subst (λ (x : ℕ). AreInTurn HasRunCode left_behind x (runs block)) (sym c.parts_of-parts.ensures.zeros) c.requires.run_codes)

pub returns-in_ok-put_runs-clause-ok : goal.returns-in_ok-put_runs-clause-ok
returns-in_ok-put_runs-clause-ok c =
    let parts = c.parts_of-parts.result in
    let block = c.args.block.now in
    let nc = c.args.nc in
    let most = c.args.most in
    let ones = c.ones_of-ones.result in
    let total = total_coeff block in
    let fits : SFits w32 nc = search rules in
    let same = take_rest parts.levels parts.first ∙ c.parts_of-parts.ensures.levels in
    let ones_same : ones ≡ trailing_ones block = c.ones_of-ones.ensures ∙ ap (λ (x : List ℤ). min 3 (leading_ones x)) same in
    let total_same : 16 - parts.first ≡ total = omega (arith, c.parts_of-parts.ensures.first) in
    let token = c.in_ok-put_token.ensures.ok
    ∙ ap (λ (x : ℤ). c.args.out.now ++ token_bits x (16 - parts.first) ones) (to_z-of_z fits) ∙ ap₂ (λ (x y : ℕ). c.args.out.now ++ token_bits nc x y) total_same ones_same in
    let level = c.in_ok-put_levels.ensures.ok ∙ ap₂ (λ (x : List ℤ) (y : ℕ). c.put_token.new.out ++ levels_bits (length x) y x) same ones_same in
    let zeros = c.in_ok-put_zeros.ensures.ok ∙ ap₂ (λ (x y : ℕ). c.put_levels.new.out ++ zeros_bits most x y) total_same c.parts_of-parts.ensures.zeros in
    let all_but = ap (λ (x : List ℕ). take (length x - 1) x) (take_rest parts.runs parts.first ∙ c.parts_of-parts.ensures.runs) ∙ but_last (gaps 0 block) in
    let run = c.in_ok-put_runs.ensures.ok ∙ ap₂ (λ (x : ℕ) (y : List ℕ). c.put_zeros.new.out ++ runs_bits x y) c.parts_of-parts.ensures.zeros all_but in
    block_written nc most block c.args.out.now c.put_token.new.out c.put_levels.new.out c.put_zeros.new.out token level zeros c.put_runs.new.out run

pub returns-else-total-gt1-clause-ok : goal.returns-else-total-gt1-clause-ok
returns-else-total-gt1-clause-ok c =
    let parts = c.parts_of-parts.result in
    let block = c.args.block.now in
    let nc = c.args.nc in
    let most = c.args.most in
    let ones = c.ones_of-ones.result in
    let total = total_coeff block in
    let fits : SFits w32 nc = search rules in
    let same = take_rest parts.levels parts.first ∙ c.parts_of-parts.ensures.levels in
    let ones_same : ones ≡ trailing_ones block = c.ones_of-ones.ensures ∙ ap (λ (x : List ℤ). min 3 (leading_ones x)) same in
    let total_same : 16 - parts.first ≡ total = omega (arith, c.parts_of-parts.ensures.first) in
    let token = c.in_ok-put_token.ensures.ok
    ∙ ap (λ (x : ℤ). c.args.out.now ++ token_bits x (16 - parts.first) ones) (to_z-of_z fits) ∙ ap₂ (λ (x y : ℕ). c.args.out.now ++ token_bits nc x y) total_same ones_same in
    let level = c.in_ok-put_levels.ensures.ok ∙ ap₂ (λ (x : List ℤ) (y : ℕ). c.put_token.new.out ++ levels_bits (length x) y x) same ones_same in
    let zeros = c.in_ok-put_zeros.ensures.ok ∙ ap₂ (λ (x y : ℕ). c.put_levels.new.out ++ zeros_bits most x y) total_same c.parts_of-parts.ensures.zeros in
    block_written_short nc most block c.args.out.now c.put_token.new.out c.put_levels.new.out c.put_zeros.new.out token level zeros (omega (arith, total_same))
