use Rattle.std.proofs.Common.{◌≡◌, ◌-◌, ◌++◌, ◌∙◌, OnOk, ℕ, List, Bool, SFits, ap, rules, subst, to_z-of_z, w32}
use Rattle.cavlc.specs.Levels.{level_bits, level_code, level_word, word_bits}
use Rattle.cavlc.proofs.levels.put_level.Goals as goal

pub returns-clause-ok : goal.returns-clause-ok
unfolding level_bits
returns-clause-ok c =
    let fits : SFits w32 c.args.level = search rules in
    let state = c.args.state in
    let number = c.level_number.ensures ∙ ap level_code (to_z-of_z fits) in
    let word = c.word_of.ensures.word ∙ ap (λ (x : ℕ). level_word state.suffix_length (x - state.least)) number in
    subst (λ (x : List Bool). OnOk c.put_word.result (c.put_word.new.out ≡ c.args.out.now ++ x)) (ap word_bits word) c.put_word.ensures.ok
