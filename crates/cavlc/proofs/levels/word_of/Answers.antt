use Rattle.std.proofs.Common.{◌≤◌, ◌-◌, ◌%◌, ◌/◌, ◌^◌, ◌<◌, ℕ, ap, arith, subst, sym, ◌∙◌}
use Rattle.std.proofs.lemmas.Nat.{one_shl}
use Rattle.cavlc.proofs.WordLemmas.{word_at_low, word_at_none, word_escaped}
use Rattle.cavlc.specs.declared.levels.LevelWord.{LevelWord}
use Rattle.cavlc.proofs.levels.word_of.Goals as goal

pub returns-then-code-escape-clause-word : goal.returns-then-code-escape-clause-word
returns-then-code-escape-clause-word c =
    let same = c.escape_of-escape.ensures in
    ap (λ (x : ℕ). let word : LevelWord = record { prefix = 15; size = 12; suffix = c.args.code - x } in word) same
    ∙ sym (word_escaped c.args.suffix_length c.args.code (subst (λ (x : ℕ). x ≤ c.args.code) same c.if-code-escape.true))

pub returns-then-suffix_length-gt0-clause-word : goal.returns-then-suffix_length-gt0-clause-word
returns-then-suffix_length-gt0-clause-word c =
    let n = c.args.suffix_length in
    let code = c.args.code in
    let one = one_shl n 32 (omega (arith, c.requires.suffix_length)) in
    let below = subst (λ (x : ℕ). code < x) c.escape_of-escape.ensures c.if-code-escape.false in
    ap (λ (x : ℕ). let word : LevelWord = record { prefix = code / 2 ^ n; size = n; suffix = code % x } in word) one ∙ sym (word_at_low n code c.if-suffix_length-gt0.true below)

pub returns-then-code-lt14-clause-word : goal.returns-then-code-lt14-clause-word
returns-then-code-lt14-clause-word c = sym ((word_at_none c.args.suffix_length c.args.code (omega arith)).0 c.if-code-lt14.true)

pub returns-else-code-lt14-clause-word : goal.returns-else-code-lt14-clause-word
returns-else-code-lt14-clause-word c =
    let below = subst (λ (x : ℕ). c.args.code < x) c.escape_of-escape.ensures c.if-code-escape.false in
    sym ((word_at_none c.args.suffix_length c.args.code (omega arith)).1 c.if-code-lt14.false below)
