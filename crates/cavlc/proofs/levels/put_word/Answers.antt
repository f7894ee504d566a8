use Rattle.std.proofs.Common.{◌≡◌, ◌≤◌, ◌+◌, ◌*◌, ◌^◌, ◌<◌, ◌++◌, OnOk, ℕ, suc, List, Bool, ap₂, subst, sym, ◌∙◌, arith, pow_mono, lt_of_lt_of_le, pow-suc}
use Rattle.std.proofs.lemmas.Nat.{one_shl}
use Rattle.bit_io.specs.Bits.{u}
use Rattle.cavlc.proofs.WordLemmas.{word_is}
use Rattle.cavlc.proofs.levels.put_word.Goals as goal

pub put_u-requires-clause-value : goal.put_u-requires-clause-value
put_u-requires-clause-value c =
    let n = c.args.word.size in
    let one = one_shl n 32 (omega (arith, c.requires.size)) in
    let twice : 2 ^ suc n ≡ 2 ^ n * 2 = pow-suc 2 n in
    let wide : suc n ≤ c.args.word.prefix + 1 + n = omega arith in
    let small : 2 ^ n + c.args.word.suffix < 2 ^ suc n = omega (arith, twice, c.requires.suffix) in
    rw one (lt_of_lt_of_le small (pow_mono wide))

pub returns-clause-ok : goal.returns-clause-ok
returns-clause-ok c =
    let word = c.args.word in
    let one = one_shl word.size 32 (omega (arith, c.requires.size)) in
    let length : word.prefix + 1 + word.size ≡ word.prefix + suc word.size = omega arith in
    let is = ap₂ (λ (x y : ℕ). u (x + word.suffix) y) one length ∙ sym (word_is word.prefix word.size word.suffix c.requires.suffix) in
    subst (λ (x : List Bool). OnOk c.put_u.result (c.put_u.new.self ≡ c.args.out.now ++ x)) is c.put_u.ensures.ok
