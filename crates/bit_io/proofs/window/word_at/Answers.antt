use Rattle.std.proofs.Common.{ℕ, ◌≡◌, ◌+◌, ◌-◌, ◌<◌, length, get_or, take, drop, ◌∙◌, ap, rules, arith, take_all}
use Rattle.std.proofs.lemmas.List.{get_or-take, get_or-drop, length-drop}
use Rattle.bit_io.proofs.ByteLemmas.{from_be_bytes_is, from_be_bytes-chunk}
use Rattle.bit_io.proofs.window.word_at.Goals as goal

pub returns-in-Some : goal.returns-in-Some
returns-in-Some c =
    let bytes = c.args.bytes.now in
    let rest = drop c.args.byte bytes in
    let chunk : c.in-Some.chunk.now ≡ take 8 (take (length bytes - c.args.byte) rest) = c.in-Some.ensures.cases.same in
    let whole : take (length bytes - c.args.byte) rest ≡ rest = take_all (length bytes - c.args.byte) rest (omega (arith, length-drop c.args.byte bytes)) in
    let same = λ (i : ℕ) (h : i < 8). ap (λ x. get_or x i 0) (chunk ∙ ap (take 8) whole) ∙ get_or-take 8 rest i 0 h in
    c.from_be_bytes.ensures ∙ from_be_bytes-chunk rest c.in-Some.chunk.now same
    ∙ from_be_bytes_is rest (λ i. rw (get_or-drop c.args.byte bytes i 0) (search (rules, c.type_inv.bytes (c.args.byte + i))))
