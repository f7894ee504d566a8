use Rattle.std.proofs.Common.{◌≡◌, ◌++◌, drop, length, replicate, ℕ, ◌<◌, ◌∙◌, ap, get_or, rules}
use Rattle.std.specs.Int.{from_be_bytes, w64}
use Rattle.bit_io.proofs.ByteLemmas.{from_be_bytes_is, from_be_bytes-chunk, get_or_padded}
use Rattle.bit_io.proofs.window.short_word.Goals as goal

pub returns : goal.returns
returns c =
    let rest = c.args.rest.now in
    let padded = c.copy_from_slice.new.self ++ drop (length rest) (replicate 8 0) in
    let read : c.from_be_bytes.result ≡ from_be_bytes w64 padded = c.from_be_bytes.ensures in
    let same = λ (i : ℕ) (h : i < 8). ap (λ x. get_or (x ++ drop (length rest) (replicate 8 0)) i 0) c.copy_from_slice.ensures.after ∙ get_or_padded rest (length rest) 8 i in
    read ∙ from_be_bytes-chunk rest padded same ∙ from_be_bytes_is rest (λ i. search (rules, c.type_inv.rest i))
