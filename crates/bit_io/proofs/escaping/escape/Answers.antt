use Rattle.std.proofs.Common.{◌++◌, ap, sym, ◌∙◌, arith}
use Rattle.std.proofs.lemmas.List.{drop_all}
use Rattle.bit_io.proofs.EscapeLemmas.{escaped_from, escaped_from_none}
use Rattle.bit_io.proofs.escaping.escape.Goals as goal

pub loop-byte-init : goal.loop-byte-init
loop-byte-init c = (omega arith, ap (λ x. x ++ escaped_from 0 c.args.rbsp.now) c.in_ok-unit.ensures.items ∙ escaped_from_none c.args.rbsp.now)

pub returns : goal.returns
returns c =
    let none = drop_all c.loop-byte.byte-index c.args.rbsp.now (omega arith) in
    c.in_ok-push_end.ensures ∙ ap (λ x. c.loop-byte.unit.items ++ escaped_from c.loop-byte.zeros x) (sym none) ∙ c.loop-byte.invariant.1
