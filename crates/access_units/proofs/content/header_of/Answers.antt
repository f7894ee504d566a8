use Rattle.std.proofs.Common.{◌-◌, length, take, drop, ◌∙◌}
use Rattle.access_units.proofs.ContentLemmas.{behind_first, has_header}
use Rattle.access_units.proofs.content.header_of.Goals as goal

pub returns-clause-told : goal.returns-clause-told
returns-clause-told c = λ sets known.
    let found = rw c.in-Some.is at c.in_ok-payload.ensures.value in
    let bytes = c.deref.result.now in
    has_header sets c.args.unit.now (take (length bytes - 1) (drop 1 bytes)) c.named_in.result found.0 (behind_first c.args.unit.now bytes (c.deref.ensures.value ∙ found.1)) (c.named_in.ensures.told sets known)
