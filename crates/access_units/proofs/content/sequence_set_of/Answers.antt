use Rattle.std.proofs.Common.{◌-◌, length, take, drop, sym, subst, ◌∙◌}
use Rattle.access_units.specs.Contents.{IsSequenceSet}
use Rattle.access_units.specs.declared.content.Content.{Content}
use Rattle.access_units.proofs.ContentLemmas.{behind_first, sequence_read, sequence_unread}
use Rattle.access_units.proofs.content.sequence_set_of.Goals as goal
use Rattle.access_units.proofs.content.sequence_set_of.Goals.{in-Ok, in-Err}

pub returns-clause-told : goal.returns-clause-told
returns-clause-told c =
    let unit = c.args.unit.now in
    let found = rw c.in-Some.is at c.in_ok-payload.ensures.value in
    let bytes = c.deref.result.now in
    let rest = take (length bytes - 1) (drop 1 bytes) in
    let same = behind_first unit bytes (c.deref.ensures.value ∙ found.1) in
    let e = c.read_sps.ensures in
    elim c.match-read_sps.branch [
      | in-Ok w ↦ subst (λ (x : Content). IsSequenceSet unit x) (sym w.result-is) (sequence_read unit rest w.in-Ok.sps found.0 same w.in-Ok.ensures.found)
      | in-Err w ↦ subst (λ (x : Content). IsSequenceSet unit x) (sym w.result-is)
          (sequence_unread unit rest c.read_sps.result w.in-Err.fault w.without_set.result found.0 same w.in-Err.is e.too_large.0 e.bad.0 e.not_baseline.0 e.no_other w.without_set.ensures.large w.without_set.ensures.other)
    ]
