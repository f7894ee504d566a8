use Rattle.std.proofs.Common.{◌-◌, length, take, drop, sym, subst, ◌∙◌}
use Rattle.access_units.specs.Contents.{IsPictureSet}
use Rattle.access_units.specs.declared.content.Content.{Content}
use Rattle.access_units.proofs.ContentLemmas.{behind_first, picture_read, picture_unread}
use Rattle.access_units.proofs.content.picture_set_of.Goals as goal
use Rattle.access_units.proofs.content.picture_set_of.Goals.{in-Ok, in-Err}

pub returns-clause-told : goal.returns-clause-told
returns-clause-told c =
    let unit = c.args.unit.now in
    let found = rw c.in-Some.is at c.in_ok-payload.ensures.value in
    let bytes = c.deref.result.now in
    let rest = take (length bytes - 1) (drop 1 bytes) in
    let same = behind_first unit bytes (c.deref.ensures.value ∙ found.1) in
    let e = c.read_pps.ensures in
    elim c.match-read_pps.branch [
      | in-Ok w ↦ subst (λ (x : Content). IsPictureSet unit x) (sym w.result-is) (picture_read unit rest w.in-Ok.pps found.0 same w.in-Ok.ensures.found)
      | in-Err w ↦ subst (λ (x : Content). IsPictureSet unit x) (sym w.result-is)
          (picture_unread unit rest c.read_pps.result w.in-Err.field-0 same w.in-Err.is e.bad.0 e.not_baseline.0 e.no_bad_sps e.no_size)
    ]
