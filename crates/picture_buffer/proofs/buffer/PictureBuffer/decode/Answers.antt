use Rattle.std.proofs.Common.{[], subst}
use Rattle.driver_core.specs.Begun.{BeginRender}
use Rattle.driver_core.specs.declared.answer.CoreBegin.{CoreBegin}
use Rattle.driver_jobs.specs.declared.renders.CoreRender.{CoreRender}
use Rattle.picture_buffer.proofs.Decoded.{decodes_by, refused_by, waits_by}
use Rattle.picture_buffer.proofs.Reading.{rests_in}
use Rattle.picture_buffer.specs.Renaming.{handle_of}
use Rattle.picture_buffer.proofs.buffer.PictureBuffer.decode.Goals as goal

pub returns-in-Job-clause-decodes : goal.returns-in-Job-clause-decodes
returns-in-Job-clause-decodes c =
    let a = c.args in
    let r = c.requires in
    let P : CoreBegin CoreRender → Type 0 = λ begun. BeginRender a.self.now.core c.begin_render.new.self a.self.now.decoder (handle_of a.self.now.surfaces a.number) c.renamed-info.result a.submission begun in
    let same = c.end.ensures.others in
    decodes_by a.self.now a.number r.number a.info.now r.references r.info a.submission r.units c.renamed-info.result c.renamed-info.ensures c.begin_render.new.self
    c.in-Job.job (subst P c.in-Job.is c.begin_render.ensures) c.run.result c.run.ensures c.end.new.self c.end.ensures.ends.0 c.end.ensures.ends.1 (record { decoder = same.decoder; surfaces = same.surfaces; size = same.size }) c.end.result c.end.ensures.outcome

pub returns-in-Job-clause-size : goal.returns-in-Job-clause-size
returns-in-Job-clause-size c = c.end.ensures.others.size

pub wanted-requires : goal.wanted-requires
wanted-requires c =
    let a = c.args in
    let r = c.requires in
    let P : CoreBegin CoreRender → Type 0 = λ begun. BeginRender a.self.now.core c.begin_render.new.self a.self.now.decoder (handle_of a.self.now.surfaces a.number) c.renamed-info.result a.submission begun in
    refused_by a.self.now a.number r.number a.info.now r.references r.info a.submission r.units c.renamed-info.result c.renamed-info.ensures c.begin_render.new.self
    c.in-Refused.submission c.in-Refused.refusal (subst P c.in-Refused.is c.begin_render.ensures) r.stands.0 r.stands.1

pub returns-in-Refused-clause-untouched : goal.returns-in-Refused-clause-untouched
returns-in-Refused-clause-untouched c = λ pictures s.
    let a = c.args in
    let P : CoreBegin CoreRender → Type 0 = λ begun. BeginRender a.self.now.core c.begin_render.new.self a.self.now.decoder (handle_of a.self.now.surfaces a.number) c.renamed-info.result a.submission begun in
    let refused = subst P c.in-Refused.is c.begin_render.ensures s.state [] s.rests.stands in
    record { state = s.state; rests = rests_in a.self.now.core c.begin_render.new.self a.self.now.decoder a.self.now.surfaces a.self.now.size pictures s.state s.rests refused.2 }

pub unreachable-requires : goal.unreachable-requires
unreachable-requires c =
    let a = c.args in
    let r = c.requires in
    let P : CoreBegin CoreRender → Type 0 = λ begun. BeginRender a.self.now.core c.begin_render.new.self a.self.now.decoder (handle_of a.self.now.surfaces a.number) c.renamed-info.result a.submission begun in
    waits_by a.self.now a.number r.number a.info.now r.references r.info a.submission r.units c.renamed-info.result c.renamed-info.ensures c.begin_render.new.self
    c.in-Later.field-0 (subst P c.in-Later.is c.begin_render.ensures) r.stands.0 r.stands.1
