use Rattle.std.proofs.Common.{◌≡◌, ◌∙◌, Some, subst, sym}
use Rattle.std.specs.Arc.{arc_value}
use Rattle.decoder_render.specs.declared.outcome.Outcome.{Outcome}
use Rattle.vd_plane.specs.declared.picture.Picture as samples
use Rattle.picture_buffer.specs.Buffers as buffers
use Rattle.file_pictures.specs.Offers.{AreSamples}
use Rattle.file_pictures.proofs.Answered.{has_units, keeps_for, kept_more, others, samples_none, samples_ok}
use Rattle.file_pictures.proofs.Kept.{same_number}
use Rattle.file_pictures.proofs.stream_decoder.StreamDecoder.samples_of.Goals as goal

pub decode-requires-clause-stands : goal.decode-requires-clause-stands
decode-requires-clause-stands c =
    let keeps = keeps_for c.args.self.now c.in_ok-buffer.buffer c.requires.0 c.args.unsettled c.requires.1 c.in_ok-buffer.ensures.kept in
    (keeps.kept, keeps.stands)

pub decode-requires-clause-references : goal.decode-requires-clause-references
decode-requires-clause-references c = others c.args.self.now c.requires.0 c.args.unsettled c.requires.1

pub decode-requires-clause-units : goal.decode-requires-clause-units
decode-requires-clause-units c = has_units c.args.self.now c.requires.0 c.args.unsettled c.requires.1

pub samples-requires-clause-stands : goal.samples-requires-clause-stands
samples-requires-clause-stands c =
    let keeps = keeps_for c.args.self.now c.in_ok-buffer.buffer c.requires.0 c.args.unsettled c.requires.1 c.in_ok-buffer.ensures.kept in
    let decodes = c.in_ok-decode.ensures.decodes keeps.kept keeps.stands in
    (_, decodes.stands)

pub returns-in_ok-samples-in-Ok-clause-samples : goal.returns-in_ok-samples-in-Ok-clause-samples
returns-in_ok-samples-in-Ok-clause-samples c = λ offer is.
    let buffer = c.in_ok-buffer.buffer in
    let begun = c.args.unsettled.begun in
    let keeps = keeps_for c.args.self.now buffer offer c.args.unsettled is c.in_ok-buffer.ensures.kept in
    let D : Outcome → Type 0 = λ result. buffers.Decodes c.decode.new.self keeps.kept (buffers.size_of buffer) begun.frame begun.info c.args.unsettled.submission result in
    let decodes = subst D c.in-Ok.is (c.in_ok-decode.ensures.decodes keeps.kept keeps.stands) in
    let value : arc_value c.in_ok-samples-in-Ok.samples ≡ decodes.picture =
    c.in_ok-samples-in-Ok.ensures.samples (buffers.with_picture keeps.kept begun.frame decodes.picture) decodes.stands ∙ same_number keeps.kept begun.frame decodes.picture in
    subst (λ (p : samples.Picture). AreSamples offer (Some p)) (sym value)
    (samples_ok c.args.self.now buffer c.decode.new.self offer c.args.unsettled is keeps c.in_ok-buffer.ensures.size decodes)

pub returns-in_ok-samples-in-Ok-clause-kept : goal.returns-in_ok-samples-in-Ok-clause-kept
returns-in_ok-samples-in-Ok-clause-kept c = λ offer is.
    let buffer = c.in_ok-buffer.buffer in
    let begun = c.args.unsettled.begun in
    let keeps = keeps_for c.args.self.now buffer offer c.args.unsettled is c.in_ok-buffer.ensures.kept in
    let D : Outcome → Type 0 = λ result. buffers.Decodes c.decode.new.self keeps.kept (buffers.size_of buffer) begun.frame begun.info c.args.unsettled.submission result in
    let decodes = subst D c.in-Ok.is (c.in_ok-decode.ensures.decodes keeps.kept keeps.stands) in
    let value : arc_value c.in_ok-samples-in-Ok.samples ≡ decodes.picture =
    c.in_ok-samples-in-Ok.ensures.samples (buffers.with_picture keeps.kept begun.frame decodes.picture) decodes.stands ∙ same_number keeps.kept begun.frame decodes.picture in
    let S : samples.Picture → Type 0 = λ p. buffers.StandsFor c.samples.new.self (buffers.with_picture keeps.kept begun.frame p) in
    let stands = subst S (sym value) (c.samples.ensures.stays (buffers.with_picture keeps.kept begun.frame decodes.picture) decodes.stands) in
    kept_more c.args.self.now buffer c.decode.new.self offer c.args.unsettled is keeps c.in_ok-buffer.ensures.size c.samples.new.self (arc_value c.in_ok-samples-in-Ok.samples) stands
    (c.samples.ensures.size ∙ c.decode.ensures.size)

pub returns-in_default : goal.returns-in_default
returns-in_default c = record {
  samples = λ offer is.
      let buffer = c.in_ok-buffer.buffer in
      let keeps = keeps_for c.args.self.now buffer offer c.args.unsettled is c.in_ok-buffer.ensures.kept in
      samples_none c.args.self.now buffer c.decode.new.self offer c.args.unsettled is keeps c.in_ok-buffer.ensures.size c.in_ok-decode.field-0 (c.in_ok-decode.ensures.decodes keeps.kept keeps.stands) c.in_default.not-Ok;
  kept = λ offer is. tt;
  acceptor = c.buffer_for.ensures.acceptor;
}
