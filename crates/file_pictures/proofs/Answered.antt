-- What the samples of a picture's slices are, by what was prepared and decoded.
use Rattle.std.proofs.Common.{◌≡◌, ◌≢◌, ℕ, ◌≤◌, List, length, Some, None, Result, Ok, Err, sym, ◌∙◌, ap, subst, arith}
use Rattle.std.specs.Prelude.{IfOk, All, map, slice_index_or}
use Rattle.std.specs.declared.alloc.AllocError.{AllocError}
use Rattle.std.proofs.lemmas.List.{length-map}
use Rattle.bit_io.specs.Payload.{payload}
use Rattle.cb_types.specs.Slices.{is_idr}
use Rattle.cb_types.specs.declared.size.SizeMbs.{SizeMbs}
use Rattle.decoder_render.specs.Coverage.{given}
use Rattle.decoder_render.specs.Outcomes.{IsOutcome}
use Rattle.decoder_render.specs.Submission.{ArePayloads}
use Rattle.decoder_render.specs.declared.outcome.Outcome.{Outcome}
use Rattle.decoder_render.specs.declared.outcome.Outcome.TheVariants as outcome
use Rattle.marking.specs.declared.begun.Begun.{Begun}
use Rattle.vd_plane.specs.declared.picture.Picture as samples
use Rattle.picture_buffer.specs.Buffers.{Decodes, HasUnits, size_of, with_picture}
use Rattle.picture_buffer.specs.Buffers as buffers
use Rattle.picture_buffer.specs.Renaming.{IsOther, picture_of}
use Rattle.picture_buffer.specs.declared.buffer.PictureBuffer.{PictureBuffer}
use Rattle.access_units.specs.Pictures.{Picture, payloads_of}
use Rattle.access_units.specs.declared.acceptor.Unsettled.{Unsettled}
use Rattle.accepted_pictures.specs.Files.{Decoded, references_of}
use Rattle.file_pictures.specs.Offers.{AreKeptBehind, AreSamples, IsOffered, Offer, with_samples}
use Rattle.accepted_pictures.specs.Streams.{Stream, past_of}
use Rattle.file_pictures.specs.Streams.{HaveSize, IsKept, IsStep, Keeps, StandsFor, StaysIfLast, newest_sequence}
use Rattle.file_pictures.specs.declared.stream_decoder.Step.{Step}
use Rattle.file_pictures.specs.declared.stream_decoder.StreamDecoder.{StreamDecoder}
use Rattle.file_pictures.proofs.Kept.{gone_on, keeps_more, kept_on, references_are, sized_on}
use Rattle.file_pictures.proofs.Payloads.{slices_have_payloads}
use Rattle.file_pictures.proofs.Steps.{comes_to, comes_to_none}
use Rattle.file_pictures.proofs.OneStep.{stays_if_last}
use Rattle.access_units.proofs.WholeSlices.{next_slices}

-- ---- what the buffer is asked

-- the pictures that the next one goes on with
abbrev pub sequence_for : Offer → Unsettled → List Picture
sequence_for offer unsettled = gone_on (is_idr unsettled.begun.header) (newest_sequence offer.stream.decoded)

abbrev pub KeepsFor : PictureBuffer → Offer → Unsettled → Type 0
KeepsFor buffer offer unsettled = Keeps buffer offer.stream.decoded (sequence_for offer unsettled)

pub keeps_for : (decoder : StreamDecoder) (buffer : PictureBuffer) (offer : Offer) (unsettled : Unsettled) → IsOffered decoder offer unsettled
    → ((decoded : List Decoded) (sequence : List Picture) → IsKept decoder.buffer decoded sequence → HaveSize unsettled.size sequence → Keeps buffer decoded sequence)
    → KeepsFor buffer offer unsettled
keeps_for decoder buffer offer unsettled is kept =
    let idr = is_idr unsettled.begun.header in
    let sequence = newest_sequence offer.stream.decoded in
    kept offer.stream.decoded (gone_on idr sequence) (kept_on decoder.buffer offer.stream.decoded idr sequence is.kept) (sized_on unsettled.size idr sequence is.decodable.one_size)

pub others : (decoder : StreamDecoder) (offer : Offer) (unsettled : Unsettled) → IsOffered decoder offer unsettled → All (IsOther unsettled.begun.frame) unsettled.begun.info.references
others decoder offer unsettled is = λ k d lt used present.
    let few : (slice_index_or unsettled.begun.info.references k d).surface ≤ 16 = (is.decodable.sequence k d lt used present).few in
    (omega (arith, few), is.decodable.apart k d lt)

pub has_units : (decoder : StreamDecoder) (offer : Offer) (unsettled : Unsettled) → IsOffered decoder offer unsettled → HasUnits unsettled.submission unsettled.begun.info
has_units decoder offer unsettled is =
    let slices = offer.picture.slices in
    let each = (next_slices (past_of offer.stream) offer.picture is.next).1 in
    let same : offer.picture.begun.info.slice_count ≡ length is.next.au.slices = ap (λ (p : Picture). p.begun.info.slice_count) is.next.is.is in
    let of_au : slices ≡ is.next.au.slices = ap (λ (p : Picture). p.slices) is.next.is.is in
    let count : length (payloads_of slices) ≡ length slices = length-map slices (λ (slice : List ℕ). Some (payload slice)) in
    record {
      payloads = payloads_of slices;
      are = subst (λ (t : List ℕ). ArePayloads t (payloads_of slices)) (sym is.shows.submission) (slices_have_payloads slices each);
      count = ap (λ (b : Begun). b.info.slice_count) is.shows.begun ∙ (same ∙ (ap length (sym of_au) ∙ sym count));
    }

-- ---- what the buffer answers

pub named_are : (decoder : StreamDecoder) (buffer : PictureBuffer) (offer : Offer) (unsettled : Unsettled) → IsOffered decoder offer unsettled → (keeps : KeepsFor buffer offer unsettled)
    → map (picture_of keeps.kept) unsettled.begun.info.references ≡ references_of offer.stream.decoded unsettled.begun.info
named_are decoder buffer offer unsettled is keeps =
    references_are (is_idr unsettled.begun.header) (newest_sequence offer.stream.decoded) offer.stream.decoded keeps.kept unsettled.begun.info is.decodable.none_at_idr
    (λ k d lt used present. (is.decodable.sequence k d lt used present).there) keeps.newest

module _ (decoder : StreamDecoder) (buffer new : PictureBuffer) (offer : Offer) (unsettled : Unsettled) (is : IsOffered decoder offer unsettled) (keeps : KeepsFor buffer offer unsettled)
    (of_size : size_of buffer ≡ unsettled.size) where
  outcome_is : (result : Outcome) (decodes : Decodes new keeps.kept (size_of buffer) unsettled.begun.frame unsettled.begun.info unsettled.submission result)
      → IsOutcome (given unsettled.begun.info unsettled.size (map (picture_of keeps.kept) unsettled.begun.info.references)) decodes.payloads result decodes.picture
  outcome_is result decodes =
      let F : SizeMbs → Type 0 = λ size. IsOutcome (given unsettled.begun.info size (map (picture_of keeps.kept) unsettled.begun.info.references)) decodes.payloads result decodes.picture in
      subst F of_size decodes.comes_to

  pub samples_ok : (decodes : Decodes new keeps.kept (size_of buffer) unsettled.begun.frame unsettled.begun.info unsettled.submission outcome.Ok) → AreSamples offer (Some decodes.picture)
  samples_ok decodes =
      comes_to decoder offer unsettled (map (picture_of keeps.kept) unsettled.begun.info.references) decodes.payloads is (named_are decoder buffer offer unsettled is keeps) decodes.units decodes.picture
      (outcome_is outcome.Ok decodes)

  pub samples_none : (result : Outcome) → Decodes new keeps.kept (size_of buffer) unsettled.begun.frame unsettled.begun.info unsettled.submission result → result ≢ outcome.Ok → AreSamples offer None
  samples_none result decodes other =
      comes_to_none decoder offer unsettled (map (picture_of keeps.kept) unsettled.begun.info.references) decodes.payloads is (named_are decoder buffer offer unsettled is keeps) decodes.units result decodes.picture other
      (outcome_is result decodes)

  -- and the buffer keeps them
  pub kept_more : (last : PictureBuffer) (p : samples.Picture) → buffers.StandsFor last (with_picture keeps.kept unsettled.begun.frame p) → size_of last ≡ size_of buffer → AreKeptBehind (Some last) offer (Some p)
  kept_more last p stands same =
      let header : is_idr unsettled.begun.header ≡ is_idr offer.picture.begun.header = ap (λ (b : Begun). is_idr b.header) is.shows.begun in
      let frame : unsettled.begun.frame ≡ offer.picture.begun.frame = ap (λ (b : Begun). b.frame) is.shows.begun in
      keeps_more buffer last offer.stream.decoded (with_samples offer p) (is_idr unsettled.begun.header) unsettled.begun.frame header frame keeps stands same (sym is.shows.size ∙ sym of_size)

-- ---- the acceptor gave a picture

pub next_step : (r : Result Step AllocError) (decoder between new : StreamDecoder) (unsettled : Unsettled) → IfOk r (λ step. (offer : Offer) → IsOffered between offer unsettled → IsStep offer.stream step new)
    → ((stream : Stream) → StandsFor decoder stream → (picture : Picture) × IsOffered between (record { stream = stream; picture = picture }) unsettled)
    → IfOk r (λ step. (stream : Stream) → StandsFor decoder stream → IsStep stream step new)
next_step (Ok step) decoder between new unsettled is given_by = λ stream stands. let o = given_by stream stands in is (record { stream = stream; picture = o.0 }) o.1
next_step (Err e) decoder between new unsettled is given_by = is

pub next_stays : (r : Result Step AllocError) (decoder new : StreamDecoder) → IfOk r (λ step. (stream : Stream) → StandsFor decoder stream → IsStep stream step new)
    → IfOk r (λ step. (stream : Stream) → StandsFor decoder stream → StaysIfLast stream step)
next_stays (Ok step) decoder new is = λ stream stands. stays_if_last stream step new (is stream stands)
next_stays (Err e) decoder new is = is
