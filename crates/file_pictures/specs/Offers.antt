-- A picture that the acceptor gave, until it is settled what its slices come to.
use Rattle.std.specs.Prelude.{List, ◌∷◌, Option, Some, None}
use Rattle.picture_buffer.specs.declared.buffer.PictureBuffer.{PictureBuffer}
use Rattle.vd_plane.specs.declared.picture.Picture as samples
use Rattle.access_units.specs.Acceptors as acceptors
use Rattle.access_units.specs.Pictures.{Picture}
use Rattle.access_units.specs.Standing as acceptor
use Rattle.access_units.specs.declared.acceptor.Unsettled.{Unsettled}
use Rattle.accepted_pictures.specs.Files.{AreAllWhole, Decoded, IsWholeBehind}
use Rattle.accepted_pictures.specs.Streams.{Stream, past_of}
use Rattle.file_pictures.specs.Streams.{IsKept, newest_sequence}
use Rattle.file_pictures.specs.declared.stream_decoder.StreamDecoder.{StreamDecoder}

-- what was fed and given before, and the picture
pub record Offer : Type 0 where
  pub stream : Stream
  pub picture : Picture

-- The picture is the next one, and the decoder stands for what was fed to it and given by it before.
pub record IsOffered (decoder : StreamDecoder) (offer : Offer) (unsettled : Unsettled) : Type 0 where
  pub acceptor : acceptor.StandsFor decoder.acceptor (acceptors.giving (past_of offer.stream) offer.picture)
  pub next : acceptors.IsNext (past_of offer.stream) offer.picture
  pub shows : acceptors.Shows unsettled offer.picture
  pub decodable : acceptors.IsDecodable (past_of offer.stream) unsettled
  pub whole : AreAllWhole offer.stream.decoded
  pub kept : IsKept decoder.buffer offer.stream.decoded (newest_sequence offer.stream.decoded)

abbrev pub with_samples : Offer → samples.Picture → Decoded
with_samples offer samples = record { picture = offer.picture; samples = samples }

-- These are the samples that its slices come to, None where they come to no whole picture.
abbrev pub AreSamples : Offer → Option samples.Picture → Type 0
AreSamples offer None = (any : samples.Picture) → ¬ IsWholeBehind offer.stream.decoded (with_samples offer any)
AreSamples offer (Some samples) = IsWholeBehind offer.stream.decoded (with_samples offer samples)

-- Where they are there, the buffer keeps the sequence with the picture.
abbrev pub AreKeptBehind : Option PictureBuffer → Offer → Option samples.Picture → Type 0
AreKeptBehind buffer offer None = Unit {0}
AreKeptBehind buffer offer (Some samples) =
    let decoded : List Decoded = with_samples offer samples ∷ offer.stream.decoded in
    IsKept buffer decoded (newest_sequence decoded)
