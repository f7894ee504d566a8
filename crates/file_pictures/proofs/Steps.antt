-- What a decoder answers follows from what the acceptor gives and what a picture's slices come to.
use Rattle.std.proofs.Common.{◌≡◌, ◌≢◌, ℕ, ℤ, inl, inr, ◌⊎◌, Bool, true, false, List, [], ◌∷◌, Option, Some, None, refl, sym, ◌∙◌, ap, subst}
use Rattle.std.specs.Prelude.{unwrap_or}
use Rattle.std.specs.declared.alloc.Global.{Global}
use Rattle.std.specs.declared.sync.Arc.{Arc}
use Rattle.std.specs.Arc.{arc_value}
use Rattle.cb_types.specs.declared.picture_info.PictureInfo.{PictureInfo}
use Rattle.cb_types.specs.declared.size.SizeMbs.{SizeMbs}
use Rattle.decoder_render.specs.Coverage.{given}
use Rattle.decoder_render.specs.Outcomes.{IsOutcome, IsWhole}
use Rattle.decoder_render.specs.Submission.{ArePayloads}
use Rattle.decoder_render.specs.declared.outcome.Outcome.{Outcome}
use Rattle.decoder_render.specs.declared.outcome.Outcome.TheVariants as outcome
use Rattle.decoder_render.proofs.OneOutcome.{outcome_one}
use Rattle.decoder_render.proofs.OneReading.{payloads_one}
use Rattle.marking.specs.declared.begun.Begun.{Begun}
use Rattle.vd_plane.specs.declared.picture.Picture as samples
use Rattle.picture_buffer.specs.declared.buffer.PictureBuffer.{PictureBuffer}
use Rattle.access_units.specs.AccessUnits.{AccessUnit}
use Rattle.access_units.specs.Acceptors as acceptors
use Rattle.access_units.specs.Pictures.{IsPicture, Picture, payloads_of, submission_of}
use Rattle.access_units.specs.Sequences.{sequence_of}
use Rattle.access_units.specs.Standing as acceptor
use Rattle.access_units.specs.declared.acceptor.Acceptor.{Acceptor}
use Rattle.access_units.specs.declared.acceptor.Next.{Next}
use Rattle.access_units.specs.declared.acceptor.Next.TheVariants as next
use Rattle.access_units.specs.declared.acceptor.Unsettled.{Unsettled}
use Rattle.accepted_pictures.specs.Files.{AreAllWhole, Decoded, IsReadTo, IsWholeBehind, pictures_in, references_of}
use Rattle.file_pictures.specs.Offers.{AreKeptBehind, AreSamples, IsOffered, Offer, with_samples}
use Rattle.accepted_pictures.specs.Streams.{IsNextOne, MayFeed, Stream, no_stream, past_of, showing, streamed}
use Rattle.file_pictures.specs.Streams.{GoesOn, IsBroken, IsKept, IsStep, Shows, StandsFor, newest_sequence}
use Rattle.file_pictures.specs.declared.stream_decoder.Step.TheVariants as step
use Rattle.file_pictures.specs.declared.stream_decoder.StreamDecoder.{StreamDecoder}
use Rattle.file_pictures.proofs.Payloads.{slices_have_payloads}
use Rattle.access_units.proofs.LastAnswer.{next_on}
use Rattle.access_units.proofs.OneAnswer.{picture_one}
use Rattle.access_units.proofs.WholeSlices.{next_slices}

-- ---- at the beginning

pub begins : (decoder : StreamDecoder) → acceptor.StandsFor decoder.acceptor acceptors.no_past → decoder.buffer ≡ None → StandsFor decoder no_stream
unfolding AreAllWhole sequence_of
begins decoder stands empty = record {
  whole = tt;
  state = inl (record { acceptor = stands; kept = subst (λ (buffer : Option PictureBuffer). IsKept buffer [] []) (sym empty) refl });
}

-- ---- what is fed

-- behind a picture whose slices came to no whole one
abbrev broken_at : Stream → Picture → acceptors.Past
broken_at stream picture = acceptors.settling (acceptors.giving (past_of stream) picture) false

abbrev ComesToNone : List Decoded → Picture → Type 0
ComesToNone decoded picture = (samples : samples.Picture) → ¬ IsWholeBehind decoded (record { picture = picture; samples = samples })

pub feeds : (stream : Stream) (bytes : List ℕ) → MayFeed stream bytes → acceptors.MayFeed (past_of stream) bytes
feeds stream bytes may = record { not_ended = may.not_ended; room = may.room }

pub streamed_past : (stream : Stream) (bytes : List ℕ) → acceptors.fed (past_of stream) bytes ≡ past_of (streamed stream bytes)
streamed_past stream [] = refl
streamed_past stream (byte ∷ bytes) = refl

broken_past : (stream : Stream) (picture : Picture) (bytes : List ℕ) → acceptors.fed (broken_at stream picture) bytes ≡ broken_at (streamed stream bytes) picture
broken_past stream picture [] = refl
broken_past stream picture (byte ∷ bytes) = refl

pub same_decoded : (stream : Stream) (bytes : List ℕ) → stream.decoded ≡ (streamed stream bytes).decoded
same_decoded stream [] = refl
same_decoded stream (byte ∷ bytes) = refl

pub next_fed : (stream : Stream) (bytes : List ℕ) (picture : Picture) → MayFeed stream bytes → acceptors.IsNext (past_of stream) picture → acceptors.IsNext (past_of (streamed stream bytes)) picture
next_fed stream bytes picture may next =
    subst (λ (p : acceptors.Past). acceptors.IsNext p picture) (streamed_past stream bytes) (next_on (past_of stream) bytes picture (feeds stream bytes may) next)

fed_state : (decoder : StreamDecoder) (a : Acceptor) (stream : Stream) (bytes : List ℕ) → MayFeed stream bytes
    → ((past : acceptors.Past) → acceptor.StandsFor decoder.acceptor past → acceptors.MayFeed past bytes → acceptor.StandsFor a (acceptors.fed past bytes))
    → GoesOn decoder stream ⊎ IsBroken decoder stream → GoesOn (record decoder { acceptor = a }) (streamed stream bytes) ⊎ IsBroken (record decoder { acceptor = a }) (streamed stream bytes)
fed_state decoder a stream bytes may fed (inl on) = inl (record {
  acceptor = subst (λ (p : acceptors.Past). acceptor.StandsFor a p) (streamed_past stream bytes) (fed (past_of stream) on.acceptor (feeds stream bytes may));
  kept = subst (λ (d : List Decoded). IsKept decoder.buffer d (newest_sequence d)) (same_decoded stream bytes) on.kept;
})
fed_state decoder a stream bytes may fed (inr broken) = inr (record {
  picture = broken.picture;
  next = next_fed stream bytes broken.picture may broken.next;
  none = subst (λ (d : List Decoded). ComesToNone d broken.picture) (same_decoded stream bytes) broken.none;
  acceptor = subst (λ (p : acceptors.Past). acceptor.StandsFor a p) (broken_past stream broken.picture bytes)
      (fed (broken_at stream broken.picture) broken.acceptor (record { not_ended = may.not_ended; room = may.room }));
})

pub fed_stream : (decoder : StreamDecoder) (a : Acceptor) (stream : Stream) (bytes : List ℕ) → StandsFor decoder stream → MayFeed stream bytes
    → ((past : acceptors.Past) → acceptor.StandsFor decoder.acceptor past → acceptors.MayFeed past bytes → acceptor.StandsFor a (acceptors.fed past bytes))
    → StandsFor (record decoder { acceptor = a }) (streamed stream bytes)
fed_stream decoder a stream bytes stands may fed = record {
  whole = subst AreAllWhole (same_decoded stream bytes) stands.whole;
  state = fed_state decoder a stream bytes may fed stands.state;
}

unfed_state : (decoder : StreamDecoder) (a : Acceptor) (stream : Stream) → ((past : acceptors.Past) → acceptor.StandsFor decoder.acceptor past → acceptor.StandsFor a past)
    → GoesOn decoder stream ⊎ IsBroken decoder stream → GoesOn (record decoder { acceptor = a }) stream ⊎ IsBroken (record decoder { acceptor = a }) stream
unfed_state decoder a stream same (inl on) = inl (record { acceptor = same (past_of stream) on.acceptor; kept = on.kept })
unfed_state decoder a stream same (inr broken) = inr (record {
  picture = broken.picture;
  next = broken.next;
  none = broken.none;
  acceptor = same (broken_at stream broken.picture) broken.acceptor;
})

pub unfed_stream : (decoder : StreamDecoder) (a : Acceptor) (stream : Stream) → StandsFor decoder stream → ((past : acceptors.Past) → acceptor.StandsFor decoder.acceptor past → acceptor.StandsFor a past)
    → StandsFor (record decoder { acceptor = a }) stream
unfed_stream decoder a stream stands same = record { whole = stands.whole; state = unfed_state decoder a stream same stands.state }

-- a past of the acceptor to which this may be fed
pub fed_past : (decoder : StreamDecoder) (stream : Stream) (bytes : List ℕ) → MayFeed stream bytes → GoesOn decoder stream ⊎ IsBroken decoder stream
    → (past : acceptors.Past) × acceptor.StandsFor decoder.acceptor past × acceptors.MayFeed past bytes
fed_past decoder stream bytes may (inl on) = (past_of stream, on.acceptor, feeds stream bytes may)
fed_past decoder stream bytes may (inr broken) = (broken_at stream broken.picture, broken.acceptor, record { not_ended = may.not_ended; room = may.room })

-- ---- the acceptor's answers

pub may_ask : (stream : Stream) → acceptors.MayAsk (past_of stream)
may_ask stream = λ none. absurd (cc)

may_ask_broken : (stream : Stream) (picture : Picture) → acceptors.MayAsk (broken_at stream picture)
may_ask_broken stream picture = λ none. absurd (cc)

pub asked_past : (decoder : StreamDecoder) (stream : Stream) → GoesOn decoder stream ⊎ IsBroken decoder stream
    → (past : acceptors.Past) × acceptor.StandsFor decoder.acceptor past × acceptors.MayAsk past
asked_past decoder stream (inl on) = (past_of stream, on.acceptor, may_ask stream)
asked_past decoder stream (inr broken) = (broken_at stream broken.picture, broken.acceptor, may_ask_broken stream broken.picture)

-- The acceptor answered this, and stands for it.
pub record Answered (old new : Acceptor) (told : Next) : Type 0 where
  pub answer : (past : acceptors.Past) → acceptor.StandsFor old past → acceptors.MayAsk past → acceptors.IsAnswer past told
  pub stands : (past : acceptors.Past) → acceptor.StandsFor old past → acceptors.MayAsk past → acceptor.StandsBehindAnswer new past told
  pub decodable : (past : acceptors.Past) → acceptor.StandsFor old past → acceptors.MayAsk past → acceptors.IsDecodableIn past told

-- Behind a picture that came to no whole one nothing but a refusal is answered.
no_more : (stream : Stream) (picture : Picture) → (broken_at stream picture).outcome ≡ Some true → ⊥
no_more stream picture is = cc

not_broken : (stream : Stream) → (past_of stream).outcome ≡ Some false → ⊥
not_broken stream is = cc

same_slices : (before : List Picture) (au : AccessUnit) (picture : Picture) → IsPicture before au picture → picture.slices ≡ au.slices
same_slices before au picture is = ap (λ (p : Picture). p.slices) is.is

same_offset : (before : List Picture) (au : AccessUnit) (picture : Picture) → IsPicture before au picture → picture.offset ≡ au.offset
same_offset before au picture is = ap (λ (p : Picture). p.offset) is.is

read_broken : (stream : Stream) (picture : Picture) (offset : ℕ) → AreAllWhole stream.decoded → (next : acceptors.IsNext (past_of stream) picture) → ComesToNone stream.decoded picture → offset ≡ picture.offset
    → IsReadTo stream.text stream.ended stream.decoded (record { offset = offset; large = false })
read_broken stream picture offset whole next none is =
    let before = pictures_in stream.decoded in
    let au = next.au in
    let of_au : IsPicture before au picture = next.is in
    let at : offset ≡ au.offset = is ∙ same_offset before au picture of_au in
    let allowed : au.refused ≡ None = of_au.allowed in
    let some = (next_slices (past_of stream) picture next).0 in
    record {
      front = next.up_next.front;
      au = au;
      settled = next.up_next.settled;
      accepted = record { pictures = next.up_next.pictures; whole = whole };
      refused = record {
        not_decoded = λ one decoded.
            let same : one.picture ≡ picture = picture_one before au one.picture picture decoded.picture of_au in
            none one.samples (subst (λ (p : Picture). IsWholeBehind stream.decoded (record { picture = p; samples = one.samples })) same decoded.whole);
        not_tail = λ fine empty. some (same_slices before au picture of_au ∙ empty);
      };
      fault_is = let large : false ≡ unwrap_or au.refused false = sym (ap (λ (o : Option Bool). unwrap_or o false) allowed) in cc;
    }

stopped : (stream : Stream) (offset : ℕ) (large : Bool) → acceptors.IsStopped (past_of stream) offset large → AreAllWhole stream.decoded
    → IsReadTo stream.text stream.ended stream.decoded (record { offset = offset; large = large })
stopped stream offset large is whole = record {
  front = is.up_next.front;
  au = is.au;
  settled = is.up_next.settled;
  accepted = record { pictures = is.up_next.pictures; whole = whole };
  refused = record {
    not_decoded = λ one decoded. is.refused.no_picture one.picture decoded.picture;
    not_tail = is.refused.not_tail;
  };
  fault_is = let at = is.offset_is in let size = is.large_is in cc;
}

-- the last picture given is the one that came to no whole picture
first_given : (a b : Picture) (xs ys : List Picture) → a ∷ xs ≡ b ∷ ys → a ≡ b
first_given a b xs ys e = cc

module _ (decoder : StreamDecoder) (a : Acceptor) (stream : Stream) (whole : AreAllWhole stream.decoded) where
  on_stands : acceptor.StandsFor a (past_of stream) → GoesOn decoder stream → StandsFor (record decoder { acceptor = a }) stream
  on_stands here on = record { whole = whole; state = inl (record { acceptor = here; kept = on.kept }) }

  broken_stands : (broken : IsBroken decoder stream) → acceptor.StandsFor a (broken_at stream broken.picture) → StandsFor (record decoder { acceptor = a }) stream
  broken_stands broken here = record { whole = whole; state = inr (record { picture = broken.picture; next = broken.next; none = broken.none; acceptor = here }) }

  pub hungry_step : Answered decoder.acceptor a next.Hungry → GoesOn decoder stream ⊎ IsBroken decoder stream → IsStep stream step.Hungry (record decoder { acceptor = a })
  hungry_step is (inl on) = (is.answer (past_of stream) on.acceptor (may_ask stream), on_stands (is.stands (past_of stream) on.acceptor (may_ask stream)) on)
  hungry_step is (inr broken) = absurd (no_more stream broken.picture (is.answer (broken_at stream broken.picture) broken.acceptor (may_ask_broken stream broken.picture)).outcome)

  pub end_step : Answered decoder.acceptor a next.End → GoesOn decoder stream ⊎ IsBroken decoder stream → IsStep stream step.End (record decoder { acceptor = a })
  end_step is (inl on) =
      let end = is.answer (past_of stream) on.acceptor (may_ask stream) in (
        end.ended,
        record { front = end.front; all = end.all; accepted = record { pictures = end.pictures; whole = whole } },
        on_stands (is.stands (past_of stream) on.acceptor (may_ask stream)) on,
      )
  end_step is (inr broken) = absurd (no_more stream broken.picture (is.answer (broken_at stream broken.picture) broken.acceptor (may_ask_broken stream broken.picture)).outcome)

  refused_on : (offset : ℕ) (large : Bool) → acceptors.IsAnswer (past_of stream) (next.Refused offset large) → IsReadTo stream.text stream.ended stream.decoded (record { offset = offset; large = large })
  refused_on offset large (inl failed) = absurd (not_broken stream failed.0.outcome)
  refused_on offset large (inr is) = stopped stream offset large is whole

  refused_broken : (offset : ℕ) (large : Bool) (broken : IsBroken decoder stream) → acceptors.IsAnswer (broken_at stream broken.picture) (next.Refused offset large)
      → IsReadTo stream.text stream.ended stream.decoded (record { offset = offset; large = large })
  refused_broken offset large broken (inl failed) =
      let last : broken.picture ≡ failed.0.last = first_given broken.picture failed.0.last (pictures_in stream.decoded) failed.0.before failed.0.given in
      let at : offset ≡ broken.picture.offset = failed.0.offset_is ∙ sym (ap (λ (p : Picture). p.offset) last) in
      subst (λ (l : Bool). IsReadTo stream.text stream.ended stream.decoded (record { offset = offset; large = l })) (sym failed.1) (read_broken stream broken.picture offset whole broken.next broken.none at)
  refused_broken offset large broken (inr is) = absurd (no_more stream broken.picture is.outcome)

  pub refused_step : (offset : ℕ) (large : Bool) → Answered decoder.acceptor a (next.Refused offset large) → GoesOn decoder stream ⊎ IsBroken decoder stream
      → IsStep stream (step.Refused offset large) (record decoder { acceptor = a })
  refused_step offset large is (inl on) = (
    refused_on offset large (is.answer (past_of stream) on.acceptor (may_ask stream)),
    on_stands (is.stands (past_of stream) on.acceptor (may_ask stream)) on,
  )
  refused_step offset large is (inr broken) =
      let may = may_ask_broken stream broken.picture in
      let past = broken_at stream broken.picture in
      (refused_broken offset large broken (is.answer past broken.acceptor may), broken_stands broken (is.stands past broken.acceptor may))

  -- a picture was given
  pub picture_offered : (unsettled : Unsettled) → Answered decoder.acceptor a (next.Picture unsettled) → GoesOn decoder stream ⊎ IsBroken decoder stream
      → (picture : Picture) × IsOffered (record decoder { acceptor = a }) (record { stream = stream; picture = picture }) unsettled
  picture_offered unsettled is (inl on) =
      let behind = is.stands (past_of stream) on.acceptor (may_ask stream) in (
        behind.0,
        record {
          acceptor = behind.3;
          next = behind.1;
          shows = behind.2;
          decodable = is.decodable (past_of stream) on.acceptor (may_ask stream);
          whole = whole;
          kept = on.kept;
        },
      )
  picture_offered unsettled is (inr broken) =
      absurd (no_more stream broken.picture (is.answer (broken_at stream broken.picture) broken.acceptor (may_ask_broken stream broken.picture)).1.outcome)

-- ---- what the slices come to

whole_along : (i j : PictureInfo) (s t : SizeMbs) (r q : List (Option samples.Picture)) (u v : List (Option (List ℕ))) (p : samples.Picture) → i ≡ j → s ≡ t → r ≡ q → u ≡ v
    → IsWhole (given i s r) u p → IsWhole (given j t q) v p
whole_along i j s t r q u v p ei es er eu whole =
    subst (λ (k : PictureInfo). IsWhole (given k t q) v p) ei
    (subst (λ (k : SizeMbs). IsWhole (given i k q) v p) es
    (subst (λ (k : List (Option samples.Picture)). IsWhole (given i s k) v p) er
    (subst (λ (k : List (Option (List ℕ))). IsWhole (given i s r) k p) eu whole)))

same_info : (decoder : StreamDecoder) (offer : Offer) (unsettled : Unsettled) → IsOffered decoder offer unsettled → unsettled.begun.info ≡ offer.picture.begun.info
same_info decoder offer unsettled is = ap (λ (b : Begun). b.info) is.shows.begun

units_are : (decoder : StreamDecoder) (offer : Offer) (unsettled : Unsettled) (units : List (Option (List ℕ))) → IsOffered decoder offer unsettled → ArePayloads unsettled.submission units
    → units ≡ payloads_of offer.picture.slices
units_are decoder offer unsettled units is payloads =
    let slices = offer.picture.slices in
    let each = (next_slices (past_of offer.stream) offer.picture is.next).1 in
    let here : ArePayloads (submission_of slices) units = subst (λ (t : List ℕ). ArePayloads t units) is.shows.submission payloads in
    payloads_one (submission_of slices) units (payloads_of slices) here (slices_have_payloads slices each)

refs_are : (offer : Offer) (unsettled : Unsettled) (refs : List (Option samples.Picture)) → unsettled.begun.info ≡ offer.picture.begun.info → refs ≡ references_of offer.stream.decoded unsettled.begun.info
    → refs ≡ references_of offer.stream.decoded offer.picture.begun.info
refs_are offer unsettled refs same is = is ∙ ap (λ (i : PictureInfo). references_of offer.stream.decoded i) same

module _ (decoder : StreamDecoder) (offer : Offer) (unsettled : Unsettled) (refs : List (Option samples.Picture)) (units : List (Option (List ℕ))) (is : IsOffered decoder offer unsettled)
    (named : refs ≡ references_of offer.stream.decoded unsettled.begun.info) (payloads : ArePayloads unsettled.submission units) where
  pub comes_to : (p : samples.Picture) → IsWhole (given unsettled.begun.info unsettled.size refs) units p → AreSamples offer (Some p)
  comes_to p whole =
      let info = same_info decoder offer unsettled is in
      whole_along _ _ _ _ _ _ _ _ p info is.shows.size (refs_are offer unsettled refs info named) (units_are decoder offer unsettled units is payloads) whole

  pub comes_to_none : (result : Outcome) (p : samples.Picture) → result ≢ outcome.Ok → IsOutcome (given unsettled.begun.info unsettled.size refs) units result p → AreSamples offer None
  comes_to_none result p other given_result = λ any whole.
      let info = same_info decoder offer unsettled is in
      let back : IsWhole (given unsettled.begun.info unsettled.size refs) units any =
      whole_along _ _ _ _ _ _ _ _ any (sym info) (sym is.shows.size) (sym (refs_are offer unsettled refs info named)) (sym (units_are decoder offer unsettled units is payloads)) whole in
      other (outcome_one (given unsettled.begun.info unsettled.size refs) units is.decodable.info is.decodable.size result outcome.Ok p any given_result back)

-- ---- the picture is decoded

all_whole_more : (one : Decoded) (decoded : List Decoded) → AreAllWhole decoded → IsWholeBehind decoded one → AreAllWhole (one ∷ decoded)
unfolding AreAllWhole
all_whole_more one decoded before here = (before, here)

next_one : (decoder : StreamDecoder) (offer : Offer) (unsettled : Unsettled) (p : samples.Picture) → IsOffered decoder offer unsettled → AreSamples offer (Some p) → IsNextOne offer.stream (with_samples offer p)
next_one decoder offer unsettled p is whole = record {
  front = is.next.up_next.front;
  au = is.next.au;
  settled = is.next.up_next.settled;
  before = record { pictures = is.next.up_next.pictures; whole = is.whole };
  decoded = record { picture = is.next.is; whole = whole };
}

shows_one : (decoder : StreamDecoder) (offer : Offer) (unsettled : Unsettled) (poc : ℤ) (kept : Arc samples.Picture Global) (p : samples.Picture) → IsOffered decoder offer unsettled → poc ≡ unsettled.begun.poc → arc_value kept ≡ p
    → Shows (record { offset = unsettled.offset; poc = poc; period = unsettled.begun.period; depth = unsettled.depth; samples = kept }) (with_samples offer p)
shows_one decoder offer unsettled poc kept p is count value = record {
  offset = is.shows.offset;
  poc = count ∙ ap (λ (b : Begun). b.poc) is.shows.begun;
  period = ap (λ (b : Begun). b.period) is.shows.begun;
  depth = is.shows.depth;
  samples = value;
}

stands_more : (old new : StreamDecoder) (offer : Offer) (unsettled : Unsettled) (p : samples.Picture) → IsOffered old offer unsettled → AreSamples offer (Some p) → AreKeptBehind new.buffer offer (Some p)
    → acceptor.StandsFor new.acceptor (acceptors.settling (acceptors.giving (past_of offer.stream) offer.picture) true) → StandsFor new (showing offer.stream (with_samples offer p))
stands_more old new offer unsettled p is whole kept settled = record {
  whole = all_whole_more (with_samples offer p) offer.stream.decoded is.whole whole;
  state = inl (record { acceptor = settled; kept = kept });
}

-- the answer is the next picture
pub gives : (old new : StreamDecoder) (offer : Offer) (unsettled : Unsettled) (poc : ℤ) (shown : Arc samples.Picture Global) → IsOffered old offer unsettled
    → AreSamples offer (Some (arc_value shown)) → AreKeptBehind new.buffer offer (Some (arc_value shown)) → poc ≡ unsettled.begun.poc
    → acceptor.StandsFor new.acceptor (acceptors.settling (acceptors.giving (past_of offer.stream) offer.picture) true)
    → (one : Decoded) × IsNextOne offer.stream one
    × Shows (record { offset = unsettled.offset; poc = poc; period = unsettled.begun.period; depth = unsettled.depth; samples = shown }) one
    × StandsFor new (showing offer.stream one)
gives old new offer unsettled poc shown is whole kept poc_is settled =
    let p : samples.Picture = arc_value shown in
    (with_samples offer p, next_one old offer unsettled p is whole, shows_one old offer unsettled poc shown p is poc_is refl, stands_more old new offer unsettled p is whole kept settled)

-- ---- the picture isn't accepted

pub not_given : (old new : StreamDecoder) (offer : Offer) (unsettled : Unsettled) → IsOffered old offer unsettled → AreSamples offer None
    → acceptor.StandsFor new.acceptor (acceptors.settling (acceptors.giving (past_of offer.stream) offer.picture) false)
    → IsStep offer.stream (step.Refused unsettled.offset false) new
not_given old new offer unsettled is none settled = (
  read_broken offer.stream offer.picture unsettled.offset is.whole is.next none is.shows.offset,
  record { whole = is.whole; state = inr (record { picture = offer.picture; next = is.next; none = none; acceptor = settled }) },
)
