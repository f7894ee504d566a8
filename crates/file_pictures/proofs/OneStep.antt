-- The end and a refusal stay the answer, whatever is fed.
use Rattle.std.proofs.Common.{◌≡◌, ℕ, Bool, true, false, List, [], ◌∷◌, refl, sym, ap, subst, ◌∙◌}
use Rattle.access_units.proofs.OneAnswer.{not_hungry}
use Rattle.access_units.proofs.Onward.{settled_at_end}
use Rattle.accepted_pictures.specs.Files.{Fault, IsReadTo, IsReadWhole}
use Rattle.accepted_pictures.specs.Streams.{MayFeed, Stream, past_of, streamed}
use Rattle.file_pictures.specs.Streams.{IsStep, IsStreamedOn, Stays, StaysIfLast}
use Rattle.file_pictures.specs.declared.stream_decoder.Step.{Step}
use Rattle.file_pictures.specs.declared.stream_decoder.Step.TheVariants as step
use Rattle.file_pictures.specs.declared.stream_decoder.StreamDecoder.{StreamDecoder}
use Rattle.accepted_pictures.proofs.OneNext.{IsRefusedAt, decoded_or_end, refused_one, refused_or_decoded, refused_or_end, up_refused}
use Rattle.accepted_pictures.proofs.Onward.{refused_on}

-- ---- where one of the last answers is right no other one is

module _ (stream : Stream) where
  refused_same : (offset : ℕ) (large : Bool) → IsRefusedAt stream (record { offset = offset; large = large }) → (other : Step) (decoder : StreamDecoder) → IsStep stream other decoder → other ≡ step.Refused offset large
  refused_same offset large to step.Hungry decoder is = absurd (not_hungry (past_of stream) to.au is.0 (up_refused stream (record { offset = offset; large = large }) to))
  refused_same offset large to (step.Picture shown) decoder is = absurd (refused_or_decoded stream (record { offset = offset; large = large }) is.0 to is.1)
  refused_same offset large to step.End decoder is = absurd (refused_or_end stream (record { offset = offset; large = large }) to is.0 is.1)
  refused_same offset large to (step.Refused b q) decoder is =
      ap (λ (f : Fault). step.Refused f.offset f.large) (refused_one stream (record { offset = b; large = q }) (record { offset = offset; large = large }) is.0 to)

  end_same : stream.ended ≡ true → IsReadWhole stream.text stream.decoded → (other : Step) (decoder : StreamDecoder) → IsStep stream other decoder → other ≡ step.End
  end_same ended whole step.Hungry decoder is = let e : true ≡ false = sym ended ∙ is.0.not_ended in absurd (cc)
  end_same ended whole (step.Picture shown) decoder is = absurd (decoded_or_end stream is.0 is.1 ended whole)
  end_same ended whole step.End decoder is = refl
  end_same ended whole (step.Refused b q) decoder is = absurd (refused_or_end stream (record { offset = b; large = q }) is.0 ended whole)

-- ---- whatever is fed

refused_fed : (stream : Stream) (bytes : List ℕ) (fault : Fault) → MayFeed stream bytes → IsRefusedAt stream fault → IsRefusedAt (streamed stream bytes) fault
refused_fed stream [] fault may to = record {
  front = to.front;
  au = to.au;
  settled = settled_at_end stream.text stream.ended to.front to.au to.settled;
  accepted = to.accepted;
  refused = to.refused;
  fault_is = to.fault_is;
}
refused_fed stream (byte ∷ bytes) fault may to =
    refused_on stream.text (byte ∷ bytes) stream.ended stream.decoded fault (subst (λ (e : Bool). IsReadTo stream.text e stream.decoded fault) may.not_ended to)

refused_later : (stream later : Stream) (pieces : List (List ℕ)) (fault : Fault) → IsStreamedOn stream pieces later → IsRefusedAt stream fault → IsRefusedAt later fault
refused_later stream later [] fault on to = subst (λ (s : Stream). IsRefusedAt s fault) (sym on) to
refused_later stream later (bytes ∷ pieces) fault on to = refused_later (streamed stream bytes) later pieces fault on.1 (refused_fed stream bytes fault on.0 to)

abbrev IsWholeAt : Stream → Type 0
IsWholeAt stream = (stream.ended ≡ true) × IsReadWhole stream.text stream.decoded

end_later : (stream later : Stream) (pieces : List (List ℕ)) → IsStreamedOn stream pieces later → IsWholeAt stream → IsWholeAt later
end_later stream later [] on is = subst IsWholeAt (sym on) is
end_later stream later (bytes ∷ pieces) on is = let e : true ≡ false = sym is.0 ∙ on.0.not_ended in absurd (cc)

end_stays : (stream : Stream) → IsWholeAt stream → Stays stream step.End
end_stays stream is pieces later on =
    let here = end_later stream later pieces on is in ((λ decoder stands. (here.0, here.1, stands)), end_same later here.0 here.1)

refused_stays : (stream : Stream) (offset : ℕ) (large : Bool) → IsRefusedAt stream (record { offset = offset; large = large }) → Stays stream (step.Refused offset large)
refused_stays stream offset large to pieces later on =
    let here = refused_later stream later pieces (record { offset = offset; large = large }) on to in ((λ decoder stands. (here, stands)), refused_same later offset large here)

pub stays_if_last : (stream : Stream) (answer : Step) (decoder : StreamDecoder) → IsStep stream answer decoder → StaysIfLast stream answer
stays_if_last stream step.Hungry decoder is = tt
stays_if_last stream (step.Picture shown) decoder is = tt
stays_if_last stream step.End decoder is = end_stays stream (is.0, is.1)
stays_if_last stream (step.Refused offset large) decoder is = refused_stays stream offset large is.0
