-- At one moment one thing comes next at most.
use Rattle.std.proofs.Common.{◌≡◌, true, false, ◌∷◌, refl, sym, ap, subst, ◌∙◌}
use Rattle.access_units.specs.AccessUnits.{AccessUnit}
use Rattle.access_units.specs.Acceptors.{IsAtEnd, IsHungry, IsNext, IsUpNext}
use Rattle.access_units.proofs.OneAnswer.{next_some, not_at_end, not_hungry, up_one}
use Rattle.access_units.proofs.OneGrouping.{settled}
use Rattle.access_units.proofs.Onward.{settled_at_end}
use Rattle.accepted_pictures.specs.Files.{Decoded, Fault, IsAcceptedPicture, IsReadTo, IsReadWhole, fault_of}
use Rattle.accepted_pictures.specs.Laws.{MoreBytes, OnePicture, TheEnd, OneFault, OneThingComesNext}
use Rattle.accepted_pictures.specs.Streams.{IsNextOne, Stream, past_of}
use Rattle.accepted_pictures.proofs.OneDecoded.{one_decoded, settled_read}

-- ---- one access unit is next

abbrev pub IsRefusedAt : Stream → Fault → Type 0
IsRefusedAt stream fault = IsReadTo stream.text stream.ended stream.decoded fault

module _ (stream : Stream) where
  pub up_refused : (fault : Fault) (to : IsRefusedAt stream fault) → IsUpNext (past_of stream) to.au
  up_refused fault to = record { front = to.front; settled = to.settled; pictures = to.accepted.pictures }

  up_decoded : (one : Decoded) (is : IsNextOne stream one) → IsUpNext (past_of stream) is.au
  up_decoded one is = record { front = is.front; settled = is.settled; pictures = is.before.pictures }

  next_decoded : (one : Decoded) (is : IsNextOne stream one) → IsNext (past_of stream) one.picture
  next_decoded one is = record { outcome = refl; au = is.au; up_next = up_decoded one is; is = is.decoded.picture }

  at_end : stream.ended ≡ true → IsReadWhole stream.text stream.decoded → IsAtEnd (past_of stream)
  at_end ended whole = record { outcome = refl; ended = ended; front = whole.front; all = whole.all; pictures = whole.accepted.pictures }

  pub refused_or_decoded : (fault : Fault) (one : Decoded) → IsRefusedAt stream fault → IsNextOne stream one → ⊥
  refused_or_decoded fault one to is =
      let au : is.au ≡ to.au = up_one (past_of stream) is.au to.au (up_decoded one is) (up_refused fault to) in
      to.refused.not_decoded one (subst (λ (u : AccessUnit). IsAcceptedPicture stream.decoded u one) au is.decoded)

  pub refused_or_end : (fault : Fault) → IsRefusedAt stream fault → stream.ended ≡ true → IsReadWhole stream.text stream.decoded → ⊥
  refused_or_end fault to ended whole = not_at_end (past_of stream) to.au (at_end ended whole) (up_refused fault to) to.refused.not_tail

  pub refused_one : (f g : Fault) → IsRefusedAt stream f → IsRefusedAt stream g → f ≡ g
  refused_one f g to also =
      let au : to.au ≡ also.au = up_one (past_of stream) to.au also.au (up_refused f to) (up_refused g also) in
      to.fault_is ∙ ap fault_of au ∙ sym also.fault_is

  pub decoded_or_end : (one : Decoded) → IsNextOne stream one → stream.ended ≡ true → IsReadWhole stream.text stream.decoded → ⊥
  unfolding next_decoded
  decoded_or_end one is ended whole =
      let next = next_decoded one is in not_at_end (past_of stream) is.au (at_end ended whole) next.up_next (next_some (past_of stream) one.picture next)

  -- its picture is one, with its samples
  decoded_same : (one other : Decoded) → IsNextOne stream one → IsNextOne stream other → one ≡ other
  decoded_same one other is also =
      let au : is.au ≡ also.au = up_one (past_of stream) is.au also.au (up_decoded one is) (up_decoded other also) in
      let read = settled_read stream.text (also.au ∷ also.front) (settled stream.text also.front also.au (settled_at_end stream.text stream.ended also.front also.au also.settled)) in
      one_decoded stream.decoded also.au one other read.0 (subst (λ (u : AccessUnit). IsAcceptedPicture stream.decoded u one) au is.decoded) also.decoded

  not_ended : IsHungry (past_of stream) → stream.ended ≡ true → ⊥
  not_ended hungry ended = let e : true ≡ false = sym ended ∙ hungry.not_ended in absurd (cc)

pub one_next : OneThingComesNext
one_next stream MoreBytes MoreBytes x y = refl
one_next stream MoreBytes (OnePicture one) x y = absurd (not_hungry (past_of stream) y.au x (up_decoded stream one y))
one_next stream MoreBytes TheEnd x y = absurd (not_ended stream x y.0)
one_next stream MoreBytes (OneFault fault) x y = absurd (not_hungry (past_of stream) y.au x (up_refused stream fault y))
one_next stream (OnePicture one) MoreBytes x y = absurd (not_hungry (past_of stream) x.au y (up_decoded stream one x))
one_next stream (OnePicture one) (OnePicture other) x y = ap OnePicture (decoded_same stream one other x y)
one_next stream (OnePicture one) TheEnd x y = absurd (decoded_or_end stream one x y.0 y.1)
one_next stream (OnePicture one) (OneFault fault) x y = absurd (refused_or_decoded stream fault one y x)
one_next stream TheEnd MoreBytes x y = absurd (not_ended stream y x.0)
one_next stream TheEnd (OnePicture one) x y = absurd (decoded_or_end stream one y x.0 x.1)
one_next stream TheEnd TheEnd x y = refl
one_next stream TheEnd (OneFault fault) x y = absurd (refused_or_end stream fault y x.0 x.1)
one_next stream (OneFault fault) MoreBytes x y = absurd (not_hungry (past_of stream) x.au y (up_refused stream fault x))
one_next stream (OneFault fault) (OnePicture one) x y = absurd (refused_or_decoded stream fault one x y)
one_next stream (OneFault fault) TheEnd x y = absurd (refused_or_end stream fault x y.0 y.1)
one_next stream (OneFault fault) (OneFault other) x y = ap OneFault (refused_one stream fault other x y)
