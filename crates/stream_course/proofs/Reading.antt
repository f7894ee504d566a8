-- What was read of a stream's file.
use Rattle.std.proofs.Common.{◌≡◌, ℕ, inl, inr, ◌+◌, ◌≤◌, Bool, true, false, List, [], ◌∷◌, ◌++◌, length, ℤ, Option, Some, None, refl, sym, ◌∙◌, ap, subst, arith, length-append}
use Rattle.std.specs.Prelude.{unwrap_or}
use Rattle.marking.specs.declared.begun.Begun.{Begun}
use Rattle.access_units.specs.AccessUnits.{AccessUnit}
use Rattle.access_units.specs.Acceptors as acceptors
use Rattle.access_units.specs.Depth.{depth_of}
use Rattle.access_units.specs.Pictures.{ArePictures, IsPicture, Picture}
use Rattle.access_units.specs.Standing as acceptor
use Rattle.access_units.specs.declared.acceptor.Acceptor.{Acceptor}
use Rattle.access_units.specs.declared.acceptor.Next.TheVariants as next
use Rattle.access_units.specs.declared.acceptor.Unsettled.{Unsettled}
use Rattle.access_units.proofs.LastAnswer.{next_on}
use Rattle.access_units.proofs.OneAnswer.{picture_one}
use Rattle.access_units.proofs.Onward.{settled_at_end, settled_on}
use Rattle.access_units.proofs.WholeSlices.{next_slices}
use Rattle.accepted_pictures.specs.Files.{AreAllWhole, Decoded, Fault, IsReadTo, IsWholeBehind, pictures_in}
use Rattle.accepted_pictures.specs.Streams.{MayFeed, Stream, no_stream, past_of, showing, streamed}
use Rattle.accepted_pictures.proofs.Onward.{refused_on}
use Rattle.stream_course.specs.Standing.{AreSettled, HasRead, IsAt, IsLeft, place_of}
use Rattle.stream_course.specs.Way.{AreTrue, ComesToNone, HasEnded}
use Rattle.stream_course.specs.declared.course.Ending.{Ending}
use Rattle.stream_course.specs.declared.course.Ending.TheVariants as ending
use Rattle.stream_course.specs.declared.course.Place.{Place}
use Rattle.stream_course.proofs.Joining.{joins}
use Rattle.stream_course.proofs.Numbers.{length_pictures}

-- ---- at the beginning

pub read_none : HasRead 0 0 no_stream
read_none = record { fed = refl; short = omega arith; decoded = refl; few = omega arith; settled = inl refl }

-- ---- what is fed

feeds : (past : acceptors.Past) (stream : Stream) (bytes : List ℕ) → past.text ≡ stream.text → past.ended ≡ stream.ended → MayFeed stream bytes
    → acceptors.MayFeed past bytes
feeds past stream bytes text ended may = record {
  not_ended = ended ∙ may.not_ended;
  room = subst (λ (t : List ℕ). length (t ++ bytes) ≤ 1073741824) (sym text) may.room;
}

-- a past of the acceptor to which this may be fed
pub fed_past : (a : Acceptor) (place : Option Place) (reason : Option Ending) (stream : Stream) (given failed : Option Picture) (bytes : List ℕ)
    → MayFeed stream bytes → IsAt a place reason stream given failed
    → (past : acceptors.Past) × acceptor.StandsFor a past × acceptors.MayFeed past bytes
fed_past a place (Some reason) stream (Some picture) failed bytes may at = absurd at
fed_past a place (Some reason) stream None failed bytes may at = (at.past, at.stands, feeds at.past stream bytes at.text at.ended may)
fed_past a place None stream (Some picture) failed bytes may at =
    (acceptors.giving (past_of stream) picture, at.stands, feeds (acceptors.giving (past_of stream) picture) stream bytes refl refl may)
fed_past a place None stream None failed bytes may at = (past_of stream, at, feeds (past_of stream) stream bytes refl refl may)

streamed_past : (stream : Stream) (bytes : List ℕ) → acceptors.fed (past_of stream) bytes ≡ past_of (streamed stream bytes)
streamed_past stream [] = refl
streamed_past stream (byte ∷ bytes) = refl

given_past : (stream : Stream) (picture : Picture) (bytes : List ℕ)
    → acceptors.fed (acceptors.giving (past_of stream) picture) bytes ≡ acceptors.giving (past_of (streamed stream bytes)) picture
given_past stream picture [] = refl
given_past stream picture (byte ∷ bytes) = refl

text_on : (past : acceptors.Past) (stream : Stream) (bytes : List ℕ) → past.text ≡ stream.text → (acceptors.fed past bytes).text ≡ (streamed stream bytes).text
text_on past stream [] same = same
text_on past stream (byte ∷ bytes) same = ap (λ (t : List ℕ). t ++ byte ∷ bytes) same

ended_on : (past : acceptors.Past) (stream : Stream) (bytes : List ℕ) → past.ended ≡ stream.ended
    → (acceptors.fed past bytes).ended ≡ (streamed stream bytes).ended
ended_on past stream [] same = refl
ended_on past stream (byte ∷ bytes) same = same

refused_fed : (stream : Stream) (bytes : List ℕ) (fault : Fault) → MayFeed stream bytes → IsReadTo stream.text stream.ended stream.decoded fault
    → IsReadTo (streamed stream bytes).text (streamed stream bytes).ended (streamed stream bytes).decoded fault
refused_fed stream [] fault may to = record {
  front = to.front;
  au = to.au;
  settled = settled_at_end stream.text stream.ended to.front to.au to.settled;
  accepted = to.accepted;
  refused = to.refused;
  fault_is = to.fault_is;
}
refused_fed stream (byte ∷ bytes) fault may to =
    refused_on stream.text (byte ∷ bytes) stream.ended stream.decoded fault (subst (λ (e : Bool). IsReadTo stream.text e stream.decoded fault) may.not_ended to)

ended_fed : (stream : Stream) (bytes : List ℕ) (reason : Ending) → MayFeed stream bytes → HasEnded reason stream → HasEnded reason (streamed stream bytes)
ended_fed stream bytes ending.Whole may is = let e : true ≡ false = sym is.0 ∙ may.not_ended in absurd cc
ended_fed stream bytes (ending.Refused offset large) may is = refused_fed stream bytes (record { offset = offset; large = large }) may is

true_before : (stream : Stream) (bytes : List ℕ) (failed : Option Picture) → AreTrue (streamed stream bytes) failed → AreTrue stream failed
true_before stream [] failed are = record { whole = are.whole; failure = are.failure }
true_before stream (byte ∷ bytes) failed are = record { whole = are.whole; failure = are.failure }

-- where the acceptor stands then
pub at_fed : (a new : Acceptor) (place : Option Place) (reason : Option Ending) (stream : Stream) (given failed : Option Picture) (bytes : List ℕ)
    → MayFeed stream bytes
    → ((past : acceptors.Past) → acceptor.StandsFor a past → acceptors.MayFeed past bytes → acceptor.StandsFor new (acceptors.fed past bytes))
    → IsAt a place reason stream given failed → IsAt new place reason (streamed stream bytes) given failed
at_fed a new place (Some reason) stream (Some picture) failed bytes may fed at = at
at_fed a new place (Some reason) stream None failed bytes may fed at = record {
  past = acceptors.fed at.past bytes;
  stands = fed at.past at.stands (feeds at.past stream bytes at.text at.ended may);
  text = text_on at.past stream bytes at.text;
  ended = ended_on at.past stream bytes at.ended;
  has_ended = λ true_of. ended_fed stream bytes reason may (at.has_ended (true_before stream bytes failed true_of));
}
at_fed a new place None stream (Some picture) failed bytes may fed at = record {
  stands = subst (λ (p : acceptors.Past). acceptor.StandsFor new p) (given_past stream picture bytes)
      (fed (acceptors.giving (past_of stream) picture) at.stands (feeds (acceptors.giving (past_of stream) picture) stream bytes refl refl may));
  next =
      subst (λ (p : acceptors.Past). acceptors.IsNext p picture) (streamed_past stream bytes) (next_on (past_of stream) bytes picture (feeds (past_of stream) stream bytes refl refl may) at.next);
  small = at.small;
  place = at.place;
}
at_fed a new place None stream None failed bytes may fed at =
    subst (λ (p : acceptors.Past). acceptor.StandsFor new p) (streamed_past stream bytes) (fed (past_of stream) at (feeds (past_of stream) stream bytes refl refl may))

-- and where it wasn't fed
pub at_unfed : (a new : Acceptor) (place : Option Place) (reason : Option Ending) (stream : Stream) (given failed : Option Picture)
    → ((past : acceptors.Past) → acceptor.StandsFor a past → acceptor.StandsFor new past) → IsAt a place reason stream given failed
    → IsAt new place reason stream given failed
at_unfed a new place (Some reason) stream (Some picture) failed same at = at
at_unfed a new place (Some reason) stream None failed same at =
    record { past = at.past; stands = same at.past at.stands; text = at.text; ended = at.ended; has_ended = at.has_ended }
at_unfed a new place None stream (Some picture) failed same at =
    record { stands = same (acceptors.giving (past_of stream) picture) at.stands; next = at.next; small = at.small; place = at.place }
at_unfed a new place None stream None failed same at = same (past_of stream) at

settled_fed : (stream : Stream) (bytes : List ℕ) → MayFeed stream bytes → AreSettled stream → AreSettled (streamed stream bytes)
settled_fed stream [] may (inl none) = inl none
settled_fed stream [] may (inr some) = inr (some.0, some.1, settled_at_end stream.text stream.ended some.0 some.1 some.2, some.3)
settled_fed stream (byte ∷ bytes) may (inl none) = inl none
settled_fed stream (byte ∷ bytes) may (inr some) = inr (
  some.0,
  some.1,
  settled_on stream.text (byte ∷ bytes) stream.ended some.0 some.1 (subst (λ (e : Bool). acceptors.IsSettled stream.text e some.0 some.1) may.not_ended some.2),
  some.3,
)

pub read_fed : (fed decoded : ℕ) (stream : Stream) (bytes : List ℕ) → MayFeed stream bytes → HasRead fed decoded stream
    → HasRead (fed + length bytes) decoded (streamed stream bytes)
read_fed fed decoded stream [] may read = record {
  fed = (let same = read.fed in omega (arith, same));
  short = read.short;
  decoded = read.decoded;
  few = read.few;
  settled = settled_fed stream [] may read.settled;
}
read_fed fed decoded stream (byte ∷ bytes) may read = record {
  fed = (let same = read.fed in let all = length-append stream.text (byte ∷ bytes) in omega (arith, same, all));
  short = may.room;
  decoded = read.decoded;
  few = read.few;
  settled = settled_fed stream (byte ∷ bytes) may read.settled;
}

pub fits_fed : (fed decoded : ℕ) (stream : Stream) (bytes : List ℕ) → MayFeed stream bytes → HasRead fed decoded stream → fed + length bytes ≤ 1073741824
fits_fed fed decoded stream bytes may read =
    let room = may.room in let same = read.fed in let all = length-append stream.text bytes in omega (arith, room, same, all)

pub same_decoded : (stream : Stream) (bytes : List ℕ) → stream.decoded ≡ (streamed stream bytes).decoded
same_decoded stream [] = refl
same_decoded stream (byte ∷ bytes) = refl

-- ---- the picture that was given

-- It is decoded.
pictures_more : (stream : Stream) (one : Decoded) → (next : acceptors.IsNext (past_of stream) one.picture)
    → ArePictures (next.au ∷ next.up_next.front) (pictures_in (one ∷ stream.decoded))
unfolding ArePictures
pictures_more stream one next = (next.up_next.pictures, next.is)

pub read_more : (fed decoded : ℕ) (stream : Stream) (one : Decoded) → HasRead fed decoded stream → acceptors.IsNext (past_of stream) one.picture
    → HasRead fed (decoded + 1) (showing stream one)
read_more fed decoded stream one read next =
    let few = (joins (pictures_in stream.decoded) next.au one.picture next.is).few in
    let same = length_pictures stream.decoded in
    record {
      fed = read.fed;
      short = read.short;
      decoded = (let d = read.decoded in omega (arith, d));
      few = omega (arith, few, same);
      settled = inr (next.up_next.front, next.au, next.up_next.settled, pictures_more stream one next);
    }

-- It isn't.
same_slices : (before : List Picture) (au : AccessUnit) (picture : Picture) → IsPicture before au picture → picture.slices ≡ au.slices
same_slices before au picture is = ap (λ (p : Picture). p.slices) is.is

same_offset : (before : List Picture) (au : AccessUnit) (picture : Picture) → IsPicture before au picture → picture.offset ≡ au.offset
same_offset before au picture is = ap (λ (p : Picture). p.offset) is.is

read_broken : (stream : Stream) (picture : Picture) (offset : ℕ) → AreAllWhole stream.decoded → (next : acceptors.IsNext (past_of stream) picture)
    → ComesToNone stream.decoded picture → offset ≡ picture.offset
    → IsReadTo stream.text stream.ended stream.decoded (record { offset = offset; large = false })
read_broken stream picture offset whole next none is =
    let before = pictures_in stream.decoded in
    let au = next.au in
    let of_au : IsPicture before au picture = next.is in
    let at : offset ≡ au.offset = is ∙ same_offset before au picture of_au in
    let allowed : au.refused ≡ None = of_au.allowed in
    let some = (next_slices (past_of stream) picture next).0 in
    record {
      front = next.up_next.front;
      au = au;
      settled = next.up_next.settled;
      accepted = record { pictures = next.up_next.pictures; whole = whole };
      refused = record {
        not_decoded = λ one decoded.
            let same : one.picture ≡ picture = picture_one before au one.picture picture decoded.picture of_au in
            none one.samples (subst (λ (p : Picture). IsWholeBehind stream.decoded (record { picture = p; samples = one.samples })) same decoded.whole);
        not_tail = λ fine empty. some (same_slices before au picture of_au ∙ empty);
      };
      fault_is = let large : false ≡ unwrap_or au.refused false = sym (ap (λ (o : Option Bool). unwrap_or o false) allowed) in cc;
    }

pub left_broken : (a : Acceptor) (stream : Stream) (picture : Picture) (offset : ℕ) → acceptors.IsNext (past_of stream) picture → offset ≡ picture.offset
    → acceptor.StandsFor a (acceptors.settling (acceptors.giving (past_of stream) picture) false) → IsLeft a (ending.Refused offset false) stream (Some picture)
left_broken a stream picture offset next is stands = record {
  past = acceptors.settling (acceptors.giving (past_of stream) picture) false;
  stands = stands;
  text = refl;
  ended = refl;
  has_ended = λ are. read_broken stream picture offset are.whole next (are.failure picture refl) is;
}

-- ---- the acceptor's answers

pub may_ask : (stream : Stream) → acceptors.MayAsk (past_of stream)
may_ask stream = λ none. absurd (cc)

pub ended_whole : (stream : Stream) → AreAllWhole stream.decoded → acceptors.IsAnswer (past_of stream) next.End → HasEnded ending.Whole stream
ended_whole stream whole is = (is.ended, record { front = is.front; all = is.all; accepted = record { pictures = is.pictures; whole = whole } })

not_failed : (stream : Stream) → (past_of stream).outcome ≡ Some false → ⊥
not_failed stream is = cc

pub ended_refused : (stream : Stream) (offset : ℕ) (large : Bool) → AreAllWhole stream.decoded
    → acceptors.IsAnswer (past_of stream) (next.Refused offset large) → HasEnded (ending.Refused offset large) stream
ended_refused stream offset large whole (inl failed) = absurd (not_failed stream failed.0.outcome)
ended_refused stream offset large whole (inr is) = record {
  front = is.up_next.front;
  au = is.au;
  settled = is.up_next.settled;
  accepted = record { pictures = is.up_next.pictures; whole = whole };
  refused = record {
    not_decoded = λ one decoded. is.refused.no_picture one.picture decoded.picture;
    not_tail = is.refused.not_tail;
  };
  fault_is = let at = is.offset_is in let size = is.large_is in cc;
}

-- what is kept of the picture that was given
pub place_is : (unsettled : Unsettled) (picture : Picture) (poc : ℤ) → acceptors.Shows unsettled picture → poc ≡ unsettled.begun.poc
    → place_of poc unsettled.begun.period unsettled.depth ≡ place_of picture.begun.poc picture.begun.period (depth_of picture.sps)
place_is unsettled picture poc shows count =
    let at : poc ≡ picture.begun.poc = count ∙ ap (λ (b : Begun). b.poc) shows.begun in
    let starts : unsettled.begun.period ≡ picture.begun.period = ap (λ (b : Begun). b.period) shows.begun in
    ap (λ (n : ℤ). place_of n unsettled.begun.period unsettled.depth) at
    ∙ ap (λ (b : Bool). place_of picture.begun.poc b unsettled.depth) starts
    ∙ ap (λ (n : ℕ). place_of picture.begun.poc picture.begun.period n) shows.depth
