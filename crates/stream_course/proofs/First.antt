-- What came out is the first of each file that may be the stream's.
use Rattle.std.proofs.Common.{◌≡◌, inl, inr, ℕ, ◌+◌, ◌<◌, ◌≤◌, Bool, true, false, if◌then◌else◌, List, [], ◌∷◌, ◌++◌, length, map, Option, Some, None, refl, sym, ap, subst, ◌∙◌, arith, append-nil, length-append}
use Rattle.std.specs.Prelude.{flat_map}
use Rattle.std.specs.List.{AllByRecursion}
use Rattle.std.specs.Option.{is_some}
use Rattle.std.proofs.lemmas.Grind.{flat_map-append}
use Rattle.std.proofs.lemmas.List.{map-append}
use Rattle.vd_plane.specs.declared.picture.Picture as samples
use Rattle.driver_model.specs.ShownPictures.{ShownPicture, shown_from}
use Rattle.player_laws.proofs.Shown.{fronts_from}
use Rattle.access_units.specs.AccessUnits.{AccessUnit}
use Rattle.access_units.specs.Acceptors.{IsSettled}
use Rattle.access_units.specs.Depth.{depth_of}
use Rattle.access_units.specs.Pictures.{ArePictures, IsPicture, IsSameSet, Picture, ordered, ordered_behind, periods}
use Rattle.access_units.specs.Stands.{HasDepth}
use Rattle.access_units.proofs.Onward.{settled_on}
use Rattle.accepted_pictures.specs.Files.{AreAllWhole, Decoded, Fault, HasPictures, IsRead, IsReadTo, IsReadWhole, IsTooLong, pictures_in}
use Rattle.accepted_pictures.specs.Streams.{Stream}
use Rattle.accepted_pictures.proofs.OneReading.{first_pictures, one_reading}
use Rattle.accepted_pictures.proofs.Onward.{refused_on}
use Rattle.output_order.specs.OutputOrder as order
use Rattle.output_order.specs.declared.waiting.Waiting.{Waiting}
use Rattle.output_order.proofs.ComesFirst.{ComeFirst, Follows, came_first, first_more}
use Rattle.stream_calls.specs.OutputPictures.{in_output_order, numbers_in_order, picture_at}
use Rattle.stream_calls.specs.StreamCalls as calls
use Rattle.stream_course.specs.Laws.{DecodedAreFirst, ShownAreFirst, fed_of}
use Rattle.stream_course.specs.Standing.{AreSettled, IsAt, IsKept, IsLeft, IsSilent, Stands, Waits, those_out, shown_before}
use Rattle.stream_course.specs.Way.{HasEnded, IsTrue, Way}
use Rattle.stream_course.specs.declared.course.Course.{Course}
use Rattle.stream_course.specs.declared.course.Ending.{Ending}
use Rattle.stream_course.specs.declared.course.Ending.TheVariants as ending
use Rattle.stream_course.proofs.Joining.{Joins, joins, periods_more}
use Rattle.stream_course.proofs.Numbers.{AreBelow, all_out, are_below, ordered_more, out_front, picture_found, pictures_count, pictures_old}
use Rattle.stream_course.proofs.Showing.{nothing_shown}

-- ---- a file that begins with what was fed

-- An access unit that the bytes settle is settled in the file,
by_end : (text file rest : List ℕ) (ended : Bool) (front : List AccessUnit) (au : AccessUnit) → file ≡ text ++ rest → (ended ≡ true → file ≡ text)
    → IsSettled text ended front au → IsSettled file true front au
by_end text file rest true front au is whole settled = let S : List ℕ → Type 0 = λ t. IsSettled t true front au in subst S (sym (whole refl)) settled
by_end text file rest false front au is whole settled =
    let S : List ℕ → Type 0 = λ t. IsSettled t true front au in subst S (sym is) (settled_on text rest true front au settled)

-- and one that isn't accepted isn't accepted there.
refused_by_end : (text file rest : List ℕ) (ended : Bool) (decoded : List Decoded) (fault : Fault) → file ≡ text ++ rest → (ended ≡ true → file ≡ text)
    → IsReadTo text ended decoded fault → IsReadTo file true decoded fault
refused_by_end text file rest true decoded fault is whole to = let S : List ℕ → Type 0 = λ t. IsReadTo t true decoded fault in subst S (sym (whole refl)) to
refused_by_end text file rest false decoded fault is whole to =
    let S : List ℕ → Type 0 = λ t. IsReadTo t true decoded fault in subst S (sym is) (refused_on text rest true decoded fault to)

not_too_long : (file : List ℕ) → length file ≤ 1073741824 → IsTooLong file → ⊥
not_too_long file short long = omega (arith, short, long)

first_decoded : (stream : Stream) (file : List ℕ) (accepted : List Decoded) (fault : Option Fault) → AreSettled stream → AreAllWhole stream.decoded
    → calls.MayBeFile (record { bytes = stream.text; ended = stream.ended }) file
    → HasPictures file accepted fault → (later : List Decoded) × (accepted ≡ later ++ stream.decoded)
first_decoded stream file accepted fault (inl none) whole may has = (accepted, sym (append-nil accepted) ∙ ap (λ (l : List Decoded). accepted ++ l) (sym none))
first_decoded stream file accepted fault (inr some) whole may has =
    first_pictures file some.0 some.1 stream.decoded accepted fault (by_end stream.text file may.rest stream.ended some.0 some.1 may.begins may.whole some.2)
    (record { pictures = some.3; whole = whole }) (has.1 (not_too_long file may.short))

pub decoded_are_first : DecodedAreFirst
decoded_are_first course of way file accepted fault at are may has = first_decoded way.fed file accepted fault at.stands.read.settled are.whole may has

-- Where no further picture is decoded they are all.
all_decoded : (stream : Stream) (file : List ℕ) (accepted : List Decoded) (fault : Option Fault) (reason : Ending) → HasEnded reason stream
    → calls.MayBeFile (record { bytes = stream.text; ended = stream.ended }) file
    → HasPictures file accepted fault → accepted ≡ stream.decoded
all_decoded stream file accepted fault ending.Whole is may has =
    let S : List ℕ → Type 0 = λ t. IsReadWhole t stream.decoded in
    let whole : IsReadWhole file stream.decoded = subst S (sym (may.whole is.0)) is.1 in
    (one_reading file accepted stream.decoded fault None has ((λ long. absurd (not_too_long file may.short long)), (λ short. whole))).0
all_decoded stream file accepted fault (ending.Refused offset large) is may has =
    let f : Fault = record { offset = offset; large = large } in
    let to = refused_by_end stream.text file may.rest stream.ended stream.decoded f may.begins may.whole is in
    (one_reading file accepted stream.decoded fault (Some f) has ((λ long. absurd (not_too_long file may.short long)), (λ short. to))).0

-- ---- what came out comes first, whichever pictures follow

-- Each of these is a picture behind those before it.
unfoldable MayFollow : List Decoded → List Decoded → Type 0
MayFollow [] decoded = Unit {0}
MayFollow (one ∷ more) decoded = MayFollow more decoded × ((au : AccessUnit) × IsPicture (pictures_in (more ++ decoded)) au one.picture)

all_follow : (more decoded : List Decoded) (units : List AccessUnit) → ArePictures units (pictures_in (more ++ decoded)) → MayFollow more decoded
unfolding MayFollow ArePictures
all_follow [] decoded units are = tt
all_follow (one ∷ more) decoded [] are = absurd are
all_follow (one ∷ more) decoded (au ∷ units) are = (all_follow more decoded units are.0, (au, are.1))

abbrev IsDepth : ℕ → List Picture → Type 0
IsDepth depth [] = Unit {0}
IsDepth depth (last ∷ before) = depth ≡ depth_of last.sps

-- These have come out, and come first behind these pictures and behind all that follow.
record StayFirst (came : List order.Picture) (pictures : List Picture) : Type 0 where
  depth : ℕ
  deep : IsDepth depth pictures
  first : ComeFirst came (ordered pictures) (periods pictures) depth

same_depth : (depth : ℕ) (pictures : List Picture) (one : Picture) → IsDepth depth pictures → IsSameSet pictures one.sps → depth_of one.sps ≡ depth
same_depth depth [] one deep same = absurd same
same_depth depth (last ∷ before) one deep same = ap depth_of (sym same) ∙ sym deep

follows_by : (begins : Bool) (count depth deep : ℕ) (one : order.Picture) → one.period ≡ (if begins then count + 1 else count)
    → (begins ≡ false → deep ≡ depth) → Follows count depth one deep
follows_by true count depth deep one period same = inr (omega (arith, period))
follows_by false count depth deep one period same = inl (period, same refl)

first_next : (came : List order.Picture) (pictures : List Picture) (one : Picture) → StayFirst came pictures → Joins pictures one
    → StayFirst came (one ∷ pictures)
first_next came pictures one stay joins =
    let next = ordered_behind pictures one.begun in
    let deep = depth_of one.sps in
    let follows =
    follows_by one.begun.period (periods pictures) stay.depth deep next refl (λ none. same_depth stay.depth pictures one stay.deep (joins.same_set none)) in
    let behind = first_more came (ordered pictures) (periods pictures) stay.depth deep next stay.first follows joins.in_time in
    let O : List order.Picture → Type 0 = λ xs. ComeFirst came xs (periods (one ∷ pictures)) deep in
    let P : ℕ → Type 0 = λ n. ComeFirst came (ordered pictures ++ next ∷ []) n deep in
    record { depth = deep; deep = refl; first = subst O (sym (ordered_more one pictures)) (subst P (sym (periods_more one pictures)) behind) }

stay_first : (came : List order.Picture) (more decoded : List Decoded) → MayFollow more decoded → StayFirst came (pictures_in decoded)
    → StayFirst came (pictures_in (more ++ decoded))
unfolding MayFollow
stay_first came [] decoded follow stay = stay
stay_first came (one ∷ more) decoded follow stay =
    first_next came (pictures_in (more ++ decoded)) one.picture (stay_first came more decoded follow.0 stay) (joins (pictures_in (more ++ decoded)) follow.1.0 one.picture follow.1.1)

is_depth : (h : order.History) (pictures : List Picture) → HasDepth h pictures → IsDepth h.depth pictures
is_depth h [] deep = tt
is_depth h (last ∷ before) deep = deep

out_first : (w : Waiting) (decoded : List Decoded) (h : order.History) (waits : Waits w decoded h) → h.ended ≡ false
    → StayFirst waits.stands.came (pictures_in decoded)
out_first w decoded h waits going =
    let s = waits.stands in
    let P : List order.Picture → Type 0 = λ xs. ComeFirst s.came xs h.period h.depth in
    let N : ℕ → Type 0 = λ n. ComeFirst s.came (ordered (pictures_in decoded)) n h.depth in
    record { depth = h.depth; deep = is_depth h (pictures_in decoded) waits.depth; first = subst N waits.period (subst P waits.pushed (came_first w h s going)) }

-- The numbers that came out are a front of all numbers in order.
abbrev AreFront : List ℕ → List Decoded → Type 0
AreFront out accepted = (rest : List ℕ) × (numbers_in_order accepted ≡ out ++ rest)

read_pictures : (file : List ℕ) (accepted : List Decoded) (fault : Option Fault) → IsRead file accepted fault
    → (units : List AccessUnit) × ArePictures units (pictures_in accepted)
read_pictures file accepted None whole = (whole.front, whole.accepted.pictures)
read_pictures file accepted (Some fault) to = (to.front, to.accepted.pictures)

front_going : (w : Waiting) (decoded later : List Decoded) (h : order.History) (units : List AccessUnit) → Waits w decoded h → h.ended ≡ false
    → ArePictures units (pictures_in (later ++ decoded)) → AreFront h.out (later ++ decoded)
front_going w decoded later h units waits going are =
    let s = waits.stands in
    let number : order.Picture → ℕ = λ one. one.number in
    let stay = stay_first s.came later decoded (all_follow later decoded units are) (out_first w decoded h waits going) in
    let rest : List ℕ = map number stay.first.rest in
    (rest, ap (map number) stay.first.ordered ∙ map-append number s.came stay.first.rest ∙ ap (λ (ns : List ℕ). ns ++ rest) (sym s.out))

front_ended : (w : Waiting) (decoded : List Decoded) (h : order.History) → Waits w decoded h → AreFront h.out decoded
front_ended w decoded h waits =
    let number : order.Picture → ℕ = λ one. one.number in
    (map number (waits.stands.before ++ waits.stands.now), ap (λ (l : List order.Picture). map number (order.in_order l)) (sym waits.pushed) ∙ out_front w h waits.stands)

-- ---- what is known of a file

-- What was decoded is first, what came out is first in order, and behind the end that is all.
record IsOfFile (course : Course) (way : Way) (h : order.History) (accepted : List Decoded) : Type 0 where
  later : List Decoded
  first : accepted ≡ later ++ way.fed.decoded
  front : AreFront h.out accepted
  all : h.ended ≡ true → accepted ≡ way.fed.decoded

left_of : (course : Course) (way : Way) (reason : Ending) (given : Option Picture)
    → IsAt course.acceptor course.unsettled (Some reason) way.fed given way.failed → IsLeft course.acceptor reason way.fed way.failed
left_of course way reason None at = at
left_of course way reason (Some picture) at = absurd at

of_file : (course : Course) (of : calls.Stream) (way : Way) (h : order.History) (file : List ℕ) (accepted : List Decoded) (fault : Option Fault)
    → Stands course of way h [] → IsTrue way
    → calls.MayBeFile (fed_of way) file → HasPictures file accepted fault → IsOfFile course way h accepted
of_file course of way h file accepted fault s are may has = by_ending course.ending refl where
  first : (later : List Decoded) × (accepted ≡ later ++ way.fed.decoded)
  first = first_decoded way.fed file accepted fault s.read.settled are.whole may has

  by_ending : (e : Option Ending) → course.ending ≡ e → IsOfFile course way h accepted
  by_ending None is =
      let F : List Decoded → Type 0 = λ l. AreFront h.out l in
      let going : h.ended ≡ false = s.ended ∙ ap is_some is in
      let units = read_pictures file accepted fault (has.1 (not_too_long file may.short)) in
      let P : List Decoded → Type 0 = λ l. ArePictures units.0 (pictures_in l) in
      record {
        later = first.0;
        first = first.1;
        front = subst F (sym first.1) (front_going course.waiting way.fed.decoded first.0 h units.0 s.waits going (subst P first.1 units.1));
        all = λ ended. absurd (let k : true ≡ false = sym ended ∙ going in cc);
      }
  by_ending (Some reason) is =
      let F : List Decoded → Type 0 = λ l. AreFront h.out l in
      let A : Option Ending → Type 0 = λ e. IsAt course.acceptor course.unsettled e way.fed way.given way.failed in
      let left = left_of course way reason way.given (subst A is s.at) in
      let all = all_decoded way.fed file accepted fault reason (left.has_ended are) may has in
      record {
        later = first.0;
        first = first.1;
        front = subst F (sym all) (front_ended course.waiting way.fed.decoded h s.waits);
        all = λ ended. all;
      }

-- ---- what is shown

old_pictures : (later decoded : List Decoded) (out : List ℕ) → AreBelow (length decoded) out
    → flat_map (picture_at (later ++ decoded)) out ≡ flat_map (picture_at decoded) out
old_pictures [] decoded out below = refl
old_pictures (one ∷ later) decoded out below =
    pictures_old one (later ++ decoded) out (wider out below) ∙ old_pictures later decoded out below
  where
    wider : (xs : List ℕ) → AreBelow (length decoded) xs → AreBelow (length (later ++ decoded)) xs
    wider [] all = tt
    wider (x ∷ xs) all = (let here = all.0 in let long = length-append later decoded in omega (arith, here, long), wider xs all.1)

abbrev Late : ℕ → List (ShownPicture samples.Picture) → Type 0
Late time shown = AllByRecursion (λ (one : ShownPicture samples.Picture). time ≤ one.time) shown

any_time : (shown : List (ShownPicture samples.Picture)) → Late 0 shown
any_time [] = tt
any_time (one ∷ shown) = (omega arith, any_time shown)

abbrev IsFirstShown : calls.Stream → Way → List Decoded → Type 0
IsFirstShown of way accepted = (later : List (ShownPicture samples.Picture)) × (calls.shown_of of accepted ≡ way.shown ++ later) × Late way.promised later

module _ (course : Course) (of : calls.Stream) (way : Way) (h : order.History) (accepted : List Decoded) (s : Stands course of way h []) (is : IsOfFile course way h accepted) where
  told_pictures : AreBelow (length way.fed.decoded) way.told → flat_map (picture_at accepted) way.told ≡ flat_map (picture_at way.fed.decoded) way.told
  told_pictures below = ap (λ (l : List Decoded). flat_map (picture_at l) way.told) is.first ∙ old_pictures is.later way.fed.decoded way.told below

  -- one is kept
  shown_kept : (last : ℕ) → course.last ≡ Some last → IsFirstShown of way accepted
  shown_kept last kept =
      let out : h.out ≡ way.told ++ last ∷ [] = s.out ∙ append-nil (those_out way course.last) ∙ ap (those_out way) kept in
      let below_all = are_below course.waiting way.fed.decoded h (way.told ++ last ∷ []) [] s.waits (out ∙ sym (append-nil (way.told ++ last ∷ []))) in
      let below = are_below course.waiting way.fed.decoded h way.told (last ∷ []) s.waits out in
      let less : last < length way.fed.decoded = last_below way.told below_all in
      let long : length accepted ≡ length is.later + length way.fed.decoded = ap length is.first ∙ length-append is.later way.fed.decoded in
      let found = picture_found accepted last (omega (arith, less, long)) in
      let pictures = flat_map (picture_at way.fed.decoded) way.told in
      let more = flat_map (picture_at accepted) is.front.0 in
      let all : in_output_order accepted ≡ pictures ++ found.0 ∷ more =
      ap (flat_map (picture_at accepted)) (is.front.1 ∙ ap (λ (l : List ℕ). l ++ is.front.0) out ∙ shifted way.told last is.front.0)
      ∙ flat_map-append (picture_at accepted) way.told (last ∷ is.front.0)
      ∙ ap (λ (l : List samples.Picture). l ++ (picture_at accepted last ++ more)) (told_pictures below)
      ∙ ap (λ (l : List samples.Picture). pictures ++ (l ++ more)) found.1 in
      let count : 0 + length pictures ≡ length way.told = (let c = pictures_count way.fed.decoded way.told below in omega (arith, c)) in
      let K : Option ℕ → Type 0 = λ l. IsKept of l (length way.told) way.promised in
      let late = (subst K kept s.kept) (found.0 ∷ more) in (
        shown_from of.script of.number of.period (length way.told) (found.0 ∷ more),
        ap (λ (l : List samples.Picture). shown_from of.script of.number of.period 0 l) all ∙ fronts_from of.script of.number of.period 0 pictures found.0 more
            ∙ ap (λ n. shown_before of (Some last) pictures ++ shown_from of.script of.number of.period n (found.0 ∷ more)) count
            ∙ ap (λ (l : List (ShownPicture samples.Picture)). l ++ shown_from of.script of.number of.period (length way.told) (found.0 ∷ more))
            (sym (s.shown ∙ ap (λ (l : Option ℕ). shown_before of l pictures) kept)),
        late,
      )
    where
      last_below : (xs : List ℕ) → AreBelow (length way.fed.decoded) (xs ++ last ∷ []) → last < length way.fed.decoded
      last_below [] all = all.0
      last_below (x ∷ xs) all = last_below xs all.1

      shifted : (xs : List ℕ) (x : ℕ) (ys : List ℕ) → (xs ++ x ∷ []) ++ ys ≡ xs ++ x ∷ ys
      shifted [] x ys = refl
      shifted (y ∷ xs) x ys = ap (λ (l : List ℕ). y ∷ l) (shifted xs x ys)

  -- none is
  shown_silent : course.last ≡ None → IsSilent way h [] → IsFirstShown of way accepted
  shown_silent none (inl first) =
      let shown : way.shown ≡ [] =
      s.shown ∙ ap (λ (l : Option ℕ). shown_before of l (flat_map (picture_at way.fed.decoded) way.told)) none
      ∙ ap (λ (l : List ℕ). shown_before of None (flat_map (picture_at way.fed.decoded) l)) first.0 ∙ nothing_shown of.script of.number of.period in (
        calls.shown_of of accepted,
        ap (λ (l : List (ShownPicture samples.Picture)). l ++ calls.shown_of of accepted) (sym shown),
        subst (λ n. Late n (calls.shown_of of accepted)) (sym first.1) (any_time (calls.shown_of of accepted)),
      )
  shown_silent none (inr done) =
      let out : h.out ≡ way.told = s.out ∙ append-nil (those_out way course.last) ∙ ap (those_out way) none ∙ append-nil way.told in
      let all = (all_out course.waiting way.fed.decoded h s.waits done.0 done.1).0 in
      let shown : way.shown ≡ calls.shown_of of way.fed.decoded =
      s.shown ∙ ap (λ (l : Option ℕ). shown_before of l (flat_map (picture_at way.fed.decoded) way.told)) none
      ∙ ap (λ (l : List ℕ). shown_before of None (flat_map (picture_at way.fed.decoded) l)) (sym out ∙ all) in
      ([], ap (calls.shown_of of) (is.all done.0) ∙ sym shown ∙ sym (append-nil way.shown), tt)

  shown_first : IsFirstShown of way accepted
  shown_first = by_last course.last refl where
    by_last : (l : Option ℕ) → course.last ≡ l → IsFirstShown of way accepted
    by_last None none = shown_silent none (s.silent none)
    by_last (Some last) kept = shown_kept last kept

pub shown_are_first : ShownAreFirst
shown_are_first course of way file accepted fault at are may has =
    shown_first course of way at.history accepted at.stands (of_file course of way at.history file accepted fault at.stands are may has)
