-- What came out of pictures comes out first of all that follow.
use Rattle.std.proofs.Common.{◌≡◌, inl, inr, ℕ, suc, ◌+◌, ◌<◌, ◌≤◌, ◌==◌, Bool, true, false, ◌||◌, if◌then◌else◌, List, [], ◌∷◌, ◌++◌, length, map, Option, Some, None, refl, ap, sym, ◌∙◌, subst, arith}
use Rattle.std.specs.Prelude.{flat_map}
use Rattle.std.specs.List.{AllByRecursion, list_any}
use Rattle.std.proofs.lemmas.Bool.{cases_lt}
use Rattle.std.proofs.lemmas.Bool.Decides.{nat_tests}
use Rattle.std.proofs.lemmas.Grind.{flat_map-append}
use Rattle.std.proofs.lemmas.List.{append-nil, append_assoc, length-append, map-append}
use Rattle.std.proofs.lemmas.List.Concat.{flat_map-cons}
use Rattle.output_order.specs.OutputOrder as order
use Rattle.output_order.specs.OutputOrder.{History, ending, in_order, is_late, is_settled, popping, put_all_in_order, put_in_order}
use Rattle.output_order.specs.Waiting.{StandsFor}
use Rattle.output_order.specs.declared.waiting.Waiting.{Waiting}
use Rattle.output_order.proofs.ComesFirst.{ComeFirst, Follows, came_first, first_more}
use Rattle.output_order.proofs.OrderLemmas.{all_append, all_put, all_weaker}
use Rattle.output_order.proofs.WaitingLemmas.{waiting_is}
use Rattle.access_units.specs.AccessUnits.{AccessUnit}
use Rattle.access_units.specs.Depth.{depth_of}
use Rattle.access_units.specs.Pictures.{ArePictures, IsPicture, IsSameSet, Picture, ordered, ordered_behind, periods}
use Rattle.access_units.specs.Stands.{HasDepth}
use Rattle.access_units.proofs.PictureLemmas.{begun_idr}
use Rattle.vd_plane.specs.declared.picture.Picture as samples
use Rattle.accepted_pictures.specs.Files.{Decoded, Fault, IsRead, pictures_in}
use Rattle.driver_model.specs.ShownPictures.{ShownPicture, shown_at, shown_from, shown_pictures}
use Rattle.player_laws.specs.Shown.{settled_at, settled_from}
use Rattle.player_laws.proofs.Shown.{fronts_are_settled}
use Rattle.stream_calls.specs.ComesOut.{AcceptedPicturesArePushed, AllComeOut, AreAccepted, ArePushed, FirstPicturesAreSettled, LastPictureIsShown, PicturesAreAccepted, PicturesComeOut, PicturesKeepTheirNumbers, PushedStayPushed, PushesLeaveTheOut, SettledPicturesGrow, WhatCameOutIsFirst, WhatCameOutIsFirstOfThese, WhatCameOutIsSettled, pictures_of, tick_of_number}
use Rattle.stream_calls.specs.StreamCalls.{Stream}
use Rattle.stream_calls.specs.OutputPictures.{in_output_order, numbers_in_order, picture_at}

-- ---- what the next picture joins

periods_more : (one : Picture) (before : List Picture) → periods (one ∷ before) ≡ (if one.begun.period then periods before + 1 else periods before)
unfolding periods
periods_more one before = refl

ordered_more : (one : Picture) (before : List Picture) → ordered (one ∷ before) ≡ ordered before ++ ordered_behind before one.begun ∷ []
unfolding ordered
ordered_more one before = refl

no_ordered : ordered [] ≡ []
unfolding ordered
no_ordered = refl

length_pictures : (decoded : List Decoded) → length (pictures_in decoded) ≡ length decoded
length_pictures [] = refl
length_pictures (one ∷ before) = let more = length_pictures before in omega (arith, more)

record Joins (before : List Picture) (one : Picture) : Type 0 where
  same_set : one.begun.period ≡ false → IsSameSet before one.sps
  in_time : is_late (depth_of one.sps) (ordered before) (ordered_behind before one.begun) ≡ false

joins : (before : List Picture) (au : AccessUnit) (one : Picture) → IsPicture before au one → Joins before one
joins before au one p =
    let sps_is : one.sps ≡ p.named.sps = ap (λ (q : Picture). q.sps) p.is in
    let period_is : one.begun.period ≡ p.begun.period = ap (λ (q : Picture). q.begun.period) p.is in
    let late : Picture → Bool = λ q. is_late (depth_of q.sps) (ordered before) (ordered_behind before q.begun) in
    record {
      same_set = λ none. subst (λ sps. IsSameSet before sps) (sym sps_is)
          (p.begins.same_set (begun_idr p.begins.marker p.named.sps p.named.pps p.named.header p.begun p.begins.begins (sym period_is ∙ none)));
      in_time = ap late p.is ∙ p.begins.in_time;
    }

-- ---- pushes

same_depth_as : (h : History) (before : List Picture) (one : Picture) → HasDepth h before → IsSameSet before one.sps → depth_of one.sps ≡ h.depth
same_depth_as h [] one deep same = absurd same
same_depth_as h (last ∷ before) one deep same = ap depth_of (sym same) ∙ sym deep

pub accepted_pictures_are_pushed : AcceptedPicturesArePushed
accepted_pictures_are_pushed decoded one au h p is =
    let before = pictures_in decoded in
    let next = ordered_behind before one.picture.begun in
    let j = joins before au one.picture is in
    let number : length before ≡ length decoded = length_pictures decoded in
    let period : h.period ≡ periods before = p.period in
    record {
      arrives = cc;
      in_time = ap (λ (xs : List order.Picture). is_late (depth_of one.picture.sps) xs next) p.pushed ∙ j.in_time;
      same_depth = λ none some. same_depth_as h before one.picture p.depth (j.same_set none);
      pushed = record {
        pushed = ap (λ (xs : List order.Picture). xs ++ next ∷ []) p.pushed ∙ sym (ordered_more one.picture before);
        period = sym (periods_more one.picture before);
        depth = refl;
      };
    }

depth_stays : (h g : History) (pictures : List Picture) → g.depth ≡ h.depth → HasDepth h pictures → HasDepth g pictures
depth_stays h g [] same deep = tt
depth_stays h g (last ∷ before) same deep = same ∙ deep

popping_stays : (decoded : List Decoded) (h : History) (number : Option ℕ) → ArePushed decoded h → ArePushed decoded (popping h number)
popping_stays decoded h None p = p
popping_stays decoded h (Some number) p =
    record { pushed = p.pushed; period = p.period; depth = depth_stays h (popping h (Some number)) (pictures_in decoded) refl p.depth }

pub pushed_stay_pushed : PushedStayPushed
pushed_stay_pushed decoded h number p =
    (popping_stays decoded h number p, record { pushed = p.pushed; period = p.period; depth = depth_stays h (ending h) (pictures_in decoded) refl p.depth })

-- ---- numbers

abbrev Below : ℕ → order.Picture → Type 0
Below n one = one.number < n

ordered_below : (pictures : List Picture) → AllByRecursion (Below (length pictures)) (ordered pictures)
ordered_below [] = subst (AllByRecursion (Below 0)) (sym no_ordered) tt
ordered_below (one ∷ before) =
    let n = length before in
    let old = all_weaker (Below n) (Below (suc n)) (λ x less. omega arith) (ordered before) (ordered_below before) in
    let new : AllByRecursion (Below (suc n)) (ordered_behind before one.begun ∷ []) = (omega arith, tt) in
    let each = all_append (Below (suc n)) (ordered before) (ordered_behind before one.begun ∷ []) old new in
    subst (AllByRecursion (Below (suc n))) (sym (ordered_more one before)) each

all_put_all : (P : order.Picture → Type 0) (xs sorted : List order.Picture) → AllByRecursion P sorted → AllByRecursion P xs
    → AllByRecursion P (put_all_in_order sorted xs)
unfolding put_all_in_order
all_put_all P [] sorted f g = f
all_put_all P (x ∷ xs) sorted f g = all_put_all P xs (put_in_order x sorted) (all_put P x sorted g.0 f) g.1

all_front : (P : order.Picture → Type 0) (xs ys : List order.Picture) → AllByRecursion P (xs ++ ys) → AllByRecursion P xs
all_front P [] ys f = tt
all_front P (x ∷ xs) ys f = (f.0, all_front P xs ys f.1)

abbrev AllBelow : ℕ → List ℕ → Type 0
AllBelow n numbers = AllByRecursion (λ (m : ℕ). m < n) numbers

all_numbers : (n : ℕ) (xs : List order.Picture) → AllByRecursion (Below n) xs → AllBelow n (map (λ (one : order.Picture). one.number) xs)
all_numbers n [] f = tt
all_numbers n (x ∷ xs) f = (f.0, all_numbers n xs f.1)

out_below : (w : Waiting) (h : History) (decoded : List Decoded) → StandsFor w h → ArePushed decoded h → AllBelow (length decoded) h.out
out_below w h decoded s p =
    let n = length (pictures_in decoded) in
    let each : AllByRecursion (Below n) (in_order (ordered (pictures_in decoded))) =
    all_put_all (Below n) (ordered (pictures_in decoded)) [] tt (ordered_below (pictures_in decoded)) in
    let parts : in_order (ordered (pictures_in decoded)) ≡ s.came ++ (s.before ++ s.now) = ap in_order (sym p.pushed) ∙ s.ordered in
    let came = all_front (Below n) s.came (s.before ++ s.now) (subst (AllByRecursion (Below n)) parts each) in
    let out : AllBelow n h.out = subst (λ l. AllBelow n l) (sym s.out) (all_numbers n s.came came) in
    subst (λ m. AllBelow m h.out) (length_pictures decoded) out

picture_new : (one : Decoded) (before : List Decoded) → picture_at (one ∷ before) (length before) ≡ one.samples ∷ []
unfolding picture_at
picture_new one before = let same : (length before == length before) ≡ true = grind (arith, nat_tests) in rw same refl

picture_old : (one : Decoded) (before : List Decoded) (n : ℕ) → n < length before → picture_at (one ∷ before) n ≡ picture_at before n
unfolding picture_at
picture_old one before n less = let apart : (n == length before) ≡ false = grind (arith, nat_tests) in rw apart refl

one_there : (decoded : List Decoded) (n : ℕ) → n < length decoded → (one : samples.Picture) × (picture_at decoded n ≡ one ∷ [])
unfolding picture_at
one_there [] n less = absurd (omega arith)
one_there (last ∷ before) n less = by_test (n == length before) refl (λ k. one_there before n k) where
  by_test : (b : Bool) → (n == length before) ≡ b → (n < length before → (one : samples.Picture) × (picture_at before n ≡ one ∷ []))
      → (one : samples.Picture) × ((if b then last.samples ∷ [] else picture_at before n) ≡ one ∷ [])
  by_test true e more = (last.samples, refl)
  by_test false e more = more (grind (arith, nat_tests))

pub pictures_keep_their_numbers : PicturesKeepTheirNumbers
pictures_keep_their_numbers decoded one = (picture_new one decoded, λ n less. picture_old one decoded n less)

out_old : (one : Decoded) (before : List Decoded) (out : List ℕ) → AllBelow (length before) out → pictures_of (one ∷ before) out ≡ pictures_of before out
out_old one before [] below = refl
out_old one before (n ∷ out) below =
    let here = picture_old one before n below.0 in
    let more = out_old one before out below.1 in
    flat_map-cons (picture_at (one ∷ before)) n out ∙ (ap (λ l. l ++ pictures_of (one ∷ before) out) here
    ∙ (ap (λ l. picture_at before n ++ l) more ∙ sym (flat_map-cons (picture_at before) n out)))

wider : (n m : ℕ) (out : List ℕ) → n ≤ m → AllBelow n out → AllBelow m out
wider n m [] le below = tt
wider n m (k ∷ out) le below = let first = below.0 in (omega (arith, first), wider n m out le below.1)

old_pictures : (later decoded : List Decoded) (out : List ℕ) → AllBelow (length decoded) out → pictures_of (later ++ decoded) out ≡ pictures_of decoded out
old_pictures [] decoded out below = refl
old_pictures (one ∷ later) decoded out below =
    let long = length-append later decoded in
    let wide = wider (length decoded) (length (later ++ decoded)) out (omega (arith, long)) below in
    out_old one (later ++ decoded) out wide ∙ old_pictures later decoded out below

pub pushes_leave_the_out : PushesLeaveTheOut
pushes_leave_the_out w h decoded one s p = out_old one decoded h.out (out_below w h decoded s p)

below_last : (n m : ℕ) (out : List ℕ) → AllBelow n (out ++ m ∷ []) → m < n
below_last n m [] below = below.0
below_last n m (k ∷ out) below = below_last n m out below.1

pub pictures_come_out : PicturesComeOut
pictures_come_out w h decoded number s p =
    let less : number < length decoded =
    below_last (length decoded) number h.out (out_below w (popping h (Some number)) decoded s (popping_stays decoded h (Some number) p)) in
    let one = one_there decoded number less in
    let last : pictures_of decoded (number ∷ []) ≡ one.0 ∷ [] =
    flat_map-cons (picture_at decoded) number [] ∙ (append-nil (picture_at decoded number) ∙ one.1) in
    record {
      below = less;
      one = one.0;
      there = one.1;
      behind = flat_map-append (picture_at decoded) h.out (number ∷ []) ∙ ap (λ l. pictures_of decoded h.out ++ l) last;
    }

-- ---- what came out stays first

abbrev IsDepth : ℕ → List Picture → Type 0
IsDepth depth [] = Unit {0}
IsDepth depth (last ∷ before) = depth ≡ depth_of last.sps

-- These have come out, and come first behind these pictures and behind all that follow.
record StayFirst (came : List order.Picture) (pictures : List Picture) : Type 0 where
  depth : ℕ
  deep : IsDepth depth pictures
  first : ComeFirst came (ordered pictures) (periods pictures) depth

same_depth : (depth : ℕ) (pictures : List Picture) (one : Picture) → IsDepth depth pictures → IsSameSet pictures one.sps → depth_of one.sps ≡ depth
same_depth depth [] one deep same = absurd same
same_depth depth (last ∷ before) one deep same = ap depth_of (sym same) ∙ sym deep

follows_by : (begins : Bool) (count depth deep : ℕ) (one : order.Picture) → one.period ≡ (if begins then count + 1 else count)
    → (begins ≡ false → deep ≡ depth) → Follows count depth one deep
follows_by true count depth deep one period same = inr (omega (arith, period))
follows_by false count depth deep one period same = inl (period, same refl)

first_next : (came : List order.Picture) (pictures : List Picture) (one : Picture) → StayFirst came pictures → Joins pictures one
    → StayFirst came (one ∷ pictures)
first_next came pictures one stay j =
    let next = ordered_behind pictures one.begun in
    let deep = depth_of one.sps in
    let follows =
    follows_by one.begun.period (periods pictures) stay.depth deep next refl (λ none. same_depth stay.depth pictures one stay.deep (j.same_set none)) in
    let behind = first_more came (ordered pictures) (periods pictures) stay.depth deep next stay.first follows j.in_time in
    let O : List order.Picture → Type 0 = λ xs. ComeFirst came xs (periods (one ∷ pictures)) deep in
    let P : ℕ → Type 0 = λ n. ComeFirst came (ordered pictures ++ next ∷ []) n deep in
    record { depth = deep; deep = refl; first = subst O (sym (ordered_more one pictures)) (subst P (sym (periods_more one pictures)) behind) }

stay_first : (came : List order.Picture) (later decoded : List Decoded) (units : List AccessUnit) → ArePictures units (pictures_in (later ++ decoded))
    → StayFirst came (pictures_in decoded) → StayFirst came (pictures_in (later ++ decoded))
unfolding ArePictures
stay_first came [] decoded units are stay = stay
stay_first came (one ∷ later) decoded [] are stay = absurd are
stay_first came (one ∷ later) decoded (au ∷ units) are stay =
    let before = pictures_in (later ++ decoded) in
    first_next came before one.picture (stay_first came later decoded units are.0 stay) (joins before au one.picture are.1)

is_depth : (h : History) (pictures : List Picture) → HasDepth h pictures → IsDepth h.depth pictures
is_depth h [] deep = tt
is_depth h (last ∷ before) deep = deep

out_first : (w : Waiting) (h : History) (decoded : List Decoded) (s : StandsFor w h) → ArePushed decoded h → h.ended ≡ false
    → StayFirst s.came (pictures_in decoded)
out_first w h decoded s p open_ended =
    let P : List order.Picture → Type 0 = λ xs. ComeFirst s.came xs h.period h.depth in
    let N : ℕ → Type 0 = λ n. ComeFirst s.came (ordered (pictures_in decoded)) n h.depth in
    record { depth = h.depth; deep = is_depth h (pictures_in decoded) p.depth; first = subst N p.period (subst P p.pushed (came_first w h s open_ended)) }

-- where these numbers come first
begin_so : (all : List Decoded) (came rest : List order.Picture) (out : List ℕ) → in_order (ordered (pictures_in all)) ≡ came ++ rest
    → out ≡ map (λ (one : order.Picture). one.number) came
    → (more : List samples.Picture) × (in_output_order all ≡ pictures_of all out ++ more)
begin_so all came rest out parts is =
    let number : order.Picture → ℕ = λ one. one.number in
    let more : List ℕ = map number rest in
    let numbers : numbers_in_order all ≡ out ++ more = ap (map number) parts ∙ (map-append number came rest ∙ ap (λ (ns : List ℕ). ns ++ more) (sym is)) in
    (pictures_of all more, ap (flat_map (picture_at all)) numbers ∙ flat_map-append (picture_at all) out more)

pub what_came_out_is_first : WhatCameOutIsFirst
what_came_out_is_first w h later decoded s p open_ended accepted =
    let all = later ++ decoded in
    let stay = stay_first s.came later decoded accepted.0 accepted.1 (out_first w h decoded s p open_ended) in
    let front = begin_so all s.came stay.first.rest h.out stay.first.ordered s.out in
    (front.0, front.1 ∙ ap (λ l. l ++ front.0) (old_pictures later decoded h.out (out_below w h decoded s p)))

pub what_came_out_is_first_of_these : WhatCameOutIsFirstOfThese
what_came_out_is_first_of_these w h decoded s p = begin_so decoded s.came (s.before ++ s.now) h.out (ap in_order (sym p.pushed) ∙ s.ordered) s.out

none_any : (test : order.Picture → Bool) (xs : List order.Picture) → ((x : order.Picture) → test x ≡ true) → list_any test xs ≡ false → xs ≡ []
none_any test [] all none = refl
none_any test (x ∷ xs) all none = let here = all x in let some : (test x || list_any test xs) ≡ true = rw here refl in absurd cc

by_end : (a b c : Bool) → b ≡ true → ((a || b) || c) ≡ true
by_end true b c e = refl
by_end false true c e = refl
by_end false false c e = absurd cc

pub all_come_out : AllComeOut
all_come_out w h decoded s p ended none =
    let number : order.Picture → ℕ = λ one. one.number in
    let empty : order.waiting h ≡ [] = none_any (is_settled h) (order.waiting h) (λ x. by_end _ h.ended _ ended) none in
    let waits : s.before ++ s.now ≡ [] = sym (waiting_is w h s) ∙ empty in
    let all : in_order h.pushed ≡ s.came = s.ordered ∙ (ap (λ (xs : List order.Picture). s.came ++ xs) waits ∙ append-nil s.came) in
    let numbers : numbers_in_order decoded ≡ h.out = ap (λ xs. map number (in_order xs)) (sym p.pushed) ∙ (ap (map number) all ∙ sym s.out) in
    ap (flat_map (picture_at decoded)) numbers

-- ---- what is shown

pub first_pictures_are_settled : FirstPicturesAreSettled
first_pictures_are_settled stream accepted front one rest begins =
    ap (shown_pictures stream.script stream.number stream.period) (begins ∙ append_assoc front (one ∷ []) rest)
    ∙ fronts_are_settled stream.script stream.number stream.period front one rest

pub what_came_out_is_settled : WhatCameOutIsSettled
what_came_out_is_settled stream w h later decoded front one s p open_ended accepted out =
    let first = what_came_out_is_first w h later decoded s p open_ended accepted in
    (first.0, first_pictures_are_settled stream (later ++ decoded) front one first.0 (first.1 ∙ ap (λ l. l ++ first.0) out))

settled_push : (stream : Stream) (number : ℕ) (front : List samples.Picture) (one : samples.Picture)
    → settled_from stream.script stream.number stream.period number (front ++ one ∷ [])
    ≡ settled_from stream.script stream.number stream.period number front
    ++ settled_at stream.script stream.number stream.period (number + length front) (tick_of_number stream (number + length front)) one
unfolding settled_from
settled_push stream number [] one =
    let here : ℕ → List (ShownPicture samples.Picture) = λ n. settled_at stream.script stream.number stream.period n (tick_of_number stream n) one in
    let same : number ≡ number + 0 = omega arith in
    append-nil (here number) ∙ ap here same
settled_push stream number (first ∷ front) one =
    let here : ℕ → List (ShownPicture samples.Picture) = λ n. settled_at stream.script stream.number stream.period n (tick_of_number stream n) one in
    let head = settled_at stream.script stream.number stream.period number (tick_of_number stream number) first in
    let same : (number + 1) + length front ≡ number + length (first ∷ front) = omega arith in
    let rest = settled_push stream (number + 1) front one in
    let behind = settled_from stream.script stream.number stream.period (number + 1) front in
    ap (λ l. head ++ l) (rest ∙ ap (λ n. behind ++ here n) same) ∙ sym (append_assoc head behind (here (number + length (first ∷ front))))

pub settled_pictures_grow : SettledPicturesGrow
settled_pictures_grow stream front one =
    let here : ℕ → List (ShownPicture samples.Picture) = λ n. settled_at stream.script stream.number stream.period n (tick_of_number stream n) one in
    let same : 0 + length front ≡ length front = omega arith in
    settled_push stream 0 front one ∙ ap (λ n. settled_from stream.script stream.number stream.period 0 front ++ here n) same

pub last_picture_is_shown : LastPictureIsShown
unfolding shown_from
last_picture_is_shown stream number one = append-nil (shown_at stream.script stream.number stream.period number (tick_of_number stream number) one [])

-- ---- a file's pictures

none_accepted : AreAccepted []
unfolding ArePictures
none_accepted = ([], tt)

of_reading : (file : List ℕ) (accepted : List Decoded) (fault : Option Fault) → IsRead file accepted fault → AreAccepted accepted
of_reading file accepted None read = (read.front, read.accepted.pictures)
of_reading file accepted (Some fault) read = (read.front, read.accepted.pictures)

pub pictures_are_accepted : PicturesAreAccepted
pictures_are_accepted file accepted fault has = elim (cases_lt 1073741824 (length file)) [
  | inl long ↦ subst AreAccepted (sym (has.0 long).0) none_accepted
  | inr short ↦ of_reading file accepted fault (has.1 (λ long. omega arith))
]
