-- What is held of the pictures that wait.
use Rattle.std.proofs.Common.{◌≡◌, ℕ, suc, ◌+◌, ◌<◌, ◌≤◌, ◌==◌, nat_lt, Bool, true, false, not, ◌||◌, cond, if◌then◌else◌, List, [], ◌∷◌, ◌++◌, length, map, take, drop, get_or, Result, Ok, Err, ℤ, Option, Some, None, refl, sym, ap, subst, ◌∙◌, arith, append-nil}
use Rattle.std.specs.Prelude.{OnOk, is_err, is_ok, flat_map}
use Rattle.std.specs.Arc.{arc_value}
use Rattle.std.specs.Io.KnownBytes.{Appends}
use Rattle.std.specs.List.{All, count_by, list_any, position, position_or_len, remove}
use Rattle.std.proofs.KnownBytes.{Appends-trans}
use Rattle.std.proofs.lemmas.Bool.{eqb-true}
use Rattle.std.proofs.lemmas.Bool.Decides.{nat_tests}
use Rattle.std.proofs.lemmas.Grind.{flat_map-append}
use Rattle.std.proofs.lemmas.List.{map-append}
use Rattle.std.proofs.lemmas.List.Concat.{flat_map-cons}
use Rattle.std.proofs.lemmas.List.Elements.{All-append, All-drop, All-get_or, All-head, All-nil, All-push, All-tail, All-take, All-weaker}
use Rattle.std.proofs.lemmas.List.Quantifiers.{position-Some}
use Rattle.std.proofs.lemmas.List.Sums.{sum_by-cons, sum_by-remove, sum_by_push}
use Rattle.output_order.specs.OutputOrder as order
use Rattle.output_order.specs.Waiting as waiting
use Rattle.output_order.specs.declared.waiting.Late.{Late}
use Rattle.output_order.specs.declared.waiting.Waiting.{Waiting}
use Rattle.output_order.proofs.OrderLemmas.{count_in_order}
use Rattle.output_order.proofs.WaitingLemmas.{waiting_is}
use Rattle.access_units.specs.Depth.{depth_of}
use Rattle.access_units.specs.Pictures.{IsSameSet, Picture, ordered, ordered_behind, periods}
use Rattle.access_units.specs.Stands.{HasDepth}
use Rattle.accepted_pictures.specs.Files.{Decoded, pictures_in}
use Rattle.file_pictures.specs.Streams.{Shows}
use Rattle.file_pictures.specs.declared.stream_decoder.DecodedPicture.{DecodedPicture}
use Rattle.vdplay.specs.Output.{numbers_in_order, planes_at, planes_in_order, planes_of}
use Rattle.vdplay.specs.Reports.{Holds, IsCalm, IsHeld, IsNextOf, IsOut, Stands, count_waiting, has_number, planes_out, pushed_by, with_out}
use Rattle.vdplay.specs.Run.{AppendsFront}
use Rattle.vdplay.specs.declared.plane_writer.Held.{Held}
use Rattle.vdplay.specs.declared.plane_writer.PlaneWriter.{PlaneWriter}
use Rattle.vdplay.proofs.NextLemmas.{joins_decoded, length_pictures, no_periods, periods_more}
use Rattle.vdplay.proofs.Texts.{front_after, front_longer}

-- ---- counts by number

abbrev bit : Bool → ℕ
bit b = cond b 1 0

abbrev number_is : ℕ → order.Picture → Bool
number_is n one = one.number == n

abbrev count_number : ℕ → List ℕ → ℕ
count_number n numbers = count_by (λ (m : ℕ). m == n) numbers

count_map : (n : ℕ) (xs : List order.Picture) → count_by (number_is n) xs ≡ count_number n (map (λ (one : order.Picture). one.number) xs)
count_map n [] = refl
count_map n (x ∷ xs) =
    sum_by-cons (λ (one : order.Picture). bit (number_is n one)) x xs ∙ ap (λ (k : ℕ). bit (x.number == n) + k) (count_map n xs)
    ∙ sym (sum_by-cons (λ (m : ℕ). bit (m == n)) x.number (map (λ (one : order.Picture). one.number) xs))

-- What was pushed has come out or waits.
pub counted : (w : Waiting) (h : order.History) → waiting.StandsFor w h → (n : ℕ) → count_by (number_is n) h.pushed ≡ count_number n h.out + count_waiting h n
counted w h s n =
    let waits = s.before ++ s.now in
    let came : count_by (number_is n) s.came ≡ count_number n h.out = count_map n s.came ∙ ap (count_number n) (sym s.out) in
    let rest : count_by (number_is n) waits ≡ count_waiting h n = ap (count_by (number_is n)) (sym (waiting_is w h s)) in
    let all : count_by (number_is n) h.pushed ≡ count_by (number_is n) s.came + count_by (number_is n) waits = count_in_order (number_is n) h.pushed s.came waits s.ordered in
    omega (arith, came, rest, all)

-- ---- a picture is pushed

pub ok_of : {A E : Type 0} (r : Result A E) (P : Type 0) → is_err r ≡ false → OnOk r P → P
ok_of (Ok value) P e p = p
ok_of (Err fault) P e p = absurd cc

same_depth : (decoded : List Decoded) (one : Decoded) (h : order.History) → h.pushed ≡ ordered (pictures_in decoded) → HasDepth h (pictures_in decoded) → IsSameSet (pictures_in decoded) one.picture.sps
    → depth_of one.picture.sps ≡ h.depth
same_depth [] one h pushed depth same = absurd same
same_depth (last ∷ before) one h pushed depth same = ap depth_of (sym same) ∙ sym depth

may_push_one : (writer : PlaneWriter) (decoded : List Decoded) (one : Decoded) (h : order.History) → IsCalm writer decoded h → IsNextOf decoded one → order.MayPush h one.picture.begun.period (depth_of one.picture.sps)
may_push_one writer decoded one h calm next =
    let joins = joins_decoded decoded one next in
    record {
      nothing_settled = calm.nothing_settled;
      not_ended = calm.stands.not_ended;
      same_depth = λ none some. same_depth decoded one h calm.stands.holds.pushed calm.stands.depth (joins.same_set none);
    }

pub may_push : (writer : PlaneWriter) (decoded : List Decoded) (one : Decoded) (h : order.History) (shown : DecodedPicture) → IsCalm writer decoded h → IsNextOf decoded one → Shows shown one → order.MayPush h shown.period shown.depth
may_push writer decoded one h shown calm next shows =
    let P : Bool → Type 0 = λ b. order.MayPush h b shown.depth in
    let Q : ℕ → Type 0 = λ n. order.MayPush h one.picture.begun.period n in
    subst P (sym shows.period) (subst Q (sym shows.depth) (may_push_one writer decoded one h calm next))

arriving_is : (writer : PlaneWriter) (decoded : List Decoded) (one : Decoded) (h : order.History) (poc : ℤ) (begins : Bool) → IsCalm writer decoded h → poc ≡ one.picture.begun.poc → begins ≡ one.picture.begun.period
    → order.arriving h writer.count poc begins ≡ ordered_behind (pictures_in decoded) one.picture.begun
arriving_is writer decoded one h poc begins calm count begun =
    let number : writer.count ≡ length (pictures_in decoded) = calm.stands.count ∙ sym (length_pictures decoded) in
    let period : h.period ≡ periods (pictures_in decoded) = calm.stands.period in
    cc

-- the waiting list behind a push
pub pushed_waiting : (writer : PlaneWriter) (decoded : List Decoded) (one : Decoded) (h : order.History) (poc : ℤ) (begins : Bool) (depth : ℕ) (r : Result (Unit {0}) Late) (w : Waiting)
    → IsCalm writer decoded h → IsNextOf decoded one → poc ≡ one.picture.begun.poc → begins ≡ one.picture.begun.period → depth ≡ depth_of one.picture.sps
    → ((g : order.History) → waiting.StandsFor writer.waiting g → is_err r ≡ order.is_late depth g.pushed (order.arriving g writer.count poc begins))
    → OnOk r ((g : order.History) → waiting.StandsFor writer.waiting g → waiting.StandsFor w (order.pushing g (order.arriving g writer.count poc begins) depth))
    → waiting.StandsFor w (pushed_by h decoded one)
pushed_waiting writer decoded one h poc begins depth r w calm next count begun deep late stands =
    let is = arriving_is writer decoded one h poc begins calm count begun in
    let joins = joins_decoded decoded one next in
    let in_time : order.is_late depth h.pushed (order.arriving h writer.count poc begins) ≡ false =
    ap (λ (o : order.Picture). order.is_late depth h.pushed o) is
    ∙ ap (λ (n : ℕ). order.is_late n h.pushed (ordered_behind (pictures_in decoded) one.picture.begun)) deep
    ∙ ap (λ (xs : List order.Picture). order.is_late (depth_of one.picture.sps) xs (ordered_behind (pictures_in decoded) one.picture.begun)) calm.stands.holds.pushed
    ∙ joins.in_time in
    let fine : is_err r ≡ false = late h calm.stands.holds.waiting ∙ in_time in
    let go = ok_of r ((g : order.History) → waiting.StandsFor writer.waiting g → waiting.StandsFor w (order.pushing g (order.arriving g writer.count poc begins) depth)) fine stands in
    let P : order.Picture → Type 0 = λ o. waiting.StandsFor w (order.pushing h o depth) in
    let Q : ℕ → Type 0 = λ n. waiting.StandsFor w (order.pushing h (ordered_behind (pictures_in decoded) one.picture.begun) n) in
    subst Q deep (subst P is (go h calm.stands.holds.waiting))

-- ---- the planes of a number

pub planes_new : (one : Decoded) (before : List Decoded) → planes_at (one ∷ before) (length before) ≡ planes_of one.samples
unfolding planes_at
planes_new one before = let same : (length before == length before) ≡ true = grind (arith, nat_tests) in rw same refl

pub planes_old : (one : Decoded) (before : List Decoded) (n : ℕ) → n < length before → planes_at (one ∷ before) n ≡ planes_at before n
unfolding planes_at
planes_old one before n h = let apart : (n == length before) ≡ false = grind (arith, nat_tests) in rw apart refl

pub out_old : (one : Decoded) (before : List Decoded) (out : List ℕ) → All (λ (n : ℕ). n < length before) out → flat_map (planes_at (one ∷ before)) out ≡ flat_map (planes_at before) out
out_old one before [] below = refl
out_old one before (n ∷ out) below =
    let here = planes_old one before n (All-head (λ (m : ℕ). m < length before) n out below) in
    let more = out_old one before out (All-tail (λ (m : ℕ). m < length before) n out below) in
    flat_map-cons (planes_at (one ∷ before)) n out ∙ ap (λ (bytes : List ℕ). bytes ++ flat_map (planes_at (one ∷ before)) out) here
    ∙ ap (λ (bytes : List ℕ). planes_at before n ++ bytes) more ∙ sym (flat_map-cons (planes_at before) n out)

-- Pushing a picture changes nothing of what came out.
pub planes_out_pushed : (writer : PlaneWriter) (decoded : List Decoded) (one : Decoded) (h : order.History) → IsCalm writer decoded h → planes_out (one ∷ decoded) (pushed_by h decoded one) ≡ planes_out decoded h
planes_out_pushed writer decoded one h calm = out_old one decoded h.out calm.stands.holds.out

held_old : (one : Decoded) (decoded : List Decoded) (held : Held) → IsHeld decoded held → IsHeld (one ∷ decoded) held
held_old one decoded held is = let within = is.within in record { within = omega arith; samples = is.samples ∙ sym (planes_old one decoded held.number is.within) }

pub ordered_more : (one : Picture) (before : List Picture) → ordered (one ∷ before) ≡ ordered before ++ ordered_behind before one.begun ∷ []
unfolding ordered
ordered_more one before = refl

-- ---- what stands behind a push

abbrev held_for : PlaneWriter → DecodedPicture → Held
held_for writer shown = record { number = writer.count; samples = shown.samples }

pushed_counts : (writer : PlaneWriter) (decoded : List Decoded) (one : Decoded) (h : order.History) (shown : DecodedPicture) (w : Waiting) → IsCalm writer decoded h → Shows shown one → waiting.StandsFor w (pushed_by h decoded one)
    → (n : ℕ) → count_by (has_number n) (writer.held.items ++ held_for writer shown ∷ []) ≡ count_waiting (pushed_by h decoded one) n
pushed_counts writer decoded one h shown w calm shows stands n =
    let before = counted writer.waiting h calm.stands.holds.waiting n in
    let behind = counted w (pushed_by h decoded one) stands n in
    let o = ordered_behind (pictures_in decoded) one.picture.begun in
    let more : count_by (number_is n) (h.pushed ++ o ∷ []) ≡ count_by (number_is n) h.pushed + bit (length (pictures_in decoded) == n) = sum_by_push (λ (q : order.Picture). bit (number_is n q)) h.pushed o in
    let held : count_by (has_number n) (writer.held.items ++ held_for writer shown ∷ []) ≡ count_by (has_number n) writer.held.items + bit (writer.count == n) = sum_by_push (λ (q : Held). bit (has_number n q)) writer.held.items (held_for writer shown) in
    let same : bit (writer.count == n) ≡ bit (length (pictures_in decoded) == n) = ap (λ (m : ℕ). bit (m == n)) (calm.stands.count ∙ sym (length_pictures decoded)) in
    let was = calm.stands.holds.counts n in
    omega (arith, before, behind, more, held, same, was)

pub stands_pushed : (writer now : PlaneWriter) (decoded : List Decoded) (one : Decoded) (h : order.History) (shown : DecodedPicture) → IsCalm writer decoded h → IsNextOf decoded one → Shows shown one
    → waiting.StandsFor now.waiting (pushed_by h decoded one) → now.held.items ≡ writer.held.items ++ held_for writer shown ∷ [] → now.count ≡ writer.count + 1
    → Stands now (one ∷ decoded) (pushed_by h decoded one)
stands_pushed writer now decoded one h shown calm next shows stands items count =
    let joins = joins_decoded decoded one next in
    let same = length_pictures decoded in
    let few = joins.few in
    let C : List Held → Type 0 = λ held. (n : ℕ) → count_by (has_number n) held ≡ count_waiting (pushed_by h decoded one) n in
    let S : List Held → Type 0 = λ held. All (IsHeld (one ∷ decoded)) held in
    let number : writer.count ≡ length decoded = calm.stands.count in
    let fresh : IsHeld (one ∷ decoded) (held_for writer shown) =
    record {
      within = omega arith;
      samples = ap planes_of shows.samples ∙ sym (planes_new one decoded) ∙ ap (planes_at (one ∷ decoded)) (sym number);
    } in
    record {
      holds = record {
        waiting = stands;
        pushed = ap (λ (xs : List order.Picture). xs ++ ordered_behind (pictures_in decoded) one.picture.begun ∷ []) calm.stands.holds.pushed ∙ sym (ordered_more one.picture (pictures_in decoded));
        out = All-weaker (λ (n : ℕ). n < length decoded) (λ (n : ℕ). n < length (one ∷ decoded)) (λ n less. omega arith) h.out calm.stands.holds.out;
        counts = subst C (sym items) (pushed_counts writer decoded one h shown now.waiting calm shows stands);
        samples = subst S (sym items) (All-push (IsHeld (one ∷ decoded)) writer.held.items (held_for writer shown)
            (All-weaker (IsHeld decoded) (IsHeld (one ∷ decoded)) (held_old one decoded) writer.held.items calm.stands.holds.samples) fresh);
      };
      period = sym (periods_more one.picture (pictures_in decoded));
      depth = refl;
      not_ended = calm.stands.not_ended;
      count = (let n = calm.stands.count in omega (arith, count));
      few = omega arith;
    }

-- What has come out is a front of what was pushed.
pub front_out : (w : Waiting) (h : order.History) → waiting.StandsFor w h → order.IsFront h.out h.pushed
front_out w h s = (
  map (λ (one : order.Picture). one.number) (s.before ++ s.now),
  ap (map (λ (one : order.Picture). one.number)) s.ordered ∙ map-append (λ (one : order.Picture). one.number) s.came (s.before ++ s.now)
      ∙ ap (λ (ns : List ℕ). ns ++ map (λ (one : order.Picture). one.number) (s.before ++ s.now)) (sym s.out),
)

-- ---- a picture comes out

short_by : (b : Bool) (k m len : ℕ) → (1 ≤ k → m < len) → 1 ≤ bit b + k → cond (not b) (1 + m) 0 < suc len
short_by true k m len more some = omega arith
short_by false k m len more some = let h = more (omega arith) in omega (arith, h)

position_short : (n : ℕ) (held : List Held) → 1 ≤ count_by (has_number n) held → position_or_len (has_number n) held < length held
position_short n [] some = absurd (omega arith)
position_short n (x ∷ xs) some =
    let P : ℕ → Type 0 = λ k. 1 ≤ k in
    short_by (has_number n x) (count_by (has_number n) xs) (position_or_len (has_number n) xs) (length xs) (position_short n xs) (subst P (sum_by-cons (λ (q : Held). bit (has_number n q)) x xs) some)

position_none : (n : ℕ) (held : List Held) → 1 ≤ count_by (has_number n) held → position (has_number n) held ≡ None → ⊥
position_none n held some none =
    let short = position_short n held some in
    let found : nat_lt (position_or_len (has_number n) held) (length held) ≡ true = grind (arith, nat_tests) in
    let is : position (has_number n) held ≡ Some (position_or_len (has_number n) held) = rw found refl in
    cc

pub out_counts : (writer : PlaneWriter) (decoded : List Decoded) (h : order.History) (w : Waiting) (number : ℕ) → Holds writer decoded h → waiting.StandsFor w (order.popping h (Some number))
    → (n : ℕ) → count_by (has_number n) writer.held.items ≡ count_waiting (order.popping h (Some number)) n + bit (number == n)
out_counts writer decoded h w number holds stands n =
    let before = counted writer.waiting h holds.waiting n in
    let behind = counted w (order.popping h (Some number)) stands n in
    let more : count_number n (h.out ++ number ∷ []) ≡ count_number n h.out + bit (number == n) = sum_by_push (λ (m : ℕ). bit (m == n)) h.out number in
    let was = holds.counts n in
    omega (arith, before, behind, more, was)

self_bit : (n : ℕ) → bit (n == n) ≡ 1
self_bit n = let same : (n == n) ≡ true = grind (arith, nat_tests) in rw same refl

-- It is held.
pub is_held : (writer : PlaneWriter) (decoded : List Decoded) (h : order.History) (w : Waiting) (number : ℕ) → Holds writer decoded h → waiting.StandsFor w (order.popping h (Some number))
    → position (has_number number) writer.held.items ≡ None → ⊥
is_held writer decoded h w number holds stands none =
    let all = out_counts writer decoded h w number holds stands number in
    let here = self_bit number in
    position_none number writer.held.items (omega (arith, all, here)) none

pub is_out : (writer now : PlaneWriter) (decoded : List Decoded) (h : order.History) (number place : ℕ) (held : Held) → Holds writer decoded h
    → waiting.StandsFor now.waiting (order.popping h (Some number)) → order.IsFront (h.out ++ number ∷ []) h.pushed
    → position (has_number number) writer.held.items ≡ Some place → held ≡ get_or writer.held.items place held → now.held.items ≡ remove writer.held.items place
    → IsOut now decoded h (arc_value held.samples)
is_out writer now decoded h number place held holds stands front found is items =
    let there = position-Some (has_number number) writer.held.items place held found in
    let H : Held → Type 0 = λ one. IsHeld decoded one in
    let own : IsHeld decoded held = subst H (sym is) (All-get_or (IsHeld decoded) writer.held.items place held there.0 holds.samples) in
    let test : (held.number == number) ≡ true = ap (λ (one : Held). one.number == number) is ∙ there.1 in
    let same : held.number ≡ number = eqb-true held.number number test in
    let C : List Held → Type 0 = λ rest. (n : ℕ) → count_by (has_number n) rest ≡ count_waiting (order.popping h (Some number)) n in
    let S : List Held → Type 0 = λ rest. All (IsHeld decoded) rest in
    let less : (n : ℕ) → count_by (has_number n) (remove writer.held.items place) ≡ count_waiting (order.popping h (Some number)) n = λ n. (
    let all = out_counts writer decoded h now.waiting number holds stands n in
    let gone : count_by (has_number n) (remove writer.held.items place) + bit ((get_or writer.held.items place held).number == n) ≡ count_by (has_number n) writer.held.items = sum_by-remove (λ (q : Held). bit (has_number n q)) writer.held.items place held there.0 in
    let one : bit ((get_or writer.held.items place held).number == n) ≡ bit (number == n) = ap (λ (q : Held). bit (q.number == n)) (sym is) ∙ ap (λ (m : ℕ). bit (m == n)) same in
    omega (arith, all, gone, one)) in
    let within : number < length decoded = (let w = own.within in omega (arith, same)) in
    record {
      number = number;
      holds = record {
        waiting = stands;
        pushed = holds.pushed;
        out = All-push (λ (n : ℕ). n < length decoded) h.out number holds.out within;
        counts = subst C (sym items) less;
        samples = subst S (sym items) (All-append (IsHeld decoded) (take place writer.held.items) (drop (suc place) writer.held.items)
            (All-take (IsHeld decoded) place writer.held.items holds.samples) (All-drop (IsHeld decoded) (suc place) writer.held.items holds.samples));
      };
      front = front;
      planes = own.samples ∙ ap (planes_at decoded) same;
    }

-- ---- what is written

pub planes_more : (decoded : List Decoded) (out : List ℕ) (number : ℕ) → flat_map (planes_at decoded) (out ++ number ∷ []) ≡ flat_map (planes_at decoded) out ++ planes_at decoded number
planes_more decoded out number =
    flat_map-append (planes_at decoded) out (number ∷ []) ∙ ap (λ (bytes : List ℕ). flat_map (planes_at decoded) out ++ bytes) (flat_map-cons (planes_at decoded) number [] ∙ append-nil (planes_at decoded number))

-- What came out is a front of the whole.
pub planes_front : (decoded : List Decoded) (out : List ℕ) (front : order.IsFront out (ordered (pictures_in decoded))) → planes_in_order decoded ≡ flat_map (planes_at decoded) out ++ flat_map (planes_at decoded) front.0
planes_front decoded out front = ap (flat_map (planes_at decoded)) front.1 ∙ flat_map-append (planes_at decoded) out front.0

pub front_written : (a b : Option (List ℕ)) (decoded : List Decoded) (out : List ℕ) → order.IsFront out (ordered (pictures_in decoded)) → AppendsFront a b (flat_map (planes_at decoded) out) → AppendsFront a b (planes_in_order decoded)
front_written a b decoded out front written =
    let P : List ℕ → Type 0 = λ bytes. AppendsFront a b bytes in
    subst P (sym (planes_front decoded out front)) (front_longer a b (flat_map (planes_at decoded) out) (flat_map (planes_at decoded) front.0) written)

-- ---- behind the end

none_any : (p : order.Picture → Bool) (xs : List order.Picture) → ((x : order.Picture) → p x ≡ true) → list_any p xs ≡ false → xs ≡ []
none_any p [] all none = refl
none_any p (x ∷ xs) all none = let here = all x in let some : (p x || list_any p xs) ≡ true = rw here refl in absurd cc

by_end : (a b c : Bool) → b ≡ true → ((a || b) || c) ≡ true
by_end true b c e = refl
by_end false true c e = refl
by_end false false c e = absurd cc

-- Where nothing that waits has its turn behind the end, all pictures have come out.
pub all_out : (writer : PlaneWriter) (decoded : List Decoded) (h : order.History) → Holds writer decoded h → h.ended ≡ true → order.has_settled h ≡ false → planes_out decoded h ≡ planes_in_order decoded
all_out writer decoded h holds ended none =
    let s = holds.waiting in
    let empty : order.waiting h ≡ [] = none_any (order.is_settled h) (order.waiting h) (λ x. by_end _ h.ended _ ended) none in
    let waits : s.before ++ s.now ≡ [] = sym (waiting_is writer.waiting h s) ∙ empty in
    let all : order.in_order h.pushed ≡ s.came = s.ordered ∙ ap (λ (xs : List order.Picture). s.came ++ xs) waits ∙ append-nil s.came in
    let numbers : h.out ≡ numbers_in_order decoded = s.out ∙ ap (map (λ (one : order.Picture). one.number)) (sym all) ∙ ap (λ (xs : List order.Picture). map (λ (one : order.Picture). one.number) (order.in_order xs)) holds.pushed in
    ap (flat_map (planes_at decoded)) numbers

-- ---- from sink to sink

pub write_more : (a b c : Option (List ℕ)) (decoded : List Decoded) (out : List ℕ) (number : ℕ) (bytes : List ℕ) → Appends a b (flat_map (planes_at decoded) out) → Appends b c bytes → bytes ≡ planes_at decoded number
    → Appends a c (flat_map (planes_at decoded) (out ++ number ∷ []))
write_more a b c decoded out number bytes first second is =
    let whole : flat_map (planes_at decoded) out ++ bytes ≡ flat_map (planes_at decoded) (out ++ number ∷ []) = ap (λ (xs : List ℕ). flat_map (planes_at decoded) out ++ xs) is ∙ sym (planes_more decoded out number) in
    subst (Appends a c) whole (Appends-trans a b c (flat_map (planes_at decoded) out) bytes first second)

pub write_part : (a b c : Option (List ℕ)) (decoded : List Decoded) (out : List ℕ) (number : ℕ) (bytes : List ℕ) → Appends a b (flat_map (planes_at decoded) out) → AppendsFront b c bytes → bytes ≡ planes_at decoded number
    → AppendsFront a c (flat_map (planes_at decoded) (out ++ number ∷ []))
write_part a b c decoded out number bytes first second is =
    let whole : flat_map (planes_at decoded) out ++ bytes ≡ flat_map (planes_at decoded) (out ++ number ∷ []) = ap (λ (xs : List ℕ). flat_map (planes_at decoded) out ++ xs) is ∙ sym (planes_more decoded out number) in
    subst (AppendsFront a c) whole (front_after a b c (flat_map (planes_at decoded) out) bytes first second)

-- ---- from call to call

pub pushed_items : {A E : Type 0} (r : Result A E) (now more old : List Held) → is_err r ≡ false → now ≡ (if is_ok r then more else old) → now ≡ more
pushed_items (Ok value) now more old fine is = is
pushed_items (Err fault) now more old fine is = absurd cc

no_ordered : ordered [] ≡ []
unfolding ordered
no_ordered = refl

nothing_waits : order.waiting order.nothing_yet ≡ []
unfolding order.put_all_in_order
nothing_waits = refl

pub new_calm : (writer : PlaneWriter) → waiting.StandsFor writer.waiting order.nothing_yet → writer.held.items ≡ [] → writer.count ≡ 0 → IsCalm writer [] order.nothing_yet
new_calm writer stands items count =
    let C : List Held → Type 0 = λ held. (n : ℕ) → count_by (has_number n) held ≡ count_waiting order.nothing_yet n in
    let S : List Held → Type 0 = λ held. All (IsHeld []) held in
    record {
      stands = record {
        holds = record {
          waiting = stands;
          pushed = sym no_ordered;
          out = All-nil (λ (n : ℕ). n < 0);
          counts = subst C (sym items) (λ n. sym (ap (count_by (number_is n)) nothing_waits));
          samples = subst S (sym items) (All-nil (IsHeld []));
        };
        period = sym no_periods;
        depth = tt;
        not_ended = refl;
        count = count;
        few = omega arith;
      };
      nothing_settled = ap (list_any (order.is_settled order.nothing_yet)) nothing_waits;
    }

pub ended_holds : (writer now : PlaneWriter) (decoded : List Decoded) (h : order.History) → Holds writer decoded h → waiting.StandsFor now.waiting (order.ending h) → now.held.items ≡ writer.held.items → Holds now decoded (order.ending h)
ended_holds writer now decoded h holds stands items =
    let C : List Held → Type 0 = λ held. (n : ℕ) → count_by (has_number n) held ≡ count_waiting h n in
    let S : List Held → Type 0 = λ held. All (IsHeld decoded) held in
    record { waiting = stands; pushed = holds.pushed; out = holds.out; counts = subst C (sym items) holds.counts; samples = subst S (sym items) holds.samples }

-- What came out is a front of all.
pub settled_front : (writer : PlaneWriter) (decoded : List Decoded) (h : order.History) (a b : Option (List ℕ)) → Holds writer decoded h → AppendsFront a b (planes_out decoded h) → AppendsFront a b (planes_in_order decoded)
settled_front writer decoded h a b holds written =
    let F : List order.Picture → Type 0 = λ xs. order.IsFront h.out xs in
    front_written a b decoded h.out (subst F holds.pushed (front_out writer.waiting h holds.waiting)) written

pub with_depth : (h : order.History) (out : List ℕ) (pictures : List Picture) → HasDepth h pictures → HasDepth (with_out h out) pictures
with_depth h out [] deep = deep
with_depth h out (last ∷ before) deep = deep

pub calm_behind : (writer now : PlaneWriter) (decoded : List Decoded) (h : order.History) (out : List ℕ) → Stands writer decoded h → Holds now decoded (with_out h out) → order.has_settled (with_out h out) ≡ false → now.count ≡ writer.count
    → IsCalm now decoded (with_out h out)
calm_behind writer now decoded h out stands holds none count = record {
  stands = record { holds = holds; period = stands.period; depth = with_depth h out (pictures_in decoded) stands.depth; not_ended = stands.not_ended; count = count ∙ stands.count; few = stands.few };
  nothing_settled = none;
}
