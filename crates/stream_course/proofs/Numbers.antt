-- The numbers of the pictures that came out.
use Rattle.std.proofs.Common.{◌≡◌, ℕ, suc, ◌+◌, ◌<◌, ◌≤◌, ◌==◌, nat_lt, Bool, true, false, ◌||◌, cond, if◌then◌else◌, List, [], ◌∷◌, ◌++◌, length, map, refl, sym, ap, ◌∙◌, arith, append-nil, append_assoc}
use Rattle.std.specs.Prelude.{flat_map}
use Rattle.std.specs.List.{AllByRecursion, count_by, list_any}
use Rattle.std.proofs.lemmas.Bool.{eqb-true}
use Rattle.std.proofs.lemmas.Bool.Decides.{nat_tests}
use Rattle.std.proofs.lemmas.Grind.{flat_map-append}
use Rattle.std.proofs.lemmas.List.{length-append, length-map, map-append}
use Rattle.std.proofs.lemmas.List.Sums.{sum_by-append, sum_by-cons, sum_by_push}
use Rattle.output_order.specs.OutputOrder as order
use Rattle.output_order.specs.Waiting as waiting
use Rattle.output_order.specs.declared.waiting.Waiting.{Waiting}
use Rattle.output_order.proofs.OrderLemmas.{count_in_order, length_put, or_false}
use Rattle.output_order.proofs.WaitingLemmas.{waiting_is}
use Rattle.access_units.specs.Pictures.{Picture, ordered, ordered_behind}
use Rattle.accepted_pictures.specs.Files.{Decoded, pictures_in}
use Rattle.vd_plane.specs.declared.picture.Picture as samples
use Rattle.stream_calls.specs.OutputPictures.{numbers_in_order, picture_at}
use Rattle.stream_course.specs.Standing.{Waits}
use Rattle.stream_course.specs.Way.{ComesOut, Way}

-- ---- how often a number came

abbrev bit : Bool → ℕ
bit b = cond b 1 0

abbrev number_is : ℕ → order.Picture → Bool
number_is n one = one.number == n

abbrev count_number : ℕ → List ℕ → ℕ
count_number n numbers = count_by (λ (m : ℕ). m == n) numbers

abbrev number_of : order.Picture → ℕ
number_of one = one.number

count_map : (n : ℕ) (xs : List order.Picture) → count_by (number_is n) xs ≡ count_number n (map number_of xs)
count_map n [] = refl
count_map n (x ∷ xs) =
    sum_by-cons (λ (one : order.Picture). bit (number_is n one)) x xs ∙ ap (λ (k : ℕ). bit (x.number == n) + k) (count_map n xs)
    ∙ sym (sum_by-cons (λ (m : ℕ). bit (m == n)) x.number (map number_of xs))

-- What was pushed has come out or waits.
counted : (w : Waiting) (h : order.History) → waiting.StandsFor w h → (n : ℕ) → count_number n h.out ≤ count_by (number_is n) h.pushed
counted w h s n =
    let waits = s.before ++ s.now in
    let came : count_by (number_is n) s.came ≡ count_number n h.out = count_map n s.came ∙ ap (count_number n) (sym s.out) in
    let all : count_by (number_is n) h.pushed ≡ count_by (number_is n) s.came + count_by (number_is n) waits =
    count_in_order (number_is n) h.pushed s.came waits s.ordered in
    omega (arith, came, all)

-- ---- each picture has a number of its own

pub ordered_more : (one : Picture) (before : List Picture) → ordered (one ∷ before) ≡ ordered before ++ ordered_behind before one.begun ∷ []
unfolding ordered
ordered_more one before = refl

pub no_ordered : ordered [] ≡ []
unfolding ordered
no_ordered = refl

below_apart : (n l : ℕ) → (l == n) ≡ false → n < suc l → n < l
below_apart n l e less = grind (arith, nat_tests)

count_step : (n l c : ℕ) (b : Bool) → (l == n) ≡ b → (n < l → c ≡ 1) × (l ≤ n → c ≡ 0) → (n < suc l → c + bit b ≡ 1) × (suc l ≤ n → c + bit b ≡ 0)
count_step n l c true e before =
    let same : l ≡ n = eqb-true l n e in
    let none : c ≡ 0 = before.1 (omega (arith, same)) in
    (λ less. omega (arith, none), λ most. absurd (omega (arith, same, most)))
count_step n l c false e before =
    (λ less. let here = before.0 (below_apart n l e less) in omega (arith, here), λ most. let here = before.1 (omega (arith, most)) in omega (arith, here))

count_ordered : (n : ℕ) (before : List Picture)
    → (n < length before → count_by (number_is n) (ordered before) ≡ 1) × (length before ≤ n → count_by (number_is n) (ordered before) ≡ 0)
count_ordered n [] = (λ less. absurd (omega (arith, less)), λ most. ap (count_by (number_is n)) no_ordered)
count_ordered n (one ∷ before) =
    let o = ordered_behind before one.begun in
    let more : count_by (number_is n) (ordered (one ∷ before)) ≡ count_by (number_is n) (ordered before) + bit (length before == n) =
    ap (count_by (number_is n)) (ordered_more one before) ∙ sum_by_push (λ (q : order.Picture). bit (number_is n q)) (ordered before) o in
    let step = count_step n (length before) (count_by (number_is n) (ordered before)) (length before == n) refl (count_ordered n before) in
    (λ less. more ∙ step.0 less, λ most. more ∙ step.1 most)

count_most : (n l c : ℕ) → (n < l → c ≡ 1) × (l ≤ n → c ≡ 0) → (c ≤ 1) × (1 ≤ c → n < l)
count_most n l c is = by_test (nat_lt n l) refl where
  by_test : (b : Bool) → nat_lt n l ≡ b → (c ≤ 1) × (1 ≤ c → n < l)
  by_test true e = let less : n < l = grind (arith, nat_tests) in let one = is.0 less in (omega (arith, one), λ some. less)
  by_test false e = let most : l ≤ n = grind (arith, nat_tests) in let none = is.1 most in (omega (arith, none), λ some. absurd (omega (arith, none, some)))

pub length_pictures : (decoded : List Decoded) → length (pictures_in decoded) ≡ length decoded
length_pictures [] = refl
length_pictures (one ∷ before) = let more = length_pictures before in omega (arith, more)

-- A number that came out is that of a picture, and came out once.
count_out : (w : Waiting) (decoded : List Decoded) (h : order.History) → Waits w decoded h → (n : ℕ)
    → (count_number n h.out ≤ 1) × (1 ≤ count_number n h.out → n < length decoded)
count_out w decoded h waits n =
    let pictures = pictures_in decoded in
    let some = counted w h waits.stands n in
    let same : count_by (number_is n) h.pushed ≡ count_by (number_is n) (ordered pictures) = ap (count_by (number_is n)) waits.pushed in
    let most = count_most n (length pictures) (count_by (number_is n) (ordered pictures)) (count_ordered n pictures) in
    let few = most.0 in
    let long = length_pictures decoded in (
      omega (arith, some, same, few),
      λ out. let less = most.1 (omega (arith, some, same, out)) in omega (arith, less, long),
    )

none_any : (n : ℕ) (xs : List ℕ) → count_number n xs ≡ 0 → list_any (λ (m : ℕ). m == n) xs ≡ false
none_any n [] none = refl
none_any n (x ∷ xs) none = by_test (x == n) (sym (sum_by-cons (λ (m : ℕ). bit (m == n)) x xs) ∙ none) (none_any n xs) where
  by_test : (b : Bool) → bit b + count_number n xs ≡ 0 → (count_number n xs ≡ 0 → list_any (λ (m : ℕ). m == n) xs ≡ false)
      → (b || list_any (λ (m : ℕ). m == n) xs) ≡ false
  by_test true e rest = absurd (omega (arith, e))
  by_test false e rest = rest (omega (arith, e))

self_bit : (n : ℕ) → bit (n == n) ≡ 1
self_bit n = let same : (n == n) ≡ true = grind (arith, nat_tests) in ap bit same

count_append : (n : ℕ) (xs ys : List ℕ) → count_number n (xs ++ ys) ≡ count_number n xs + count_number n ys
count_append n xs ys = sum_by-append (λ (m : ℕ). bit (m == n)) xs ys

count_at : (n : ℕ) (before behind : List ℕ) → count_number n ((before ++ n ∷ []) ++ behind) ≡ count_number n before + 1 + count_number n behind
count_at n before behind =
    let all = count_append n (before ++ n ∷ []) behind in
    let here : count_number n (before ++ n ∷ []) ≡ count_number n before + bit (n == n) = sum_by_push (λ (m : ℕ). bit (m == n)) before n in
    let own = self_bit n in
    omega (arith, all, here, own)

-- ---- pictures by their numbers

pub picture_found : (decoded : List Decoded) (n : ℕ) → n < length decoded → (picture : samples.Picture) × (picture_at decoded n ≡ picture ∷ [])
unfolding picture_at
picture_found [] n less = absurd (omega (arith, less))
picture_found (one ∷ before) n less = by_test (n == length before) refl (λ k. picture_found before n k) where
  below : (n == length before) ≡ false → n < length before
  below e = grind (arith, nat_tests)

  by_test : (b : Bool) → (n == length before) ≡ b → (n < length before → (picture : samples.Picture) × (picture_at before n ≡ picture ∷ []))
      → (picture : samples.Picture) × ((if b then one.samples ∷ [] else picture_at before n) ≡ picture ∷ [])
  by_test true e rest = (one.samples, refl)
  by_test false e rest = rest (below e)

picture_old : (one : Decoded) (before : List Decoded) (n : ℕ) → n < length before → picture_at (one ∷ before) n ≡ picture_at before n
unfolding picture_at
picture_old one before n h = let apart : (n == length before) ≡ false = grind (arith, nat_tests) in rw apart refl

abbrev pub AreBelow : ℕ → List ℕ → Type 0
AreBelow most numbers = AllByRecursion (λ (n : ℕ). n < most) numbers

pub pictures_old : (one : Decoded) (before : List Decoded) (out : List ℕ) → AreBelow (length before) out
    → flat_map (picture_at (one ∷ before)) out ≡ flat_map (picture_at before) out
pictures_old one before [] below = refl
pictures_old one before (n ∷ out) below =
    let here = picture_old one before n below.0 in
    let more = pictures_old one before out below.1 in
    ap (λ (l : List samples.Picture). l ++ flat_map (picture_at (one ∷ before)) out) here ∙ ap (λ (l : List samples.Picture). picture_at before n ++ l) more

pub pictures_count : (decoded : List Decoded) (out : List ℕ) → AreBelow (length decoded) out → length (flat_map (picture_at decoded) out) ≡ length out
pictures_count decoded [] below = refl
pictures_count decoded (n ∷ out) below =
    let found = picture_found decoded n below.0 in
    let more = pictures_count decoded out below.1 in
    let here : length (picture_at decoded n) ≡ 1 = ap length found.1 in
    let both = length-append (picture_at decoded n) (flat_map (picture_at decoded) out) in
    omega (arith, both, here, more)

pub pictures_more : (decoded : List Decoded) (out : List ℕ) (number : ℕ)
    → flat_map (picture_at decoded) (out ++ number ∷ []) ≡ flat_map (picture_at decoded) out ++ picture_at decoded number
pictures_more decoded out number =
    flat_map-append (picture_at decoded) out (number ∷ [])
    ∙ ap (λ (l : List samples.Picture). flat_map (picture_at decoded) out ++ l) (append-nil (picture_at decoded number))

below_by_count : (most : ℕ) (xs : List ℕ) → ((n : ℕ) → 1 ≤ count_number n xs → n < most) → AreBelow most xs
below_by_count most [] is = tt
below_by_count most (x ∷ xs) is =
    let more : (n : ℕ) → count_number n (x ∷ xs) ≡ bit (x == n) + count_number n xs = λ n. sum_by-cons (λ (m : ℕ). bit (m == n)) x xs in
    let own = self_bit x in
    let first = more x in
    (is x (omega (arith, own, first)), below_by_count most xs (λ n some. let here = more n in is n (omega (arith, here, some))))

-- Those that came out are numbers of pictures.
pub are_below : (w : Waiting) (decoded : List Decoded) (h : order.History) (told coming : List ℕ) → Waits w decoded h → h.out ≡ told ++ coming
    → AreBelow (length decoded) told
are_below w decoded h told coming waits out =
    below_by_count (length decoded) told (λ n some.
    let all : count_number n h.out ≡ count_number n told + count_number n coming = ap (count_number n) out ∙ count_append n told coming in
    (count_out w decoded h waits n).1 (omega (arith, all, some)))

-- ---- what came out, in order

pub out_front : (w : Waiting) (h : order.History) (s : waiting.StandsFor w h)
    → map number_of (order.in_order h.pushed) ≡ h.out ++ map number_of (s.before ++ s.now)
out_front w h s =
    ap (map number_of) s.ordered ∙ map-append number_of s.came (s.before ++ s.now) ∙ ap (λ (ns : List ℕ). ns ++ map number_of (s.before ++ s.now)) (sym s.out)

pub comes_out : (w : Waiting) (way : Way) (h : order.History) (number : ℕ) (coming : List ℕ) → Waits w way.fed.decoded h
    → h.out ≡ (way.told ++ number ∷ []) ++ coming
    → (picture : samples.Picture) × ComesOut way number picture
comes_out w way h number coming waits out =
    let decoded = way.fed.decoded in
    let rest = map number_of (waits.stands.before ++ waits.stands.now) in
    let count : count_number number h.out ≡ count_number number way.told + 1 + count_number number coming =
    ap (count_number number) out ∙ count_at number way.told coming in
    let once = count_out w decoded h waits number in
    let few = once.0 in
    let less : number < length decoded = once.1 (omega (arith, count)) in
    let found = picture_found decoded number less in
    let all : map number_of (order.in_order (ordered (pictures_in decoded))) ≡ (way.told ++ number ∷ []) ++ (coming ++ rest) =
    ap (λ (l : List order.Picture). map number_of (order.in_order l)) (sym waits.pushed) ∙ out_front w h waits.stands
    ∙ ap (λ (ns : List ℕ). ns ++ rest) out ∙ append_assoc (way.told ++ number ∷ []) coming rest in (
      found.0,
      record {
        next = (coming ++ rest, all);
        decoded = less;
        once = none_any number way.told (omega (arith, count, few));
        is = found.1;
      },
    )

-- ---- how many came out

length_put_all : (s xs : List order.Picture) → length (order.put_all_in_order s xs) ≡ length s + length xs
unfolding order.put_all_in_order
length_put_all s [] = omega arith
length_put_all s (x ∷ xs) = let more = length_put_all (order.put_in_order x s) xs in let here = length_put x s in omega (arith, more, here)

length_ordered : (before : List Picture) → length (ordered before) ≡ length before
length_ordered [] = ap length no_ordered
length_ordered (one ∷ before) =
    let more = ap length (ordered_more one before) in
    let all = length-append (ordered before) (ordered_behind before one.begun ∷ []) in
    let rest = length_ordered before in
    omega (arith, more, all, rest)

few_wait : (h : order.History) → order.has_settled h ≡ false → length (order.waiting h) ≤ h.depth
few_wait h none = by_list (order.waiting h) refl where
  not_more : (a b : ℕ) → nat_lt a b ≡ false → b ≤ a
  not_more a b e = grind (arith, nat_tests)

  by_list : (xs : List order.Picture) → order.waiting h ≡ xs → length (order.waiting h) ≤ h.depth
  by_list [] is = let l : length (order.waiting h) ≡ 0 = ap length is in omega (arith, l)
  by_list (x ∷ xs) is =
      let here : (order.is_settled h x || list_any (order.is_settled h) xs) ≡ false = ap (list_any (order.is_settled h)) (sym is) ∙ none in
      let test =
      (or_false (nat_lt x.period h.period || h.ended) (nat_lt h.depth (length (order.waiting h))) (or_false (order.is_settled h x) (list_any (order.is_settled h) xs) here).0).1 in
      not_more h.depth (length (order.waiting h)) test

length_in_order : (w : Waiting) (decoded : List Decoded) (h : order.History) → Waits w decoded h → length (order.in_order h.pushed) ≡ length decoded
length_in_order w decoded h waits =
    let all = length_put_all [] h.pushed in
    let pushed : length h.pushed ≡ length (ordered (pictures_in decoded)) = ap length waits.pushed in
    let each = length_ordered (pictures_in decoded) in
    let pictures = length_pictures decoded in
    omega (arith, all, pushed, each, pictures)

-- Where no picture that waits has its turn, all but 16 came out.
pub room_left : (w : Waiting) (decoded : List Decoded) (h : order.History) → Waits w decoded h → order.has_settled h ≡ false
    → length decoded ≤ length h.out + 16
room_left w decoded h waits none =
    let s = waits.stands in
    let whole = length_in_order w decoded h waits in
    let parts : length (order.in_order h.pushed) ≡ length s.came + length (s.before ++ s.now) =
    ap length s.ordered ∙ length-append s.came (s.before ++ s.now) in
    let out : length h.out ≡ length s.came = ap length s.out ∙ length-map s.came number_of in
    let wait : length (order.waiting h) ≡ length (s.before ++ s.now) = ap length (waiting_is w h s) in
    let few = few_wait h none in
    let small = s.small in
    omega (arith, whole, parts, out, wait, few, small)

pub few_out : (w : Waiting) (decoded : List Decoded) (h : order.History) → Waits w decoded h → length h.out ≤ length decoded
few_out w decoded h waits =
    let s = waits.stands in
    let whole = length_in_order w decoded h waits in
    let parts : length (order.in_order h.pushed) ≡ length s.came + length (s.before ++ s.now) =
    ap length s.ordered ∙ length-append s.came (s.before ++ s.now) in
    let out : length h.out ≡ length s.came = ap length s.out ∙ length-map s.came number_of in
    omega (arith, whole, parts, out)

none_left : (p : order.Picture → Bool) (xs : List order.Picture) → ((x : order.Picture) → p x ≡ true) → list_any p xs ≡ false → xs ≡ []
none_left p [] all none = refl
none_left p (x ∷ xs) all none = let here = all x in let some : (p x || list_any p xs) ≡ true = rw here refl in absurd cc

by_end : (a b c : Bool) → b ≡ true → ((a || b) || c) ≡ true
by_end true b c e = refl
by_end false true c e = refl
by_end false false c e = absurd cc

-- Where nothing that waits has its turn behind the end, all pictures have come out.
pub all_out : (w : Waiting) (decoded : List Decoded) (h : order.History) → Waits w decoded h → h.ended ≡ true → order.has_settled h ≡ false
    → (h.out ≡ numbers_in_order decoded) × (length h.out ≡ length decoded)
all_out w decoded h waits ended none =
    let s = waits.stands in
    let empty : order.waiting h ≡ [] = none_left (order.is_settled h) (order.waiting h) (λ x. by_end _ h.ended _ ended) none in
    let left : s.before ++ s.now ≡ [] = sym (waiting_is w h s) ∙ empty in
    let all : order.in_order h.pushed ≡ s.came = s.ordered ∙ ap (λ (xs : List order.Picture). s.came ++ xs) left ∙ append-nil s.came in
    let whole = length_in_order w decoded h waits in
    let came : length (order.in_order h.pushed) ≡ length s.came = ap length all in
    let out : length h.out ≡ length s.came = ap length s.out ∙ length-map s.came number_of in (
      s.out ∙ ap (map number_of) (sym all) ∙ ap (λ (xs : List order.Picture). map number_of (order.in_order xs)) waits.pushed,
      omega (arith, whole, came, out),
    )
