-- What is left of frames where some go, and what each of the frames keeps.
use Rattle.std.proofs.Common.{◌≡◌, ℕ, zero, suc, ◌≤◌, Bool, true, false, not, ◌&&◌, ◌||◌, cond, if◌then◌else◌, eqb, List, [], ◌∷◌, ◌++◌, length, filter, get_or, set, refl, arith}
use Rattle.std.specs.Prelude.{remove}
use Rattle.std.specs.List.{list_all, list_any}
use Rattle.std.proofs.lemmas.Bool.{and_from, and_parts, not_from_false, or_from, or_parts, or_right}
use Rattle.std.proofs.lemmas.Bool.Decides.{nat_tests}
use Rattle.std.proofs.lemmas.List.Folds.{list_all-append, list_any-append}
use Rattle.cb_types.specs.AcceptedInfo.{are_all_apart, are_apart, is_same_kind}
use Rattle.cb_types.specs.References.{is_absent, is_unused}
use Rattle.cb_types.specs.declared.picture_info.Reference.{Reference}
use Rattle.marking.specs.Frames.{is_long_at}

-- what is left where some go
pub data IsPart : List Reference → List Reference → Type 0 where
  nothing : IsPart [] []
  kept : (x : Reference) (xs ys : List Reference) → IsPart xs ys → IsPart (x ∷ xs) (x ∷ ys)
  gone : (x : Reference) (xs ys : List Reference) → IsPart xs ys → IsPart xs (x ∷ ys)

pub part_same : (xs : List Reference) → IsPart xs xs
part_same [] = nothing
part_same (x ∷ xs) = kept x xs xs (part_same xs)

pub part_filter : (p : Reference → Bool) (xs : List Reference) → IsPart (filter p xs) xs
part_filter p [] = nothing
part_filter p (x ∷ xs) =
    let more = part_filter p xs in
    elim (p x) as (λ b. IsPart (cond b (x ∷ filter p xs) (filter p xs)) (x ∷ xs)) [ true ↦ kept x (filter p xs) xs more | false ↦ gone x (filter p xs) xs more ]

pub part_remove : (xs : List Reference) (k : ℕ) → IsPart (remove xs k) xs
part_remove [] zero = nothing
part_remove [] (suc k) = nothing
part_remove (x ∷ []) zero = gone x [] [] nothing
part_remove (x ∷ y ∷ ys) zero = gone x (y ∷ ys) (y ∷ ys) (part_same (y ∷ ys))
part_remove (x ∷ xs) (suc k) = kept x (remove xs k) xs (part_remove xs k)

pub part_all : (p : Reference → Bool) (xs ys : List Reference) → IsPart xs ys → list_all p ys ≡ true → list_all p xs ≡ true
part_all p _ _ nothing e = refl
part_all p _ _ (kept x xs ys part) e = let both = and_parts (p x) (list_all p ys) e in and_from (p x) (list_all p xs) both.0 (part_all p xs ys part both.1)
part_all p _ _ (gone x xs ys part) e = part_all p xs ys part (and_parts (p x) (list_all p ys) e).1

pub part_any : (p : Reference → Bool) (xs ys : List Reference) → IsPart xs ys → list_any p ys ≡ false → list_any p xs ≡ false
part_any p _ _ nothing e = refl
part_any p _ _ (kept x xs ys part) e = let both = or_parts (p x) (list_any p ys) e in or_from (p x) (list_any p xs) both.0 (part_any p xs ys part both.1)
part_any p _ _ (gone x xs ys part) e = part_any p xs ys part (or_parts (p x) (list_any p ys) e).1

pub part_apart : (xs ys : List Reference) → IsPart xs ys → are_all_apart ys ≡ true → are_all_apart xs ≡ true
unfolding are_all_apart
part_apart _ _ nothing e = refl
part_apart _ _ (kept x xs ys part) e =
    let both = and_parts (list_all (are_apart x) ys) (are_all_apart ys) e in
    and_from (list_all (are_apart x) xs) (are_all_apart xs) (part_all (are_apart x) xs ys part both.0) (part_apart xs ys part both.1)
part_apart _ _ (gone x xs ys part) e = part_apart xs ys part (and_parts (list_all (are_apart x) ys) (are_all_apart ys) e).1

pub part_length : (xs ys : List Reference) → IsPart xs ys → length xs ≤ length ys
part_length _ _ nothing = omega arith
part_length _ _ (kept x xs ys part) = let less = part_length xs ys part in omega (arith, less)
part_length _ _ (gone x xs ys part) = let less = part_length xs ys part in omega (arith, less)

-- no element that passes is left
pub none_left : (p : Reference → Bool) (xs : List Reference) → list_any p (filter (λ x. not (p x)) xs) ≡ false
none_left p [] = refl
none_left p (x ∷ xs) =
    let more = none_left p xs in
    elim (p x) as (λ b. p x ≡ b → list_any p (cond (not b) (x ∷ filter (λ y. not (p y)) xs) (filter (λ y. not (p y)) xs)) ≡ false) [
      | true ↦ λ e. more
      | false ↦ λ e. or_from (p x) (list_any p (filter (λ y. not (p y)) xs)) e more
    ] refl

-- ---- one frame is written

pub all_set : (p : Reference → Bool) (xs : List Reference) (k : ℕ) (y d : Reference) → list_all p xs ≡ true → (p (get_or xs k d) ≡ true → p y ≡ true) → list_all p (set xs k y) ≡ true
all_set p [] zero y d e one = refl
all_set p [] (suc k) y d e one = refl
all_set p (x ∷ xs) zero y d e one = let both = and_parts (p x) (list_all p xs) e in and_from (p y) (list_all p xs) (one both.0) both.1
all_set p (x ∷ xs) (suc k) y d e one = let both = and_parts (p x) (list_all p xs) e in and_from (p x) (list_all p (set xs k y)) both.0 (all_set p xs k y d both.1 one)

pub any_set : (p : Reference → Bool) (xs : List Reference) (k : ℕ) (y d : Reference) → list_any p xs ≡ false → (p (get_or xs k d) ≡ false → p y ≡ false) → list_any p (set xs k y) ≡ false
any_set p [] zero y d e one = refl
any_set p [] (suc k) y d e one = refl
any_set p (x ∷ xs) zero y d e one = let both = or_parts (p x) (list_any p xs) e in or_from (p y) (list_any p xs) (one both.0) both.1
any_set p (x ∷ xs) (suc k) y d e one = let both = or_parts (p x) (list_any p xs) e in or_from (p x) (list_any p (set xs k y)) both.0 (any_set p xs k y d both.1 one)

pub length_set : (xs : List Reference) (k : ℕ) (y : Reference) → length (set xs k y) ≡ length xs
length_set [] zero y = refl
length_set [] (suc k) y = refl
length_set (x ∷ xs) zero y = refl
length_set (x ∷ xs) (suc k) y = let more = length_set xs k y in omega (arith, more)

-- a frame, long-term with an index
abbrev pub as_long : Reference → ℕ → Reference
as_long frame index = record frame { is_long_term = true; frame_idx = index }

-- Where no other frame has the index, it stays apart from them.
apart_before : (index : ℕ) (x frame : Reference) → is_long_at index x ≡ false → are_apart x frame ≡ true → are_apart x (as_long frame index) ≡ true
apart_before index x frame free e =
    let u = is_unused x in
    let v = is_unused frame in
    let s = is_absent x || not (eqb x.surface frame.surface) in
    let c = is_same_kind x frame && eqb x.frame_idx frame.frame_idx in
    elim (u || v) as (λ b. (b || (not c && s)) ≡ true → (b || (not (is_same_kind x (as_long frame index) && eqb x.frame_idx index) && s)) ≡ true) [
      | true ↦ λ h. refl
      | false ↦ λ h. and_from (not (is_same_kind x (as_long frame index) && eqb x.frame_idx index)) s
          (not_from_false (is_same_kind x (as_long frame index) && eqb x.frame_idx index)
          (elim x.is_long_term as (λ l. (l && eqb x.frame_idx index) ≡ false → ((if l then true else false) && eqb x.frame_idx index) ≡ false) [ true ↦ λ f. f | false ↦ λ f. refl ] free))
          (and_parts (not c) s h).1
    ] e

other_way : (long : Bool) (a b : ℕ) → (long && eqb b a) ≡ false → (long && eqb a b) ≡ false
other_way true a b e = grind (arith, nat_tests)
other_way false a b e = refl

apart_behind : (index : ℕ) (x frame : Reference) → is_long_at index x ≡ false → are_apart frame x ≡ true → are_apart (as_long frame index) x ≡ true
apart_behind index x frame free e =
    let u = is_unused frame in
    let v = is_unused x in
    let s = is_absent frame || not (eqb frame.surface x.surface) in
    let c = is_same_kind frame x && eqb frame.frame_idx x.frame_idx in
    elim (u || v) as (λ b. (b || (not c && s)) ≡ true → (b || (not (x.is_long_term && eqb index x.frame_idx) && s)) ≡ true) [
      | true ↦ λ h. refl
      | false ↦ λ h. and_from (not (x.is_long_term && eqb index x.frame_idx)) s (not_from_false (x.is_long_term && eqb index x.frame_idx) (other_way x.is_long_term index x.frame_idx free)) (and_parts (not c) s h).1
    ] e

list_behind : (index : ℕ) (xs : List Reference) (frame : Reference) → list_any (is_long_at index) xs ≡ false → list_all (are_apart frame) xs ≡ true → list_all (are_apart (as_long frame index)) xs ≡ true
list_behind index [] frame free e = refl
list_behind index (x ∷ xs) frame free e =
    let no = or_parts (is_long_at index x) (list_any (is_long_at index) xs) free in
    let both = and_parts (are_apart frame x) (list_all (are_apart frame) xs) e in
    and_from (are_apart (as_long frame index) x) (list_all (are_apart (as_long frame index)) xs) (apart_behind index x frame no.0 both.0) (list_behind index xs frame no.1 both.1)

pub apart_set : (index : ℕ) (xs : List Reference) (k : ℕ) (d : Reference) → list_any (is_long_at index) xs ≡ false → are_all_apart xs ≡ true → are_all_apart (set xs k (as_long (get_or xs k d) index)) ≡ true
unfolding are_all_apart
apart_set index [] zero d free e = refl
apart_set index [] (suc k) d free e = refl
apart_set index (x ∷ xs) zero d free e =
    let no = or_parts (is_long_at index x) (list_any (is_long_at index) xs) free in
    let both = and_parts (list_all (are_apart x) xs) (are_all_apart xs) e in
    and_from (list_all (are_apart (as_long x index)) xs) (are_all_apart xs) (list_behind index xs x no.1 both.0) both.1
apart_set index (x ∷ xs) (suc k) d free e =
    let no = or_parts (is_long_at index x) (list_any (is_long_at index) xs) free in
    let both = and_parts (list_all (are_apart x) xs) (are_all_apart xs) e in
    let frame = get_or xs k d in
    and_from (list_all (are_apart x) (set xs k (as_long frame index))) (are_all_apart (set xs k (as_long frame index)))
    (all_set (are_apart x) xs k (as_long frame index) d both.0 (apart_before index x frame no.0)) (apart_set index xs k d no.1 both.1)

-- ---- one more frame

-- no other of this kind has its frame_num or index
kind_free : (long : Bool) (i : ℕ) (frames : List Reference)
    → (if long then list_any (is_long_at i) frames else list_any (λ other. not other.is_long_term && eqb other.frame_idx i) frames) ≡ false
    → list_any (λ x. (if x.is_long_term then long else not long) && eqb x.frame_idx i) frames ≡ false
kind_free true i [] e = refl
kind_free false i [] e = refl
kind_free true i (x ∷ xs) e =
    let no = or_parts (x.is_long_term && eqb x.frame_idx i) (list_any (is_long_at i) xs) e in
    or_from ((if x.is_long_term then true else false) && eqb x.frame_idx i) (list_any (λ y. (if y.is_long_term then true else false) && eqb y.frame_idx i) xs)
    (elim x.is_long_term as (λ l. (l && eqb x.frame_idx i) ≡ false → ((if l then true else false) && eqb x.frame_idx i) ≡ false) [ true ↦ λ f. f | false ↦ λ f. refl ] no.0)
    (kind_free true i xs no.1)
kind_free false i (x ∷ xs) e =
    let no = or_parts (not x.is_long_term && eqb x.frame_idx i) (list_any (λ other. not other.is_long_term && eqb other.frame_idx i) xs) e in
    or_from ((if x.is_long_term then false else true) && eqb x.frame_idx i) (list_any (λ y. (if y.is_long_term then false else true) && eqb y.frame_idx i) xs)
    (elim x.is_long_term as (λ l. (not l && eqb x.frame_idx i) ≡ false → ((if l then false else true) && eqb x.frame_idx i) ≡ false) [ true ↦ λ f. refl | false ↦ λ f. f ] no.0)
    (kind_free false i xs no.1)

-- each frame that isn't absent has another surface
abbrev pub has_other : ℕ → Reference → Bool
has_other surface frame = is_absent frame || not (eqb frame.surface surface)

apart_from_all : (one : Reference) (frames : List Reference) → list_any (λ x. is_same_kind x one && eqb x.frame_idx one.frame_idx) frames ≡ false → list_all (has_other one.surface) frames ≡ true
    → list_all (λ x. are_apart x one) frames ≡ true
apart_from_all one [] clear other = refl
apart_from_all one (x ∷ xs) clear other =
    let c = is_same_kind x one && eqb x.frame_idx one.frame_idx in
    let free = or_parts c (list_any (λ y. is_same_kind y one && eqb y.frame_idx one.frame_idx) xs) clear in
    let both = and_parts (has_other one.surface x) (list_all (has_other one.surface) xs) other in
    and_from (are_apart x one) (list_all (λ y. are_apart y one) xs)
    (or_right (is_unused x || is_unused one) (not c && has_other one.surface x) (and_from (not c) (has_other one.surface x) (not_from_false c free.0) both.0))
    (apart_from_all one xs free.1 both.1)

apart_push : (one : Reference) (frames : List Reference) → are_all_apart frames ≡ true → list_all (λ x. are_apart x one) frames ≡ true → are_all_apart (frames ++ one ∷ []) ≡ true
unfolding are_all_apart
apart_push one [] e all = refl
apart_push one (x ∷ xs) e all =
    let both = and_parts (list_all (are_apart x) xs) (are_all_apart xs) e in
    let here = and_parts (are_apart x one) (list_all (λ y. are_apart y one) xs) all in
    and_from (list_all (are_apart x) (xs ++ one ∷ [])) (are_all_apart (xs ++ one ∷ []))
    (rw (list_all-append (are_apart x) xs (one ∷ [])) (and_from (list_all (are_apart x) xs) (are_apart x one && true) both.0 (and_from (are_apart x one) true here.0 refl)))
    (apart_push one xs both.1 here.1)

pub apart_more : (one : Reference) (frames : List Reference) → are_all_apart frames ≡ true
    → (if one.is_long_term then list_any (is_long_at one.frame_idx) frames else list_any (λ other. not other.is_long_term && eqb other.frame_idx one.frame_idx) frames) ≡ false
    → list_all (has_other one.surface) frames ≡ true → are_all_apart (frames ++ one ∷ []) ≡ true
apart_more one frames e free other = apart_push one frames e (apart_from_all one frames (kind_free one.is_long_term one.frame_idx frames free) other)

pub all_push : (p : Reference → Bool) (frames : List Reference) (one : Reference) → list_all p frames ≡ true → p one ≡ true → list_all p (frames ++ one ∷ []) ≡ true
all_push p frames one all here = rw (list_all-append p frames (one ∷ [])) (and_from (list_all p frames) (p one && true) all (and_from (p one) true here refl))

pub any_push : (p : Reference → Bool) (frames : List Reference) (one : Reference) → list_any p frames ≡ false → p one ≡ false → list_any p (frames ++ one ∷ []) ≡ false
any_push p frames one none here = rw (list_any-append p frames (one ∷ [])) (or_from (list_any p frames) (p one || false) none (or_from (p one) false here refl))
