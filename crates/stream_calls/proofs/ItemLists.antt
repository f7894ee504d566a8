-- Lists of items and of names: what stands in them, one item more, and how many names there are.
use Rattle.std.proofs.Common.{◌≡◌, ◌≢◌, ◌⊎◌, inl, inr, ℕ, zero, suc, ◌+◌, ◌<◌, ◌≤◌, ◌==◌, Bool, true, false, cond, not, ◌||◌, List, [], ◌∷◌, ◌++◌, AllPairs, count_by, filter_map, get_or, length, slice_get, Option, Some, None, refl, ap, sym, ◌∙◌, arith}
use Rattle.std.proofs.lemmas.Bool.{eq-eqb, eqb-true, false≢true, ne_eqb, or_cases, or_from, or_left, or_right}
use Rattle.std.proofs.lemmas.List.{append-nil}
use Rattle.std.proofs.lemmas.List.Elements.{filter_map-append}
use Rattle.std.proofs.lemmas.List.Folds.{list_any-append}
use Rattle.std.proofs.lemmas.List.Sums.{sum_by-cons}
use Rattle.std.specs.List.{cons_option}
use Rattle.std.specs.Option.{option_to_list}
use Rattle.device_lock.specs.Lists.{same}
use Rattle.device_lock.specs.Numbers.{items_of}
use Rattle.driver_model.specs.Parts.{given_by, is_among, made_on, names_of}
use Rattle.driver_model.specs.Passes.{caller_of}
use Rattle.driver_model.specs.declared.items.Item.{Item}
use Rattle.stream_calls.specs.Counted.{device_made, device_of, devices_made, first_of}
use Rattle.stream_calls.specs.HeldNames.{all_but}

-- ---- one item more

item_is : (a b : Item) → (let o : Option Item = Some a in o ≡ Some b) → a ≡ b
item_is a b e = cc

pub no_item : {A : Type 0} (item : Item) → (let o : Option Item = None in o ≡ Some item) → A
no_item item e = absurd (let k : (let o : Option Item = None in o ≡ Some item) = e in cc)

no_end : {A : Type 0} (front later : List Item) (item : Item) → (let l : List Item = [] in l ≡ front ++ item ∷ later) → A
no_end [] later item e = absurd (let k : (let l : List Item = [] in l ≡ item ∷ later) = e in cc)
no_end (first ∷ front) later item e = absurd (let k : (let l : List Item = [] in l ≡ first ∷ (front ++ item ∷ later)) = e in cc)

none_both : (front later : List Item) → (let l : List Item = [] in l ≡ front ++ later) → front ≡ []
none_both [] later e = refl
none_both (first ∷ front) later e = absurd (let k : (let l : List Item = [] in l ≡ first ∷ (front ++ later)) = e in cc)

-- Where one item is added: the list goes on behind a place of the old one, or the place is the new item's.
pub split_end : (own : List Item) (item : Item) (front later : List Item) (one : Item) → own ++ item ∷ [] ≡ front ++ one ∷ later
    → (later ≡ []) ⊎ ((rest : List Item) × (later ≡ rest ++ item ∷ []) × (own ≡ front ++ one ∷ rest))
split_end [] item [] later one e = inl (let k : item ∷ [] ≡ one ∷ later = e in cc)
split_end [] item (first ∷ front) later one e = no_end front later one (let k : item ∷ [] ≡ first ∷ (front ++ one ∷ later) = e in cc)
split_end (x ∷ own) item [] later one e =
    let k : x ∷ (own ++ item ∷ []) ≡ one ∷ later = e in
    let heads : x ≡ one = cc in
    let tails : own ++ item ∷ [] ≡ later = cc in
    inr (own, sym tails, ap (λ (i : Item). i ∷ own) heads)
split_end (x ∷ own) item (first ∷ front) later one e =
    let k : x ∷ (own ++ item ∷ []) ≡ first ∷ (front ++ one ∷ later) = e in
    let heads : x ≡ first = cc in
    let tails : own ++ item ∷ [] ≡ front ++ one ∷ later = cc in
    elim (split_end own item front later one tails) [
      | inl none ↦ inl none
      | inr r ↦ inr (r.0, r.1, (λ i. heads i ∷ r.2 i))
    ]

pub get_end : (own : List Item) (item : Item) (place : ℕ) (one : Item) → slice_get (own ++ item ∷ []) place ≡ Some one
    → (slice_get own place ≡ Some one) ⊎ (item ≡ one)
get_end [] item zero one e = inr (item_is item one e)
get_end [] item (suc place) one e = no_item one e
get_end (x ∷ own) item zero one e = inl e
get_end (x ∷ own) item (suc place) one e = get_end own item place one e

-- A front is the whole, or one of what was there before.
pub front_or_whole : (seen : List Item) (item : Item) (front later : List Item) → seen ++ item ∷ [] ≡ front ++ later
    → (front ≡ seen ++ item ∷ []) ⊎ ((rest : List Item) × (seen ≡ front ++ rest))
front_or_whole seen item [] later e = inr (seen, refl)
front_or_whole [] item (first ∷ front) later e =
    let k : item ∷ [] ≡ first ∷ (front ++ later) = e in
    let heads : item ≡ first = cc in
    let tails : (let l : List Item = [] in l ≡ front ++ later) = cc in
    inl (λ i. sym heads i ∷ none_both front later tails i)
front_or_whole (x ∷ seen) item (first ∷ front) later e =
    let k : x ∷ (seen ++ item ∷ []) ≡ first ∷ (front ++ later) = e in
    let heads : x ≡ first = cc in
    let tails : seen ++ item ∷ [] ≡ front ++ later = cc in
    elim (front_or_whole seen item front later tails) [
      | inl whole ↦ inl (λ i. sym heads i ∷ whole i)
      | inr r ↦ inr (r.0, λ i. heads i ∷ r.1 i)
    ]

-- A front of two lists is within the first, or goes on into the second.
pub cut : (seen between front later : List Item) → seen ++ between ≡ front ++ later
    → ((rest : List Item) × (seen ≡ front ++ rest)) ⊎ ((more : List Item) × (front ≡ seen ++ more))
cut seen between [] later e = inl (seen, refl)
cut [] between (first ∷ front) later e = inr (first ∷ front, refl)
cut (x ∷ seen) between (first ∷ front) later e =
    let k : x ∷ (seen ++ between) ≡ first ∷ (front ++ later) = e in
    let heads : x ≡ first = cc in
    let tails : seen ++ between ≡ front ++ later = cc in
    elim (cut seen between front later tails) [
      | inl r ↦ inl (r.0, λ i. heads i ∷ r.1 i)
      | inr r ↦ inr (r.0, λ i. sym heads i ∷ r.1 i)
    ]

pub get_at : (front later : List Item) (item : Item) → slice_get (front ++ item ∷ later) (length front) ≡ Some item
get_at [] later item = refl
get_at (first ∷ front) later item = get_at front later item

-- ---- own items

module _ (caller : List ℕ) where
  abbrev mine : List Item → List Item
  mine items = items_of caller_of caller items

  -- an own item stands in the history
  pub own_there : (history : List Item) (place : ℕ) (one : Item) → slice_get (mine history) place ≡ Some one → (at : ℕ) × (slice_get history at ≡ Some one)
  own_there [] place one e = no_item one e
  own_there (item ∷ later) place one e = by_test (same caller (caller_of item)) place e (λ k. own_there later k one) where
    by_test : (b : Bool) (k : ℕ) → slice_get (cond b (item ∷ mine later) (mine later)) k ≡ Some one
        → ((j : ℕ) → slice_get (mine later) j ≡ Some one → (at : ℕ) × (slice_get later at ≡ Some one)) → (at : ℕ) × (slice_get (item ∷ later) at ≡ Some one)
    by_test true zero h rest = (zero, h)
    by_test true (suc k) h rest = let r = rest k h in (suc r.0, r.1)
    by_test false k h rest = let r = rest k h in (suc r.0, r.1)

-- ---- the device

-- the name that the first of them makes stands first
first_kept : (names more : List ℕ) (device : ℕ) → first_of names ≡ Some device → first_of (names ++ more) ≡ Some device
first_kept [] more device e = absurd (let k : (let o : Option ℕ = None in o ≡ Some device) = e in cc)
first_kept (name ∷ names) more device e = e

first_none : (names : List ℕ) → first_of names ≡ None → names ≡ []
first_none [] e = refl
first_none (name ∷ names) e = absurd (let k : (let o : Option ℕ = Some name in o ≡ None) = e in cc)

first_alone : (name : Option ℕ) → first_of (cons_option name []) ≡ name
first_alone None = refl
first_alone (Some name) = refl

made_end : (own : List Item) (item : Item) → devices_made (own ++ item ∷ []) ≡ devices_made own ++ cons_option (device_made item) []
made_end own item = filter_map-append device_made own (item ∷ [])

pub device_kept : (own : List Item) (item : Item) (device : ℕ) → device_of own ≡ Some device → device_of (own ++ item ∷ []) ≡ Some device
device_kept own item device e = ap first_of (made_end own item) ∙ first_kept (devices_made own) (cons_option (device_made item) []) device e

pub device_new : (own : List Item) (item : Item) → device_of own ≡ None → device_of (own ++ item ∷ []) ≡ device_made item
device_new own item none =
    ap first_of (made_end own item)
    ∙ (ap (λ l. first_of (l ++ cons_option (device_made item) [])) (first_none (devices_made own) none) ∙ first_alone (device_made item))

pub device_same : (own : List Item) (item : Item) → device_made item ≡ None → device_of (own ++ item ∷ []) ≡ device_of own
device_same own item none =
    ap first_of (made_end own item) ∙ (ap (λ o. first_of (devices_made own ++ cons_option o [])) none ∙ ap first_of (append-nil (devices_made own)))

-- Where one makes a device there is one.
pub device_there : (front later : List Item) (item : Item) (name : ℕ) → device_made item ≡ Some name → device_of (front ++ item ∷ later) ≡ None → ⊥
device_there [] later item name made none =
    let first = ap (λ o. first_of (cons_option o (devices_made later))) made in
    let k : (let o : Option ℕ = Some name in o ≡ None) = sym first ∙ none in
    absurd cc
device_there (first ∷ front) later item name made none = by_first (device_made first) none (device_there front later item name made) where
  by_first : (o : Option ℕ) → first_of (cons_option o (devices_made (front ++ item ∷ later))) ≡ None → (device_of (front ++ item ∷ later) ≡ None → ⊥) → ⊥
  by_first None e rest = rest e
  by_first (Some one) e rest = let k : (let o : Option ℕ = Some one in o ≡ None) = e in absurd cc

-- the item that makes the device
pub device_item : (own : List Item) (device : ℕ) → device_of own ≡ Some device
    → (place : ℕ) × (item : Item) × (slice_get own place ≡ Some item) × (device_made item ≡ Some device)
device_item [] device e = absurd (let k : (let o : Option ℕ = None in o ≡ Some device) = e in cc)
device_item (item ∷ later) device e = by_first (device_made item) refl e (device_item later device) where
  by_first : (o : Option ℕ) → device_made item ≡ o → first_of (cons_option o (devices_made later)) ≡ Some device
      → (device_of later ≡ Some device → (place : ℕ) × (one : Item) × (slice_get later place ≡ Some one) × (device_made one ≡ Some device))
      → (place : ℕ) × (one : Item) × (slice_get (item ∷ later) place ≡ Some one) × (device_made one ≡ Some device)
  by_first None made k rest = let r = rest k in (suc r.0, r.1, r.2, r.3)
  by_first (Some name) made k rest = (zero, item, refl, made ∙ k)

-- ---- names

pub among_front : (names more : List ℕ) (name : ℕ) → is_among names name ≡ true → is_among (names ++ more) name ≡ true
among_front names more name is = list_any-append (λ other. other == name) names more ∙ or_left (is_among names name) (is_among more name) is

pub among_back : (names more : List ℕ) (name : ℕ) → is_among more name ≡ true → is_among (names ++ more) name ≡ true
among_back names more name is = list_any-append (λ other. other == name) names more ∙ or_right (is_among names name) (is_among more name) is

pub among_either : (names more : List ℕ) (name : ℕ) → is_among (names ++ more) name ≡ true → (is_among names name ≡ true) ⊎ (is_among more name ≡ true)
among_either names more name is = or_cases (is_among names name) (is_among more name) (sym (list_any-append (λ other. other == name) names more) ∙ is)

pub among_here : (name : ℕ) (names : List ℕ) → is_among (name ∷ names) name ≡ true
among_here name names = or_left (name == name) (is_among names name) (eq-eqb name name refl)

pub among_given : (given : Option ℕ) (name : ℕ) → given ≡ Some name → is_among (cons_option given []) name ≡ true
among_given given name e = ap (λ o. is_among (cons_option o []) name) e ∙ among_here name []

pub among_one : (given : Option ℕ) (name : ℕ) → is_among (cons_option given []) name ≡ true → given ≡ Some name
among_one None name is = absurd (false≢true is)
among_one (Some one) name is = elim (or_cases (one == name) false is) [
  | inl here ↦ ap (λ n. Some n) (eqb-true one name here)
  | inr there ↦ absurd (false≢true there)
]

pub among_listed : (given : Option ℕ) (name : ℕ) → given ≡ Some name → is_among (option_to_list given) name ≡ true
among_listed given name e = ap (λ o. is_among (option_to_list o) name) e ∙ among_here name []

-- the names of a device, while the history goes on
pub names_kept : (history more : List Item) (device name : ℕ) → is_among (names_of history device) name ≡ true
    → is_among (names_of (history ++ more) device) name ≡ true
names_kept history more device name is =
    ap (λ l. is_among (device ∷ l) name) (filter_map-append (made_on device) history more)
    ∙ among_front (device ∷ filter_map (made_on device) history) (filter_map (made_on device) more) name is

pub names_new : (history : List Item) (item : Item) (device name : ℕ) → made_on device item ≡ Some name
    → is_among (names_of (history ++ item ∷ []) device) name ≡ true
names_new history item device name made =
    ap (λ l. is_among (device ∷ l) name) (filter_map-append (made_on device) history (item ∷ []))
    ∙ among_back (device ∷ filter_map (made_on device) history) (cons_option (made_on device item) []) name (among_given (made_on device item) name made)

pub given_end : (own : List Item) (item : Item) → filter_map given_by (own ++ item ∷ []) ≡ filter_map given_by own ++ cons_option (given_by item) []
given_end own item = filter_map-append given_by own (item ∷ [])

-- ---- all but one

pub but_less : (one : ℕ) (names : List ℕ) (name : ℕ) → is_among (all_but one names) name ≡ true → is_among names name ≡ true
but_less one [] name is = is
but_less one (first ∷ names) name is = by_test (not (first == one)) is (but_less one names name) where
  by_test : (b : Bool) → is_among (cond b (first ∷ all_but one names) (all_but one names)) name ≡ true
      → (is_among (all_but one names) name ≡ true → is_among names name ≡ true) → is_among (first ∷ names) name ≡ true
  by_test true k rest = elim (or_cases (first == name) (is_among (all_but one names) name) k) [
    | inl here ↦ or_left (first == name) (is_among names name) here
    | inr there ↦ or_right (first == name) (is_among names name) (rest there)
  ]
  by_test false k rest = or_right (first == name) (is_among names name) (rest k)

pub but_keeps : (one : ℕ) (names : List ℕ) (name : ℕ) → (name ≡ one → ⊥) → is_among names name ≡ true → is_among (all_but one names) name ≡ true
but_keeps one [] name other is = is
but_keeps one (first ∷ names) name other is =
    by_test (first == one) refl (or_cases (first == name) (is_among names name) is) (but_keeps one names name other) where
      by_test : (b : Bool) → (first == one) ≡ b → (((first == name) ≡ true) ⊎ (is_among names name ≡ true))
          → (is_among names name ≡ true → is_among (all_but one names) name ≡ true)
          → is_among (cond (not b) (first ∷ all_but one names) (all_but one names)) name ≡ true
      by_test true e (inl here) rest = absurd (other (sym (eqb-true first name here) ∙ eqb-true first one e))
      by_test true e (inr there) rest = rest there
      by_test false e (inl here) rest = or_left (first == name) (is_among (all_but one names) name) here
      by_test false e (inr there) rest = or_right (first == name) (is_among (all_but one names) name) (rest there)

but_short : (one : ℕ) (names : List ℕ) → length (all_but one names) ≤ length names
but_short one [] = omega arith
but_short one (first ∷ names) = by_test (not (first == one)) (but_short one names) where
  by_test : (b : Bool) → length (all_but one names) ≤ length names → length (cond b (first ∷ all_but one names) (all_but one names)) ≤ length (first ∷ names)
  by_test true rest = omega (arith, rest)
  by_test false rest = omega (arith, rest)

but_fewer : (one : ℕ) (names : List ℕ) → is_among names one ≡ true → length (all_but one names) + 1 ≤ length names
but_fewer one [] is = absurd (false≢true is)
but_fewer one (first ∷ names) is = by_test (first == one) is (but_fewer one names) where
  by_test : (b : Bool) → (b || is_among names one) ≡ true → (is_among names one ≡ true → length (all_but one names) + 1 ≤ length names)
      → length (cond (not b) (first ∷ all_but one names) (all_but one names)) + 1 ≤ length (first ∷ names)
  by_test true k rest = let less = but_short one names in omega (arith, less)
  by_test false k rest = let less = rest k in omega (arith, less)

-- ---- names that differ

abbrev pub AreApart : List ℕ → Type 0
AreApart [] = Unit {0}
AreApart (name ∷ names) = (is_among names name ≡ false) × AreApart names

is_not_among : (names : List ℕ) (name : ℕ) → ((k d : ℕ) → k < length names → get_or names k d ≡ name → ⊥) → is_among names name ≡ false
is_not_among [] name other = refl
is_not_among (first ∷ names) name other =
    or_from (first == name) (is_among names name) (ne_eqb first name (other 0 0 (omega arith)))
    (is_not_among names name (λ k d less. other (suc k) d (omega (arith, less))))

pub are_apart : (names : List ℕ) → AllPairs (λ a b. a ≢ b) names → AreApart names
are_apart [] pairs = tt
are_apart (name ∷ names) pairs = (
  is_not_among names name (λ k d less e. pairs 0 (suc k) d (omega arith) (omega (arith, less)) (sym e)),
  are_apart names (λ i j d less within. pairs (suc i) (suc j) d (omega (arith, less)) (omega (arith, within))),
)

abbrev pub one_if : Bool → ℕ
one_if b = cond b 1 0

-- As many pass as there are others that have them all, at most.
pub no_more_apart : (test : ℕ → Bool) (names held : List ℕ) → AreApart names
    → ((name : ℕ) → is_among names name ≡ true → test name ≡ true → is_among held name ≡ true) → count_by test names ≤ length held
no_more_apart test [] held apart all = omega arith
no_more_apart test (name ∷ names) held apart all = by_test (test name) refl (λ others follows. no_more_apart test names others apart.1 follows) where
  count : count_by test (name ∷ names) ≡ cond (test name) 1 0 + count_by test names
  count = sum_by-cons (λ n. cond (test n) 1 0) name names

  differs : (one : ℕ) → is_among names one ≡ true → one ≡ name → ⊥
  differs one among is = false≢true (sym apart.0 ∙ (ap (is_among names) (sym is) ∙ among))

  later : (one : ℕ) → is_among names one ≡ true → test one ≡ true → is_among held one ≡ true
  later one among passes = all one (or_right (name == one) (is_among names one) among) passes

  by_test : (b : Bool) → test name ≡ b
      → ((others : List ℕ) → ((one : ℕ) → is_among names one ≡ true → test one ≡ true → is_among others one ≡ true) → count_by test names ≤ length others)
      → count_by test (name ∷ names) ≤ length held
  by_test true e rest =
      let fewer = but_fewer name held (all name (among_here name names) e) in
      let others = rest (all_but name held) (λ one among passes. but_keeps name held one (differs one among) (later one among passes)) in
      let here : one_if (test name) ≡ 1 = ap one_if e in
      omega (arith, count, fewer, others, here)
  by_test false e rest =
      let others = rest held later in
      let here : one_if (test name) ≡ 0 = ap one_if e in
      omega (arith, count, others, here)

-- the names that own items gave differ where those of the history do
module _ (caller : List ℕ) where
  kept_apart : (given : Option ℕ) (some all : List ℕ) → ((name : ℕ) → is_among some name ≡ true → is_among all name ≡ true) → AreApart some
      → AreApart (cons_option given all) → AreApart (cons_option given some)
  kept_apart None some all follows few many = few
  kept_apart (Some name) some all follows few many = (by_test (is_among some name) refl, few) where
    by_test : (b : Bool) → is_among some name ≡ b → b ≡ false
    by_test true e = absurd (false≢true (sym many.0 ∙ follows name e))
    by_test false e = refl

  less_apart : (given : Option ℕ) (all : List ℕ) → AreApart (cons_option given all) → AreApart all
  less_apart None all apart = apart
  less_apart (Some name) all apart = apart.1

  abbrev pub OwnAreAmong : Type 0
  OwnAreAmong =
      (history : List Item) (name : ℕ) → is_among (filter_map given_by (mine caller history)) name ≡ true → is_among (filter_map given_by history) name ≡ true

  pub own_apart : OwnAreAmong
      → (history : List Item) → AreApart (filter_map given_by history) → AreApart (filter_map given_by (mine caller history))
  own_apart among [] apart = tt
  own_apart among (item ∷ later) apart =
      by_test (same caller (caller_of item)) (own_apart among later (less_apart (given_by item) (filter_map given_by later) apart)) where
        by_test : (b : Bool) → AreApart (filter_map given_by (mine caller later))
            → AreApart (filter_map given_by (cond b (item ∷ mine caller later) (mine caller later)))
        by_test true rest = kept_apart (given_by item) (filter_map given_by (mine caller later)) (filter_map given_by later) (among later) rest apart
        by_test false rest = rest
