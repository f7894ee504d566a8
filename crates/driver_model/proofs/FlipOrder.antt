-- Flips in their order are settled by each stream's flips.
use Rattle.std.proofs.Common.{◌≡◌, ℕ, ◌≤◌, nat_lt, ◌==◌, Bool, true, false, ◌&&◌, ◌||◌, if◌then◌else◌, List, [], ◌∷◌, filter, flat_map, refl, ap, sym, ◌∙◌, subst, arith}
use Rattle.std.proofs.lemmas.Bool.{eq-eqb, eqb-true, false≢true, or_parts}
use Rattle.std.proofs.lemmas.Bool.Decides.{nat_tests}
use Rattle.std.specs.List.{AllByRecursion}
use Rattle.driver_model.specs.FlipLaws.{StreamsSettleTheText}
use Rattle.driver_model.specs.FlipText.{StreamFlip, comes_before, flip_text, in_order, put_in_order}
use Rattle.driver_model.specs.ScriptFlips.{flips_of_stream, is_of_stream}

-- ---- times and streams

-- time t of stream s is before time u of stream r
abbrev is_before : ℕ → ℕ → ℕ → ℕ → Bool
is_before t s u r = nat_lt t u || (t == u && nat_lt s r)

not_before : (t s u r : ℕ) → is_before t s u r ≡ false → (u ≤ t) × (t ≡ u → r ≤ s)
not_before t s u r e =
    let parts = or_parts (nat_lt t u) (t == u && nat_lt s r) e in
    let first : nat_lt t u ≡ false = parts.0 in
    (grind (arith, nat_tests), λ same. not_lower same parts.1)
  where
    not_lower : t ≡ u → (t == u && nat_lt s r) ≡ false → r ≤ s
    not_lower same k = let both : (true && nat_lt s r) ≡ false = (λ i. sym (eq-eqb t u same) i && nat_lt s r) ∙ k in let last : nat_lt s r ≡ false = both in grind (arith, nat_tests)

is_not_before : (t s u r : ℕ) → u ≤ t → (t ≡ u → r ≤ s) → is_before t s u r ≡ false
is_not_before t s u r late lower =
    let first : nat_lt t u ≡ false = grind (arith, nat_tests) in
    (λ i. first i || (t == u && nat_lt s r)) ∙ by_test (t == u) refl
  where
    by_test : (b : Bool) → (t == u) ≡ b → (b && nat_lt s r) ≡ false
    by_test true e = let le = lower (eqb-true t u e) in grind (arith, nat_tests)
    by_test false e = refl

before_back : (t s u r : ℕ) → is_before t s u r ≡ true → is_before u r t s ≡ false
before_back t s u r e = by_value (is_before u r t s) refl where
  by_value : (b : Bool) → is_before u r t s ≡ b → b ≡ false
  by_value false k = refl
  by_value true k = absurd (both (nat_lt t u) (t == u) (nat_lt s r) refl refl refl e (nat_lt u t) (u == t) (nat_lt r s) refl refl refl k) where
    both : (a b c : Bool) → nat_lt t u ≡ a → (t == u) ≡ b → nat_lt s r ≡ c → (a || (b && c)) ≡ true → (d f g : Bool) → nat_lt u t ≡ d → (u == t) ≡ f → nat_lt r s ≡ g → (d || (f && g)) ≡ true → ⊥
    both true b c ea eb ec x true f g ed ef eg y = grind (arith, nat_tests)
    both true b c ea eb ec x false true g ed ef eg y = grind (arith, nat_tests)
    both true b c ea eb ec x false false g ed ef eg y = false≢true y
    both false true true ea eb ec x true f g ed ef eg y = grind (arith, nat_tests)
    both false true true ea eb ec x false true true ed ef eg y = grind (arith, nat_tests)
    both false true true ea eb ec x false true false ed ef eg y = false≢true y
    both false true true ea eb ec x false false g ed ef eg y = false≢true y
    both false true false ea eb ec x d f g ed ef eg y = false≢true x
    both false false c ea eb ec x d f g ed ef eg y = false≢true x

not_before_through : (t s u r v q : ℕ) → is_before t s u r ≡ false → is_before u r v q ≡ false → is_before t s v q ≡ false
not_before_through t s u r v q one other =
    let a = not_before t s u r one in
    let b = not_before u r v q other in
    let late : v ≤ u = b.0 in
    let later : u ≤ t = a.0 in
    is_not_before t s v q (omega arith) (λ same.
    let middle : t ≡ u = omega arith in
    let last : u ≡ v = omega arith in
    let low = a.1 middle in
    let lower = b.1 last in
    omega arith)

one_stream : (t s u r : ℕ) → is_before t s u r ≡ false → is_before u r t s ≡ false → s ≡ r
one_stream t s u r one other =
    let a = not_before t s u r one in
    let b = not_before u r t s other in
    let late : u ≤ t = a.0 in
    let early : t ≤ u = b.0 in
    let same : t ≡ u = omega arith in
    let low = a.1 same in
    let high = b.1 (sym same) in
    omega arith

-- ---- flips in order

-- none of the flips comes before this one
abbrev NoneBefore : StreamFlip → List StreamFlip → Type 0
NoneBefore a flips = AllByRecursion (λ b. comes_before b a ≡ false) flips

abbrev Sorted : List StreamFlip → Type 0
Sorted [] = Unit {0}
Sorted (a ∷ flips) = NoneBefore a flips × Sorted flips

all_put : (P : StreamFlip → Type 0) (a : StreamFlip) (flips : List StreamFlip) → P a → AllByRecursion P flips → AllByRecursion P (put_in_order a flips)
unfolding put_in_order
all_put P a [] is all = (is, tt)
all_put P a (b ∷ flips) is all = by_test (comes_before b a) (all_put P a flips is all.1) where
  by_test : (test : Bool) → AllByRecursion P (put_in_order a flips) → AllByRecursion P (if test then b ∷ put_in_order a flips else a ∷ b ∷ flips)
  by_test true rest = (all.0, rest)
  by_test false rest = (is, all)

all_kept : (P : StreamFlip → Type 0) (test : StreamFlip → Bool) (flips : List StreamFlip) → AllByRecursion P flips → AllByRecursion P (filter test flips)
all_kept P test [] all = tt
all_kept P test (a ∷ flips) all = by_test (test a) (all_kept P test flips all.1) where
  by_test : (b : Bool) → AllByRecursion P (filter test flips) → AllByRecursion P (if b then a ∷ filter test flips else filter test flips)
  by_test true rest = (all.0, rest)
  by_test false rest = rest

-- what isn't before the first isn't before one that the first isn't before
none_through : (a b : StreamFlip) (flips : List StreamFlip) → comes_before b a ≡ false → NoneBefore b flips → NoneBefore a flips
none_through a b [] none all = tt
none_through a b (c ∷ flips) none all =
    (not_before_through c.time c.stream b.time b.stream a.time a.stream all.0 none, none_through a b flips none all.1)

sorted_put : (a : StreamFlip) (flips : List StreamFlip) → Sorted flips → Sorted (put_in_order a flips)
unfolding put_in_order
sorted_put a [] sorted = (tt, tt)
sorted_put a (b ∷ flips) sorted = by_test (comes_before b a) refl (sorted_put a flips sorted.1) where
  by_test : (test : Bool) → comes_before b a ≡ test → Sorted (put_in_order a flips) → Sorted (if test then b ∷ put_in_order a flips else a ∷ b ∷ flips)
  by_test true e rest = (all_put (λ c. comes_before c b ≡ false) a flips (before_back b.time b.stream a.time a.stream e) sorted.0, rest)
  by_test false e rest = ((e, none_through a b flips e sorted.0), sorted)

sorted_all : (flips : List StreamFlip) → Sorted (in_order flips)
unfolding in_order
sorted_all [] = tt
sorted_all (a ∷ flips) = sorted_put a (in_order flips) (sorted_all flips)

put_first : (a : StreamFlip) (flips : List StreamFlip) → NoneBefore a flips → put_in_order a flips ≡ a ∷ flips
unfolding put_in_order
put_first a [] none = refl
put_first a (b ∷ flips) none = ap (λ test. if test then b ∷ put_in_order a flips else a ∷ b ∷ flips) none.0

-- ---- the flips of one stream

module _ (stream : ℕ) where
  abbrev own : List StreamFlip → List StreamFlip
  own flips = flips_of_stream stream flips

  own_first : (a : StreamFlip) (flips : List StreamFlip) → is_of_stream stream a ≡ true → own (a ∷ flips) ≡ a ∷ own flips
  own_first a flips is = ap (λ test. if test then a ∷ own flips else own flips) is

  own_other : (a : StreamFlip) (flips : List StreamFlip) → is_of_stream stream a ≡ false → own (a ∷ flips) ≡ own flips
  own_other a flips is = ap (λ test. if test then a ∷ own flips else own flips) is

  put_other : (a : StreamFlip) (flips : List StreamFlip) → is_of_stream stream a ≡ false → own (put_in_order a flips) ≡ own flips
  unfolding put_in_order
  put_other a [] is = own_other a [] is
  put_other a (b ∷ flips) is = by_test (comes_before b a) (put_other a flips is) where
    by_test : (test : Bool) → own (put_in_order a flips) ≡ own flips → own (if test then b ∷ put_in_order a flips else a ∷ b ∷ flips) ≡ own (b ∷ flips)
    by_test true rest = ap (λ l. if is_of_stream stream b then b ∷ l else l) rest
    by_test false rest = own_other a (b ∷ flips) is

  put_own : (a : StreamFlip) (flips : List StreamFlip) → is_of_stream stream a ≡ true → Sorted flips → own (put_in_order a flips) ≡ put_in_order a (own flips)
  unfolding put_in_order
  put_own a [] is sorted = own_first a [] is
  put_own a (b ∷ flips) is sorted = by_test (comes_before b a) refl (put_own a flips is sorted.1) where
    ahead : (test : Bool) → comes_before b a ≡ true → own (put_in_order a flips) ≡ put_in_order a (own flips)
        → (if test then b ∷ own (put_in_order a flips) else own (put_in_order a flips)) ≡ put_in_order a (if test then b ∷ own flips else own flips)
    ahead true e rest = ap (λ l. b ∷ l) rest ∙ ap (λ test. if test then b ∷ put_in_order a (own flips) else a ∷ b ∷ own flips) (sym e)
    ahead false e rest = rest

    by_test : (test : Bool) → comes_before b a ≡ test → own (put_in_order a flips) ≡ put_in_order a (own flips)
        → own (if test then b ∷ put_in_order a flips else a ∷ b ∷ flips) ≡ put_in_order a (own (b ∷ flips))
    by_test true e rest = ahead (is_of_stream stream b) e rest
    by_test false e rest =
        own_first a (b ∷ flips) is
        ∙ sym (put_first a (own (b ∷ flips)) (all_kept (λ c. comes_before c a ≡ false) (is_of_stream stream) (b ∷ flips) (e, none_through a b flips e sorted.0)))

  own_in_order : (flips : List StreamFlip) → own (in_order flips) ≡ in_order (own flips)
  unfolding in_order
  own_in_order [] = refl
  own_in_order (a ∷ flips) = by_test (is_of_stream stream a) refl (own_in_order flips) where
    by_test : (test : Bool) → is_of_stream stream a ≡ test → own (in_order flips) ≡ in_order (own flips) → own (put_in_order a (in_order flips)) ≡ in_order (if test then a ∷ own flips else own flips)
    by_test true e rest = put_own a (in_order flips) e (sorted_all flips) ∙ ap (put_in_order a) rest
    by_test false e rest = put_other a (in_order flips) e ∙ rest

-- ---- two lists in order

heads : (a b : StreamFlip) (xs ys : List StreamFlip) → a ∷ xs ≡ b ∷ ys → (a ≡ b) × (xs ≡ ys)
heads a b xs ys e = (cc, cc)

none_empty : (a : StreamFlip) (xs : List StreamFlip) → (let l : List StreamFlip = [] in l ≡ a ∷ xs) → ⊥
none_empty a xs e = cc

-- the first flip of one list isn't before that of the other, if the streams differ
not_ahead : (a b : StreamFlip) (xs ys : List StreamFlip) → NoneBefore b ys → is_of_stream a.stream b ≡ false → flips_of_stream a.stream (a ∷ xs) ≡ flips_of_stream a.stream (b ∷ ys) → comes_before a b ≡ false
not_ahead a b xs ys none other e =
    let P : StreamFlip → Type 0 = λ c. comes_before c b ≡ false in
    let same : a ∷ flips_of_stream a.stream xs ≡ flips_of_stream a.stream ys = sym (own_first a.stream a xs (eq-eqb a.stream a.stream refl)) ∙ (e ∙ own_other a.stream b ys other) in
    (subst (AllByRecursion P) (sym same) (all_kept P (is_of_stream a.stream) ys none)).0

sorted_one : (xs ys : List StreamFlip) → Sorted xs → Sorted ys → ((stream : ℕ) → flips_of_stream stream xs ≡ flips_of_stream stream ys) → xs ≡ ys
sorted_one [] [] sx sy same = refl
sorted_one [] (b ∷ ys) sx sy same = absurd (none_empty b _ (same b.stream ∙ own_first b.stream b ys (eq-eqb b.stream b.stream refl)))
sorted_one (a ∷ xs) [] sx sy same = absurd (none_empty a _ (sym (same a.stream) ∙ own_first a.stream a xs (eq-eqb a.stream a.stream refl)))
sorted_one (a ∷ xs) (b ∷ ys) sx sy same = by_test (b.stream == a.stream) refl (sorted_one xs ys sx.1 sy.1) where
  first_same : (b.stream == a.stream) ≡ true → a ≡ b
  first_same e = (heads a b _ _ (sym (own_first a.stream a xs (eq-eqb a.stream a.stream refl)) ∙ (same a.stream ∙ own_first a.stream b ys e))).0

  rest_same : a ≡ b → (stream : ℕ) → flips_of_stream stream xs ≡ flips_of_stream stream ys
  rest_same at stream = by_stream (a.stream == stream) refl where
    by_stream : (test : Bool) → (a.stream == stream) ≡ test → flips_of_stream stream xs ≡ flips_of_stream stream ys
    by_stream true e =
        let there : (b.stream == stream) ≡ true = ap (λ (f : StreamFlip). f.stream == stream) (sym at) ∙ e in
        (heads a b _ _ (sym (own_first stream a xs e) ∙ (same stream ∙ own_first stream b ys there))).1
    by_stream false e =
        let there : (b.stream == stream) ≡ false = ap (λ (f : StreamFlip). f.stream == stream) (sym at) ∙ e in
        sym (own_other stream a xs e) ∙ (same stream ∙ own_other stream b ys there)

  by_test : (test : Bool) → (b.stream == a.stream) ≡ test → (((stream : ℕ) → flips_of_stream stream xs ≡ flips_of_stream stream ys) → xs ≡ ys) → a ∷ xs ≡ b ∷ ys
  by_test true e rest = let at = first_same e in let later = rest (rest_same at) in λ i. at i ∷ later i
  by_test false e rest =
      let back : (a.stream == b.stream) ≡ false = grind (arith, nat_tests) in
      let one = not_ahead a b xs ys sy.0 e (same a.stream) in
      let other = not_ahead b a ys xs sx.0 back (sym (same b.stream)) in
      let streams : b.stream ≡ a.stream = sym (one_stream a.time a.stream b.time b.stream one other) in
      absurd (false≢true (sym e ∙ eq-eqb b.stream a.stream streams))

pub streams_settle_the_text : StreamsSettleTheText
streams_settle_the_text one other same =
    ap (λ flips. flat_map flip_text flips)
    (sorted_one (in_order one) (in_order other) (sorted_all one) (sorted_all other) (λ stream. own_in_order stream one ∙ (ap in_order (same stream) ∙ sym (own_in_order stream other))))
