-- What is counted over a history is counted over its callers' items.
use Rattle.std.proofs.Common.{◌≡◌, ℕ, ◌+◌, ◌*◌, ◌≤◌, ◌==◌, ◌||◌, Bool, true, false, cond, List, [], ◌∷◌, filter_map, length, Option, Some, None, refl, ap, sym, ◌∙◌, subst, arith}
use Rattle.std.proofs.lemmas.Bool.{false≢true}
use Rattle.std.proofs.lemmas.List.Sums.{sum_by-cons}
use Rattle.std.specs.List.{AllByRecursion, cons_option, count_by, list_any, sum_by}
use Rattle.std.specs.Option.{is_some, option_map_or}
use Rattle.device_lock.specs.Lists.{same}
use Rattle.device_lock.specs.Numbers.{items_of}
use Rattle.device_lock.proofs.Callers.{same_is}
use Rattle.driver_model.specs.Parts.{given_by, is_among}
use Rattle.driver_model.specs.Passes.{caller_of}
use Rattle.driver_model.specs.declared.items.Item.{Item}
use Rattle.player_laws.specs.Room.{AreMadeBy}

-- ---- over callers

abbrev own : List ℕ → List Item → List Item
own caller items = items_of caller_of caller items

module _ (weight : Item → ℕ) where
  abbrev all_of : List Item → ℕ
  all_of items = sum_by weight items

  abbrev each_of : List (List ℕ) → List Item → ℕ
  each_of callers items = sum_by (λ caller. all_of (own caller items)) callers

  own-cons : (caller : List ℕ) (item : Item) (later : List Item) → all_of (own caller (item ∷ later)) ≡ cond (same caller (caller_of item)) (weight item) 0 + all_of (own caller later)
  own-cons caller item later = by_test (same caller (caller_of item)) where
    by_test : (b : Bool) → all_of (cond b (item ∷ own caller later) (own caller later)) ≡ cond b (weight item) 0 + all_of (own caller later)
    by_test true = sum_by-cons weight item (own caller later)
    by_test false = omega arith

  -- one item more counts for its caller, if that is one of them
  more_of : (callers : List (List ℕ)) (item : Item) (later : List Item) → each_of callers later ≤ each_of callers (item ∷ later)
  more_of [] item later = omega arith
  more_of (caller ∷ callers) item later =
      let rest = more_of callers item later in
      omega (
        arith,
        rest,
        sum_by-cons (λ one. all_of (own one later)) caller callers,
        sum_by-cons (λ one. all_of (own one (item ∷ later))) caller callers,
        own-cons caller item later,
      )

  its_of : (callers : List (List ℕ)) (item : Item) (later : List Item) → list_any (λ caller. same caller (caller_of item)) callers ≡ true → weight item + each_of callers later ≤ each_of callers (item ∷ later)
  its_of [] item later is = absurd (false≢true is)
  its_of (caller ∷ callers) item later is = by_test (same caller (caller_of item)) refl is (its_of callers item later) where
    by_test : (b : Bool) → same caller (caller_of item) ≡ b → (b || list_any (λ one. same one (caller_of item)) callers) ≡ true
        → (list_any (λ one. same one (caller_of item)) callers ≡ true → weight item + each_of callers later ≤ each_of callers (item ∷ later))
        → weight item + each_of (caller ∷ callers) later ≤ each_of (caller ∷ callers) (item ∷ later)
    by_test true e k rest =
        let here : all_of (own caller (item ∷ later)) ≡ weight item + all_of (own caller later) = own-cons caller item later ∙ ap (λ b. cond b (weight item) 0 + all_of (own caller later)) e in
        omega (arith, here, more_of callers item later, sum_by-cons (λ one. all_of (own one later)) caller callers, sum_by-cons (λ one. all_of (own one (item ∷ later))) caller callers)
    by_test false e k rest =
        let there = rest k in
        omega (arith, there, own-cons caller item later, sum_by-cons (λ one. all_of (own one later)) caller callers, sum_by-cons (λ one. all_of (own one (item ∷ later))) caller callers)

  pub spread : ((item : Item) → given_by item ≡ None → weight item ≡ 0) → (callers : List (List ℕ)) (history : List Item) → AreMadeBy callers history → all_of history ≤ each_of callers history
  spread light callers [] made = omega arith
  spread light callers (item ∷ later) made =
      by_name (given_by item) refl made.0 (spread light callers later made.1)
    where
      by_name : (name : Option ℕ) → given_by item ≡ name → (is_some (given_by item) ≡ true → list_any (λ caller. same caller (caller_of item)) callers ≡ true) → all_of later ≤ each_of callers later → all_of (item ∷ later) ≤ each_of callers (item ∷ later)
      by_name None e its rest = omega (arith, rest, light item e, sum_by-cons weight item later, more_of callers item later)
      by_name (Some name) e its rest = omega (arith, rest, sum_by-cons weight item later, its_of callers item later (its (ap is_some e)))

-- ---- names as weights

abbrev pub weigh : (ℕ → Bool) → Item → ℕ
weigh test item = option_map_or (λ name. cond (test name) 1 0) (given_by item) 0

pub weigh-none : (test : ℕ → Bool) (item : Item) → given_by item ≡ None → weigh test item ≡ 0
weigh-none test item none = ap (λ (o : Option ℕ). option_map_or (λ name. cond (test name) 1 0) o 0) none

pub counted_names : (test : ℕ → Bool) (items : List Item) → count_by test (filter_map given_by items) ≡ sum_by (weigh test) items
counted_names test [] = refl
counted_names test (item ∷ later) = by_name (given_by item) (counted_names test later) ∙ sym (sum_by-cons (weigh test) item later) where
  by_name : (name : Option ℕ) → count_by test (filter_map given_by later) ≡ sum_by (weigh test) later
      → count_by test (cons_option name (filter_map given_by later)) ≡ option_map_or (λ n. cond (test n) 1 0) name 0 + sum_by (weigh test) later
  by_name None rest = omega (arith, rest)
  by_name (Some name) rest = omega (arith, rest, sum_by-cons (λ n. cond (test n) 1 0) name (filter_map given_by later))

pub all_counted : (names : List ℕ) → count_by (λ (name : ℕ). true) names ≡ length names
all_counted [] = refl
all_counted (name ∷ names) = omega (arith, all_counted names, sum_by-cons (λ (n : ℕ). cond true 1 0) name names)

-- ---- over names

pub no_more_names : (P Q : ℕ → Bool) (names : List ℕ) → ((name : ℕ) → is_among names name ≡ true → P name ≡ true → Q name ≡ true) → count_by P names ≤ count_by Q names
no_more_names P Q [] follows = omega arith
no_more_names P Q (name ∷ names) follows =
    let rest = no_more_names P Q names (λ other among. follows other (behind (name == other) (is_among names other) among)) in
    let here = at_most (P name) (Q name) (follows name (first name (is_among names name))) in
    omega (arith, rest, here, sum_by-cons (λ n. cond (P n) 1 0) name names, sum_by-cons (λ n. cond (Q n) 1 0) name names)
  where
    at_most : (p q : Bool) → (p ≡ true → q ≡ true) → cond p 1 0 ≤ cond q 1 0
    at_most false q is = omega arith
    at_most true q is = let e : q ≡ true = is refl in subst (λ b. 1 ≤ cond b 1 0) (sym e) (omega arith)

    behind : (a b : Bool) → b ≡ true → (a || b) ≡ true
    behind true b is = refl
    behind false b is = is

    first : (n : ℕ) (b : Bool) → ((n == n) || b) ≡ true
    first n b = let is : (n == n) ≡ true = eq_self n in ap (λ t. t || b) is where
      eq_self : (m : ℕ) → (m == m) ≡ true
      eq_self m = let e : m ≡ m = refl in eq_test m m e where
        eq_test : (a b : ℕ) → a ≡ b → (a == b) ≡ true
        eq_test a b e = grind arith

-- the names that a caller's items gave are names that the history gave
pub own_among : (caller : List ℕ) (history : List Item) (name : ℕ) → is_among (filter_map given_by (own caller history)) name ≡ true → is_among (filter_map given_by history) name ≡ true
own_among caller [] name is = is
own_among caller (item ∷ later) name is = by_test (same caller (caller_of item)) is (own_among caller later name) where
  more : (given : Option ℕ) (names : List ℕ) → is_among names name ≡ true → is_among (cons_option given names) name ≡ true
  more None names k = k
  more (Some one) names k = by_first (one == name) where
    by_first : (b : Bool) → (b || is_among names name) ≡ true
    by_first true = refl
    by_first false = k

  both : (given : Option ℕ) (some all : List ℕ) → (is_among some name ≡ true → is_among all name ≡ true) → is_among (cons_option given some) name ≡ true → is_among (cons_option given all) name ≡ true
  both None some all follows k = follows k
  both (Some one) some all follows k = by_first (one == name) k where
    by_first : (b : Bool) → (b || is_among some name) ≡ true → (b || is_among all name) ≡ true
    by_first true j = refl
    by_first false j = follows j

  by_test : (b : Bool) → is_among (filter_map given_by (cond b (item ∷ own caller later) (own caller later))) name ≡ true → (is_among (filter_map given_by (own caller later)) name ≡ true → is_among (filter_map given_by later) name ≡ true)
      → is_among (filter_map given_by (item ∷ later)) name ≡ true
  by_test true k rest = both (given_by item) (filter_map given_by (own caller later)) (filter_map given_by later) rest k
  by_test false k rest = more (given_by item) (filter_map given_by later) (rest k)

-- ---- bounds

pub sum_at_most : (f : List ℕ → ℕ) (most : ℕ) (callers : List (List ℕ)) → AllByRecursion (λ caller. f caller ≤ most) callers → sum_by f callers ≤ most * length callers
sum_at_most f most [] all = omega arith
sum_at_most f most (caller ∷ callers) all =
    let rest = sum_at_most f most callers all.1 in
    let here = all.0 in
    let product : most * length (caller ∷ callers) ≡ most + most * length callers = omega arith in
    omega (arith, rest, here, product, sum_by-cons f caller callers)

-- where one of them has none, it is one less
pub sum_below : (f : List ℕ → ℕ) (callers : List (List ℕ)) (one : List ℕ) → AllByRecursion (λ caller. f caller ≤ 1) callers → list_any (λ other. same other one) callers ≡ true → f one ≡ 0 → sum_by f callers + 1 ≤ length callers
sum_below f [] one all is none = absurd (false≢true is)
sum_below f (caller ∷ callers) one all is none = by_test (same caller one) refl is (λ k. sum_below f callers one all.1 k none) where
  by_test : (b : Bool) → same caller one ≡ b → (b || list_any (λ other. same other one) callers) ≡ true → (list_any (λ other. same other one) callers ≡ true → sum_by f callers + 1 ≤ length callers) → sum_by f (caller ∷ callers) + 1 ≤ length (caller ∷ callers)
  by_test true e k rest =
      let zero_here : f caller ≡ 0 = ap f (same_is caller one e) ∙ none in
      let others = sum_at_most f 1 callers all.1 in
      omega (arith, zero_here, others, sum_by-cons f caller callers)
  by_test false e k rest =
      let others = rest k in
      let here = all.0 in
      omega (arith, others, here, sum_by-cons f caller callers)
