-- Blocks of small levels have a spelling.
use Rattle.std.proofs.Common.{◌≡◌, ◌≢◌, ℕ, zero, suc, ◌+◌, ◌-◌, ◌^◌, ◌<◌, ◌≤◌, List, [], ◌∷◌, ◌++◌, length, get_or, drop, replicate, reverse, sum, min, ℤ, pos, negsuc, unsigned_abs, refl, sym, ap, ◌∙◌, subst, arith, inl, inr, le-ltb, lt-ltb}
use Rattle.std.proofs.lemmas.Bool.{cases_eq, cases_lt}
use Rattle.std.proofs.lemmas.Bool.Decides.{nat_tests}
use Rattle.std.proofs.lemmas.List.Sums.{sum_by-cons, sum_by_push}
use Rattle.std.proofs.lemmas.List.{get_or-append_right, get_or-replicate, get_or-reverse, get_or_past, length-append, length-replicate, length-reverse, nil_from_length}
use Rattle.std.specs.List.{All}
use Rattle.std.proofs.lemmas.List.Elements.{All-cons, All-drop, All-head, All-nil, All-tail}
use Rattle.cb_tables.specs.CoeffToken.{most_levels}
use Rattle.cb_tables.specs.RunBefore.{longest_run}
use Rattle.cavlc.specs.Blocks.{HasRunCode, HasSpelling, left_behind, token_list}
use Rattle.cavlc.specs.Coefficients.{gaps, leading_ones, levels, nonzero, runs, total_coeff, total_zeros, trailing_ones}
use Rattle.cavlc.specs.Levels.{HasLevelCode, escape, first_level, level_code, next_level, suffix_length_behind}
use Rattle.cavlc.specs.Parts.{IsOne}
use Rattle.cavlc.specs.Turns.{AreInTurn}
use Rattle.cavlc.proofs.CoefficientLemmas.{gaps-all_zeros, gaps-level, gaps-zero, length-levels, length-runs, nonzero-all_zeros, nonzero-level, nonzero-zero, reverse-cons}
use Rattle.cavlc.proofs.OnesLemmas.{leading_none, leading_one, leading_other}

abbrev pub IsFew : ℤ → Type 0
IsFew level = unsigned_abs level ≤ 3

-- A block of so many small levels, with zeros behind them.
pub record IsSmall (most : ℕ) (block : List ℤ) : Type 0 where
  pub front : List ℤ
  pub size : length front ≡ most
  pub few : All IsFew front
  pub parts : block ≡ front ++ replicate (16 - length front) (pos 0)

-- ---- how many levels and zeros there are

sum-cons : (x : ℕ) (xs : List ℕ) → sum (x ∷ xs) ≡ x + sum xs
sum-cons x xs = sum_by-cons (λ (y : ℕ). y) x xs

no_levels : (zeros before : ℕ) → sum (gaps before (replicate zeros (pos 0))) + length (nonzero (replicate zeros (pos 0))) ≡ 0
no_levels zeros before = rw (gaps-all_zeros zeros before, nonzero-all_zeros zeros) refl

room : (front : List ℤ) (zeros before : ℕ) → sum (gaps before (front ++ replicate zeros (pos 0))) + length (nonzero (front ++ replicate zeros (pos 0))) ≤ before + length front
room [] zeros before = omega (arith, no_levels zeros before)
room (pos zero ∷ front) zeros before =
    let c = front ++ replicate zeros (pos 0) in
    omega (arith, ap sum (gaps-zero before c), ap length (nonzero-zero c), room front zeros (suc before))
room (pos (suc n) ∷ front) zeros before =
    let c = front ++ replicate zeros (pos 0) in
    let other : pos (suc n) ≢ pos 0 = λ e. cc in
    omega (arith, ap sum (gaps-level before (pos (suc n)) c other), sum-cons before (gaps 0 c), ap length (nonzero-level (pos (suc n)) c other), room front zeros 0)
room (negsuc n ∷ front) zeros before =
    let c = front ++ replicate zeros (pos 0) in
    let other : negsuc n ≢ pos 0 = λ e. cc in
    omega (arith, ap sum (gaps-level before (negsuc n) c other), sum-cons before (gaps 0 c), ap length (nonzero-level (negsuc n) c other), room front zeros 0)

-- ---- the levels

abbrev IsLevel : ℤ → Type 0
IsLevel level = (level ≢ pos 0) × IsFew level

some_levels : (front : List ℤ) (zeros : ℕ) → All IsFew front → All IsLevel (nonzero (front ++ replicate zeros (pos 0)))
some_levels [] zeros h = subst (λ (x : List ℤ). All IsLevel x) (sym (nonzero-all_zeros zeros)) (All-nil IsLevel)
some_levels (pos zero ∷ front) zeros h =
    subst (λ (x : List ℤ). All IsLevel x) (sym (nonzero-zero (front ++ replicate zeros (pos 0)))) (some_levels front zeros (All-tail IsFew (pos zero) front h))
some_levels (pos (suc n) ∷ front) zeros h =
    let other : pos (suc n) ≢ pos 0 = λ e. cc in
    let c = front ++ replicate zeros (pos 0) in
    subst (λ (x : List ℤ). All IsLevel x) (sym (nonzero-level (pos (suc n)) c other))
    (All-cons IsLevel (pos (suc n)) (nonzero c) (other, All-head IsFew (pos (suc n)) front h) (some_levels front zeros (All-tail IsFew (pos (suc n)) front h)))
some_levels (negsuc n ∷ front) zeros h =
    let other : negsuc n ≢ pos 0 = λ e. cc in
    let c = front ++ replicate zeros (pos 0) in
    subst (λ (x : List ℤ). All IsLevel x) (sym (nonzero-level (negsuc n) c other))
    (All-cons IsLevel (negsuc n) (nonzero c) (other, All-head IsFew (negsuc n) front h) (some_levels front zeros (All-tail IsFew (negsuc n) front h)))

reversed : (xs : List ℤ) → All IsLevel xs → All IsLevel (reverse xs)
reversed xs h i d below =
    let within : i < length xs = omega (arith, below, length-reverse xs) in
    subst IsLevel (sym (get_or-reverse xs i d within)) (h (length xs - 1 - i) d (omega (arith, within)))

escape_some : (s : ℕ) → 8 < escape s + 2 ^ 12
escape_some s = omega arith

few_code : (l : ℤ) → IsFew l → level_code l ≤ 5
few_code (pos n) h = omega (arith, h)
few_code (negsuc n) h = omega (arith, h)

coded : (suffix least : ℕ) (l : ℤ) → IsLevel l → least ≤ level_code l → HasLevelCode (record { suffix_length = suffix; least = least }) l
coded suffix least l is fits = record { nonzero = is.0; least = fits; prefix = omega (arith, few_code l is.1, escape_some suffix) }

further : (suffix : ℕ) (ls : List ℤ) → All IsLevel ls → AreInTurn HasLevelCode next_level (record { suffix_length = suffix; least = 0 }) ls
unfolding AreInTurn
further suffix [] h = tt
further suffix (l ∷ ls) h = (coded suffix 0 l (All-head IsLevel l ls h) (omega arith), further (suffix_length_behind suffix l) ls (All-tail IsLevel l ls h))

-- a level that is no one has a levelCode of at least 2
two_of : (l : ℤ) → IsLevel l → (IsOne l → ⊥) → 2 ≤ level_code l
two_of (pos zero) is isnt = absurd (is.0 refl)
two_of (pos (suc n)) is isnt = let some : suc n ≢ 1 = λ e. isnt e in omega (arith, some)
two_of (negsuc n) is isnt = let some : suc n ≢ 1 = λ e. isnt e in omega (arith, some)

-- the first of the levels behind the leading ones
behind_ones : (ls : List ℤ) (l : ℤ) (rest : List ℤ) → drop (leading_ones ls) ls ≡ l ∷ rest → IsOne l → ⊥
behind_ones [] l rest e one = let wrong : [] ≡ l ∷ rest = ap (λ (k : ℕ). drop k []) (sym leading_none) ∙ e in cc
behind_ones (x ∷ ls) l rest e one =
    elim (cases_eq (unsigned_abs x) 1) [
      | inl is ↦ behind_ones ls l rest (sym (ap (λ (k : ℕ). drop k (x ∷ ls)) (leading_one x ls is)) ∙ e) one
      | inr isnt ↦
          let all : x ∷ ls ≡ l ∷ rest = sym (ap (λ (k : ℕ). drop k (x ∷ ls)) (leading_other x ls isnt)) ∙ e in
          let same : x ≡ l = cc in
          isnt (ap unsigned_abs same ∙ one)
    ]

least_few : (total ones : ℕ) → ones < 3 → (first_level total ones).least ≡ 2
least_few total ones h = rw (lt-ltb ones 3 h) refl

least_three : (total ones : ℕ) → 3 ≤ ones → (first_level total ones).least ≡ 0
least_three total ones h = rw (le-ltb ones 3 h) refl

codes_behind : (total ones : ℕ) (ls behind : List ℤ) → ones ≡ min 3 (leading_ones ls) → drop ones ls ≡ behind → All IsLevel behind
    → AreInTurn HasLevelCode next_level (first_level total ones) behind
unfolding AreInTurn
codes_behind total ones ls [] o e h = tt
codes_behind total ones ls (l ∷ rest) o e h =
    let is : IsLevel l = All-head IsLevel l rest h in
    let least : (first_level total ones).least ≤ level_code l = elim (cases_lt ones 3) [
      | inl few ↦
          let lead : ones ≡ leading_ones ls = omega (arith, few, o) in
          let isnt : IsOne l → ⊥ = behind_ones ls l rest (ap (λ (k : ℕ). drop k ls) (sym lead) ∙ e) in
          omega (arith, least_few total ones few, two_of l is isnt)
      | inr all ↦ omega (arith, least_three total ones all)
    ] in
    (coded (first_level total ones).suffix_length (first_level total ones).least l is least, further (suffix_length_behind (first_level total ones).suffix_length l) rest (All-tail IsLevel l rest h))

-- ---- runs

longest : (left run : ℕ) → run ≤ left → left ≤ 14 → run ≤ longest_run left
longest left run h l = grind (arith, nat_tests)

have_runs : (left : ℕ) (rs : List ℕ) → sum rs ≤ left → left ≤ 14 → AreInTurn HasRunCode left_behind left rs
unfolding AreInTurn
have_runs left [] s l = tt
have_runs left (run ∷ rs) s l =
    let all = sum-cons run rs in
    (record { within = omega (arith, s, all); listed = λ some. record { some = some; most = longest left run (omega (arith, s, all)) l } }, have_runs (left - run) rs (omega (arith, s, all)) (omega (arith, l)))

sum_reversed : (xs : List ℕ) → sum (reverse xs) ≡ sum xs
sum_reversed [] = refl
sum_reversed (x ∷ xs) = ap sum (reverse-cons x xs) ∙ sum_by_push (λ (y : ℕ). y) (reverse xs) x ∙ omega (arith, sum-cons x xs, sum_reversed xs)

sum_behind : (xs : List ℕ) → sum (drop 1 xs) ≤ sum xs
sum_behind [] = omega arith
sum_behind (x ∷ xs) = omega (arith, sum-cons x xs)

few_leading : (ls : List ℤ) → leading_ones ls ≤ length ls
few_leading [] = omega (arith, leading_none)
few_leading (l ∷ ls) = elim (cases_eq (unsigned_abs l) 1) [
  | inl is ↦ omega (arith, leading_one l ls is, few_leading ls)
  | inr isnt ↦ omega (arith, leading_other l ls isnt)
]

list_few : (nc : ℤ) → token_list nc ≤ 4
list_few (pos n) = grind (arith, nat_tests)
list_few (negsuc n) = omega arith

no_runs : (left : ℕ) → AreInTurn HasRunCode left_behind left []
unfolding AreInTurn
no_runs left = tt

runs_spelled : (c : List ℤ) → total_zeros c + total_coeff c ≤ 16 → AreInTurn HasRunCode left_behind (total_zeros c) (runs c)
runs_spelled c r = elim (cases_lt (total_coeff c) 2) [
  | inl one ↦ subst (λ (x : List ℕ). AreInTurn HasRunCode left_behind (total_zeros c) x) (sym (nil_from_length (runs c) (omega (arith, one, length-runs c)))) (no_runs (total_zeros c))
  | inr more ↦ have_runs (total_zeros c) (runs c) (omega (arith, sum_reversed (drop 1 (gaps 0 c)), sum_behind (gaps 0 c))) (omega (arith, more, r))
]

beyond : (front : List ℤ) (place : ℕ) → length front ≤ place → get_or (front ++ replicate (16 - length front) (pos 0)) place (pos 0) ≡ pos 0
beyond front place h =
    get_or-append_right front (replicate (16 - length front) (pos 0)) (length front) place (pos 0) refl h
    ∙ elim (cases_lt (place - length front) (16 - length front)) [
      | inl within ↦ get_or-replicate (16 - length front) (place - length front) (pos 0) (pos 0) within
      | inr past ↦ get_or_past (replicate (16 - length front) (pos 0)) (place - length front) (pos 0) (omega (arith, past, length-replicate (16 - length front) (pos 0)))
    ]

spelled : (nc : ℤ) (most : ℕ) (front : List ℤ) → length front ≡ most → most ≤ 16 → most ≤ most_levels (token_list nc) → All IsFew front
    → HasSpelling nc most (front ++ replicate (16 - length front) (pos 0))
spelled nc most front l few fits h =
    let c = front ++ replicate (16 - length front) (pos 0) in
    let total : total_coeff c ≡ length (nonzero c) = length-levels c in
    let sizes : total_zeros c + total_coeff c ≤ most = omega (arith, room front (16 - length front) 0, total, l) in
    let all : All IsLevel (levels c) = reversed (nonzero c) (some_levels front (16 - length front) h) in
    record {
      size = length-append front (replicate (16 - length front) (pos 0)) ∙ ap (λ (n : ℕ). length front + n) (length-replicate (16 - length front) (pos 0)) ∙ omega (arith, l, few);
      beyond = λ place past. beyond front place (omega (arith, past, l));
      token = record { listed = list_few nc; levels = omega (arith, sizes, fits); trailing = omega (arith, few_leading (levels c)) };
      level_codes = codes_behind (total_coeff c) (trailing_ones c) (levels c) (drop (trailing_ones c) (levels c)) refl refl (All-drop IsLevel (trailing_ones c) (levels c) all);
      zeros_code = record {
        chroma_dc = λ some less is. record { some = some; most = omega (arith, less, is); within = omega (arith, sizes, is) };
        others = λ some less isnt. record { some = some; most = omega (arith, less, few); within = omega (arith, sizes, few) };
      };
      run_codes = runs_spelled c (omega (arith, sizes, few));
    }

-- A block of small levels has a spelling with any nC for blocks of its size.
pub small_spelled : (nc : ℤ) (most : ℕ) (block : List ℤ) → most ≤ 16 → most ≤ most_levels (token_list nc) → IsSmall most block → HasSpelling nc most block
small_spelled nc most block few fits is = subst (λ (c : List ℤ). HasSpelling nc most c) (sym is.parts) (spelled nc most is.front is.size few fits is.few)
