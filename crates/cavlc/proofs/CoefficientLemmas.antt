-- The levels of a block and the zeros before each.
use Rattle.std.proofs.Common.{◌≡◌, ◌≢◌, ℕ, zero, suc, ◌+◌, ◌-◌, ◌<◌, ◌≤◌, List, [], ◌∷◌, ◌++◌, length, get_or, take, drop, set, replicate, reverse, sum, refl, sym, ap, ap₂, ◌∙◌, arith, append_assoc, append-nil, inl, inr, ℤ, pos, negsuc}
use Rattle.std.proofs.lemmas.Bool.{cases_lt}
use Rattle.std.proofs.lemmas.List.{drop-replicate, drop_at, get_or_past, get_or-replicate, get_or-set_other, get_or-take, length-replicate, length-reverse, length-set, length-take-le, replicate-append-replicate, reverse-append, same_lists, set_split, get_or_default}
use Rattle.std.proofs.lemmas.List.Sums.{sum_by-cons}
use Rattle.cavlc.specs.Coefficients.{gaps, levels, nonzero, runs, total_coeff, total_zeros}
use Rattle.cavlc.specs.Parts.{IsPlaced}

pub reverse-cons : {X : Type 0} (x : X) (xs : List X) → reverse (x ∷ xs) ≡ reverse xs ++ x ∷ []
reverse-cons x xs = reverse-append (x ∷ []) xs

pub nonzero-zero : (c : List ℤ) → nonzero (pos 0 ∷ c) ≡ nonzero c
unfolding nonzero
nonzero-zero c = refl

pub nonzero-level : (level : ℤ) (c : List ℤ) → level ≢ pos 0 → nonzero (level ∷ c) ≡ level ∷ nonzero c
unfolding nonzero
nonzero-level (pos zero) c h = absurd (h refl)
nonzero-level (pos (suc n)) c h = refl
nonzero-level (negsuc n) c h = refl

pub gaps-zero : (n : ℕ) (c : List ℤ) → gaps n (pos 0 ∷ c) ≡ gaps (suc n) c
unfolding gaps
gaps-zero n c = refl

pub gaps-level : (n : ℕ) (level : ℤ) (c : List ℤ) → level ≢ pos 0 → gaps n (level ∷ c) ≡ n ∷ gaps 0 c
unfolding gaps
gaps-level n (pos zero) c h = absurd (h refl)
gaps-level n (pos (suc k)) c h = refl
gaps-level n (negsuc k) c h = refl

nonzero-nil : nonzero [] ≡ []
unfolding nonzero
nonzero-nil = refl

gaps-nil : (n : ℕ) → gaps n [] ≡ []
unfolding gaps
gaps-nil n = refl

pub nonzero-zeros : (k : ℕ) (c : List ℤ) → nonzero (replicate k (pos 0) ++ c) ≡ nonzero c
nonzero-zeros zero c = refl
nonzero-zeros (suc k) c = nonzero-zero (replicate k (pos 0) ++ c) ∙ nonzero-zeros k c

pub gaps-zeros : (k n : ℕ) (c : List ℤ) → gaps n (replicate k (pos 0) ++ c) ≡ gaps (n + k) c
gaps-zeros zero n c = ap (λ (x : ℕ). gaps x c) (omega arith)
gaps-zeros (suc k) n c = gaps-zero n (replicate k (pos 0) ++ c) ∙ gaps-zeros k (suc n) c ∙ ap (λ (x : ℕ). gaps x c) (omega arith)

pub nonzero-all_zeros : (k : ℕ) → nonzero (replicate k (pos 0)) ≡ []
nonzero-all_zeros k = ap nonzero (sym (append-nil (replicate k (pos 0)))) ∙ nonzero-zeros k [] ∙ nonzero-nil

pub gaps-all_zeros : (k n : ℕ) → gaps n (replicate k (pos 0)) ≡ []
gaps-all_zeros k n = ap (gaps n) (sym (append-nil (replicate k (pos 0)))) ∙ gaps-zeros k n [] ∙ gaps-nil (n + k)

pub length-gaps : (n : ℕ) (c : List ℤ) → length (gaps n c) ≡ length (nonzero c)
unfolding gaps nonzero
length-gaps n [] = refl
length-gaps n (pos zero ∷ c) = length-gaps (suc n) c
length-gaps n (pos (suc k) ∷ c) = ap suc (length-gaps 0 c)
length-gaps n (negsuc k ∷ c) = ap suc (length-gaps 0 c)

pub length-levels : (c : List ℤ) → length (levels c) ≡ length (nonzero c)
length-levels c = length-reverse (nonzero c)

pub length-runs : (c : List ℤ) → length (runs c) ≡ total_coeff c - 1
length-runs c =
    length-reverse (drop 1 (gaps 0 c)) ∙ shorter (gaps 0 c) ∙ ap (λ (x : ℕ). x - 1) (length-gaps 0 c ∙ sym (length-levels c))
  where
    shorter : (xs : List ℕ) → length (drop 1 xs) ≡ length xs - 1
    shorter [] = refl
    shorter (x ∷ xs) = omega arith

-- a level behind so many zeros
module _ (level : ℤ) (run : ℕ) (c : List ℤ) (other : level ≢ pos 0) where
  abbrev pub behind_zeros : List ℤ
  behind_zeros = replicate run (pos 0) ++ level ∷ c

  pub levels-behind : levels behind_zeros ≡ levels c ++ level ∷ []
  levels-behind = ap reverse (nonzero-zeros run (level ∷ c) ∙ nonzero-level level c other) ∙ reverse-cons level (nonzero c)

  pub gaps-behind : gaps 0 behind_zeros ≡ run ∷ gaps 0 c
  gaps-behind = gaps-zeros run 0 (level ∷ c) ∙ gaps-level (0 + run) level c other ∙ ap (λ (x : ℕ). x ∷ gaps 0 c) (omega arith)

  pub zeros-behind : total_zeros behind_zeros ≡ run + total_zeros c
  zeros-behind = ap sum gaps-behind ∙ sum-cons run (gaps 0 c)
    where
      sum-cons : (x : ℕ) (xs : List ℕ) → sum (x ∷ xs) ≡ x + sum xs
      sum-cons x xs = sum_by-cons (λ x. x) x xs

  pub all_runs-behind : reverse (gaps 0 behind_zeros) ≡ reverse (gaps 0 c) ++ run ∷ []
  all_runs-behind = ap reverse gaps-behind ∙ reverse-cons run (gaps 0 c)

  pub runs-behind : runs behind_zeros ≡ reverse (gaps 0 c)
  runs-behind = ap (λ (x : List ℕ). reverse (drop 1 x)) gaps-behind

-- nothing but zeros stands before the place
abbrev pub AreZerosTo : ℕ → List ℤ → Type 0
AreZerosTo end c = (place : ℕ) → place < end → get_or c place (pos 0) ≡ pos 0

zeros_front : (c : List ℤ) (end : ℕ) → end ≤ length c → AreZerosTo end c → take end c ≡ replicate end (pos 0)
zeros_front c end h zeros =
    same_lists (take end c) (replicate end (pos 0)) (length-take-le end c h ∙ sym (length-replicate end (pos 0)))
    (λ k d below.
    let here : k < end = omega (arith, length-take-le end c h) in
    get_or-take end c k d here ∙ get_or_default c k d (pos 0) (omega arith) ∙ zeros k here ∙ sym (get_or-replicate end k (pos 0) d here))

-- A level is put behind zeros.
pub put_level : (c : List ℤ) (place run : ℕ) (level : ℤ) → place < length c → run ≤ place → AreZerosTo place c
    → drop (place - run) (set c place level) ≡ replicate run (pos 0) ++ level ∷ drop (place + 1) c
put_level c place run level h k zeros =
    let front : take place c ≡ replicate (place - run) (pos 0) ++ replicate run (pos 0) =
    zeros_front c place (omega arith) zeros ∙ ap (λ (x : ℕ). replicate x (pos 0)) (omega arith) ∙ sym (replicate-append-replicate (place - run) run (pos 0)) in
    let more : suc place ≡ place + 1 = omega arith in
    ap (drop (place - run))
    (set_split c place level h ∙ ap₂ (λ (x : List ℤ) (y : ℕ). x ++ level ∷ drop y c) front more ∙ append_assoc (replicate (place - run) (pos 0)) (replicate run (pos 0)) (level ∷ drop (place + 1) c))
    ∙ drop_at (replicate (place - run) (pos 0)) (replicate run (pos 0) ++ level ∷ drop (place + 1) c) (place - run) (length-replicate (place - run) (pos 0))

-- Levels are put at their places: those from the end on are there, and nothing stands before it.
pub record ArePlaced (of_levels : List ℤ) (total zeros left end : ℕ) (c : List ℤ) : Type 0 where
  pub size : length c ≡ 16
  pub before : AreZerosTo end c
  pub same_levels : levels (drop end c) ≡ of_levels
  pub same_zeros : left + total_zeros (drop end c) ≡ zeros
  pub beyond : (place : ℕ) → total + zeros ≤ place → get_or c place (pos 0) ≡ pos 0

pub none_placed : (total zeros end : ℕ) → end ≤ 16 → ArePlaced [] total zeros zeros end (replicate 16 (pos 0))
none_placed total zeros end h =
    let rest : drop end (replicate 16 (pos 0)) ≡ replicate (16 - end) (pos 0) = drop-replicate end 16 (pos 0) in
    record {
      size = length-replicate 16 (pos 0);
      before = λ place below. get_or-replicate 16 place (pos 0) (pos 0) (omega arith);
      same_levels = ap levels rest ∙ ap reverse (nonzero-all_zeros (16 - end));
      same_zeros = ap (λ (x : List ℤ). zeros + total_zeros x) rest ∙ ap (λ (x : List ℕ). zeros + sum x) (gaps-all_zeros (16 - end) 0) ∙ omega arith;
      beyond = λ place past. none_at place;
    }
  where
    none_at : (place : ℕ) → get_or (replicate 16 (pos 0)) place (pos 0) ≡ pos 0
    none_at place = elim (cases_lt place 16) [
      | inl l ↦ get_or-replicate 16 place (pos 0) (pos 0) l
      | inr g ↦ get_or_past (replicate 16 (pos 0)) place (pos 0) (omega (arith, length-replicate 16 (pos 0)))
    ]

-- One level more is placed, and the run before it is known.
module _ (of_levels : List ℤ) (total zeros left place run : ℕ) (c : List ℤ) (level : ℤ) (placed : ArePlaced of_levels total zeros left (place + 1) c) (other : level ≢ pos 0)
    (inside : place < total + zeros) (fits : total + zeros ≤ 16) (few : run ≤ left) (near : run ≤ place) where
  pub more_placed_rest : drop (place - run) (set c place level) ≡ replicate run (pos 0) ++ level ∷ drop (place + 1) c
  more_placed_rest = put_level c place run level (omega (arith, placed.size)) near (λ at below. placed.before at (omega arith))

  pub more_placed : ArePlaced (of_levels ++ level ∷ []) total zeros (left - run) (place - run) (set c place level)
  more_placed = record {
    size = length-set c place level ∙ placed.size;
    before = λ at below. get_or-set_other c place at level (pos 0) (λ e. omega (arith, e)) ∙ placed.before at (omega arith);
    same_levels = ap levels more_placed_rest ∙ levels-behind level run (drop (place + 1) c) other ∙ ap (λ (x : List ℤ). x ++ level ∷ []) placed.same_levels;
    same_zeros = ap (λ (x : List ℤ). (left - run) + total_zeros x) more_placed_rest ∙ ap (λ (x : ℕ). (left - run) + x) (zeros-behind level run (drop (place + 1) c) other) ∙ omega (arith, placed.same_zeros);
    beyond = λ at past. get_or-set_other c place at level (pos 0) (λ e. omega (arith, e)) ∙ placed.beyond at past;
  }

  pub more_runs : reverse (gaps 0 (drop (place - run) (set c place level))) ≡ reverse (gaps 0 (drop (place + 1) c)) ++ run ∷ []
  more_runs = ap (λ (x : List ℤ). reverse (gaps 0 x)) more_placed_rest ∙ all_runs-behind level run (drop (place + 1) c) other

-- The last level is placed, behind all zeros that are left.
module _ (of_levels all_levels : List ℤ) (total zeros left : ℕ) (c : List ℤ) (level : ℤ) (placed : ArePlaced of_levels total zeros left (left + 1) c) (other : level ≢ pos 0)
    (all : of_levels ++ level ∷ [] ≡ all_levels) (long : length all_levels ≡ total) (inside : left < total + zeros) (fits : total + zeros ≤ 16) where
  same_rest : set c left level ≡ replicate left (pos 0) ++ level ∷ drop (left + 1) c
  same_rest =
      let none : left - left ≡ 0 = omega arith in
      ap (λ (x : ℕ). drop x (set c left level)) (sym none)
      ∙ more_placed_rest of_levels total zeros left left left c level placed other inside fits (omega arith) (omega arith)

  pub last_placed : IsPlaced all_levels zeros (set c left level)
  last_placed = record {
    size = length-set c left level ∙ placed.size;
    same_levels = ap levels same_rest ∙ levels-behind level left (drop (left + 1) c) other ∙ ap (λ (x : List ℤ). x ++ level ∷ []) placed.same_levels ∙ all;
    same_zeros = ap total_zeros same_rest ∙ zeros-behind level left (drop (left + 1) c) other ∙ placed.same_zeros;
    beyond = λ at past. get_or-set_other c left at level (pos 0) (λ e. omega (arith, e, long)) ∙ placed.beyond at (omega (arith, long));
  }

  pub last_runs : runs (set c left level) ≡ reverse (gaps 0 (drop (left + 1) c))
  last_runs = ap runs same_rest ∙ runs-behind level left (drop (left + 1) c) other

pub no_runs_placed : (end : ℕ) → [] ≡ reverse (gaps 0 (drop end (replicate 16 (pos 0))))
no_runs_placed end = sym (ap (λ (x : List ℤ). reverse (gaps 0 x)) (drop-replicate end 16 (pos 0)) ∙ ap reverse (gaps-all_zeros (16 - end) 0))

pub runs-all_zeros : runs (replicate 16 (pos 0)) ≡ []
runs-all_zeros = ap (λ (x : List ℕ). reverse (drop 1 x)) (gaps-all_zeros 16 0)

-- the block without levels
pub none_is_placed : (total zeros : ℕ) (all : List ℤ) → total ≡ 0 → zeros ≡ 0 → IsPlaced (take total all) zeros (replicate 16 (pos 0))
none_is_placed total zeros all none no_zeros =
    let no_levels : take total all ≡ [] = ap (λ (x : ℕ). take x all) none in
    let placed = none_placed total zeros 0 (omega arith) in
    record {
      size = placed.size;
      same_levels = placed.same_levels ∙ sym no_levels;
      same_zeros = ap sum (gaps-all_zeros 16 0) ∙ sym no_zeros;
      beyond = λ place past. placed.beyond place (omega (arith, none, no_zeros));
    }
