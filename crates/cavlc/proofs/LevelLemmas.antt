-- The levels of a block: the signs of the trailing ones, and the levels behind them.
use Rattle.std.proofs.Common.{◌≡◌, ℕ, suc, ◌+◌, ◌-◌, ◌*◌, ◌/◌, ◌%◌, ◌^◌, ◌<◌, ◌≤◌, Bool, true, false, List, [], ◌∷◌, ◌++◌, length, take, drop, set, map, max, min, cond, eqb, ltb, ltb-true, ◌&&◌, refl, sym, ap, ap₂, ◌∙◌, subst, arith, append_assoc, ℤ, pos, negsuc, unsigned_abs}
use Rattle.std.specs.List.{All}
use Rattle.std.proofs.lemmas.List.{drop-append-le, length-drop, length-map, length-take, length-take-le, take-take, take_more_set, take-append-drop, map-append, drop_all}
use Rattle.bit_io.proofs.LawLemmas.{same_front}
use Rattle.bit_io.proofs.NumberLemmas.{length-u, number-lt, u-number}
use Rattle.bit_io.specs.Bits.{u}
use Rattle.bit_io.specs.Codewords.{IsU}
use Rattle.bit_io.specs.Numbers.{number}
use Rattle.bit_io.specs.Reads.{BeginsNone, IsPrefixFree}
use Rattle.cavlc.proofs.TurnLemmas.{AreInTurn-nil, AreInTurn-push, none_in_turn, read_more, state_behind-push, turns_prefix_free}
use Rattle.cavlc.proofs.WordLemmas.{level_prefix_free}
use Rattle.cavlc.specs.declared.levels.LevelState.{LevelState}
use Rattle.cavlc.specs.Levels.{HasLevelCode, first_level, level_bits, levels_bits, next_level, sign}
use Rattle.cavlc.specs.Parts.{AreLevels, IsOne}
use Rattle.cavlc.specs.Turns.{AreInTurn, in_turn, state_behind}

abbrev pub further_bits : LevelState → List ℤ → List Bool
further_bits state levels = in_turn level_bits next_level state levels

abbrev pub HaveCodes : LevelState → List ℤ → Type 0
HaveCodes state levels = AreInTurn HasLevelCode next_level state levels

abbrev pub level_behind : LevelState → List ℤ → LevelState
level_behind state levels = state_behind next_level state levels

pub levels_bits_is : (total ones : ℕ) (levels : List ℤ) → levels_bits total ones levels ≡ map sign (take ones levels) ++ further_bits (first_level total ones) (drop ones levels)
unfolding levels_bits
levels_bits_is total ones levels = refl

-- one level more behind the trailing ones
pub further_more : (levels : List ℤ) (ones i : ℕ) (level : ℤ) → ones ≤ i → i < length levels → drop ones (take (i + 1) (set levels i level)) ≡ drop ones (take i levels) ++ level ∷ []
further_more levels ones i level h k =
    let long : ones ≤ length (take i levels) = omega (arith, length-take-le i levels (omega arith)) in
    ap (drop ones) (take_more_set levels i level k) ∙ drop-append-le ones (take i levels) (level ∷ []) long

pub further_none : (levels : List ℤ) (ones : ℕ) → drop ones (take ones levels) ≡ []
further_none levels ones = drop_all ones (take ones levels) (omega (arith, length-take ones levels))

-- signs

pub signs_at : (total ones : ℕ) (levels : List ℤ) → AreLevels total ones levels → length (map sign (take ones levels)) ≡ ones
signs_at total ones levels h =
    let few : ones ≤ min 3 total = h.few in
    length-map (take ones levels) sign ∙ length-take-le ones levels (omega (arith, h.size))

-- Where no number's bits begin the bits, no signs do.
pub no_signs : (total ones : ℕ) (bits : List Bool) → BeginsNone (IsU ones) (λ v. u v ones) bits → BeginsNone (AreLevels total ones) (levels_bits total ones) bits
no_signs total ones bits none levels rest h e =
    let signs = map sign (take ones levels) in
    let further = further_bits (first_level total ones) (drop ones levels) in
    let long = signs_at total ones levels h in
    let word : u (number signs) ones ≡ signs = ap (u (number signs)) (sym long) ∙ u-number signs in
    none (number signs) (further ++ rest) (subst (λ (x : ℕ). number signs < 2 ^ x) long (number-lt signs))
    (e ∙ ap (λ (x : List Bool). x ++ rest) (levels_bits_is total ones levels) ∙ append_assoc signs further rest ∙ ap (λ (x : List Bool). x ++ (further ++ rest)) (sym word))

-- What is behind the signs is the further levels.
pub behind_signs : (total ones v : ℕ) (levels : List ℤ) (old mid rest : List Bool) → AreLevels total ones levels → old ≡ u v ones ++ mid → old ≡ levels_bits total ones levels ++ rest
    → (u v ones ≡ map sign (take ones levels)) × (mid ≡ further_bits (first_level total ones) (drop ones levels) ++ rest)
behind_signs total ones v levels old mid rest h e f =
    let signs = map sign (take ones levels) in
    let further = further_bits (first_level total ones) (drop ones levels) in
    same_front ones (u v ones) signs mid (further ++ rest) (length-u v ones) (signs_at total ones levels h)
    (sym e ∙ f ∙ ap (λ (x : List Bool). x ++ rest) (levels_bits_is total ones levels) ∙ append_assoc signs further rest)

-- Some levels have been read behind the signs, and none can be read behind them.
pub no_levels : (total ones v : ℕ) (read : List ℤ) (old mid now : List Bool) → old ≡ u v ones ++ mid → mid ≡ further_bits (first_level total ones) read ++ now
    → HaveCodes (first_level total ones) read → length read + ones < total
    → BeginsNone (HasLevelCode (level_behind (first_level total ones) read)) (level_bits (level_behind (first_level total ones) read)) now
    → BeginsNone (AreLevels total ones) (levels_bits total ones) old
no_levels total ones v read old mid now e f are fewer none levels rest h g =
    let behind = behind_signs total ones v levels old mid rest h e g in
    none_in_turn HasLevelCode level_bits next_level level_prefix_free (first_level total ones) read (drop ones levels) mid now rest
    (omega (arith, length-drop ones levels, h.size)) are f none h.codes behind.1

pub levels_are : (total ones v : ℕ) (levels : List ℤ) (old mid now : List Bool) → ones ≤ 3 → ones ≤ total → total ≤ length levels
    → map sign (take ones levels) ≡ u v ones → All IsOne (take ones levels)
    → old ≡ u v ones ++ mid → mid ≡ further_bits (first_level total ones) (drop ones (take total levels)) ++ now
    → HaveCodes (first_level total ones) (drop ones (take total levels))
    → AreLevels total ones (take total levels) × (old ≡ levels_bits total ones (take total levels) ++ now)
levels_are total ones v levels old mid now few within long signs each e f are =
    let front : take ones (take total levels) ≡ take ones levels = take-take ones total levels within in
    let further = further_bits (first_level total ones) (drop ones (take total levels)) in (
      record {
        size = length-take-le total levels long;
        few = omega arith;
        each = subst (All IsOne) (sym front) each;
        codes = are;
      },
      e ∙ ap (λ (x : List Bool). u v ones ++ x) f ∙ sym (append_assoc (u v ones) further now)
          ∙ ap (λ (x : List Bool). x ++ now) (ap (λ (x : List Bool). x ++ further) (sym signs ∙ ap (map sign) (sym front)) ∙ sym (levels_bits_is total ones (take total levels))),
    )

-- Trailing ones with the same signs are the same.
one_same : (l m : ℤ) → IsOne l → IsOne m → sign l ≡ sign m → l ≡ m
one_same (pos a) (pos b) h k e = ap pos (h ∙ sym k)
one_same (pos a) (negsuc b) h k e = cc
one_same (negsuc a) (pos b) h k e = cc
one_same (negsuc a) (negsuc b) h k e = ap negsuc (omega arith)

ones_same : (ls ms : List ℤ) → All IsOne ls → All IsOne ms → map sign ls ≡ map sign ms → ls ≡ ms
ones_same [] [] h k e = refl
ones_same [] (m ∷ ms) h k e = cc
ones_same (l ∷ ls) [] h k e = cc
ones_same (l ∷ ls) (m ∷ ms) h k e =
    let first : sign l ≡ sign m = cc in
    let others : map sign ls ≡ map sign ms = cc in
    ap₂ (λ (x : ℤ) (xs : List ℤ). x ∷ xs) (one_same l m (h 0 (pos 0) (omega arith)) (k 0 (pos 0) (omega arith)) first)
    (ones_same ls ms (λ i d below. h (suc i) d (omega arith)) (λ i d below. k (suc i) d (omega arith)) others)

pub levels_prefix_free : (total ones : ℕ) → IsPrefixFree (AreLevels total ones) (levels_bits total ones)
levels_prefix_free total ones ls ms after_l after_m h k e =
    let front = map sign (take ones ls) in
    let further = further_bits (first_level total ones) (drop ones ls) in
    let word : u (number front) ones ≡ front = ap (u (number front)) (sym (signs_at total ones ls h)) ∙ u-number front in
    let start : levels_bits total ones ls ++ after_l ≡ u (number front) ones ++ (further ++ after_l) =
    ap (λ (x : List Bool). x ++ after_l) (levels_bits_is total ones ls) ∙ append_assoc front further after_l ∙ ap (λ (x : List Bool). x ++ (further ++ after_l)) (sym word) in
    let behind = behind_signs total ones (number front) ms (levels_bits total ones ls ++ after_l) (further ++ after_l) after_m k start e in
    let rest = turns_prefix_free HasLevelCode level_bits next_level level_prefix_free (first_level total ones) (drop ones ls) (drop ones ms) after_l after_m
    (omega (arith, length-drop ones ls, length-drop ones ms, h.size, k.size)) h.codes k.codes behind.1 in
    let signs : take ones ls ≡ take ones ms = ones_same (take ones ls) (take ones ms) h.each k.each (sym word ∙ behind.0) in
    (sym (take-append-drop ones ls) ∙ ap₂ (λ (x y : List ℤ). x ++ y) signs rest.0 ∙ take-append-drop ones ms, rest.1)

-- one sign more
pub sign_more : (levels : List ℤ) (i ones signs : ℕ) (level : ℤ) → i < length levels → i < ones
    → sign level ≡ eqb (signs / 2 ^ (ones - 1 - i) % 2) 1
    → map sign (take i levels) ++ u signs (ones - i) ≡ u signs ones
    → map sign (take (i + 1) (set levels i level)) ++ u signs (ones - (i + 1)) ≡ u signs ones
unfolding u
sign_more levels i ones signs level h k is before =
    let j = ones - 1 - i in
    let here : ones - i ≡ suc j = omega arith in
    let next : ones - (i + 1) ≡ j = omega arith in
    ap₂ (λ (x : List ℤ) (y : ℕ). map sign x ++ u signs y) (take_more_set levels i level h) next
    ∙ ap (λ (x : List Bool). x ++ u signs j) (map-append sign (take i levels) (level ∷ []))
    ∙ append_assoc (map sign (take i levels)) (sign level ∷ []) (u signs j)
    ∙ ap (λ (x : Bool). map sign (take i levels) ++ x ∷ u signs j) is
    ∙ sym (ap (λ (x : ℕ). map sign (take i levels) ++ u signs x) here)
    ∙ before

-- reading the levels behind the trailing ones

module _ (start : LevelState) (levels : List ℤ) (ones i : ℕ) (level : ℤ) (state : LevelState) (from : ones ≤ i) (within : i < length levels) (is : state ≡ level_behind start (drop ones (take i levels))) where
  pub codes_more : HaveCodes start (drop ones (take i levels)) → HasLevelCode state level → HaveCodes start (drop ones (take (i + 1) (set levels i level)))
  codes_more h k =
      subst (HaveCodes start) (sym (further_more levels ones i level from within))
      (AreInTurn-push HasLevelCode level_bits next_level start (drop ones (take i levels)) level h (subst (λ (x : LevelState). HasLevelCode x level) is k))

  pub behind_more : (next : LevelState) → next ≡ next_level state level → next ≡ level_behind start (drop ones (take (i + 1) (set levels i level)))
  behind_more next e =
      e ∙ ap (λ (x : LevelState). next_level x level) is ∙ sym (state_behind-push HasLevelCode level_bits next_level start (drop ones (take i levels)) level)
      ∙ ap (level_behind start) (sym (further_more levels ones i level from within))

  pub read_level_more : (old mid new : List Bool) → old ≡ further_bits start (drop ones (take i levels)) ++ mid → mid ≡ level_bits state level ++ new
      → old ≡ further_bits start (drop ones (take (i + 1) (set levels i level))) ++ new
  read_level_more old mid new e f =
      read_more HasLevelCode level_bits next_level start (drop ones (take i levels)) level old mid new e (f ∙ ap (λ (x : LevelState). level_bits x level ++ new) is)
      ∙ ap (λ (x : List ℤ). further_bits start x ++ new) (sym (further_more levels ones i level from within))

module _ (start : LevelState) (levels : List ℤ) (ones : ℕ) where
  pub codes_none : HaveCodes start (drop ones (take ones levels))
  codes_none = subst (HaveCodes start) (sym (further_none levels ones)) (AreInTurn-nil HasLevelCode level_bits next_level start)

  pub behind_none : start ≡ level_behind start (drop ones (take ones levels))
  unfolding state_behind
  behind_none = ap (level_behind start) (sym (further_none levels ones))

  pub read_none : (old : List Bool) → old ≡ further_bits start (drop ones (take ones levels)) ++ old
  unfolding in_turn
  read_none old = ap (λ (x : List ℤ). further_bits start x ++ old) (sym (further_none levels ones))

few_first : (b : Bool) → cond b 1 0 ≤ 6
few_first true = omega arith
few_first false = omega arith

few_least : (b : Bool) → cond b 2 0 ≤ 2
few_least true = omega arith
few_least false = omega arith

few_next : (now : ℕ) (below more : Bool) → (below ≡ true → now < 6) → now ≤ 6 → cond (below && more) (now + 1) now ≤ 6
few_next now true true h k = let fewer = h refl in omega arith
few_next now true false h k = k
few_next now false more h k = k

pub first_few : (total ones : ℕ) → ((first_level total ones).suffix_length ≤ 6) × ((first_level total ones).least ≤ 2)
first_few total ones = (few_first (ltb 10 total && ltb ones 3), few_least (ltb ones 3))

pub next_few : (state : LevelState) (level : ℤ) → state.suffix_length ≤ 6 → (next_level state level).suffix_length ≤ 6
next_few state level h =
    let now = max 1 state.suffix_length in
    few_next now (ltb now 6) (ltb (3 * 2 ^ (now - 1)) (unsigned_abs level)) (ltb-true now 6) (omega arith)
