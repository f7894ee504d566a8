-- The parts of a block's spelling.
use Rattle.std.proofs.Common.{◌≡◌, ℕ, zero, suc, ◌+◌, ◌<◌, ◌≤◌, Bool, List, [], ◌∷◌, ◌++◌, length, get_or, min, sum, refl, sym, ap, ap₂, ◌∙◌, subst, arith, append_assoc, ℤ, pos, negsuc}
use Rattle.std.proofs.lemmas.List.Sums.{sum_by-cons}
use Rattle.bit_io.specs.Reads.{BeginsNone}
use Rattle.cb_tables.specs.CoeffToken.{IsToken}
use Rattle.cavlc.proofs.CoefficientLemmas.{length-gaps, length-levels, length-runs}
use Rattle.cavlc.proofs.ElementLemmas.{token_prefix_free, zeros_prefix_free}
use Rattle.cavlc.proofs.LevelLemmas.{levels_prefix_free}
use Rattle.cavlc.proofs.OnesLemmas.{lead_are_ones, trailing_is}
use Rattle.cavlc.proofs.RunLemmas.{runs_bits}
use Rattle.cavlc.specs.declared.elements.Token.{Token}
use Rattle.cavlc.specs.Blocks.{HasRunCode, HasSpelling, HasZerosCode, block_bits, left_behind, token_bits, token_list, zeros_bits}
use Rattle.cavlc.specs.Coefficients.{gaps, leading_ones, levels, nonzero, runs, total_coeff, total_zeros, trailing_ones}
use Rattle.cavlc.specs.Levels.{HaveLevelCodes, levels_bits}
use Rattle.cavlc.specs.Parts.{AreLevels, AreRuns, IsPlaced, IsZeros}
use Rattle.cavlc.specs.Turns.{AreInTurn}

-- room for the levels and the zeros before them

all_zeros : (c : List ℤ) (n : ℕ) → ((place : ℕ) → get_or c place (pos 0) ≡ pos 0) → (nonzero c ≡ []) × (gaps n c ≡ [])
unfolding nonzero gaps
all_zeros [] n h = (refl, refl)
all_zeros (pos zero ∷ c) n h = all_zeros c (suc n) (λ place. h (suc place))
all_zeros (pos (suc k) ∷ c) n h = let first : pos (suc k) ≡ pos 0 = h 0 in cc
all_zeros (negsuc k ∷ c) n h = let first : negsuc k ≡ pos 0 = h 0 in cc

pub sum-cons : (x : ℕ) (xs : List ℕ) → sum (x ∷ xs) ≡ x + sum xs
sum-cons x xs = sum_by-cons (λ x. x) x xs

room : (c : List ℤ) (n most : ℕ) → ((place : ℕ) → most ≤ place → get_or c place (pos 0) ≡ pos 0) → length (nonzero c) + sum (gaps n c) ≤ n + most
unfolding nonzero gaps
room c n zero h =
    let none = all_zeros c n (λ place. h place (omega arith)) in
    omega (arith, ap length none.0, ap sum none.1)
room [] n (suc m) h = omega arith
room (pos zero ∷ c) n (suc m) h = omega (arith, room c (suc n) m (λ place past. h (suc place) (omega arith)))
room (pos (suc k) ∷ c) n (suc m) h = omega (arith, room c 0 m (λ place past. h (suc place) (omega arith)), sum-cons n (gaps 0 c))
room (negsuc k ∷ c) n (suc m) h = omega (arith, room c 0 m (λ place past. h (suc place) (omega arith)), sum-cons n (gaps 0 c))

-- Without a level there are no zeros before one.
no_zeros : (xs : List ℕ) → length xs ≡ 0 → sum xs ≡ 0
no_zeros [] h = refl
no_zeros (x ∷ xs) h = absurd (omega (arith, h))

-- a block that has a spelling

module _ (nc : ℤ) (most : ℕ) (c : List ℤ) (h : HasSpelling nc most c) where
  pub its_levels : AreLevels (total_coeff c) (trailing_ones c) (levels c)
  its_levels = record {
    size = refl;
    few = h.token.trailing;
    each = lead_are_ones (levels c) (trailing_ones c) (omega arith);
    codes = h.level_codes;
  }

  pub its_zeros : IsZeros most (total_coeff c) (total_zeros c)
  its_zeros = record {
    code = h.zeros_code;
    within = omega (arith, room c 0 most h.beyond, length-levels c);
    none = λ none. no_zeros (gaps 0 c) (length-gaps 0 c ∙ sym (length-levels c) ∙ none);
  }

  pub its_runs : AreRuns (total_coeff c) (total_zeros c) (runs c)
  its_runs = record { size = length-runs c; codes = h.run_codes }

-- what stands behind the elements
abbrev pub behind_zeros : List ℤ → List Bool → List Bool
behind_zeros c rest = runs_bits (total_zeros c) (runs c) ++ rest

abbrev pub behind_levels : ℕ → ℕ → List ℤ → List Bool → List Bool
behind_levels most total c rest = zeros_bits most total (total_zeros c) ++ behind_zeros c rest

abbrev pub behind_token : ℕ → ℕ → ℕ → List ℤ → List Bool → List Bool
behind_token most total ones c rest = levels_bits total ones (levels c) ++ behind_levels most total c rest

pub block_split : (nc : ℤ) (most : ℕ) (c : List ℤ) (rest : List Bool)
    → block_bits nc most c ++ rest ≡ token_bits nc (total_coeff c) (trailing_ones c) ++ behind_token most (total_coeff c) (trailing_ones c) c rest
unfolding block_bits
block_split nc most c rest =
    let t = token_bits nc (total_coeff c) (trailing_ones c) in
    let l = levels_bits (total_coeff c) (trailing_ones c) (levels c) in
    let z = zeros_bits most (total_coeff c) (total_zeros c) in
    let r = runs_bits (total_zeros c) (runs c) in
    append_assoc (t ++ l ++ z) r rest ∙ append_assoc (t ++ l) z (r ++ rest) ∙ append_assoc t l (z ++ (r ++ rest))

-- A token has been read from bits that begin with the block: it is the block's.
pub record IsBehindToken (most total ones : ℕ) (c : List ℤ) (mid rest : List Bool) : Type 0 where
  pub same_total : total ≡ total_coeff c
  pub same_ones : ones ≡ trailing_ones c
  pub of_levels : AreLevels total ones (levels c)
  pub of_zeros : IsZeros most total (total_zeros c)
  pub of_runs : AreRuns total (total_zeros c) (runs c)
  pub bits : mid ≡ behind_token most total ones c rest

pub token_read : (nc : ℤ) (most total ones : ℕ) (c : List ℤ) (old mid rest : List Bool) → IsToken (token_list nc) total ones → old ≡ token_bits nc total ones ++ mid
    → HasSpelling nc most c → old ≡ block_bits nc most c ++ rest → IsBehindToken most total ones c mid rest
token_read nc most total ones c old mid rest is e h f =
    let found : Token = record { total = total; ones = ones } in
    let own : Token = record { total = total_coeff c; ones = trailing_ones c } in
    let free = token_prefix_free nc found own mid (behind_token most (total_coeff c) (trailing_ones c) c rest) is h.token (sym e ∙ f ∙ block_split nc most c rest) in
    let totals : total_coeff c ≡ total = sym (ap (λ (x : Token). x.total) free.0) in
    let ones_same : trailing_ones c ≡ ones = sym (ap (λ (x : Token). x.ones) free.0) in
    record {
      same_total = sym totals;
      same_ones = sym ones_same;
      of_levels = subst (λ (x : ℕ). AreLevels x ones (levels c)) totals (subst (λ (y : ℕ). AreLevels (total_coeff c) y (levels c)) ones_same (its_levels nc most c h));
      of_zeros = subst (λ (x : ℕ). IsZeros most x (total_zeros c)) totals (its_zeros nc most c h);
      of_runs = subst (λ (x : ℕ). AreRuns x (total_zeros c) (runs c)) totals (its_runs nc most c h);
      bits = free.1 ∙ ap₂ (λ (x y : ℕ). behind_token most x y c rest) totals ones_same;
    }

-- Then its levels are read.
pub levels_read : (most total ones : ℕ) (c of_levels : List ℤ) (mid next rest : List Bool) → IsBehindToken most total ones c mid rest → AreLevels total ones of_levels → mid ≡ levels_bits total ones of_levels ++ next
    → (of_levels ≡ levels c) × (next ≡ behind_levels most total c rest)
levels_read most total ones c of_levels mid next rest b are e =
    levels_prefix_free total ones of_levels (levels c) next (behind_levels most total c rest) are b.of_levels (sym e ∙ b.bits)

-- Then the zeros.
pub zeros_read : (most total zeros : ℕ) (c : List ℤ) (next last rest : List Bool) → IsZeros most total zeros → IsZeros most total (total_zeros c) → next ≡ zeros_bits most total zeros ++ last
    → next ≡ behind_levels most total c rest → (zeros ≡ total_zeros c) × (last ≡ behind_zeros c rest)
zeros_read most total zeros c next last rest is own e f = zeros_prefix_free most total zeros (total_zeros c) last (behind_zeros c rest) is own (sym e ∙ f)

-- Nothing that could be a part of a block begins what is left, so no block does.

module _ (nc : ℤ) (most : ℕ) (old : List Bool) where
  pub no_block_token : BeginsNone (λ (token : Token). IsToken (token_list nc) token.total token.ones) (λ (token : Token). token_bits nc token.total token.ones) old → BeginsNone (HasSpelling nc most) (block_bits nc most) old
  no_block_token none c rest h e =
      let own : Token = record { total = total_coeff c; ones = trailing_ones c } in
      none own (behind_token most (total_coeff c) (trailing_ones c) c rest) h.token (e ∙ block_split nc most c rest)

  module _ (total ones : ℕ) (mid : List Bool) (is : IsToken (token_list nc) total ones) (token : old ≡ token_bits nc total ones ++ mid) where
    pub no_block_room : most < total → BeginsNone (HasSpelling nc most) (block_bits nc most) old
    no_block_room beyond c rest h e =
        let b = token_read nc most total ones c old mid rest is token h e in
        let within : total + total_zeros c ≤ most = b.of_zeros.within in
        omega arith

    pub no_block_levels : BeginsNone (AreLevels total ones) (levels_bits total ones) mid → BeginsNone (HasSpelling nc most) (block_bits nc most) old
    no_block_levels none c rest h e =
        let b = token_read nc most total ones c old mid rest is token h e in
        none (levels c) (behind_levels most total c rest) b.of_levels b.bits

    module _ (of_levels : List ℤ) (next : List Bool) (are : AreLevels total ones of_levels) (read : mid ≡ levels_bits total ones of_levels ++ next) where
      pub no_block_zeros : BeginsNone (IsZeros most total) (zeros_bits most total) next → BeginsNone (HasSpelling nc most) (block_bits nc most) old
      no_block_zeros none c rest h e =
          let b = token_read nc most total ones c old mid rest is token h e in
          none (total_zeros c) (behind_zeros c rest) b.of_zeros (levels_read most total ones c of_levels mid next rest b are read).1

      pub no_block_runs : (zeros : ℕ) (last : List Bool) → IsZeros most total zeros → next ≡ zeros_bits most total zeros ++ last → BeginsNone (AreRuns total zeros) (runs_bits zeros) last
          → BeginsNone (HasSpelling nc most) (block_bits nc most) old
      no_block_runs zeros last is_zeros f none c rest h e =
          let b = token_read nc most total ones c old mid rest is token h e in
          let z = zeros_read most total zeros c next last rest is_zeros b.of_zeros f (levels_read most total ones c of_levels mid next rest b are read).1 in
          let back : total_zeros c ≡ zeros = sym z.0 in
          none (runs c) rest (subst (λ (x : ℕ). AreRuns total x (runs c)) back b.of_runs) (z.1 ∙ ap (λ (x : ℕ). runs_bits x (runs c) ++ rest) back)

      -- All parts have been read.
      pub block_read : (zeros : ℕ) (last new : List Bool) (c : List ℤ) → IsZeros most total zeros → next ≡ zeros_bits most total zeros ++ last → AreRuns total zeros (runs c) → last ≡ runs_bits zeros (runs c) ++ new
          → IsPlaced of_levels zeros c → HasSpelling nc most c × (old ≡ block_bits nc most c ++ new) × (total ≡ total_coeff c)
      block_read zeros last new c is_zeros f runs_are g placed =
          let totals : total ≡ total_coeff c = sym (ap length placed.same_levels ∙ are.size) in
          let ones_same : ones ≡ trailing_ones c = sym (ap (λ (x : List ℤ). min 3 (leading_ones x)) placed.same_levels ∙ trailing_is total ones of_levels are) in
          let zeros_same : zeros ≡ total_zeros c = sym placed.same_zeros in
          let levels_same : of_levels ≡ levels c = sym placed.same_levels in
          let tail = levels_bits total ones of_levels ++ (zeros_bits most total zeros ++ (runs_bits zeros (runs c) ++ new)) in
          let all : old ≡ token_bits nc total ones ++ tail = token ∙ ap (λ (x : List Bool). token_bits nc total ones ++ x) (read ∙ ap (λ (x : List Bool). levels_bits total ones of_levels ++ x) (f ∙ ap (λ (x : List Bool). zeros_bits most total zeros ++ x) g)) in
          let own : tail ≡ behind_token most total ones c new =
          ap₂ (λ (x : List ℤ) (y : ℕ). levels_bits total ones x ++ (zeros_bits most total y ++ (runs_bits y (runs c) ++ new))) levels_same zeros_same in (
            record {
              size = placed.size;
              beyond = λ place past. placed.beyond place (omega (arith, is_zeros.within, are.size));
              token = subst (λ (x : ℕ). IsToken (token_list nc) x (trailing_ones c)) totals (subst (λ (x : ℕ). IsToken (token_list nc) total x) ones_same is);
              level_codes = subst (λ (x : List ℤ). HaveLevelCodes (total_coeff c) (trailing_ones c) x) levels_same
                  (subst (λ (x : ℕ). HaveLevelCodes x (trailing_ones c) of_levels) totals (subst (λ (x : ℕ). HaveLevelCodes total x of_levels) ones_same are.codes));
              zeros_code = subst (λ (x : ℕ). HasZerosCode most x (total_zeros c)) totals (subst (λ (x : ℕ). HasZerosCode most total x) zeros_same is_zeros.code);
              run_codes = subst (λ (x : ℕ). AreInTurn HasRunCode left_behind x (runs c)) zeros_same runs_are.codes;
            },
            all ∙ ap (λ (x : List Bool). token_bits nc total ones ++ x) own
                ∙ ap₂ (λ (x y : ℕ). token_bits nc x y ++ behind_token most x y c new) totals ones_same ∙ sym (block_split nc most c new),
            totals,
          )
