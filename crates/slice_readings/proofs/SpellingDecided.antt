-- Whether a block has a spelling.
use Rattle.std.proofs.Common.{◌≡◌, ◌≢◌, ℕ, ◌+◌, ◌-◌, ◌<◌, ◌≤◌, min, inl, inr, List, [], ◌∷◌, length, get_or, drop, ◌^◌, ℤ, pos}
use Rattle.std.specs.List.{All}
use Rattle.std.proofs.Math.ListN.{get_or-eq_default}
use Rattle.std.proofs.lemmas.Bool.{cases_lt}
use Rattle.std.proofs.lemmas.List.Elements.{All-head, All-tail}
use Rattle.cavlc.specs.Blocks.{HasRunCode, HasSpelling, HasZerosCode, left_behind, token_list}
use Rattle.cavlc.specs.Coefficients.{levels, runs, total_coeff, total_zeros, trailing_ones}
use Rattle.cavlc.specs.Levels.{HasLevelCode, HaveLevelCodes, escape, first_level, level_code, next_level}
use Rattle.cavlc.specs.Turns.{AreInTurn}
use Rattle.cb_tables.specs.CoeffToken.{IsToken, most_levels}
use Rattle.cb_tables.specs.RunBefore.{IsRun, longest_run}
use Rattle.cb_tables.specs.TotalZeros.{IsDcZeros, IsTotalZeros}
use Rattle.finite.specs.Decided.{Decided}
use Rattle.finite.proofs.Deciding.{both, decided_as, implies, negated}
use Rattle.finite.proofs.Equal.{at_most, below, equal_integers, equal_numbers}
use Rattle.finite.proofs.Numbers.{every_below}

-- Elements one after the other, each of which is decided where it is one of few.
pub few_in_turn : {S V : Type 0} (Few : V → Type 0) (IsV : S → V → Type 0) (next : S → V → S) (s : S) (vs : List V) → All Few vs
    → ((s : S) (v : V) → Few v → Decided (IsV s v)) → Decided (AreInTurn IsV next s vs)
unfolding AreInTurn
few_in_turn Few IsV next s [] few decide = inl tt
few_in_turn Few IsV next s (v ∷ vs) few decide =
    both (decide s v (All-head Few v vs few)) (λ h. few_in_turn Few IsV next (next s v) vs (All-tail Few v vs few) decide)

pub each_in_turn : {S V : Type 0} (IsV : S → V → Type 0) (next : S → V → S) (s : S) (vs : List V)
    → ((s : S) (v : V) → Decided (IsV s v)) → Decided (AreInTurn IsV next s vs)
each_in_turn {S} {V} IsV next s vs decide = few_in_turn (λ (v : V). Unit {0}) IsV next s vs (λ k d h. tt) (λ s v h. decide s v)

-- ---- the elements of a block

code_decided : (suffix_length least : ℕ) (level : ℤ)
    → Decided ((level ≢ pos 0) × ((least ≤ level_code level) × (level_code level - least < escape suffix_length + 2 ^ 12)))
code_decided suffix_length least level =
    both (negated (equal_integers level (pos 0))) (λ h. both (at_most least (level_code level))
    (λ h. below (level_code level - least) (escape suffix_length + 2 ^ 12)))

token_decided : (list total ones : ℕ) → Decided (IsToken list total ones)
token_decided list total ones =
    decided_as (λ h. record { listed = h.0; levels = h.1.0; trailing = h.1.1 }) (λ h. (h.listed, (h.levels, h.trailing)))
    (both (at_most list 4) (λ h. both (at_most total (most_levels list)) (λ h. at_most ones (min 3 total))))

dc_zeros_decided : (total zeros : ℕ) → Decided (IsDcZeros total zeros)
dc_zeros_decided total zeros =
    decided_as (λ h. record { some = h.0; most = h.1.0; within = h.1.1 }) (λ h. (h.some, (h.most, h.within)))
    (both (at_most 1 total) (λ h. both (at_most total 3) (λ h. at_most (total + zeros) 4)))

total_zeros_decided : (total zeros : ℕ) → Decided (IsTotalZeros total zeros)
total_zeros_decided total zeros =
    decided_as (λ h. record { some = h.0; most = h.1.0; within = h.1.1 }) (λ h. (h.some, (h.most, h.within)))
    (both (at_most 1 total) (λ h. both (at_most total 15) (λ h. at_most (total + zeros) 16)))

zeros_decided : (most total zeros : ℕ) → Decided (HasZerosCode most total zeros)
zeros_decided most total zeros =
    decided_as (λ h. record { chroma_dc = h.0; others = h.1 }) (λ h. (h.chroma_dc, h.others))
    (both (implies (at_most 1 total) (λ h. implies (below total most) (λ h. implies (equal_numbers most 4) (λ h. dc_zeros_decided total zeros))))
    (λ h. implies (at_most 1 total) (λ h. implies (below total most)
    (λ h. implies (negated (equal_numbers most 4)) (λ h. total_zeros_decided total zeros)))))

run_decided : (left run : ℕ) → Decided (IsRun left run)
run_decided left run = decided_as (λ h. record { some = h.0; most = h.1 }) (λ h. (h.some, h.most))
    (both (at_most 1 left) (λ h. at_most run (longest_run left)))

run_code_decided : (left run : ℕ) → Decided (HasRunCode left run)
run_code_decided left run =
    decided_as (λ h. record { within = h.0; listed = h.1 }) (λ h. (h.within, h.listed))
    (both (at_most run left) (λ h. implies (at_most 1 left) (λ h. run_decided left run)))

-- ---- a block

IsZeroFrom : ℕ → List ℤ → Type 0
IsZeroFrom most c = (place : ℕ) → most ≤ place → get_or c place (pos 0) ≡ pos 0

everywhere : (most : ℕ) (c : List ℤ) → ((place : ℕ) → place < length c → most ≤ place → get_or c place (pos 0) ≡ pos 0) → IsZeroFrom most c
unfolding IsZeroFrom
everywhere most c within place h =
    elim (cases_lt place (length c)) [ inl l ↦ within place l h | inr g ↦ get_or-eq_default c (pos 0) g ]

zero_from_decided : (most : ℕ) (c : List ℤ) → Decided (IsZeroFrom most c)
unfolding IsZeroFrom
zero_from_decided most c =
    decided_as (everywhere most c) (λ all place h. all place)
    (every_below (λ place. most ≤ place → get_or c place (pos 0) ≡ pos 0) (length c)
    (λ place h. implies (at_most most place) (λ h. equal_integers (get_or c place (pos 0)) (pos 0))))

pub spelling_decided : (nc : ℤ) (most : ℕ) (c : List ℤ) → Decided (HasSpelling nc most c)
unfolding IsZeroFrom
spelling_decided nc most c =
    decided_as
    (λ h. record { size = h.0; beyond = h.1.0; token = h.1.1.0; level_codes = h.1.1.1.0; zeros_code = h.1.1.1.1.0; run_codes = h.1.1.1.1.1 })
    (λ h. (h.size, (h.beyond, (h.token, (h.level_codes, (h.zeros_code, h.run_codes))))))
    (both (equal_numbers (length c) 16) (λ h. both (zero_from_decided most c)
    (λ h. both (token_decided (token_list nc) (total_coeff c) (trailing_ones c)) (λ h. both (levels_decided c)
    (λ h. both (zeros_decided most (total_coeff c) (total_zeros c))
    (λ h. each_in_turn HasRunCode left_behind (total_zeros c) (runs c) run_code_decided))))))
  where
    levels_decided : (c : List ℤ) → Decided (HaveLevelCodes (total_coeff c) (trailing_ones c) (levels c))
    levels_decided c = each_in_turn HasLevelCode next_level (first_level (total_coeff c) (trailing_ones c)) (drop (trailing_ones c) (levels c))
        (λ state level. decided_as (λ h. record { nonzero = h.0; least = h.1.0; prefix = h.1.1 }) (λ h. (h.nonzero, (h.least, h.prefix)))
        (code_decided state.suffix_length state.least level))
