-- The lists of total_zeros: the code's tables are those of the standard, and a slot's candidate is the only code there.
use Rattle.std.proofs.Common.{◌≡◌, ℕ, ◌-◌, ◌/◌, ◌%◌, ◌^◌, ◌<◌, ◌≤◌, Bool, true, min, nat_eq, nat_lt, get_or, List, [], refl, sym, ◌∙◌, arith}
use Rattle.std.proofs.lemmas.Bool.{eqb-true, ltb-true}
use Rattle.std.specs.Int.Count.{count_leading_zeros}
use Rattle.cb_tables.specs.declared.total_zeros.TheConstants.{CANDIDATES, DC_CANDIDATES, DC_ZEROS, TOTAL_ZEROS}
use Rattle.cb_tables.specs.Codes.{BeginsWith, IsCode, IsFrontOf, code_of}
use Rattle.cb_tables.specs.Slots.{IsSlot}
use Rattle.cb_tables.specs.TotalZeros.{IsDcZeros, IsTotalZeros, dc_zeros_code, total_zeros_code}
use Rattle.cb_tables.specs.TotalZerosChromaDc.{dc_zeros_rows}
use Rattle.cb_tables.specs.TotalZerosRows.{total_zeros_rows}
use Rattle.cb_tables.proofs.Computed.{all_below, each_below}
use Rattle.cb_tables.proofs.Entries.{entry_of}
use Rattle.cb_tables.proofs.Rows.{rows_hold, entry_code, entry_found}
use Rattle.cb_tables.proofs.Windows.{front_window, slot_is}

abbrev pub candidate_at : List (List (List ℕ)) → ℕ → ℕ → ℕ → ℕ
candidate_at lists i leading next = get_or (get_or (get_or lists i []) leading []) next 0

abbrev pub is_candidate : List (List (List ℕ)) → ℕ → ℕ → ℕ → ℕ → Bool
is_candidate lists i j leading next = nat_eq (candidate_at lists i leading next) j

-- each candidate is a column of its row
abbrev pub candidates_within : List (List (List ℕ)) → ℕ → (ℕ → ℕ) → ℕ → ℕ → Bool
candidates_within lists n columns rows nexts = all_below (λ i. all_below (λ leading. all_below (λ next. nat_lt (candidate_at lists i leading next) (columns i)) nexts) rows) n

pub candidate_within : (lists : List (List (List ℕ))) (n : ℕ) (columns : ℕ → ℕ) (rows nexts : ℕ) → candidates_within lists n columns rows nexts ≡ true → (i leading next : ℕ) → i < n → leading < rows → next < nexts → candidate_at lists i leading next < columns i
candidate_within lists n columns rows nexts holds i leading next a b c =
    ltb-true _ _ (each_below (λ x. nat_lt (candidate_at lists i leading x) (columns i)) nexts next
    (each_below (λ z. all_below (λ x. nat_lt (candidate_at lists i z x) (columns i)) nexts) rows leading
    (each_below (λ k. all_below (λ z. all_below (λ x. nat_lt (candidate_at lists k z x) (columns k)) nexts) rows) n i holds a) b) c)

-- ---- blocks of 4x4 samples

abbrev columns : ℕ → ℕ
columns i = 16 - i

pub zeros_entry : (total zeros : ℕ) → code_of (get_or (get_or TOTAL_ZEROS (total - 1) []) zeros (0, 0)) ≡ total_zeros_code total zeros
unfolding total_zeros_code total_zeros_rows
zeros_entry total zeros = entry_of 16 total_zeros_rows TOTAL_ZEROS refl (total - 1) zeros

zeros_hold : rows_hold 8 2 total_zeros_rows columns (is_candidate CANDIDATES) 15 ≡ true
unfolding total_zeros_rows
zeros_hold = refl

pub zeros_code : (total zeros : ℕ) → IsTotalZeros total zeros → IsCode (total_zeros_code total zeros)
unfolding total_zeros_code
zeros_code total zeros is = entry_code 8 2 total_zeros_rows columns (is_candidate CANDIDATES) 15 zeros_hold (total - 1) zeros (omega (arith, is.some, is.most)) (omega (arith, is.some, is.most, is.within))

pub zeros_candidate : (total leading next : ℕ) → 1 ≤ total → total ≤ 15 → leading ≤ 8 → next < 4 → IsTotalZeros total (candidate_at CANDIDATES (total - 1) leading next)
zeros_candidate total leading next some most a b =
    let within = candidate_within CANDIDATES 15 columns 9 4 refl (total - 1) leading next (omega arith) (omega arith) b in
    record { some = some; most = most; within = omega (arith, within) }

pub zeros_only : (total zeros w leading next : ℕ) → IsTotalZeros total zeros → IsSlot 8 2 w leading next → BeginsWith w (total_zeros_code total zeros) → zeros ≡ candidate_at CANDIDATES (total - 1) leading next
unfolding total_zeros_code
zeros_only total zeros w leading next is slot begins =
    sym (eqb-true _ _ (entry_found 8 2 total_zeros_rows columns (is_candidate CANDIDATES) 15 zeros_hold (total - 1) zeros (omega (arith, is.some, is.most)) (omega (arith, is.some, is.most, is.within)) w leading next (omega arith) slot begins))

pub zeros_front : (total zeros other : ℕ) → IsTotalZeros total zeros → IsTotalZeros total other → IsFrontOf (total_zeros_code total zeros) (total_zeros_code total other) → zeros ≡ other
zeros_front total zeros other is is' front =
    let window = front_window _ _ (zeros_code total other is') front in
    let w = window.0 in
    let leading = min (count_leading_zeros 32 w) 8 in
    let next = w / 2 ^ (31 - leading - 2) % 2 ^ 2 in
    let slot = slot_is 8 2 w leading next window.1 (omega arith) refl refl in
    zeros_only total zeros w leading next is slot window.2 ∙ sym (zeros_only total other w leading next is' slot window.3)

-- ---- the DC levels of a chroma block

abbrev dc_columns : ℕ → ℕ
dc_columns i = 4 - i

pub dc_entry : (total zeros : ℕ) → code_of (get_or (get_or DC_ZEROS (total - 1) []) zeros (0, 0)) ≡ dc_zeros_code total zeros
unfolding dc_zeros_code dc_zeros_rows
dc_entry total zeros = entry_of 4 dc_zeros_rows DC_ZEROS refl (total - 1) zeros

dc_hold : rows_hold 3 2 dc_zeros_rows dc_columns (is_candidate DC_CANDIDATES) 3 ≡ true
unfolding dc_zeros_rows
dc_hold = refl

pub dc_code : (total zeros : ℕ) → IsDcZeros total zeros → IsCode (dc_zeros_code total zeros)
unfolding dc_zeros_code
dc_code total zeros is = entry_code 3 2 dc_zeros_rows dc_columns (is_candidate DC_CANDIDATES) 3 dc_hold (total - 1) zeros (omega (arith, is.some, is.most)) (omega (arith, is.some, is.most, is.within))

pub dc_candidate : (total leading next : ℕ) → 1 ≤ total → total ≤ 3 → leading ≤ 3 → next < 4 → IsDcZeros total (candidate_at DC_CANDIDATES (total - 1) leading next)
dc_candidate total leading next some most a b =
    let within = candidate_within DC_CANDIDATES 3 dc_columns 4 4 refl (total - 1) leading next (omega arith) (omega arith) b in
    record { some = some; most = most; within = omega (arith, within) }

pub dc_only : (total zeros w leading next : ℕ) → IsDcZeros total zeros → IsSlot 3 2 w leading next → BeginsWith w (dc_zeros_code total zeros) → zeros ≡ candidate_at DC_CANDIDATES (total - 1) leading next
unfolding dc_zeros_code
dc_only total zeros w leading next is slot begins =
    sym (eqb-true _ _ (entry_found 3 2 dc_zeros_rows dc_columns (is_candidate DC_CANDIDATES) 3 dc_hold (total - 1) zeros (omega (arith, is.some, is.most)) (omega (arith, is.some, is.most, is.within)) w leading next (omega arith) slot begins))

pub dc_front : (total zeros other : ℕ) → IsDcZeros total zeros → IsDcZeros total other → IsFrontOf (dc_zeros_code total zeros) (dc_zeros_code total other) → zeros ≡ other
dc_front total zeros other is is' front =
    let window = front_window _ _ (dc_code total other is') front in
    let w = window.0 in
    let leading = min (count_leading_zeros 32 w) 3 in
    let next = w / 2 ^ (31 - leading - 2) % 2 ^ 2 in
    let slot = slot_is 3 2 w leading next window.1 (omega arith) refl refl in
    dc_only total zeros w leading next is slot window.2 ∙ sym (dc_only total other w leading next is' slot window.3)
