-- The lists of coeff_token: the code's tables are those of the standard, and a slot's candidate is the only code there.
use Rattle.std.proofs.Common.{◌≡◌, ℕ, zero, suc, ◌⊎◌, inl, inr, ◌+◌, ◌-◌, ◌*◌, ◌/◌, ◌%◌, ◌^◌, ◌<◌, ◌≤◌, Bool, true, ◌&&◌, min, nat_eq, get_or, [], refl, sym, ap, ◌∙◌, subst, arith}
use Rattle.std.proofs.lemmas.Bool.{and_parts, cases_eq, cond-false, cond-true, eq-eqb, eqb-true, leb-true, ne_eqb}
use Rattle.std.specs.Int.Count.{count_leading_zeros}
use Rattle.std.specs.Prelude.{nat_le}
use Rattle.cb_tables.specs.declared.coeff_token.TheConstants.{CANDIDATES, CHROMA_DC_CODES, CODES}
use Rattle.cb_tables.specs.declared.codes.Code.{Code}
use Rattle.cb_tables.specs.Codes.{BeginsWith, IsCode, IsFrontOf, code_at, code_of}
use Rattle.cb_tables.specs.CoeffToken.{IsToken, most_levels, six_bits, token_code, token_rows}
use Rattle.cb_tables.specs.CoeffTokenNc0To1.{tokens_nc_0_to_1}
use Rattle.cb_tables.specs.CoeffTokenNc2To3.{tokens_nc_2_to_3}
use Rattle.cb_tables.specs.CoeffTokenNc4To7.{tokens_nc_4_to_7}
use Rattle.cb_tables.specs.CoeffTokenChromaDc.{tokens_chroma_dc}
use Rattle.cb_tables.specs.Slots.{IsSlot}
use Rattle.cb_tables.proofs.Computed.{all_below, each_below}
use Rattle.cb_tables.proofs.Entries.{entry_of}
use Rattle.cb_tables.proofs.Rows.{rows_hold, entry_code, entry_found}
use Rattle.cb_tables.proofs.Windows.{front_window, slot_is}

-- ---- the lists that are written out

pub listed_entry : (list total ones : ℕ) → list ≤ 2 → code_of (get_or (get_or (get_or CODES list []) total []) ones (0, 0)) ≡ token_code list total ones
unfolding token_code tokens_nc_0_to_1 tokens_nc_2_to_3 tokens_nc_4_to_7
listed_entry zero total ones h = entry_of 4 tokens_nc_0_to_1 (get_or CODES 0 []) refl total ones
listed_entry (suc zero) total ones h = entry_of 4 tokens_nc_2_to_3 (get_or CODES 1 []) refl total ones
listed_entry (suc (suc zero)) total ones h = entry_of 4 tokens_nc_4_to_7 (get_or CODES 2 []) refl total ones
listed_entry (suc (suc (suc list))) total ones h = absurd (omega arith)

pub chroma_dc_entry : (total ones : ℕ) → code_of (get_or (get_or CHROMA_DC_CODES total []) ones (0, 0)) ≡ token_code 4 total ones
unfolding token_code tokens_chroma_dc
chroma_dc_entry total ones = entry_of 4 tokens_chroma_dc CHROMA_DC_CODES refl total ones

abbrev pub entry_at : ℕ → ℕ → ℕ → ℕ × ℕ
entry_at index leading next = get_or (get_or (get_or CANDIDATES index []) leading []) next (0, 0)

abbrev candidate_at : ℕ → ℕ → ℕ → ℕ × ℕ
candidate_at list leading next = entry_at (min list 3) leading next

abbrev is_candidate : ℕ → ℕ → ℕ → ℕ → ℕ → Bool
is_candidate list total ones leading next = nat_eq (candidate_at list leading next).0 total && nat_eq (candidate_at list leading next).1 ones

abbrev columns : ℕ → ℕ
columns total = suc (min 3 total)

listed_hold : (list : ℕ) → list ≤ 4 → (list ≡ 3 → ⊥) → rows_hold 15 3 (token_rows list) columns (is_candidate list) (suc (most_levels list)) ≡ true
unfolding tokens_nc_0_to_1 tokens_nc_2_to_3 tokens_nc_4_to_7 tokens_chroma_dc
listed_hold zero h k = refl
listed_hold (suc zero) h k = refl
listed_hold (suc (suc zero)) h k = refl
listed_hold (suc (suc (suc zero))) h k = absurd (k refl)
listed_hold (suc (suc (suc (suc zero)))) h k = refl
listed_hold (suc (suc (suc (suc (suc list))))) h k = absurd (omega arith)

row_in : (list total ones : ℕ) → IsToken list total ones → total < suc (most_levels list)
row_in list total ones is = omega (arith, is.levels)

column_in : (list total ones : ℕ) → IsToken list total ones → ones < columns total
column_in list total ones is = omega (arith, is.trailing)

listed_at : (list total ones : ℕ) → (list ≡ 3 → ⊥) → token_code list total ones ≡ code_at (token_rows list) total ones
unfolding token_code
listed_at list total ones other = cond-false (nat_eq list 3) _ _ (ne_eqb list 3 other)

listed_code : (list total ones : ℕ) → (list ≡ 3 → ⊥) → IsToken list total ones → IsCode (token_code list total ones)
listed_code list total ones other is =
    subst IsCode (sym (listed_at list total ones other))
    (entry_code 15 3 (token_rows list) columns (is_candidate list) (suc (most_levels list)) (listed_hold list is.listed other) total ones (row_in list total ones is) (column_in list total ones is))

-- each candidate is an entry of its list
candidate_test : ℕ → ℕ → ℕ → Bool
candidate_test list leading next = nat_le (candidate_at list leading next).0 (most_levels list) && nat_le (candidate_at list leading next).1 (min 3 (candidate_at list leading next).0)

candidates_test : ℕ → Bool
candidates_test list = all_below (λ leading. all_below (λ next. candidate_test list leading next) 8) 16

candidates_hold : (list : ℕ) → list ≤ 4 → (list ≡ 3 → ⊥) → candidates_test list ≡ true
unfolding candidates_test candidate_test
candidates_hold zero h k = refl
candidates_hold (suc zero) h k = refl
candidates_hold (suc (suc zero)) h k = refl
candidates_hold (suc (suc (suc zero))) h k = absurd (k refl)
candidates_hold (suc (suc (suc (suc zero)))) h k = refl
candidates_hold (suc (suc (suc (suc (suc list))))) h k = absurd (omega arith)

pub listed_candidate : (list index leading next total ones : ℕ) → list ≤ 4 → (list ≡ 3 → ⊥) → leading ≤ 15 → next < 8 → index ≡ min list 3
    → total ≡ (entry_at index leading next).0 → ones ≡ (entry_at index leading next).1 → IsToken list total ones
unfolding candidates_test candidate_test
listed_candidate list index leading next total ones listed other a b at t o =
    let row = each_below (λ z. all_below (λ x. candidate_test list z x) 8) 16 leading (candidates_hold list listed other) (omega arith) in
    let parts = and_parts _ _ (each_below (λ x. candidate_test list leading x) 8 next row b) in
    let same_total : total ≡ (candidate_at list leading next).0 = t ∙ ap (λ (x : ℕ). (entry_at x leading next).0) at in
    let same_ones : ones ≡ (candidate_at list leading next).1 = o ∙ ap (λ (x : ℕ). (entry_at x leading next).1) at in
    record {
      listed = listed;
      levels = subst (λ (x : ℕ). x ≤ most_levels list) (sym same_total) (leb-true _ _ parts.0);
      trailing = omega (arith, leb-true _ _ parts.1, same_total, same_ones);
    }

listed_only : (list total ones w leading next : ℕ) → (list ≡ 3 → ⊥) → IsToken list total ones → IsSlot 15 3 w leading next → BeginsWith w (token_code list total ones) → (total ≡ (candidate_at list leading next).0) × (ones ≡ (candidate_at list leading next).1)
listed_only list total ones w leading next other is slot begins =
    let at : BeginsWith w (code_at (token_rows list) total ones) = subst (BeginsWith w) (listed_at list total ones other) begins in
    let parts = and_parts _ _ (entry_found 15 3 (token_rows list) columns (is_candidate list) (suc (most_levels list)) (listed_hold list is.listed other) total ones (row_in list total ones is) (column_in list total ones is) w leading next (omega arith) slot at) in
    (sym (eqb-true _ _ parts.0), sym (eqb-true _ _ parts.1))

pub listed_only_at : (list index total ones w leading next : ℕ) → (list ≡ 3 → ⊥) → index ≡ min list 3 → IsToken list total ones → IsSlot 15 3 w leading next → BeginsWith w (token_code list total ones) → (total ≡ (entry_at index leading next).0) × (ones ≡ (entry_at index leading next).1)
listed_only_at list index total ones w leading next other at is slot begins =
    let only = listed_only list total ones w leading next other is slot begins in
    (only.0 ∙ ap (λ (x : ℕ). (entry_at x leading next).0) (sym at), only.1 ∙ ap (λ (x : ℕ). (entry_at x leading next).1) (sym at))

-- ---- nC of 8 and above

abbrev pub in_six : ℕ → Code
in_six value = record { length = 6; value = value }

pub six_bits_none : (total ones : ℕ) → total ≡ 0 → in_six 3 ≡ token_code 3 total ones
unfolding token_code
six_bits_none total ones e = ap in_six (sym (cond-true (nat_eq total 0) _ _ (eq-eqb total 0 e)))

pub six_bits_some : (total ones : ℕ) → (total ≡ 0 → ⊥) → in_six ((total - 1) * 4 + ones) ≡ token_code 3 total ones
unfolding token_code
six_bits_some total ones e = ap in_six (sym (cond-false (nat_eq total 0) _ _ (ne_eqb total 0 e)))

six_value : (total ones : ℕ) → (six_bits (suc total) ones).1 ≡ (suc total - 1) * 4 + ones
six_value total ones = cond-false (nat_eq (suc total) 0) _ _ (ne_eqb (suc total) 0 (λ e. omega arith))

pub six_bits_code : (total ones : ℕ) → IsToken 3 total ones → IsCode (token_code 3 total ones)
unfolding token_code
six_bits_code zero ones is = record { some = omega arith; short = omega arith; spelled = omega arith }
six_bits_code (suc total) ones is =
    let value : (token_code 3 (suc total) ones).value ≡ (suc total - 1) * 4 + ones = six_value total ones in
    record { some = omega arith; short = omega arith; spelled = omega (arith, value, is.levels, is.trailing) }

-- what six bits stand for
pub six_bits_only : (total ones value : ℕ) → IsToken 3 total ones → value ≡ (six_bits total ones).1
    → ((value ≡ 3) × (total ≡ 0) × (ones ≡ 0)) ⊎ ((value ≡ 3 → ⊥) × (total ≡ value / 4 + 1) × (ones ≡ value % 4))
six_bits_only zero ones value is e = inl (e, refl, omega (arith, is.trailing))
six_bits_only (suc total) ones value is e =
    let at : value ≡ (suc total - 1) * 4 + ones = e ∙ six_value total ones in
    inr (λ same. omega (arith, is.trailing, at), omega (arith, is.trailing, at), omega (arith, is.trailing, at))

pub six_bits_front : (total ones other_total other_ones : ℕ) → IsToken 3 total ones → IsToken 3 other_total other_ones → (six_bits other_total other_ones).1 ≡ (six_bits total ones).1 → (total ≡ other_total) × (ones ≡ other_ones)
six_bits_front total ones other_total other_ones is is' e =
    elim (six_bits_only total ones (six_bits other_total other_ones).1 is e) [
      | inl a ↦ elim (six_bits_only other_total other_ones (six_bits other_total other_ones).1 is' refl) [ inl b ↦ (a.1 ∙ sym b.1, a.2 ∙ sym b.2) | inr b ↦ absurd (b.0 a.0) ]
      | inr a ↦ elim (six_bits_only other_total other_ones (six_bits other_total other_ones).1 is' refl) [ inl b ↦ absurd (a.0 b.0) | inr b ↦ (a.1 ∙ sym b.1, a.2 ∙ sym b.2) ]
    ]

-- ---- all five lists

pub token_is_code : (list total ones : ℕ) → IsToken list total ones → IsCode (token_code list total ones)
token_is_code list total ones is =
    elim (cases_eq list 3) [
      | inl same ↦ subst (λ (x : ℕ). IsCode (token_code x total ones)) (sym same) (six_bits_code total ones (subst (λ (x : ℕ). IsToken x total ones) same is))
      | inr other ↦ listed_code list total ones other is
    ]

pub token_front : (list total ones other_total other_ones : ℕ) → IsToken list total ones → IsToken list other_total other_ones → IsFrontOf (token_code list total ones) (token_code list other_total other_ones) → (total ≡ other_total) × (ones ≡ other_ones)
unfolding token_code
token_front list total ones other_total other_ones is is' front =
    elim (cases_eq list 3) [
      | inl same ↦
          let at = subst (λ (x : ℕ). IsFrontOf (token_code x total ones) (token_code x other_total other_ones)) same front in
          six_bits_front total ones other_total other_ones (subst (λ (x : ℕ). IsToken x total ones) same is) (subst (λ (x : ℕ). IsToken x other_total other_ones) same is') (omega (arith, at.same))
      | inr other ↦
          let window = front_window _ _ (listed_code list other_total other_ones other is') front in
          let w = window.0 in
          let leading = min (count_leading_zeros 32 w) 15 in
          let next = w / 2 ^ (31 - leading - 3) % 2 ^ 3 in
          let slot = slot_is 15 3 w leading next window.1 (omega arith) refl refl in
          let a = listed_only list total ones w leading next other is slot window.2 in
          let b = listed_only list other_total other_ones w leading next other is' slot window.3 in
          (a.0 ∙ sym b.0, a.1 ∙ sym b.1)
    ]
