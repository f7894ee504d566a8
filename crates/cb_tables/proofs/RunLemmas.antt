-- The lists of run_before: the code's tables are those of the standard, and a slot's candidate is the only code there.
use Rattle.std.proofs.Common.{◌≡◌, ℕ, ◌+◌, ◌-◌, ◌/◌, ◌%◌, ◌^◌, ◌<◌, ◌≤◌, Bool, true, min, nat_eq, nat_lt, get_or, [], refl, sym, ap, ◌∙◌, subst, inl, inr, arith}
use Rattle.std.proofs.lemmas.Bool.{cases_lt, eqb-true, le-leb, lt-leb, ltb-true, cond-true, cond-false}
use Rattle.std.specs.Int.Count.{count_leading_zeros}
use Rattle.std.specs.Prelude.{nat_le}
use Rattle.cb_tables.specs.declared.run_before.TheConstants.{CANDIDATES, LONG_CANDIDATES, RUNS}
use Rattle.cb_tables.specs.Codes.{BeginsWith, IsCode, IsFrontOf, code_at, code_of}
use Rattle.cb_tables.specs.RunBefore.{IsRun, longest_run, run_code}
use Rattle.cb_tables.specs.RunBeforeRows.{run_rows}
use Rattle.cb_tables.specs.Slots.{IsSlot}
use Rattle.cb_tables.proofs.Computed.{all_below, each_below}
use Rattle.cb_tables.proofs.Entries.{entry_of}
use Rattle.cb_tables.proofs.Rows.{row_holds, row_code, row_found, rows_hold, entry_code, entry_found}
use Rattle.cb_tables.proofs.Windows.{front_window, slot_is}
use Rattle.cb_tables.proofs.ZerosLemmas.{candidate_at, candidate_within, is_candidate}

pub run_entry : (left run index : ℕ) → index ≡ min left 7 → code_of (get_or (get_or RUNS (index - 1) []) run (0, 0)) ≡ run_code left run
unfolding run_code run_rows
run_entry left run index e = entry_of 15 run_rows RUNS refl (index - 1) run ∙ ap (λ (x : ℕ). code_at run_rows (x - 1) run) e

most_short : (left : ℕ) → left ≤ 6 → longest_run left ≡ left
most_short left h = cond-true (nat_le left 6) left 14 (le-leb left 6 h)

most_long : (left : ℕ) → 6 < left → longest_run left ≡ 14
most_long left h = cond-false (nat_le left 6) left 14 (lt-leb left 6 h)

-- ---- up to 6 zeros left

abbrev columns : ℕ → ℕ
columns i = i + 2

short_hold : rows_hold 3 2 run_rows columns (is_candidate CANDIDATES) 6 ≡ true
unfolding run_rows
short_hold = refl

short_at : (left run : ℕ) → left ≤ 6 → run_code left run ≡ code_at run_rows (left - 1) run
unfolding run_code
short_at left run few = let at : min left 7 ≡ left = omega arith in ap (λ (x : ℕ). code_at run_rows (x - 1) run) at

short_column : (left run : ℕ) → left ≤ 6 → IsRun left run → run < columns (left - 1)
short_column left run few is = omega (arith, is.some, is.most, most_short left few)

short_code : (left run : ℕ) → left ≤ 6 → IsRun left run → IsCode (run_code left run)
short_code left run few is =
    subst IsCode (sym (short_at left run few)) (entry_code 3 2 run_rows columns (is_candidate CANDIDATES) 6 short_hold (left - 1) run (omega (arith, is.some)) (short_column left run few is))

pub short_candidate : (left leading next : ℕ) → 1 ≤ left → left ≤ 6 → leading ≤ 3 → next < 4 → IsRun left (candidate_at CANDIDATES (left - 1) leading next)
short_candidate left leading next some few a b =
    let within = candidate_within CANDIDATES 6 columns 4 4 refl (left - 1) leading next (omega arith) (omega arith) b in
    record { some = some; most = omega (arith, within, most_short left few) }

pub short_only : (left run w leading next : ℕ) → left ≤ 6 → IsRun left run → IsSlot 3 2 w leading next → BeginsWith w (run_code left run) → run ≡ candidate_at CANDIDATES (left - 1) leading next
short_only left run w leading next few is slot begins =
    let at : BeginsWith w (code_at run_rows (left - 1) run) = subst (BeginsWith w) (short_at left run few) begins in
    sym (eqb-true _ _ (entry_found 3 2 run_rows columns (is_candidate CANDIDATES) 6 short_hold (left - 1) run (omega (arith, is.some)) (short_column left run few is) w leading next (omega arith) slot at))

-- ---- more than 6 zeros left

abbrev pub long_at : ℕ → ℕ → ℕ
long_at leading next = get_or (get_or LONG_CANDIDATES leading []) next 0

abbrev is_long : ℕ → ℕ → ℕ → Bool
is_long run leading next = nat_eq (long_at leading next) run

long_hold : row_holds 11 2 (get_or run_rows 6 []) 15 is_long ≡ true
unfolding run_rows
long_hold = refl

long_row : (left run : ℕ) → 6 < left → run_code left run ≡ code_of (get_or (get_or run_rows 6 []) run (0, 0))
unfolding run_code code_at
long_row left run many = let at : min left 7 ≡ 7 = omega arith in ap (λ (x : ℕ). code_at run_rows (x - 1) run) at

long_code : (left run : ℕ) → 6 < left → IsRun left run → IsCode (run_code left run)
long_code left run many is = subst IsCode (sym (long_row left run many)) (row_code 11 2 (get_or run_rows 6 []) 15 is_long long_hold run (omega (arith, is.most, most_long left many)))

pub long_candidate : (left leading next : ℕ) → 6 < left → leading ≤ 11 → next < 4 → IsRun left (long_at leading next)
long_candidate left leading next many a b =
    let row = each_below (λ z. all_below (λ x. nat_lt (long_at z x) 15) 4) 12 leading refl (omega arith) in
    let within = ltb-true _ _ (each_below (λ x. nat_lt (long_at leading x) 15) 4 next row b) in
    record { some = omega arith; most = omega (arith, within, most_long left many) }

pub long_only : (left run w leading next : ℕ) → 6 < left → IsRun left run → IsSlot 11 2 w leading next → BeginsWith w (run_code left run) → run ≡ long_at leading next
long_only left run w leading next many is slot begins =
    let at : BeginsWith w (code_of (get_or (get_or run_rows 6 []) run (0, 0))) = subst (BeginsWith w) (long_row left run many) begins in
    sym (eqb-true _ _ (row_found 11 2 (get_or run_rows 6 []) 15 is_long long_hold run (omega (arith, is.most, most_long left many)) w leading next (omega arith) slot at))

-- ---- any number of zeros left

pub run_is_code : (left run : ℕ) → IsRun left run → IsCode (run_code left run)
run_is_code left run is = elim (cases_lt 6 left) [ inl many ↦ long_code left run many is | inr few ↦ short_code left run few is ]

pub run_front : (left run other : ℕ) → IsRun left run → IsRun left other → IsFrontOf (run_code left run) (run_code left other) → run ≡ other
run_front left run other is is' front =
    let window = front_window _ _ (run_is_code left other is') front in
    let w = window.0 in
    elim (cases_lt 6 left) [
      | inl many ↦
          let leading = min (count_leading_zeros 32 w) 11 in
          let next = w / 2 ^ (31 - leading - 2) % 2 ^ 2 in
          let slot = slot_is 11 2 w leading next window.1 (omega arith) refl refl in
          long_only left run w leading next many is slot window.2 ∙ sym (long_only left other w leading next many is' slot window.3)
      | inr few ↦
          let leading = min (count_leading_zeros 32 w) 3 in
          let next = w / 2 ^ (31 - leading - 2) % 2 ^ 2 in
          let slot = slot_is 3 2 w leading next window.1 (omega arith) refl refl in
          short_only left run w leading next few is slot window.2 ∙ sym (short_only left other w leading next few is' slot window.3)
    ]
