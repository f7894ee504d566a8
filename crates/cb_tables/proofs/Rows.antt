-- One row of a table of codes: a test of each of its codes, which computes, and what it says.
use Rattle.std.proofs.Common.{◌≡◌, ℕ, suc, ◌+◌, ◌-◌, ◌/◌, ◌^◌, ◌<◌, ◌≤◌, Bool, true, ◌&&◌, get_or, List, [], sym, ap, ◌∙◌, subst, arith, inl, inr}
use Rattle.std.proofs.lemmas.Bool.{cases_lt, and_parts, leb-true, ltb-true}
use Rattle.std.specs.Prelude.{nat_le, nat_lt}
use Rattle.cb_tables.specs.Codes.{BeginsWith, IsCode, code_at, code_of}
use Rattle.cb_tables.specs.Slots.{IsSlot}
use Rattle.cb_tables.proofs.Computed.{all_below, each_below, only_if, only_if_at}
use Rattle.cb_tables.proofs.Windows.{agrees, agrees_at, first_one}

abbrev is_code : ℕ × ℕ → Bool
is_code code = nat_le 1 code.0 && (nat_le code.0 16 && nat_lt code.1 (2 ^ code.0))

-- The code is found at each slot of so many leading zeros with which it agrees.
abbrev found_behind : ℕ → ℕ × ℕ → ℕ → (ℕ → ℕ → Bool) → Bool
found_behind bits code leading found =
    only_if (agrees code (suc leading) 1) (λ _.
    all_below (λ next. only_if (agrees code (suc leading + bits) (2 ^ bits + next)) (λ _. found leading next)) (2 ^ bits))

abbrev found_at_limit : ℕ → ℕ → ℕ × ℕ → (ℕ → ℕ → Bool) → Bool
found_at_limit limit bits code found = only_if (agrees code limit 0) (λ _. all_below (λ next. found limit next) (2 ^ bits))

-- each of the first codes of the row is one, and is found at each slot with which it agrees
abbrev pub row_holds : ℕ → ℕ → List (ℕ × ℕ) → ℕ → (ℕ → ℕ → ℕ → Bool) → Bool
row_holds limit bits row columns found =
    all_below (λ column.
    let code = get_or row column (0, 0) in
    is_code code && (found_at_limit limit bits code (found column) && all_below (λ leading. found_behind bits code leading (found column)) limit))
    columns

module _ (limit bits : ℕ) (row : List (ℕ × ℕ)) (columns : ℕ) (found : ℕ → ℕ → ℕ → Bool) (holds : row_holds limit bits row columns found ≡ true) (column : ℕ) (within : column < columns) where
  code : ℕ × ℕ
  code = get_or row column (0, 0)

  here : (is_code (get_or row column (0, 0)) ≡ true) × (found_at_limit limit bits (get_or row column (0, 0)) (found column) ≡ true) × (all_below (λ leading. found_behind bits (get_or row column (0, 0)) leading (found column)) limit ≡ true)
  here =
      let all = each_below (λ k. is_code (get_or row k (0, 0)) && (found_at_limit limit bits (get_or row k (0, 0)) (found k) && all_below (λ leading. found_behind bits (get_or row k (0, 0)) leading (found k)) limit)) columns column holds within in
      let first = and_parts _ _ all in
      let rest = and_parts _ _ first.1 in
      (first.0, rest.0, rest.1)

  pub row_code : IsCode (code_of (get_or row column (0, 0)))
  row_code =
      let first = and_parts _ _ here.0 in
      let rest = and_parts _ _ first.1 in
      record { some = leb-true _ _ first.0; short = leb-true _ _ rest.0; spelled = ltb-true _ _ rest.1 }

  pub row_found : (w leading next : ℕ) → limit + bits ≤ 31 → IsSlot limit bits w leading next → BeginsWith w (code_of (get_or row column (0, 0))) → found column leading next ≡ true
  row_found w leading next room slot begins =
      let short : (get_or row column (0, 0)).0 ≤ 32 = omega (arith, row_code.short) in
      elim (cases_lt leading limit) [
        | inl lower ↦
            let behind = each_below (λ z. found_behind bits (get_or row column (0, 0)) z (found column)) limit leading here.2 lower in
            let first = agrees_at w (get_or row column (0, 0)) (suc leading) 1 short (omega arith) begins (first_one limit bits w leading next room slot lower) in
            let each = only_if_at _ (λ _. all_below (λ x. only_if (agrees (get_or row column (0, 0)) (suc leading + bits) (2 ^ bits + x)) (λ _. found column leading x)) (2 ^ bits)) behind first in
            let one = each_below (λ x. only_if (agrees (get_or row column (0, 0)) (suc leading + bits) (2 ^ bits + x)) (λ _. found column leading x)) (2 ^ bits) next each slot.of_bits in
            let places : 31 - leading - bits ≡ 32 - (suc leading + bits) = omega arith in
            let whole = agrees_at w (get_or row column (0, 0)) (suc leading + bits) (2 ^ bits + next) short (omega arith) begins (ap (λ (x : ℕ). w / 2 ^ x) (sym places) ∙ slot.below lower) in
            only_if_at _ (λ _. found column leading next) one whole
        | inr far ↦
            let same : leading ≡ limit = omega (arith, slot.limited) in
            let none = agrees_at w (get_or row column (0, 0)) limit 0 short (omega arith) begins (slot.at_limit same) in
            let each = only_if_at _ (λ _. all_below (λ x. found column limit x) (2 ^ bits)) here.1 none in
            subst (λ (x : ℕ). found column x next ≡ true) (sym same) (each_below (λ x. found column limit x) (2 ^ bits) next each slot.of_bits)
      ]

-- each row of the table holds
abbrev pub rows_hold : ℕ → ℕ → List (List (ℕ × ℕ)) → (ℕ → ℕ) → (ℕ → ℕ → ℕ → ℕ → Bool) → ℕ → Bool
rows_hold limit bits rows columns found n = all_below (λ i. row_holds limit bits (get_or rows i []) (columns i) (found i)) n

module _ (limit bits : ℕ) (rows : List (List (ℕ × ℕ))) (columns : ℕ → ℕ) (found : ℕ → ℕ → ℕ → ℕ → Bool) (n : ℕ) (holds : rows_hold limit bits rows columns found n ≡ true) (i j : ℕ) (row_in : i < n) (column_in : j < columns i) where
  at_row : row_holds limit bits (get_or rows i []) (columns i) (found i) ≡ true
  at_row = each_below (λ k. row_holds limit bits (get_or rows k []) (columns k) (found k)) n i holds row_in

  pub entry_code : IsCode (code_at rows i j)
  unfolding code_at
  entry_code = row_code limit bits (get_or rows i []) (columns i) (found i) at_row j column_in

  pub entry_found : (w leading next : ℕ) → limit + bits ≤ 31 → IsSlot limit bits w leading next → BeginsWith w (code_at rows i j) → found i j leading next ≡ true
  unfolding code_at
  entry_found w leading next room slot begins = row_found limit bits (get_or rows i []) (columns i) (found i) at_row j column_in w leading next room slot begins
