-- The elements that tables spell: coeff_token, total_zeros and run_before.
use Rattle.std.proofs.Common.{◌≡◌, ◌≢◌, ℕ, ◌+◌, ◌-◌, ◌<◌, ◌≤◌, Bool, List, [], ◌++◌, length, drop, refl, sym, ap, ap₂, ◌∙◌, subst, arith, inl, inr, ◌⊎◌, eq-eqb, ne_eqb, lt-ltb, le-ltb, ℤ}
use Rattle.std.proofs.lemmas.Bool.{cases_eq, cases_lt}
use Rattle.bit_io.specs.Numbers.{number, ahead}
use Rattle.bit_io.specs.Reads.{BeginsNone, IsPrefixFree}
use Rattle.cb_tables.proofs.TokenLemmas.{token_front, token_is_code}
use Rattle.cb_tables.proofs.ZerosLemmas.{dc_code, dc_front, zeros_front}
use Rattle.cb_tables.proofs.ZerosLemmas.{zeros_code as total_zeros_is_code}
use Rattle.cb_tables.proofs.RunLemmas.{run_front, run_is_code}
use Rattle.cb_tables.specs.declared.codes.Code.{Code}
use Rattle.cb_tables.specs.Codes.{BeginsWith, IsCode, IsFrontOf}
use Rattle.cb_tables.specs.CoeffToken.{IsToken, token_code}
use Rattle.cb_tables.specs.RunBefore.{IsRun, run_code}
use Rattle.cb_tables.specs.TotalZeros.{dc_zeros_code, total_zeros_code}
use Rattle.cavlc.proofs.CodeLemmas.{codes_prefix_free, none_in_window, none_within, only_in_window, spelled_at}
use Rattle.cavlc.specs.Blocks.{HasRunCode, HasZerosCode, code_bits, run_bits, token_bits, token_list, zeros_bits, zeros_code}
use Rattle.cavlc.specs.Parts.{IsZeros}
use Rattle.cavlc.specs.declared.elements.Token.{Token}

-- coeff_token

abbrev pub IsTokenOf : ℕ → Token → Type 0
IsTokenOf list token = IsToken list token.total token.ones

abbrev pub code_of_token : ℕ → Token → Code
code_of_token list token = token_code list token.total token.ones

same_token : (v w : Token) → v.total ≡ w.total → v.ones ≡ w.ones → v ≡ w
same_token v w e f = ap₂ (λ (x y : ℕ). let token : Token = record { total = x; ones = y } in token) e f

tokens_are_codes : (list : ℕ) (v : Token) → IsTokenOf list v → IsCode (code_of_token list v)
tokens_are_codes list v h = token_is_code list v.total v.ones h

tokens_apart : (list : ℕ) (v w : Token) → IsTokenOf list v → IsTokenOf list w → IsFrontOf (code_of_token list v) (code_of_token list w) → v ≡ w
tokens_apart list v w h k front = let same = token_front list v.total v.ones w.total w.ones h k front in same_token v w same.0 same.1

abbrev pub TokenKind : ℤ → Token → Type 0
TokenKind nc token = IsToken (token_list nc) token.total token.ones

abbrev pub token_kind_bits : ℤ → Token → List Bool
token_kind_bits nc token = token_bits nc token.total token.ones

pub token_prefix_free : (nc : ℤ) → IsPrefixFree (TokenKind nc) (token_kind_bits nc)
unfolding token_bits
token_prefix_free nc = codes_prefix_free (IsTokenOf (token_list nc)) (code_of_token (token_list nc)) (tokens_are_codes (token_list nc)) (tokens_apart (token_list nc))

module _ (nc : ℤ) (list w : ℕ) (bits : List Bool) (is : list ≡ token_list nc) (over : w ≡ number (ahead 32 bits)) where
  pub no_token : ((total ones : ℕ) → IsToken list total ones → BeginsWith w (token_code list total ones) → ⊥) → BeginsNone (TokenKind nc) (token_kind_bits nc) bits
  unfolding token_bits
  no_token none =
      none_in_window (IsTokenOf (token_list nc)) (code_of_token (token_list nc)) (tokens_are_codes (token_list nc)) (tokens_apart (token_list nc)) w bits over
      (λ v. subst (λ (l : ℕ). IsTokenOf l v → BeginsWith w (code_of_token l v) → ⊥) is (none v.total v.ones))

  pub short_token : (total ones : ℕ) → IsToken list total ones → BeginsWith w (token_code list total ones) → length bits < (token_code list total ones).length → BeginsNone (TokenKind nc) (token_kind_bits nc) bits
  unfolding token_bits
  short_token total ones h begins short =
      let found : Token = record { total = total; ones = ones } in
      none_within (IsTokenOf (token_list nc)) (code_of_token (token_list nc)) (tokens_are_codes (token_list nc)) (tokens_apart (token_list nc)) found w bits
      (subst (λ (l : ℕ). IsTokenOf l found) is h) over (subst (λ (l : ℕ). BeginsWith w (code_of_token l found)) is begins)
      (subst (λ (l : ℕ). length bits < (code_of_token l found).length) is short)

  pub token_is : (total ones n : ℕ) → IsToken list total ones → BeginsWith w (token_code list total ones) → n ≡ (token_code list total ones).length → n ≤ length bits
      → IsToken (token_list nc) total ones × (bits ≡ token_bits nc total ones ++ drop n bits)
  unfolding token_bits
  token_is total ones n h begins long held =
      let code = token_code list total ones in
      let spelled = spelled_at code w bits (token_is_code list total ones h) over begins (subst (λ (x : ℕ). x ≤ length bits) long held) in (
        subst (λ (l : ℕ). IsToken l total ones) is h,
        spelled ∙ ap₂ (λ (l x : ℕ). code_bits (token_code l total ones) ++ drop x bits) is (sym long),
      )

pub token_length : (list total ones n : ℕ) → IsToken list total ones → n ≡ (token_code list total ones).length → n ≤ 64
token_length list total ones n h e = let is = token_is_code list total ones h in omega (arith, is.short)

-- total_zeros

pub dc_zeros_bits : (most total z : ℕ) → most ≡ 4 → zeros_code most total z ≡ dc_zeros_code total z
dc_zeros_bits most total z e = rw (eq-eqb most 4 e) refl

pub other_zeros_bits : (most total z : ℕ) → most ≢ 4 → zeros_code most total z ≡ total_zeros_code total z
other_zeros_bits most total z e = rw (ne_eqb most 4 e) refl

pub zeros_spelled : (most total z : ℕ) → 1 ≤ total → total < most → zeros_bits most total z ≡ code_bits (zeros_code most total z)
unfolding zeros_bits
zeros_spelled most total z some fewer = rw (ne_eqb total 0 (λ e. omega (arith, e)), lt-ltb total most fewer) refl

pub zeros_unspelled : (most total z : ℕ) → (total ≡ 0) ⊎ (most ≤ total) → zeros_bits most total z ≡ []
unfolding zeros_bits
zeros_unspelled most total z (inl none) = rw (eq-eqb total 0 none) refl
zeros_unspelled most total z (inr all) =
    elim (cases_eq total 0) [ inl e ↦ rw (eq-eqb total 0 e) refl | inr n ↦ rw (ne_eqb total 0 n, le-ltb total most all) refl ]

module _ (most total : ℕ) (some : 1 ≤ total) (fewer : total < most) where
  pub zeros_is_code : (zeros : ℕ) → HasZerosCode most total zeros → IsCode (zeros_code most total zeros)
  zeros_is_code zeros h =
      elim (cases_eq most 4) [
        | inl e ↦ subst IsCode (sym (dc_zeros_bits most total zeros e)) (dc_code total zeros (h.chroma_dc some fewer e))
        | inr n ↦ subst IsCode (sym (other_zeros_bits most total zeros n)) (total_zeros_is_code total zeros (h.others some fewer n))
      ]

  zeros_apart : (v w : ℕ) → HasZerosCode most total v → HasZerosCode most total w → IsFrontOf (zeros_code most total v) (zeros_code most total w) → v ≡ w
  zeros_apart v w h k front =
      elim (cases_eq most 4) [
        | inl e ↦ dc_front total v w (h.chroma_dc some fewer e) (k.chroma_dc some fewer e)
            (subst (λ (x : Code). IsFrontOf x (dc_zeros_code total w)) (dc_zeros_bits most total v e) (subst (λ (y : Code). IsFrontOf (zeros_code most total v) y) (dc_zeros_bits most total w e) front))
        | inr n ↦ zeros_front total v w (h.others some fewer n) (k.others some fewer n)
            (subst (λ (x : Code). IsFrontOf x (total_zeros_code total w)) (other_zeros_bits most total v n) (subst (λ (y : Code). IsFrontOf (zeros_code most total v) y) (other_zeros_bits most total w n) front))
      ]

  spelled_zeros_free : IsPrefixFree (HasZerosCode most total) (λ z. code_bits (zeros_code most total z))
  spelled_zeros_free = codes_prefix_free (HasZerosCode most total) (zeros_code most total) zeros_is_code zeros_apart

  pub zeros_free_at : IsPrefixFree (IsZeros most total) (zeros_bits most total)
  zeros_free_at v w after_v after_w h k e =
      spelled_zeros_free v w after_v after_w h.code k.code
      (ap (λ (x : List Bool). x ++ after_v) (sym (zeros_spelled most total v some fewer)) ∙ e ∙ ap (λ (x : List Bool). x ++ after_w) (zeros_spelled most total w some fewer))

  module _ (w : ℕ) (bits : List Bool) (over : w ≡ number (ahead 32 bits)) where
    pub no_zeros : ((z : ℕ) → HasZerosCode most total z → BeginsWith w (zeros_code most total z) → ⊥) → BeginsNone (IsZeros most total) (zeros_bits most total) bits
    no_zeros none v rest h e =
        none_in_window (HasZerosCode most total) (zeros_code most total) zeros_is_code zeros_apart w bits over none v rest h.code
        (e ∙ ap (λ (x : List Bool). x ++ rest) (zeros_spelled most total v some fewer))

    -- The table's entry leaves the block, or its bits end outside.
    pub wrong_zeros : (found : ℕ) → HasZerosCode most total found → BeginsWith w (zeros_code most total found) → (most - total < found) ⊎ (length bits < (zeros_code most total found).length)
        → BeginsNone (IsZeros most total) (zeros_bits most total) bits
    wrong_zeros found k begins (inl beyond) v rest h e =
        let word = e ∙ ap (λ (x : List Bool). x ++ rest) (zeros_spelled most total v some fewer) in
        let same : v ≡ found = only_in_window (HasZerosCode most total) (zeros_code most total) zeros_is_code zeros_apart found v w bits rest k h.code over begins word in
        let within : total + v ≤ most = h.within in
        omega (arith, same)
    wrong_zeros found k begins (inr short) v rest h e =
        none_within (HasZerosCode most total) (zeros_code most total) zeros_is_code zeros_apart found w bits k over begins short v rest h.code
        (e ∙ ap (λ (x : List Bool). x ++ rest) (zeros_spelled most total v some fewer))

    pub zeros_are : (found n : ℕ) → HasZerosCode most total found → BeginsWith w (zeros_code most total found) → n ≡ (zeros_code most total found).length → n ≤ length bits → found ≤ most - total
        → IsZeros most total found × (bits ≡ zeros_bits most total found ++ drop n bits)
    zeros_are found n k begins long held within = (
      record { code = k; within = omega arith; none = λ e. absurd (omega (arith, e)) },
      spelled_at (zeros_code most total found) w bits (zeros_is_code found k) over begins (subst (λ (x : ℕ). x ≤ length bits) long held)
          ∙ ap₂ (λ (x : List Bool) (y : ℕ). x ++ drop y bits) (sym (zeros_spelled most total found some fewer)) (sym long),
    )

  pub zeros_length : (zeros n : ℕ) → HasZerosCode most total zeros → n ≡ (zeros_code most total zeros).length → n ≤ 64
  zeros_length zeros n h e = let is = zeros_is_code zeros h in omega (arith, is.short)

-- where it isn't spelled it is 0
pub unspelled_zeros : (most total : ℕ) → (total ≡ 0) ⊎ (most ≤ total) → (v : ℕ) → IsZeros most total v → v ≡ 0
unspelled_zeros most total (inl none) v h = h.none none
unspelled_zeros most total (inr all) v h = let within : total + v ≤ most = h.within in omega arith

pub zeros_zero : (most total : ℕ) → (total ≡ 0) ⊎ (most ≤ total) → total ≤ most → IsZeros most total 0
zeros_zero most total (inl none) h = record {
  code = record { chroma_dc = λ a b e. absurd (omega (arith, a, none)); others = λ a b e. absurd (omega (arith, a, none)) };
  within = omega arith;
  none = λ e. refl;
}
zeros_zero most total (inr all) h = record {
  code = record { chroma_dc = λ a b e. absurd (omega (arith, b, all)); others = λ a b e. absurd (omega (arith, b, all)) };
  within = omega arith;
  none = λ e. refl;
}

pub is_spelled : (most total : ℕ) → ((1 ≤ total) × (total < most)) ⊎ ((total ≡ 0) ⊎ (most ≤ total))
is_spelled most total =
    elim (cases_eq total 0) [
      | inl e ↦ inr (inl e)
      | inr n ↦ elim (cases_lt total most) [ inl l ↦ inl (omega arith, l) | inr g ↦ inr (inr g) ]
    ]

unspelled_free : (most total : ℕ) → (total ≡ 0) ⊎ (most ≤ total) → IsPrefixFree (IsZeros most total) (zeros_bits most total)
unspelled_free most total none v w after_v after_w h k e = (
  unspelled_zeros most total none v h ∙ sym (unspelled_zeros most total none w k),
  ap (λ (x : List Bool). x ++ after_v) (sym (zeros_unspelled most total v none)) ∙ e ∙ ap (λ (x : List Bool). x ++ after_w) (zeros_unspelled most total w none),
)

pub zeros_prefix_free : (most total : ℕ) → IsPrefixFree (IsZeros most total) (zeros_bits most total)
zeros_prefix_free most total = elim (is_spelled most total) [ inl h ↦ zeros_free_at most total h.0 h.1 | inr none ↦ unspelled_free most total none ]

-- run_before

pub run_spelled : (left run : ℕ) → 1 ≤ left → run_bits left run ≡ code_bits (run_code left run)
unfolding run_bits
run_spelled left run some = rw (ne_eqb left 0 (λ e. omega (arith, e))) refl

pub run_unspelled : (left run : ℕ) → left ≡ 0 → run_bits left run ≡ []
unfolding run_bits
run_unspelled left run none = rw (eq-eqb left 0 none) refl

pub run_zero : (left : ℕ) → left ≡ 0 → HasRunCode left 0
run_zero left none = record { within = omega arith; listed = λ some. absurd (omega (arith, some, none)) }

module _ (left : ℕ) (some : 1 ≤ left) where
  runs_are_codes : (run : ℕ) → HasRunCode left run → IsCode (run_code left run)
  runs_are_codes run h = run_is_code left run (h.listed some)

  runs_apart : (v w : ℕ) → HasRunCode left v → HasRunCode left w → IsFrontOf (run_code left v) (run_code left w) → v ≡ w
  runs_apart v w h k front = run_front left v w (h.listed some) (k.listed some) front

  spelled_run_free : IsPrefixFree (HasRunCode left) (run_bits left)
  spelled_run_free v w after_v after_w h k e =
      codes_prefix_free (HasRunCode left) (run_code left) runs_are_codes runs_apart v w after_v after_w h k
      (ap (λ (x : List Bool). x ++ after_v) (sym (run_spelled left v some)) ∙ e ∙ ap (λ (x : List Bool). x ++ after_w) (run_spelled left w some))

  module _ (w : ℕ) (bits : List Bool) (over : w ≡ number (ahead 32 bits)) where
    pub no_run : ((run : ℕ) → IsRun left run → BeginsWith w (run_code left run) → ⊥) → BeginsNone (HasRunCode left) (run_bits left) bits
    no_run none v rest h e =
        none_in_window (IsRun left) (run_code left) (run_is_code left) (run_front left) w bits over none v rest (h.listed some)
        (e ∙ ap (λ (x : List Bool). x ++ rest) (run_spelled left v some))

    -- The table's run is longer than what is left, or its bits end outside.
    pub wrong_run : (found : ℕ) → IsRun left found → BeginsWith w (run_code left found) → (left < found) ⊎ (length bits < (run_code left found).length)
        → BeginsNone (HasRunCode left) (run_bits left) bits
    wrong_run found k begins (inl beyond) v rest h e =
        let word = e ∙ ap (λ (x : List Bool). x ++ rest) (run_spelled left v some) in
        let same : v ≡ found = only_in_window (IsRun left) (run_code left) (run_is_code left) (run_front left) found v w bits rest k (h.listed some) over begins word in
        let within : v ≤ left = h.within in
        omega (arith, same)
    wrong_run found k begins (inr short) v rest h e =
        none_within (IsRun left) (run_code left) (run_is_code left) (run_front left) found w bits k over begins short v rest (h.listed some)
        (e ∙ ap (λ (x : List Bool). x ++ rest) (run_spelled left v some))

    pub run_is : (found n : ℕ) → IsRun left found → BeginsWith w (run_code left found) → n ≡ (run_code left found).length → n ≤ length bits → found ≤ left
        → HasRunCode left found × (bits ≡ run_bits left found ++ drop n bits)
    run_is found n k begins long held within = (
      record { within = within; listed = λ h. k },
      spelled_at (run_code left found) w bits (run_is_code left found k) over begins (subst (λ (x : ℕ). x ≤ length bits) long held)
          ∙ ap₂ (λ (x : List Bool) (y : ℕ). x ++ drop y bits) (sym (run_spelled left found some)) (sym long),
    )

pub run_length : (left run n : ℕ) → IsRun left run → n ≡ (run_code left run).length → n ≤ 64
run_length left run n h e = let is = run_is_code left run h in omega (arith, is.short)

unspelled_run_free : (left : ℕ) → left ≡ 0 → IsPrefixFree (HasRunCode left) (run_bits left)
unspelled_run_free left none v w after_v after_w h k e = (
  omega (arith, h.within, k.within),
  ap (λ (x : List Bool). x ++ after_v) (sym (run_unspelled left v none)) ∙ e ∙ ap (λ (x : List Bool). x ++ after_w) (run_unspelled left w none),
)

pub run_prefix_free : (left : ℕ) → IsPrefixFree (HasRunCode left) (run_bits left)
run_prefix_free left = elim (cases_eq left 0) [ inl e ↦ unspelled_run_free left e | inr n ↦ spelled_run_free left (omega arith) ]
