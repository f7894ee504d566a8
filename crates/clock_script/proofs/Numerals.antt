-- Numbers in decimal, digit by digit.
use Rattle.std.proofs.Common.{◌≡◌, ℕ, zero, suc, ◌+◌, ◌-◌, ◌*◌, ◌<◌, ◌≤◌, ◌^◌, List, length, take, get_or, inl, inr, refl, sym, ap, subst, ◌∙◌, arith}
use Rattle.std.specs.Prelude.{decimal}
use Rattle.std.specs.Char.{digit_value}
use Rattle.std.specs.Str.Parse.{AllDigits, digits_value}
use Rattle.std.proofs.lemmas.Fmt.{decimal-digits_value, decimal_digit, decimal_is_IsNumeral, first_decimal, length-decimal-le}
use Rattle.std.proofs.lemmas.Int.Digits.{digits_more, digits_value-lt, digits_value_more}
use Rattle.std.proofs.lemmas.Str.{digit_value_digit}
use Rattle.std.proofs.lemmas.Str.Parse.{IsNumeralModel, digit_at}
use Rattle.std.proofs.lemmas.List.{length-take-le}
use Rattle.std.proofs.lemmas.Bool.{cases_lt}
use Rattle.clock_script.specs.Lines.{HasNumberForm}

-- what is read of a text so far
pub record Read (text : List ℕ) (i number : ℕ) : Type 0 where
  pub digits : AllDigits 10 (take i text)
  pub value : number ≡ digits_value 10 (take i text)

ten_to : (m n : ℕ) → m ≤ n → 10 ^ m ≤ 10 ^ n
ten_to zero zero le = omega arith
ten_to zero (suc n) le = omega (arith, ten_to zero n (omega arith))
ten_to (suc m) zero le = absurd (omega arith)
ten_to (suc m) (suc n) le = omega (arith, ten_to m n (omega arith))

pub read_bound : (text : List ℕ) (i number : ℕ) → i ≤ 18 → i ≤ length text → Read text i number → number < 10 ^ 18
read_bound text i number few within r =
    let long : length (take i text) ≡ i = length-take-le i text within in
    let less : digits_value 10 (take i text) < 10 ^ length (take i text) = digits_value-lt 10 (take i text) r.digits in
    let most : 10 ^ length (take i text) ≤ 10 ^ 18 = ten_to (length (take i text)) 18 (omega (arith, long, few)) in
    omega (arith, less, most, r.value)

-- a byte that isn't a digit
pub not_digits : (text : List ℕ) (i : ℕ) → i < length text → (48 ≤ get_or text i 0 → get_or text i 0 ≤ 57 → ⊥) → AllDigits 10 text → ⊥
not_digits text i within none digits = let at = digit_at text i digits within in none at.0 at.1

-- one more digit is read
pub read_more : (text : List ℕ) (i number byte : ℕ) → i < length text → byte ≡ get_or text i 0 → 48 ≤ byte → byte ≤ 57 → Read text i number → Read text (i + 1) (10 * number + (byte - 48))
read_more text i number byte within is least most r =
    let here : digit_value byte + 48 ≡ byte = digit_value_digit byte (least, most) in
    let digit : digit_value byte ≡ byte - 48 = omega (arith, here) in
    let at : digit_value (get_or text i 0) ≡ byte - 48 = ap digit_value (sym is) ∙ digit in
    record {
      digits = digits_more 10 text i within r.digits (omega (arith, at, most));
      value = omega (arith, digits_value_more 10 text i within, at, r.value);
    }

own : IsNumeralModel (AllDigits 10) (digits_value 10)
own = record { to = λ ds p. p; from = λ ds p. p; same = λ ds p. refl }

no_leading_zero : (n : ℕ) → n < 2 ^ 63 → 1 < length (decimal n) → get_or (decimal n) 0 0 ≡ 48 → ⊥
no_leading_zero zero small long e = absurd (omega (arith, ap length (decimal_digit 0 (omega arith))))
no_leading_zero (suc n) small long e = omega (arith, first_decimal (suc n) (omega arith) (omega (arith, small)), e)

-- each number has the form of one
pub decimal_form : (n : ℕ) → n < 2 ^ 63 → HasNumberForm (decimal n)
decimal_form n small = record {
  some = (decimal_is_IsNumeral n (omega arith)).0.0;
  few = length-decimal-le 19 n (omega arith) (omega arith) (omega arith);
  first = no_leading_zero n small;
}

-- digits in the form of a number are that of their value
pub digits_are : (text : List ℕ) (n : ℕ) → HasNumberForm text → AllDigits 10 text → n ≡ digits_value 10 text → n < 2 ^ 63 → text ≡ decimal n
digits_are text n form digits is small =
    let lead : get_or text 0 0 ≡ 48 → length text ≡ 1 = λ e. elim (cases_lt 1 (length text)) [ inl long ↦ absurd (form.first long e) | inr short ↦ omega (arith, short, form.some) ] in
    sym (ap decimal is ∙ decimal-digits_value own text digits form.some lead (omega (arith, is, small)))

-- a number's digits and value
pub decimal_read : (text : List ℕ) (n : ℕ) → n < 2 ^ 63 → text ≡ decimal n → AllDigits 10 text × (digits_value 10 text ≡ n)
decimal_read text n small is =
    let numeral = decimal_is_IsNumeral n (omega arith) in
    (subst (AllDigits 10) (sym is) numeral.0.1, ap (digits_value 10) is ∙ numeral.1)

pub no_number : (text : List ℕ) (n : ℕ) → (HasNumberForm text → ⊥) → n < 2 ^ 63 → text ≡ decimal n → ⊥
no_number text n without small is = without (subst HasNumberForm (sym is) (decimal_form n small))
