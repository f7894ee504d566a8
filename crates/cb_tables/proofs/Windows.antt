-- Codes and slots that begin one window.
use Rattle.std.proofs.Common.{◌≡◌, ℕ, suc, ◌+◌, ◌-◌, ◌*◌, ◌/◌, ◌%◌, ◌^◌, ◌<◌, ◌≤◌, Bool, true, cond, min, nat_eq, sym, ap, ◌∙◌, subst, arith, inl, inr, pow-suc, pow_mono, lt_of_lt_of_le, mod-lt}
use Rattle.std.proofs.lemmas.Bool.{cases_lt, le-leb, lt-leb, eq-eqb}
use Rattle.std.proofs.lemmas.Nat.{pow_pos, shr-shr, shl-shr, div-add-mod', shl_below, leading_length}
use Rattle.std.proofs.Math.Nat.{div-eq_of_lt, div-eq_of_lt-le}
use Rattle.std.specs.Int.Count.{count_leading_zeros}
use Rattle.std.specs.Prelude.{nat_le}
use Rattle.cb_tables.specs.declared.codes.Code.{Code}
use Rattle.cb_tables.specs.Codes.{BeginsWith, IsCode, IsFrontOf}
use Rattle.cb_tables.specs.Slots.{IsSlot}

-- The code (length, value) begins the n bits that spell front, or they begin the code.
abbrev pub agrees : ℕ × ℕ → ℕ → ℕ → Bool
agrees code n front = cond (nat_le code.0 n) (nat_eq (front / 2 ^ (n - code.0)) code.1) (nat_eq (code.1 / 2 ^ (code.0 - n)) front)

shorter_front : (w m n : ℕ) → m ≤ n → n ≤ 32 → w / 2 ^ (32 - n) / 2 ^ (n - m) ≡ w / 2 ^ (32 - m)
shorter_front w m n h k = let e : 32 - n + (n - m) ≡ 32 - m = omega arith in shr-shr w (32 - n) (n - m) ∙ ap (λ (x : ℕ). w / 2 ^ x) e

-- what begins one window agrees
pub agrees_at : (w : ℕ) (code : ℕ × ℕ) (n front : ℕ) → code.0 ≤ 32 → n ≤ 32 → w / 2 ^ (32 - code.0) ≡ code.1 → w / 2 ^ (32 - n) ≡ front → agrees code n front ≡ true
agrees_at w code n front short few e f =
    elim (cases_lt n code.0) [
      | inl long ↦ rw (lt-leb code.0 n long) (eq-eqb _ _ (ap (λ (x : ℕ). x / 2 ^ (code.0 - n)) (sym e) ∙ shorter_front w n code.0 (omega arith) short ∙ f))
      | inr fits ↦ rw (le-leb code.0 n fits) (eq-eqb _ _ (ap (λ (x : ℕ). x / 2 ^ (n - code.0)) (sym f) ∙ shorter_front w code.0 n fits few ∙ e))
    ]

two_pow : (k : ℕ) → 2 ^ suc k ≡ 2 ^ k + 2 ^ k
two_pow k = pow-suc 2 k ∙ omega arith

-- the front of a window whose highest 1 stands at the place
top_bits : (w place bits : ℕ) → 2 ^ (place + bits) ≤ w → w < 2 ^ suc (place + bits) → w / 2 ^ place ≡ 2 ^ bits + w / 2 ^ place % 2 ^ bits
top_bits w place bits low high =
    let one : w / 2 ^ place / 2 ^ bits ≡ 1 =
    shr-shr w place bits ∙ div-eq_of_lt-le (2 ^ (place + bits)) {m = w} (omega (arith, low)) (omega (arith, high, two_pow (place + bits))) in
    let parts = div-add-mod' (w / 2 ^ place) (2 ^ bits) in
    sym parts ∙ ap (λ (x : ℕ). x * 2 ^ bits + w / 2 ^ place % 2 ^ bits) one ∙ omega arith

-- the slot that the leading zeros give
pub slot_is : (limit bits w leading next : ℕ) → w < 2 ^ 32 → limit + bits ≤ 31 → leading ≡ min (count_leading_zeros 32 w) limit → next ≡ w / 2 ^ (31 - leading - bits) % 2 ^ bits → IsSlot limit bits w leading next
slot_is limit bits w leading next fits room is next_is =
    let top = leading_length 32 w fits in
    let size = top.0 in
    let all : count_leading_zeros 32 w + size ≡ 32 = top.1 in
    record {
      limited = omega arith;
      of_bits = subst (λ (x : ℕ). x < 2 ^ bits) (sym next_is) (mod-lt _ (pow_pos bits));
      below = λ h.
          let place = 31 - leading - bits in
          let whole : size ≡ suc (place + bits) = omega arith in
          let high : w < 2 ^ suc (place + bits) = subst (λ (x : ℕ). w < 2 ^ x) whole top.2 in
          let long : 2 ^ suc (place + bits) ≤ 2 * w + 1 = subst (λ (x : ℕ). 2 ^ x ≤ 2 * w + 1) whole top.3 in
          let low : 2 ^ (place + bits) ≤ w = omega (arith, two_pow (place + bits)) in
          top_bits w place bits low high ∙ ap (λ (x : ℕ). 2 ^ bits + x) (sym next_is);
      at_limit = λ e.
          let fewer : size ≤ 32 - limit = omega arith in
          div-eq_of_lt (lt_of_lt_of_le top.2 (pow_mono fewer));
    }

-- the zeros and the 1 behind them
pub first_one : (limit bits w leading next : ℕ) → limit + bits ≤ 31 → IsSlot limit bits w leading next → leading < limit → w / 2 ^ (32 - suc leading) ≡ 1
first_one limit bits w leading next room slot h =
    let e : 31 - leading - bits + bits ≡ 32 - suc leading = omega arith in
    let one : (2 ^ bits + next) / 2 ^ bits ≡ 1 = div-eq_of_lt-le (2 ^ bits) {m = 2 ^ bits + next} (omega arith) (omega (arith, slot.of_bits)) in
    ap (λ (x : ℕ). w / 2 ^ x) (sym e) ∙ sym (shr-shr w (31 - leading - bits) bits) ∙ ap (λ (x : ℕ). x / 2 ^ bits) (slot.below h) ∙ one

-- A code and a front of it begin one window.
pub front_window : (front code : Code) → IsCode code → IsFrontOf front code → (w : ℕ) × (w < 2 ^ 32) × BeginsWith w front × BeginsWith w code
front_window front code is begins =
    let free = 32 - code.length in
    let w = code.value * 2 ^ free in
    let all : code.length + free ≡ 32 = omega (arith, is.short) in
    let whole : w / 2 ^ free ≡ code.value = shl-shr code.value free in
    let fits : w < 2 ^ 32 = subst (λ (x : ℕ). w < 2 ^ x) all (shl_below code.value code.length free is.spelled) in
    let first : w / 2 ^ (32 - front.length) ≡ front.value =
    sym (shorter_front w front.length code.length begins.shorter (omega (arith, is.short))) ∙ ap (λ (x : ℕ). x / 2 ^ (code.length - front.length)) whole ∙ begins.same in
    (w, fits, first, whole)
