-- A code begins a window of 32 bits exactly where its bits begin the bits that are left and end within them.
use Rattle.std.proofs.Common.{◌≡◌, ℕ, ◌+◌, ◌-◌, ◌*◌, ◌/◌, ◌^◌, ◌<◌, ◌≤◌, Bool, List, ◌++◌, length, drop, refl, sym, ap, ◌∙◌, subst, arith, inl, inr, mod-eq_of_lt}
use Rattle.std.proofs.lemmas.Bool.{cases_lt}
use Rattle.std.proofs.lemmas.List.{length-append, take_at}
use Rattle.std.proofs.lemmas.Nat.{shr-shr, shr_high}
use Rattle.bit_io.proofs.LawLemmas.{same_front}
use Rattle.bit_io.proofs.NumberLemmas.{length-u, number-u, number-append, number-lt, ahead_within, ahead-split, length-ahead, spelled}
use Rattle.bit_io.specs.Bits.{u}
use Rattle.bit_io.specs.Numbers.{number, ahead}
use Rattle.bit_io.specs.Reads.{BeginsNone, IsPrefixFree}
use Rattle.cb_tables.specs.declared.codes.Code.{Code}
use Rattle.cb_tables.specs.Codes.{BeginsWith, IsCode, IsFrontOf}
use Rattle.cavlc.specs.Blocks.{code_bits}

-- the first n bits of a window
pub window_front : (n : ℕ) (bits : List Bool) → n ≤ 32 → number (ahead 32 bits) / 2 ^ (32 - n) ≡ number (ahead n bits)
window_front n bits h =
    let m = 32 - n in
    let low = ahead m (drop n bits) in
    let all : n + m ≡ 32 = omega arith in
    let parts : number (ahead 32 bits) ≡ number (ahead n bits) * 2 ^ m + number low =
    ap (λ (x : ℕ). number (ahead x bits)) (sym all) ∙ ap number (ahead-split n m bits) ∙ number-append (ahead n bits) low
    ∙ ap (λ (x : ℕ). number (ahead n bits) * 2 ^ x + number low) (length-ahead m (drop n bits)) in
    ap (λ (x : ℕ). x / 2 ^ m) parts
    ∙ shr_high (number (ahead n bits)) m (number low) (subst (λ (x : ℕ). number low < 2 ^ x) (length-ahead m (drop n bits)) (number-lt low))

-- a number of n bits that begins the bits
pub number_at : (v n : ℕ) (bits rest : List Bool) → v < 2 ^ n → bits ≡ u v n ++ rest → number (ahead n bits) ≡ v
number_at v n bits rest h e =
    ap (λ (x : List Bool). number (ahead n x)) e
    ∙ ap number (ahead_within n (u v n ++ rest) (omega (arith, length-append (u v n) rest, length-u v n)) ∙ take_at (u v n) rest n (length-u v n))
    ∙ number-u v n ∙ mod-eq_of_lt h

pub length_at : (v n : ℕ) (bits rest : List Bool) → bits ≡ u v n ++ rest → n ≤ length bits
length_at v n bits rest e = omega (arith, ap length e, length-append (u v n) rest, length-u v n)

pub spelled_at : (code : Code) (w : ℕ) (bits : List Bool) → IsCode code → w ≡ number (ahead 32 bits) → BeginsWith w code → code.length ≤ length bits
    → bits ≡ code_bits code ++ drop code.length bits
spelled_at code w bits is over begins held =
    spelled code.length code.value bits held
    (sym begins ∙ ap (λ (x : ℕ). x / 2 ^ (32 - code.length)) over ∙ window_front code.length bits (omega (arith, is.short)))

pub begins_at : (code : Code) (w : ℕ) (bits rest : List Bool) → IsCode code → w ≡ number (ahead 32 bits) → bits ≡ code_bits code ++ rest → BeginsWith w code
begins_at code w bits rest is over e =
    ap (λ (x : ℕ). x / 2 ^ (32 - code.length)) over ∙ window_front code.length bits (omega (arith, is.short)) ∙ number_at code.value code.length bits rest is.spelled e

-- Of two codes that begin a window, the shorter is a front of the other.
pub front_of : (front code : Code) (w : ℕ) → IsCode code → front.length ≤ code.length → BeginsWith w front → BeginsWith w code → IsFrontOf front code
front_of front code w is shorter begins_front begins_code =
    let few : 32 - code.length + (code.length - front.length) ≡ 32 - front.length = omega (arith, is.short) in
    record {
      shorter = shorter;
      same = ap (λ (x : ℕ). x / 2 ^ (code.length - front.length)) (sym begins_code)
          ∙ shr-shr w (32 - code.length) (code.length - front.length) ∙ ap (λ (x : ℕ). w / 2 ^ x) few ∙ begins_front;
    }

-- codes of which none begins another
module _ {V : Type 0} (IsV : V → Type 0) (code : V → Code) (is : (v : V) → IsV v → IsCode (code v))
    (apart : (v w : V) → IsV v → IsV w → IsFrontOf (code v) (code w) → v ≡ w) where
  same_in_window : (v w : V) (window : ℕ) → IsV v → IsV w → BeginsWith window (code v) → BeginsWith window (code w) → v ≡ w
  same_in_window v w window h k e f =
      elim (cases_lt (code v).length (code w).length) [
        | inl l ↦ apart v w h k (front_of (code v) (code w) window (is w k) (omega arith) e f)
        | inr g ↦ sym (apart w v k h (front_of (code w) (code v) window (is v h) g f e))
      ]

  pub codes_prefix_free : IsPrefixFree IsV (λ v. code_bits (code v))
  codes_prefix_free v w after_v after_w h k e =
      let bits = code_bits (code v) ++ after_v in
      let window = number (ahead 32 bits) in
      let same : v ≡ w = same_in_window v w window h k (begins_at (code v) window bits after_v (is v h) refl refl) (begins_at (code w) window bits after_w (is w k) refl e) in
      let n = (code v).length in
      let word : code_bits (code v) ++ after_v ≡ code_bits (code v) ++ after_w = e ∙ ap (λ (x : V). code_bits (code x) ++ after_w) (sym same) in
      (same, (same_front n (code_bits (code v)) (code_bits (code v)) after_v after_w (length-u (code v).value n) (length-u (code v).value n) word).1)

  -- No code begins the window.
  pub none_in_window : (w : ℕ) (bits : List Bool) → w ≡ number (ahead 32 bits) → ((v : V) → IsV v → BeginsWith w (code v) → ⊥) → BeginsNone IsV (λ v. code_bits (code v)) bits
  none_in_window w bits over none v rest h e = none v h (begins_at (code v) w bits rest (is v h) over e)

  -- The code that begins the window doesn't end within the bits.
  pub none_within : (found : V) (w : ℕ) (bits : List Bool) → IsV found → w ≡ number (ahead 32 bits) → BeginsWith w (code found) → length bits < (code found).length
      → BeginsNone IsV (λ v. code_bits (code v)) bits
  none_within found w bits k over begins short v rest h e =
      let same : v ≡ found = same_in_window v found w h k (begins_at (code v) w bits rest (is v h) over e) begins in
      omega (arith, length_at (code v).value (code v).length bits rest e, ap (λ (x : V). (code x).length) same)

  -- The value of the code that begins the window is the only one that the bits can begin with.
  pub only_in_window : (found v : V) (w : ℕ) (bits rest : List Bool) → IsV found → IsV v → w ≡ number (ahead 32 bits) → BeginsWith w (code found) → bits ≡ code_bits (code v) ++ rest → v ≡ found
  only_in_window found v w bits rest k h over begins e = same_in_window v found w h k (begins_at (code v) w bits rest (is v h) over e) begins
