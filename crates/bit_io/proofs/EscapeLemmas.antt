-- Escaping and its reverse.
use Rattle.std.proofs.Common.{◌≡◌, ℕ, zero, suc, ◌+◌, ◌-◌, ◌<◌, ◌≤◌, Bool, true, false, cond, leb, List, [], ◌∷◌, ◌++◌, length, slice_index, refl, sym, ap, ◌∙◌, subst, arith, leb-true, leb-false, ltb, ltb-false, eqb-true, ◌||◌, one-add, true≢false, le-ltb, ne_eqb, le-leb}
use Rattle.std.proofs.lemmas.Bool.{lt-leb}
use Rattle.bit_io.specs.Payload.{IsAllowedBefore, is_prevention, payload}
use Rattle.bit_io.specs.Escaped.{prevention, escaped, IsEscaped, prevention_at_end, with_prevention, zeros_behind}
use Rattle.bit_io.proofs.Cuts.{Cut, payload_cut, allowed_from_cut, allowed_behind_cut, ends_cut}
use Rattle.bit_io.proofs.Kept.{kept}

cut_1 : (x : ℕ) (rest : List ℕ) → Cut (suc x ∷ rest) rest 1
cut_1 x rest = record { some = omega arith; size = one-add' (length rest); at = λ i. ap (slice_index (suc x ∷ rest)) (one-add i); before = omega arith }
  where
    one-add' : (n : ℕ) → suc n ≡ 1 + n
    one-add' n = omega arith

cut_2 : (x y : ℕ) (rest : List ℕ) → Cut (x ∷ suc y ∷ rest) rest 2
cut_2 x y rest = record { some = omega arith; size = more (length rest); at = λ i. ap (slice_index (x ∷ suc y ∷ rest)) (sym (more i)); before = omega arith }
  where
    more : (n : ℕ) → suc (suc n) ≡ 2 + n
    more n = omega arith

cut_3 : (x y z : ℕ) (rest : List ℕ) → Cut (x ∷ y ∷ suc z ∷ rest) rest 3
cut_3 x y z rest = record { some = omega arith; size = more (length rest); at = λ i. ap (slice_index (x ∷ y ∷ suc z ∷ rest)) (sym (more i)); before = omega arith }
  where
    more : (n : ℕ) → suc (suc (suc n)) ≡ 3 + n
    more n = omega arith

-- ---- the payload, token by token

payload_1 : (x : ℕ) (rest : List ℕ) → payload (suc x ∷ rest) ≡ suc x ∷ payload rest
payload_1 x rest = payload_cut (suc x ∷ rest) rest 1 (cut_1 x rest)

payload_2 : (y : ℕ) (rest : List ℕ) → payload (0 ∷ suc y ∷ rest) ≡ 0 ∷ suc y ∷ payload rest
payload_2 y rest = payload_cut (0 ∷ suc y ∷ rest) rest 2 (cut_2 0 y rest)

payload_3 : (rest : List ℕ) → payload (0 ∷ 0 ∷ 3 ∷ rest) ≡ 0 ∷ 0 ∷ payload rest
payload_3 rest = payload_cut (0 ∷ 0 ∷ 3 ∷ rest) rest 3 (cut_3 0 0 2 rest)

kept_high : (z : ℕ) (rest : List ℕ) → 3 < suc z → kept (0 ∷ 0 ∷ suc z ∷ rest) 3 ≡ 0 ∷ 0 ∷ suc z ∷ []
kept_high z rest high = rw (ne_eqb (suc z) 3 (λ e. omega (arith, e))) refl

payload_high : (z : ℕ) (rest : List ℕ) → 3 < suc z → payload (0 ∷ 0 ∷ suc z ∷ rest) ≡ 0 ∷ 0 ∷ suc z ∷ payload rest
payload_high z rest high =
    payload_cut (0 ∷ 0 ∷ suc z ∷ rest) rest 3 (cut_3 0 0 z rest)
    ∙ ap (λ x. x ++ payload rest) (kept_high z rest high)

payload_head : (x : ℕ) (rest : List ℕ) → prevention (payload (x ∷ rest)) ≡ cond (leb x 3) (3 ∷ []) []
payload_head x rest = refl

-- ---- escaping, token by token

escaped_nil : escaped [] ≡ []
unfolding escaped
escaped_nil = refl

escaped_zero : escaped (0 ∷ []) ≡ 0 ∷ []
unfolding escaped
escaped_zero = refl

escaped_1 : (x : ℕ) (rest : List ℕ) → escaped (suc x ∷ rest) ≡ suc x ∷ escaped rest
unfolding escaped
escaped_1 x rest = refl

escaped_2 : (y : ℕ) (rest : List ℕ) → escaped (0 ∷ suc y ∷ rest) ≡ 0 ∷ suc y ∷ escaped rest
unfolding escaped
escaped_2 y rest = refl

escaped_3 : (rest : List ℕ) → escaped (0 ∷ 0 ∷ rest) ≡ 0 ∷ 0 ∷ (prevention rest ++ escaped rest)
unfolding escaped
escaped_3 rest = refl

-- ---- the payload of an escaped payload

back_3 : (y : ℕ) (rest : List ℕ) (b : Bool) → leb y 3 ≡ b → payload (escaped (y ∷ rest)) ≡ y ∷ rest → payload (escaped rest) ≡ rest → payload (0 ∷ 0 ∷ (cond b (3 ∷ []) [] ++ escaped (y ∷ rest))) ≡ 0 ∷ 0 ∷ y ∷ rest
back_3 y rest true low all after = payload_3 (escaped (y ∷ rest)) ∙ ap (λ x. 0 ∷ 0 ∷ x) all
back_3 zero rest false high all after = absurd (omega (arith, leb-false 0 3 high))
back_3 (suc z) rest false high all after =
    ap (λ x. payload (0 ∷ 0 ∷ x)) (escaped_1 z rest) ∙ payload_high z (escaped rest) (leb-false (suc z) 3 high) ∙ ap (λ x. 0 ∷ 0 ∷ suc z ∷ x) after

pub payload-escaped : (bytes : List ℕ) → payload (escaped bytes) ≡ bytes
payload-escaped [] = ap payload escaped_nil
payload-escaped (suc x ∷ rest) = ap payload (escaped_1 x rest) ∙ payload_1 x (escaped rest) ∙ ap (λ y. suc x ∷ y) (payload-escaped rest)
payload-escaped (zero ∷ []) = ap payload escaped_zero
payload-escaped (zero ∷ suc y ∷ rest) = ap payload (escaped_2 y rest) ∙ payload_2 y (escaped rest) ∙ ap (λ x. 0 ∷ suc y ∷ x) (payload-escaped rest)
payload-escaped (zero ∷ zero ∷ []) = ap payload (escaped_3 [] ∙ ap (λ x. 0 ∷ 0 ∷ 3 ∷ x) escaped_nil)
payload-escaped (zero ∷ zero ∷ y ∷ rest) = ap payload (escaped_3 (y ∷ rest)) ∙ back_3 y rest (leb y 3) refl (payload-escaped (y ∷ rest)) (payload-escaped rest)

-- ---- the form of a unit, token by token

form_cut : (unit rest : List ℕ) (k : ℕ) → Cut unit rest k → IsAllowedBefore unit k → (is_prevention unit (k - 1) ≡ true → 0 < length rest → slice_index rest 0 ≤ 3) → IsEscaped rest → IsEscaped unit
form_cut unit rest k cut front may_follow form = record {
  allowed = allowed_from_cut unit rest k cut front form.allowed may_follow;
  ends = ends_cut unit rest k cut ∙ form.ends;
}

form_behind : (unit rest : List ℕ) (k : ℕ) → Cut unit rest k → IsEscaped unit → IsEscaped rest
form_behind unit rest k cut form = record {
  allowed = allowed_behind_cut unit rest k cut form.allowed;
  ends = sym (ends_cut unit rest k cut) ∙ form.ends;
}

form_nil : IsEscaped []
form_nil = record { allowed = λ i below. absurd (omega arith); ends = refl }

front_1 : (x : ℕ) (rest : List ℕ) → IsAllowedBefore (x ∷ rest) 1
front_1 x rest zero below = refl
front_1 x rest (suc i) below = absurd (omega arith)

front_2 : (x y : ℕ) (rest : List ℕ) → IsAllowedBefore (x ∷ y ∷ rest) 2
front_2 x y rest zero below = refl
front_2 x y rest (suc zero) below = refl
front_2 x y rest (suc (suc i)) below = absurd (omega arith)

front_3 : (z : ℕ) (rest : List ℕ) → 3 ≤ z → IsAllowedBefore (0 ∷ 0 ∷ z ∷ rest) 3
front_3 z rest high zero below = refl
front_3 z rest high (suc zero) below = refl
front_3 z rest high (suc (suc zero)) below = rw (le-ltb z 3 high) refl
front_3 z rest high (suc (suc (suc i))) below = absurd (omega arith)

form_zero : IsEscaped (0 ∷ [])
form_zero = record { allowed = front_1 0 []; ends = refl }

form_1 : (x : ℕ) (rest : List ℕ) → IsEscaped rest → IsEscaped (suc x ∷ rest)
form_1 x rest = form_cut (suc x ∷ rest) rest 1 (cut_1 x rest) (front_1 (suc x) rest) (λ h _. absurd (true≢false (sym h)))

form_2 : (y : ℕ) (rest : List ℕ) → IsEscaped rest → IsEscaped (0 ∷ suc y ∷ rest)
form_2 y rest = form_cut (0 ∷ suc y ∷ rest) rest 2 (cut_2 0 y rest) (front_2 0 (suc y) rest) (λ h _. absurd (true≢false (sym h)))

form_3 : (rest : List ℕ) → (0 < length rest → slice_index rest 0 ≤ 3) → IsEscaped rest → IsEscaped (0 ∷ 0 ∷ 3 ∷ rest)
form_3 rest low = form_cut (0 ∷ 0 ∷ 3 ∷ rest) rest 3 (cut_3 0 0 2 rest) (front_3 3 rest (omega arith)) (λ _. low)

form_high : (z : ℕ) (rest : List ℕ) → 3 < suc z → IsEscaped rest → IsEscaped (0 ∷ 0 ∷ suc z ∷ rest)
form_high z rest high =
    form_cut (0 ∷ 0 ∷ suc z ∷ rest) rest 3 (cut_3 0 0 z rest) (front_3 (suc z) rest (omega arith)) (λ h _. absurd (omega (arith, eqb-true (suc z) 3 h)))

escaped_head : (y : ℕ) (rest : List ℕ) → slice_index (escaped (y ∷ rest)) 0 ≡ y
escaped_head (suc x) rest = ap (λ x. slice_index x 0) (escaped_1 x rest)
escaped_head zero [] = ap (λ x. slice_index x 0) escaped_zero
escaped_head zero (suc y ∷ rest) = ap (λ x. slice_index x 0) (escaped_2 y rest)
escaped_head zero (zero ∷ rest) = ap (λ x. slice_index x 0) (escaped_3 rest)

-- ---- what escaping gives is of that form

form_back_3 : (y : ℕ) (rest : List ℕ) (b : Bool) → leb y 3 ≡ b → IsEscaped (escaped (y ∷ rest)) → IsEscaped (escaped rest) → IsEscaped (0 ∷ 0 ∷ (cond b (3 ∷ []) [] ++ escaped (y ∷ rest)))
form_back_3 y rest true low all after = form_3 (escaped (y ∷ rest)) (λ _. omega (arith, escaped_head y rest, leb-true y 3 low)) all
form_back_3 zero rest false high all after = absurd (omega (arith, leb-false 0 3 high))
form_back_3 (suc z) rest false high all after = subst (λ x. IsEscaped (0 ∷ 0 ∷ x)) (sym (escaped_1 z rest)) (form_high z (escaped rest) (leb-false (suc z) 3 high) after)

pub escaped-IsEscaped : (bytes : List ℕ) → IsEscaped (escaped bytes)
escaped-IsEscaped [] = subst IsEscaped (sym escaped_nil) form_nil
escaped-IsEscaped (suc x ∷ rest) = subst IsEscaped (sym (escaped_1 x rest)) (form_1 x (escaped rest) (escaped-IsEscaped rest))
escaped-IsEscaped (zero ∷ []) = subst IsEscaped (sym escaped_zero) form_zero
escaped-IsEscaped (zero ∷ suc y ∷ rest) = subst IsEscaped (sym (escaped_2 y rest)) (form_2 y (escaped rest) (escaped-IsEscaped rest))
escaped-IsEscaped (zero ∷ zero ∷ []) = subst IsEscaped (sym (escaped_3 [] ∙ ap (λ x. 0 ∷ 0 ∷ 3 ∷ x) escaped_nil)) (form_3 [] (λ some. absurd (omega arith)) form_nil)
escaped-IsEscaped (zero ∷ zero ∷ y ∷ rest) = subst IsEscaped (sym (escaped_3 (y ∷ rest))) (form_back_3 y rest (leb y 3) refl (escaped-IsEscaped (y ∷ rest)) (escaped-IsEscaped rest))

-- ---- a unit of that form is given back from its payload

or_false : (b : Bool) → (b || false) ≡ false → b ≡ false
or_false true h = h
or_false false h = refl

third_high : (y : ℕ) (rest : List ℕ) → IsEscaped (0 ∷ 0 ∷ y ∷ rest) → 3 ≤ y
third_high y rest form = ltb-false y 3 (or_false (ltb y 3) (form.allowed 2 (more (length rest))))
  where
    more : (n : ℕ) → 2 < suc (suc (suc n))
    more n = omega arith

fourth_low : (rest : List ℕ) → IsEscaped (0 ∷ 0 ∷ 3 ∷ rest) → prevention (payload rest) ≡ 3 ∷ []
fourth_low [] form = refl
fourth_low (w ∷ rest) form =
    let low : w ≤ 3 = ltb-false 3 w (form.allowed 3 (more (length rest))) in
    payload_head w rest ∙ ap (λ x. cond x (3 ∷ []) []) (le-leb w 3 low)
  where
    more : (n : ℕ) → 3 < suc (suc (suc (suc n)))
    more n = omega arith

there_3 : (rest : List ℕ) → IsEscaped (0 ∷ 0 ∷ 3 ∷ rest) → escaped (payload rest) ≡ rest → escaped (payload (0 ∷ 0 ∷ 3 ∷ rest)) ≡ 0 ∷ 0 ∷ 3 ∷ rest
there_3 rest form all =
    ap escaped (payload_3 rest) ∙ escaped_3 (payload rest) ∙ ap (λ x. 0 ∷ 0 ∷ (x ++ escaped (payload rest))) (fourth_low rest form) ∙ ap (λ x. 0 ∷ 0 ∷ 3 ∷ x) all

there_high : (z : ℕ) (rest : List ℕ) → 3 < suc z → escaped (payload rest) ≡ rest → escaped (payload (0 ∷ 0 ∷ suc z ∷ rest)) ≡ 0 ∷ 0 ∷ suc z ∷ rest
there_high z rest high all =
    ap escaped (payload_high z rest high) ∙ escaped_3 (suc z ∷ payload rest)
    ∙ ap (λ x. 0 ∷ 0 ∷ (cond x (3 ∷ []) [] ++ escaped (suc z ∷ payload rest))) (lt-leb (suc z) 3 high)
    ∙ ap (λ x. 0 ∷ 0 ∷ x) (escaped_1 z (payload rest)) ∙ ap (λ x. 0 ∷ 0 ∷ suc z ∷ x) all

there : (y : ℕ) (rest : List ℕ) → IsEscaped (0 ∷ 0 ∷ y ∷ rest) → 3 ≤ y → (IsEscaped rest → escaped (payload rest) ≡ rest) → escaped (payload (0 ∷ 0 ∷ y ∷ rest)) ≡ 0 ∷ 0 ∷ y ∷ rest
there zero rest form high all = absurd (omega arith)
there (suc zero) rest form high all = absurd (omega arith)
there (suc (suc zero)) rest form high all = absurd (omega arith)
there (suc (suc (suc zero))) rest form high all = there_3 rest form (all (form_behind (0 ∷ 0 ∷ 3 ∷ rest) rest 3 (cut_3 0 0 2 rest) form))
there (suc (suc (suc (suc z)))) rest form high all =
    let y = suc (suc (suc z)) in
    there_high y rest (omega arith) (all (form_behind (0 ∷ 0 ∷ suc y ∷ rest) rest 3 (cut_3 0 0 y rest) form))

pub escaped-payload : (unit : List ℕ) → IsEscaped unit → escaped (payload unit) ≡ unit
escaped-payload [] form = escaped_nil
escaped-payload (suc x ∷ rest) form =
    ap escaped (payload_1 x rest) ∙ escaped_1 x (payload rest) ∙ ap (λ y. suc x ∷ y) (escaped-payload rest (form_behind (suc x ∷ rest) rest 1 (cut_1 x rest) form))
escaped-payload (zero ∷ []) form = escaped_zero
escaped-payload (zero ∷ suc y ∷ rest) form =
    ap escaped (payload_2 y rest) ∙ escaped_2 y (payload rest) ∙ ap (λ x. 0 ∷ suc y ∷ x) (escaped-payload rest (form_behind (0 ∷ suc y ∷ rest) rest 2 (cut_2 0 y rest) form))
escaped-payload (zero ∷ zero ∷ []) form = absurd (true≢false form.ends)
escaped-payload (zero ∷ zero ∷ y ∷ rest) form = there y rest form (third_high y rest form) (escaped-payload rest)

-- ---- byte by byte, from how many zero bytes stand before

abbrev pub escaped_from : ℕ → List ℕ → List ℕ
escaped_from run [] = prevention_at_end run
escaped_from run (byte ∷ bytes) = with_prevention run byte ++ escaped_from (zeros_behind run byte) bytes

behind_two : (byte : ℕ) → zeros_behind 2 byte ≡ zeros_behind 0 byte
behind_two zero = refl
behind_two (suc byte) = refl

from_two : (bytes : List ℕ) → escaped_from 0 bytes ≡ escaped bytes → escaped_from 2 bytes ≡ prevention bytes ++ escaped bytes
from_two [] all = ap (λ x. 3 ∷ x) (sym escaped_nil)
from_two (byte ∷ bytes) all = cases (leb byte 3) ∙ ap (λ x. cond (leb byte 3) (3 ∷ []) [] ++ x) all
  where
    cases : (b : Bool) → cond b (3 ∷ byte ∷ []) (byte ∷ []) ++ escaped_from (zeros_behind 2 byte) bytes ≡ cond b (3 ∷ []) [] ++ (byte ∷ escaped_from (zeros_behind 0 byte) bytes)
    cases true = ap (λ x. 3 ∷ byte ∷ escaped_from x bytes) (behind_two byte)
    cases false = ap (λ x. byte ∷ escaped_from x bytes) (behind_two byte)

pub escaped_from_none : (bytes : List ℕ) → escaped_from 0 bytes ≡ escaped bytes
escaped_from_none [] = sym escaped_nil
escaped_from_none (suc x ∷ rest) = ap (λ y. suc x ∷ y) (escaped_from_none rest) ∙ sym (escaped_1 x rest)
escaped_from_none (zero ∷ []) = sym escaped_zero
escaped_from_none (zero ∷ suc y ∷ rest) = ap (λ x. 0 ∷ suc y ∷ x) (escaped_from_none rest) ∙ sym (escaped_2 y rest)
escaped_from_none (zero ∷ zero ∷ rest) = ap (λ x. 0 ∷ 0 ∷ x) (from_two rest (escaped_from_none rest)) ∙ sym (escaped_3 rest)
