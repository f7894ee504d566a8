-- The tests of values.
use Rattle.std.proofs.Common.{◌≡◌, ℕ, ℤ, ◌≤ℤ◌, cond, ◌&&◌, Option, ◌<◌, ◌≤◌, ◌≢◌, Bool, true, false, None, Some, refl, sym, subst, arith, eq-eqb, ne_eqb}
use mathlib.Core.Bool.{beq}
use Rattle.std.proofs.Common.{SFits, rules, w32}
use Rattle.bit_io.specs.Codewords.{IsSe}
use Rattle.std.specs.Int.Signed.{le_z_yes}
use Rattle.std.specs.Prelude.{T, int_le}
use Rattle.element_tables.specs.declared.elements.Stop.{Stop}
use Rattle.element_tables.specs.declared.elements.Stop.TheVariants.{Malformed, OtherProfile}
use Rattle.element_tables.specs.Syntax.{between, only, only_flag, up_to}

pub only_is : (v wanted : ℕ) → v ≡ wanted → only wanted v ≡ None
only_is v wanted e = rw (eq-eqb v wanted e) refl

pub only_other : (v wanted : ℕ) → v ≢ wanted → only wanted v ≡ Some OtherProfile
only_other v wanted e = rw (ne_eqb v wanted e) refl

pub up_to_is : (v greatest : ℕ) → v ≤ greatest → up_to greatest v ≡ None
up_to_is v greatest h = grind arith

pub up_to_other : (v greatest : ℕ) → greatest < v → up_to greatest v ≡ Some Malformed
up_to_other v greatest h = grind arith

pub flag_is : (wanted f : Bool) → f ≡ wanted → only_flag wanted f ≡ None
flag_is true true e = refl
flag_is true false e = absurd cc
flag_is false true e = absurd cc
flag_is false false e = refl

pub flag_other : (wanted f : Bool) → f ≢ wanted → only_flag wanted f ≡ Some OtherProfile
flag_other true true e = absurd (e refl)
flag_other true false e = refl
flag_other false true e = refl
flag_other false false e = absurd (e refl)

pub beq_same : (a b : Bool) → beq a b ≡ true → a ≡ b
beq_same true true e = refl
beq_same true false e = absurd cc
beq_same false true e = absurd cc
beq_same false false e = refl

pub beq_apart : (a b : Bool) → beq a b ≡ false → a ≢ b
beq_apart true true e = absurd cc
beq_apart true false e = λ f. cc
beq_apart false true e = λ f. cc
beq_apart false false e = absurd cc

abbrev chosen : Bool → Bool → Option Stop
chosen a b = cond (a && b) None (Some Malformed)

chosen_both : (a b : Bool) → a ≡ true → b ≡ true → chosen a b ≡ None
chosen_both true true e f = refl
chosen_both true false e f = absurd cc
chosen_both false b e f = absurd cc

chosen_first : (a b : Bool) → a ≡ false → chosen a b ≡ Some Malformed
chosen_first true b e = absurd cc
chosen_first false b e = refl

chosen_second : (a b : Bool) → b ≡ false → chosen a b ≡ Some Malformed
chosen_second true true e = absurd cc
chosen_second true false e = refl
chosen_second false b e = refl

pub between_is : (least greatest v : ℤ) → int_le least v ≡ true → int_le v greatest ≡ true → between least greatest v ≡ None
between_is least greatest v low high = chosen_both (int_le least v) (int_le v greatest) low high

pub between_below : (least greatest v : ℤ) → int_le least v ≡ false → between least greatest v ≡ Some Malformed
between_below least greatest v low = chosen_first (int_le least v) (int_le v greatest) low

pub between_above : (least greatest v : ℤ) → int_le v greatest ≡ false → between least greatest v ≡ Some Malformed
between_above least greatest v high = chosen_second (int_le least v) (int_le v greatest) high

-- ---- back from the tests

pub up_to_most : (v greatest : ℕ) → up_to greatest v ≡ None → v ≤ greatest
up_to_most v greatest e = grind arith

pub only_one : (v wanted : ℕ) → only wanted v ≡ None → v ≡ wanted
only_one v wanted e = grind arith

pub flag_one : (wanted f : Bool) → only_flag wanted f ≡ None → f ≡ wanted
flag_one true true e = refl
flag_one true false e = absurd cc
flag_one false true e = absurd cc
flag_one false false e = refl

chosen_are : (a b : Bool) → chosen a b ≡ None → (a ≡ true) × (b ≡ true)
chosen_are true true e = (refl, refl)
chosen_are true false e = absurd cc
chosen_are false b e = absurd cc

pub between_are : (least greatest v : ℤ) → between least greatest v ≡ None → (int_le least v ≡ true) × (int_le v greatest ≡ true)
between_are least greatest v e = chosen_are (int_le least v) (int_le v greatest) e

pub between_ends : (least greatest v : ℤ) → between least greatest v ≡ None → (least ≤ℤ v) × (v ≤ℤ greatest)
between_ends least greatest v e =
    let both = between_are least greatest v e in
    (le_z_yes (subst T (sym both.0) tt), le_z_yes (subst T (sym both.1) tt))

is_true : (b : Bool) → T b → b ≡ true
is_true true h = refl
is_true false h = absurd h

pub between_fits : (least greatest v : ℤ) → least ≤ℤ v → v ≤ℤ greatest → between least greatest v ≡ None
between_fits least greatest v low high = between_is least greatest v (is_true (int_le least v) low.le) (is_true (int_le v greatest) high.le)

-- a value with a codeword fits 32 bits
pub se_fits : (v : ℤ) → IsSe v → SFits w32 v
se_fits v h = search rules
