-- The coded block patterns: the code's tables are those of the standard, and undo each other.
use Rattle.std.proofs.Common.{◌≡◌, ℕ, ◌≤◌, Bool, true, false, ◌&&◌, nat_eq, refl, arith}
use Rattle.std.proofs.lemmas.Bool.{and_parts, eqb-true, leb-true}
use Rattle.std.specs.Prelude.{nat_le, slice_index}
use Rattle.cb_tables.specs.declared.coded_block_pattern.TheConstants.{INTER_CODES, INTRA_CODES}
use Rattle.cb_tables.specs.CodedBlockPattern.{inter_patterns, intra_patterns, pattern_at, pattern_code_at}
use Rattle.cb_tables.proofs.Computed.{all_below, each_below}

undone_test : Bool → ℕ → Bool
undone_test intra code = nat_le (pattern_at code intra) 47 && nat_eq (pattern_code_at (pattern_at code intra) intra) code

undone_hold : (intra : Bool) → all_below (undone_test intra) 48 ≡ true
unfolding undone_test pattern_at pattern_code_at inter_patterns intra_patterns
undone_hold true = refl
undone_hold false = refl

pub code_undone : (code : ℕ) (intra : Bool) → code ≤ 47 → (pattern_at code intra ≤ 47) × (pattern_code_at (pattern_at code intra) intra ≡ code)
unfolding undone_test
code_undone code intra h =
    let parts = and_parts _ _ (each_below (undone_test intra) 48 code (undone_hold intra) (omega arith)) in
    (leb-true _ _ parts.0, eqb-true _ _ parts.1)

found_test : Bool → ℕ → Bool
found_test intra pattern = nat_le (pattern_code_at pattern intra) 47 && nat_eq (pattern_at (pattern_code_at pattern intra) intra) pattern

found_hold : (intra : Bool) → all_below (found_test intra) 48 ≡ true
unfolding found_test pattern_at pattern_code_at inter_patterns intra_patterns
found_hold true = refl
found_hold false = refl

pub pattern_undone : (pattern : ℕ) (intra : Bool) → pattern ≤ 47 → (pattern_code_at pattern intra ≤ 47) × (pattern_at (pattern_code_at pattern intra) intra ≡ pattern)
unfolding found_test
pattern_undone pattern intra h =
    let parts = and_parts _ _ (each_below (found_test intra) 48 pattern (found_hold intra) (omega arith)) in
    (leb-true _ _ parts.0, eqb-true _ _ parts.1)

intra_code_test : ℕ → Bool
intra_code_test pattern = nat_eq (slice_index INTRA_CODES pattern) (pattern_code_at pattern true)

inter_code_test : ℕ → Bool
inter_code_test pattern = nat_eq (slice_index INTER_CODES pattern) (pattern_code_at pattern false)

pub intra_code : (pattern : ℕ) → pattern ≤ 47 → slice_index INTRA_CODES pattern ≡ pattern_code_at pattern true
unfolding intra_code_test pattern_code_at intra_patterns
intra_code pattern h = eqb-true _ _ (each_below intra_code_test 48 pattern refl (omega arith))

pub inter_code : (pattern : ℕ) → pattern ≤ 47 → slice_index INTER_CODES pattern ≡ pattern_code_at pattern false
unfolding inter_code_test pattern_code_at inter_patterns
inter_code pattern h = eqb-true _ _ (each_below inter_code_test 48 pattern refl (omega arith))
