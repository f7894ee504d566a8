-- The clipped quantizer of chroma.
use Rattle.std.proofs.Common.{◌≡◌, ℕ, ◌<◌, ◌≤◌, min, Bool, nat_le, ℤ, pos, negsuc, ◌+ℤ◌, to_z, w32, nat_abs, lit<, refl, ap, ◌∙◌, inl, inr, arith}
use Rattle.std.specs.Int.{int_max, int_min}
use Rattle.std.proofs.lemmas.Bool.{cases_lt, le-ltb, leb-true, lt-ltb}
use Rattle.std.proofs.lemmas.Int.{ints}
use Rattle.cb_tables.specs.ChromaQp.{chroma_qp_at, from_30}
use Rattle.int_transform.specs.Bounds.{IsWithin}
use Rattle.int_transform.specs.ChromaQuantizer.{chroma_qp_from, clipped_qp}
use Rattle.int_transform.proofs.Computed.{each_below}
use Rattle.int_transform.proofs.Whole.{kept}

limit_test : ℕ → Bool
limit_test index = nat_le (chroma_qp_at index) 39

chroma_limit : (index : ℕ) → index < 52 → chroma_qp_at index ≤ 39
unfolding limit_test chroma_qp_at from_30
chroma_limit index h = leb-true _ _ (each_below limit_test 52 index refl h)

clipped_limit : (z : ℤ) → clipped_qp z < 52
clipped_limit (pos n) = omega arith
clipped_limit (negsuc n) = lit< tt

clamped_is : (z : ℤ) → nat_abs (kept (int_max (pos 0) (int_min z (pos 51)))) ≡ clipped_qp z
clamped_is (pos n) = elim (cases_lt 51 n) [
  | inl above ↦ let e = lt-ltb 51 n above in rw e (omega arith)
  | inr inside ↦ let e = le-ltb 51 n inside in let f = le-ltb n 0 (omega arith) in rw (e, f) (inside_is n inside)
]
  where
    inside_is : (n : ℕ) → n ≤ 51 → nat_abs (kept (pos n)) ≡ min n 51
    inside_is n h = let k : kept (pos n) ≡ pos n = omega (arith, ints) in rw k (omega arith)
clamped_is (negsuc n) = refl

sum_is : (qp : ℕ) (offset : ℤ) → qp ≤ 51 → IsWithin 12 offset → kept (to_z w32 qp +ℤ kept offset) ≡ pos qp +ℤ offset
sum_is qp offset h w = omega (arith, ints)

pub chroma_qp_is : (qp r : ℕ) (offset z : ℤ) → qp ≤ 51 → IsWithin 12 offset → z ≡ int_max (pos 0) (int_min (kept (to_z w32 qp +ℤ kept offset)) (pos 51)) → r ≡ chroma_qp_at (nat_abs (kept z)) → r ≡ chroma_qp_from qp offset
unfolding chroma_qp_from
chroma_qp_is qp r offset z h w ez er =
    er ∙ ap (λ (i : ℕ). chroma_qp_at i) (ap (λ x. nat_abs (kept x)) ez ∙ (ap (λ x. nat_abs (kept (int_max (pos 0) (int_min x (pos 51))))) (sum_is qp offset h w) ∙ clamped_is (pos qp +ℤ offset)))

pub chroma_qp_limit : (qp : ℕ) (offset : ℤ) → chroma_qp_from qp offset ≤ 39
unfolding chroma_qp_from
chroma_qp_limit qp offset = chroma_limit _ (clipped_limit (pos qp +ℤ offset))
