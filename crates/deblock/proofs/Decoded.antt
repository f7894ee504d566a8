-- The line of a number, by its macroblock, direction, edge and place along it.
use Rattle.std.proofs.Common.{◌≡◌, ℕ, ◌+◌, ◌*◌, ◌<◌, Bool, true, false, cond, eqb, List, ap, ◌∙◌, arith}
use Rattle.std.proofs.lemmas.Bool.Decides.{nat_tests}
use Rattle.cb_types.specs.declared.mark.MbMark.{MbMark}
use Rattle.deblock.specs.Lines.{edge_line, line}
use Rattle.deblock.specs.Thresholds.{Channel, chroma, luma}
use Rattle.std.specs.Prelude.{ℤ}

edge_line_same : (c : Channel) (w : ℕ) (marks : List MbMark) (mb mb' : ℕ) (v v' : Bool) (e e' k k' : ℕ) → mb ≡ mb' → v ≡ v' → e ≡ e' → k ≡ k' → edge_line c w marks mb v e k ≡ edge_line c w marks mb' v' e' k'
edge_line_same c w marks mb mb' v v' e e' k k' p q r s =
    ap (λ x. edge_line c w marks x v e k) p ∙ (ap (λ x. edge_line c w marks mb' x e k) q ∙ (ap (λ x. edge_line c w marks mb' v' x k) r ∙ ap (λ x. edge_line c w marks mb' v' e' x) s))

is_first : (n : ℕ) → n ≡ 0 → eqb n 0 ≡ true
is_first n h = grind (arith, nat_tests)

is_second : (n : ℕ) → n ≡ 1 → eqb n 0 ≡ false
is_second n h = grind (arith, nat_tests)

pub luma_line_at : (w : ℕ) (marks : List MbMark) (mb : ℕ) (v : Bool) (e k n : ℕ) → e < 4 → k < 16 → n ≡ 128 * mb + cond v 0 64 + 16 * e + k → line luma w marks n ≡ edge_line luma w marks mb v e k
unfolding line
luma_line_at w marks mb true e k n he hk is = edge_line_same luma w marks _ mb _ true _ e _ k (omega arith) (is_first _ (omega arith)) (omega arith) (omega arith)
luma_line_at w marks mb false e k n he hk is = edge_line_same luma w marks _ mb _ false _ e _ k (omega arith) (is_second _ (omega arith)) (omega arith) (omega arith)

pub chroma_line_at : (o : ℤ) (w : ℕ) (marks : List MbMark) (mb : ℕ) (v : Bool) (e k n : ℕ) → e < 2 → k < 8 → n ≡ 32 * mb + cond v 0 16 + 8 * e + k → line (chroma o) w marks n ≡ edge_line (chroma o) w marks mb v e k
unfolding line
chroma_line_at o w marks mb true e k n he hk is = edge_line_same (chroma o) w marks _ mb _ true _ e _ k (omega arith) (is_first _ (omega arith)) (omega arith) (omega arith)
chroma_line_at o w marks mb false e k n he hk is = edge_line_same (chroma o) w marks _ mb _ false _ e _ k (omega arith) (is_second _ (omega arith)) (omega arith) (omega arith)
