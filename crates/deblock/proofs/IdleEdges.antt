-- Edges at which nothing is filtered.
use Rattle.std.proofs.Common.{◌≡◌, ℕ, zero, suc, ◌+◌, ◌*◌, ◌/◌, ◌<◌, ◌≤◌, Bool, cond, List, [], ◌∷◌, get_or, Option, Some, None, refl, ap, ◌∙◌, arith}
use Rattle.std.specs.Prelude.{ℤ}
use Rattle.cb_types.specs.declared.mark.MbMark.{MbMark}
use Rattle.deblock.specs.declared.edges.Run.{Run}
use Rattle.deblock.specs.declared.thresholds.Indexes.{Indexes}
use Rattle.deblock.specs.Deblocked.{after_chroma_lines, after_lines, after_luma_lines}
use Rattle.deblock.specs.Edges.{before, mark_at, strength_at, strength_from}
use Rattle.deblock.specs.Lines.{Line, after_chroma_line, after_luma_line, edge_line, filter_from, line}
use Rattle.deblock.specs.Runs.{edge_run, run_line}
use Rattle.deblock.specs.Thresholds.{Channel, chroma, index_a, index_b, luma}
use Rattle.deblock.proofs.Decoded.{chroma_line_at, luma_line_at}
use Rattle.deblock.proofs.EdgeRuns.{IsMet, chroma_run_is, four, luma_run_is}
use Rattle.deblock.proofs.Places.{IsIdle, Leaves, chroma_leaves, luma_leaves, weak}
use Rattle.deblock.proofs.Steps.{idle_lines}

-- an edge inside a macroblock has that macroblock on both sides
pub inner : (w mb : ℕ) (v : Bool) (e : ℕ) → 1 ≤ e → before w mb v e ≡ Some mb
inner w mb v zero h = absurd (omega arith)
inner w mb v (suc e) h = refl

weak_run : (r : Line → List ℕ → List ℕ) → Leaves r → (run : Run) (ix : Indexes) (st : List ℕ) (lines n : ℕ) (s : List ℕ) → ((p : ℕ) → get_or st p 0 ≡ 0) → s ≡ after_lines r (run_line run ix st lines) 0 n s
weak_run r leaves run ix st lines n s is = idle_lines r (run_line run ix st lines) 0 n s (λ k h t. leaves.leaves _ _ _ (weak _ (is ((0 + k) / lines))) t)

abbrev pub no_strengths : List ℕ
no_strengths = 0 ∷ 0 ∷ 0 ∷ 0 ∷ []

zeros : (p : ℕ) → get_or no_strengths p 0 ≡ 0
zeros zero = refl
zeros (suc zero) = refl
zeros (suc (suc zero)) = refl
zeros (suc (suc (suc zero))) = refl
zeros (suc (suc (suc (suc p)))) = refl

rows_of : (c : Channel) (marks : List MbMark) (mb other : ℕ) → Indexes
rows_of c marks mb other = record { a = index_a c (mark_at marks other) (mark_at marks mb); b = index_b c (mark_at marks other) (mark_at marks mb) }

met_by : (c : Channel) (w : ℕ) (marks : List MbMark) (mb other : ℕ) (v : Bool) (le : ℕ) (st : List ℕ) → before w mb v le ≡ Some other → st ≡ four (strength_at w marks mb v le) → IsMet c w marks mb other v le (rows_of c marks mb other) st
unfolding rows_of
met_by c w marks mb other v le st met is = record { met = met; a = refl; b = refl; strengths = is }

-- all strengths are 0
pub luma_weak_edge : (w : ℕ) (marks : List MbMark) (mb other : ℕ) (v : Bool) (e : ℕ) (st s : List ℕ) → e < 4 → before w mb v e ≡ Some other → st ≡ four (strength_at w marks mb v e) → st ≡ no_strengths
    → s ≡ after_luma_lines w marks (128 * mb + cond v 0 64 + 16 * e) 16 s
luma_weak_edge w marks mb other v e st s he met is none =
    luma_run_is after_luma_line w marks mb other v e (edge_run 16 w mb v e) (rows_of luma marks mb other) st s s he (met_by luma w marks mb other v e st met is) refl (weak_run after_luma_line luma_leaves _ _ st 4 16 s (λ p. ap (λ l. get_or l p 0) none ∙ zeros p))

pub chroma_weak_edge : (o : ℤ) (w : ℕ) (marks : List MbMark) (mb other : ℕ) (v : Bool) (e : ℕ) (st s : List ℕ) → e < 2 → before w mb v (2 * e) ≡ Some other → st ≡ four (strength_at w marks mb v (2 * e)) → st ≡ no_strengths
    → s ≡ after_chroma_lines o w marks (32 * mb + cond v 0 16 + 8 * e) 8 s
chroma_weak_edge o w marks mb other v e st s he met is none =
    chroma_run_is after_chroma_line o w marks mb other v e (edge_run 8 w mb v e) (rows_of (chroma o) marks mb other) st s s he (met_by (chroma o) w marks mb other v (2 * e) st met is) refl (weak_run after_chroma_line chroma_leaves _ _ st 2 8 s (λ p. ap (λ l. get_or l p 0) none ∙ zeros p))

-- an edge of the picture
pub none_strength : (c : Channel) (marks : List MbMark) (o : Option ℕ) (mb s : ℕ) → (filter_from c marks o mb s).strength ≡ s
none_strength c marks None mb s = refl
none_strength c marks (Some other) mb s = refl

pub at_picture_edge : (w : ℕ) (marks : List MbMark) (mb : ℕ) (v : Bool) (e p : ℕ) → before w mb v e ≡ None → strength_at w marks mb v e p ≡ 0
unfolding strength_at
at_picture_edge w marks mb v e p none = ap (λ o. strength_from marks o mb v e p) none

idle_edge_line : (c : Channel) (w : ℕ) (marks : List MbMark) (mb : ℕ) (v : Bool) (k : ℕ) → before w mb v (16 / c.side * 0) ≡ None → IsIdle (edge_line c w marks mb v 0 k).filter
idle_edge_line c w marks mb v k none =
    weak _ (none_strength c marks (before w mb v (16 / c.side * 0)) mb (strength_at w marks mb v (16 / c.side * 0) (16 / c.side * k / 4)) ∙ at_picture_edge w marks mb v (16 / c.side * 0) (16 / c.side * k / 4) none)

pub luma_none_edge : (w : ℕ) (marks : List MbMark) (mb : ℕ) (v : Bool) (s : List ℕ) → before w mb v 0 ≡ None → s ≡ after_luma_lines w marks (128 * mb + cond v 0 64) 16 s
luma_none_edge w marks mb v s none =
    idle_lines after_luma_line (line luma w marks) (128 * mb + cond v 0 64) 16 s
    (λ k h t. ap (λ x. after_luma_line x t) (luma_line_at w marks mb v 0 k _ (omega arith) h (omega arith)) ∙ luma_leaves.leaves _ _ _ (idle_edge_line luma w marks mb v k none) t)

pub chroma_none_edge : (o : ℤ) (w : ℕ) (marks : List MbMark) (mb : ℕ) (v : Bool) (s : List ℕ) → before w mb v 0 ≡ None → s ≡ after_chroma_lines o w marks (32 * mb + cond v 0 16) 8 s
chroma_none_edge o w marks mb v s none =
    idle_lines after_chroma_line (line (chroma o) w marks) (32 * mb + cond v 0 16) 8 s
    (λ k h t. ap (λ x. after_chroma_line x t) (chroma_line_at o w marks mb v 0 k _ (omega arith) h (omega arith)) ∙ chroma_leaves.leaves _ _ _ (idle_edge_line (chroma o) w marks mb v k none) t)

-- the same of an edge that chroma has, by its number there
pub luma_weak_even : (w : ℕ) (marks : List MbMark) (mb other : ℕ) (v : Bool) (n : ℕ) (st s : List ℕ) → n < 2 → before w mb v (2 * n) ≡ Some other → st ≡ four (strength_at w marks mb v (2 * n)) → st ≡ no_strengths
    → s ≡ after_luma_lines w marks (128 * mb + cond v 0 64 + 32 * n) 16 s
luma_weak_even w marks mb other v n st s h met is none =
    let place : 128 * mb + cond v 0 64 + 16 * (2 * n) ≡ 128 * mb + cond v 0 64 + 32 * n = omega arith in
    luma_weak_edge w marks mb other v (2 * n) st s (omega arith) met is none ∙ ap (λ f. after_luma_lines w marks f 16 s) place
