-- A plane's samples after one line was filtered, and after one that wasn't.
use Rattle.std.proofs.Common.{◌≡◌, ℕ, ◌+◌, ◌-◌, ◌*◌, true, false, cond, List, get_or, sym, ap, ◌∙◌}
use Rattle.std.proofs.lemmas.List.{set-get_or}
use Rattle.deblock.specs.declared.line.Edge.{Edge}
use Rattle.deblock.specs.declared.line.Filter.{Filter}
use Rattle.deblock.specs.declared.line.Samples.{Samples}
use Rattle.deblock.specs.declared.line.Side.{Side}
use Rattle.deblock.specs.Filters.{chroma_changed, chroma_filtered, is_filtered, luma_changed, luma_filtered}
use Rattle.deblock.specs.Lines.{after_chroma_line, after_luma_line, line_of, put_edge, put_line, side_after, side_before}

-- samples put where they stand already
put_own : (s : List ℕ) (at step : ℕ) → put_line s at step (record { p = side_before s at step; q = side_after s at step }) ≡ s
put_own s at step = simp set-get_or

put_own_edge : (s : List ℕ) (at step : ℕ) → put_edge s at step (record { p0 = get_or s (at - step) 0; q0 = get_or s at 0 }) ≡ s
put_own_edge s at step = simp set-get_or

luma_at : (f : Filter) (p q : Side) → is_filtered f p.s1 p.s0 q.s0 q.s1 ≡ true → luma_changed f p q ≡ luma_filtered f p q
unfolding luma_filtered
luma_at f p q is = ap (λ b. cond b (luma_changed f p q) (record { p = p; q = q })) (sym is)

luma_left_at : (f : Filter) (p q : Side) → is_filtered f p.s1 p.s0 q.s0 q.s1 ≡ false → record { p = p; q = q } ≡ luma_filtered f p q
unfolding luma_filtered
luma_left_at f p q is = ap (λ b. cond b (luma_changed f p q) (record { p = p; q = q })) (sym is)

pub luma_line_is : (s out : List ℕ) (at step : ℕ) (f : Filter) (p q : Side) (line : Samples) → p ≡ side_before s at step → q ≡ side_after s at step → is_filtered f p.s1 p.s0 q.s0 q.s1 ≡ true
    → line ≡ luma_changed f p q → out ≡ put_line s at step line → out ≡ after_luma_line (line_of at step f) s
unfolding after_luma_line
luma_line_is s out at step f p q line ep eq is el eo =
    eo ∙ ap (put_line s at step) (el ∙ (luma_at f p q is ∙ (ap (λ x. luma_filtered f x q) ep ∙ ap (luma_filtered f (side_before s at step)) eq)))

pub luma_line_left : (s : List ℕ) (at step : ℕ) (f : Filter) (p q : Side) → p ≡ side_before s at step → q ≡ side_after s at step → is_filtered f p.s1 p.s0 q.s0 q.s1 ≡ false
    → s ≡ after_luma_line (line_of at step f) s
unfolding after_luma_line
luma_line_left s at step f p q ep eq is =
    sym (put_own s at step)
    ∙ ap (put_line s at step) (ap (λ (x : Side). record { p = x; q = side_after s at step }) (sym ep) ∙ (ap (λ (x : Side). record { p = p; q = x }) (sym eq) ∙ (luma_left_at f p q is ∙ (ap (λ x. luma_filtered f x q) ep ∙ ap (luma_filtered f (side_before s at step)) eq))))

chroma_at : (f : Filter) (p1 p0 q0 q1 : ℕ) → is_filtered f p1 p0 q0 q1 ≡ true → chroma_changed f p1 p0 q0 q1 ≡ chroma_filtered f p1 p0 q0 q1
unfolding chroma_filtered
chroma_at f p1 p0 q0 q1 is = ap (λ b. cond b (chroma_changed f p1 p0 q0 q1) (record { p0 = p0; q0 = q0 })) (sym is)

chroma_left_at : (f : Filter) (p1 p0 q0 q1 : ℕ) → is_filtered f p1 p0 q0 q1 ≡ false → record { p0 = p0; q0 = q0 } ≡ chroma_filtered f p1 p0 q0 q1
unfolding chroma_filtered
chroma_left_at f p1 p0 q0 q1 is = ap (λ b. cond b (chroma_changed f p1 p0 q0 q1) (record { p0 = p0; q0 = q0 })) (sym is)

pub chroma_line_is : (s out : List ℕ) (at step : ℕ) (f : Filter) (edge : Edge) → is_filtered f (get_or s (at - 2 * step) 0) (get_or s (at - step) 0) (get_or s at 0) (get_or s (at + step) 0) ≡ true
    → edge ≡ chroma_changed f (get_or s (at - 2 * step) 0) (get_or s (at - step) 0) (get_or s at 0) (get_or s (at + step) 0) → out ≡ put_edge s at step edge → out ≡ after_chroma_line (line_of at step f) s
unfolding after_chroma_line
chroma_line_is s out at step f edge is ee eo = eo ∙ ap (put_edge s at step) (ee ∙ chroma_at f _ _ _ _ is)

pub chroma_line_left : (s : List ℕ) (at step : ℕ) (f : Filter) → is_filtered f (get_or s (at - 2 * step) 0) (get_or s (at - step) 0) (get_or s at 0) (get_or s (at + step) 0) ≡ false → s ≡ after_chroma_line (line_of at step f) s
unfolding after_chroma_line
chroma_line_left s at step f is = sym (put_own_edge s at step) ∙ ap (put_edge s at step) (chroma_left_at f _ _ _ _ is)
