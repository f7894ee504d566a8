-- The lines at one place of an edge, and lines that nothing filters.
use Rattle.std.proofs.Common.{◌≡◌, ℕ, ◌+◌, ◌*◌, ◌/◌, ◌<◌, false, List, get_or, sym, refl, ap, ◌∙◌, arith}
use Rattle.std.proofs.lemmas.Bool.Decides.{nat_tests}
use Rattle.cb_tables.specs.FilterThresholds.{alpha_at}
use Rattle.deblock.specs.declared.edges.Run.{Run}
use Rattle.deblock.specs.declared.line.Filter.{Filter}
use Rattle.deblock.specs.declared.thresholds.Indexes.{Indexes}
use Rattle.deblock.specs.Deblocked.{after_lines}
use Rattle.deblock.specs.Filters.{is_filtered}
use Rattle.deblock.specs.Lines.{Line, after_chroma_line, after_luma_line, line_of, side_after, side_before}
use Rattle.deblock.specs.Runs.{run_line, same_line}
use Rattle.deblock.specs.Thresholds.{filter_by}
use Rattle.deblock.proofs.Puts.{chroma_line_left, luma_line_left}
use Rattle.deblock.proofs.Steps.{idle_lines, same_lines}

-- a filter that filters no line
pub record IsIdle (f : Filter) : Type 0 where
  pub idle : (p1 p0 q0 q1 : ℕ) → is_filtered f p1 p0 q0 q1 ≡ false

pub weak : (f : Filter) → f.strength ≡ 0 → IsIdle f
unfolding is_filtered
weak f is = record { idle = λ p1 p0 q0 q1. grind (arith, nat_tests) }

pub flat : (f : Filter) → f.alpha ≡ 0 → IsIdle f
unfolding is_filtered
flat f is = record { idle = λ p1 p0 q0 q1. grind (arith, nat_tests) }

-- after the line, the samples are as before
pub record Leaves (r : Line → List ℕ → List ℕ) : Type 0 where
  pub leaves : (at step : ℕ) (f : Filter) → IsIdle f → (t : List ℕ) → r (line_of at step f) t ≡ t

pub luma_leaves : Leaves after_luma_line
luma_leaves = record { leaves = λ at step f idle t. sym (luma_line_left t at step f (side_before t at step) (side_after t at step) refl refl (idle.idle _ _ _ _)) }

pub chroma_leaves : Leaves after_chroma_line
chroma_leaves = record { leaves = λ at step f idle t. sym (chroma_line_left t at step f (idle.idle _ _ _ _)) }

-- all lines of a run are idle where α is 0
pub flat_run : (r : Line → List ℕ → List ℕ) → Leaves r → (run : Run) (ix : Indexes) (st : List ℕ) (lines n : ℕ) (s : List ℕ) → alpha_at ix.a ≡ 0 → s ≡ after_lines r (run_line run ix st lines) 0 n s
flat_run r leaves run ix st lines n s is = idle_lines r (run_line run ix st lines) 0 n s (λ k h t. leaves.leaves _ _ _ (flat _ is) t)

-- the lines at a place of strength 0
pub weak_place : (r : Line → List ℕ → List ℕ) → Leaves r → (run : Run) (ix : Indexes) (st : List ℕ) (lines first n place : ℕ) (s : List ℕ) → ((k : ℕ) → k < n → (first + k) / lines ≡ place) → get_or st place 0 ≡ 0
    → s ≡ after_lines r (run_line run ix st lines) first n s
weak_place r leaves run ix st lines first n place s here is =
    idle_lines r (run_line run ix st lines) first n s (λ k h t. leaves.leaves _ _ _ (weak _ (ap (λ p. get_or st p 0) (here k h) ∙ is)) t)

-- the lines at a place, which are filtered alike
pub place_lines : (r : Line → List ℕ → List ℕ) (run : Run) (ix : Indexes) (st : List ℕ) (lines first n place : ℕ) (f : Filter) (s out : List ℕ) → ((k : ℕ) → k < n → (first + k) / lines ≡ place) → f ≡ filter_by ix.a ix.b (get_or st place 0)
    → out ≡ after_lines r (same_line run f) first n s → out ≡ after_lines r (run_line run ix st lines) first n s
place_lines r run ix st lines first n place f s out here is eo =
    eo ∙ same_lines r (same_line run f) (run_line run ix st lines) first first n s (λ k h. ap (line_of (run.first + (first + k) * run.along) run.step) (is ∙ ap (λ p. filter_by ix.a ix.b (get_or st p 0)) (sym (here k h))))

pub fours : (place k : ℕ) → k < 4 → (4 * place + k) / 4 ≡ place
fours place k h = omega arith

pub twos : (place k : ℕ) → k < 2 → (2 * place + k) / 2 ≡ place
twos place k h = omega arith
