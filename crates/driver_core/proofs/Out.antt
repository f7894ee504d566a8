-- Which surfaces jobs write, by what is kept of the jobs.
use Rattle.std.proofs.Common.{◌≡◌, ℕ, ◌==◌, ◌&&◌, false, List, [], ◌∷◌, refl, sym, ap, ◌∙◌, arith}
use Rattle.std.specs.List.{list_any}
use Rattle.driver_model.specs.States.{Note, State, is_out}
use Rattle.driver_objects.specs.declared.jobs.OutJob.{OutJob}
use Rattle.driver_objects.proofs.Maps.{any_map}
use Rattle.driver_core.specs.Stands.{Stands, is_ok, is_owed, told_by, told_of}
use Rattle.driver_core.specs.declared.driver.Core.{Core}

-- a surface is out where some job that is out has it as its target
pub out_by_jobs : (core : Core) (d : State) → Stands core d → (place : ℕ) → list_any (λ (job : OutJob). job.target == place) core.jobs.items ≡ is_out d place
out_by_jobs core d stands place =
    sym (any_map told_by (λ told. told.1 == place) core.jobs.items) ∙ (ap (list_any (λ (told : ℕ × ℕ). told.1 == place)) stands.jobs ∙ any_map told_of (λ told. told.1 == place) d.notes)

-- what no job writes is owed no samples
pub not_out_not_owed : (d : State) (place : ℕ) → is_out d place ≡ false → is_owed d place ≡ false
not_out_not_owed d place home = by_notes d.notes home where
  by_notes : (notes : List Note) → list_any (λ note. note.target == place) notes ≡ false → list_any (λ note. note.target == place && is_ok note.outcome) notes ≡ false
  by_notes [] home = refl
  by_notes (note ∷ later) home =
      let rest : list_any (λ (other : Note). other.target == place) later ≡ false = grind (arith, home) in
      let none = by_notes later rest in
      grind (arith, home, none)
