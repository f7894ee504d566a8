use Rattle.std.proofs.Common.{◌≡◌, Ok, ◌∙◌, inr, refl, arith}
use Rattle.driver_model.specs.Kept.{kept_counts}
use Rattle.driver_model.specs.declared.replies.Answer.TheVariants.{Counts}
use Rattle.driver_core.proofs.KeptEntries.{entries_same}
use Rattle.driver_core.proofs.KeptSurfaces.{surfaces_few, surfaces_same}
use Rattle.driver_core.proofs.driver.Core.kept.Goals as goal

pub overflow_cast-result : goal.overflow_cast-result
overflow_cast-result c = let few = surfaces_few c.args.self.now in let is = (rw c.kept.ensures at c.count_surfaces.ensures) in omega (arith, few, is)

pub returns : goal.returns
returns c d caller stands =
    let core = c.args.self.now in
    let surfaces : c.count_surfaces.result ≡ (kept_counts d).surfaces = (rw c.kept.ensures at c.count_surfaces.ensures) ∙ surfaces_same core d stands in
    let entries : c.linked.result ≡ (kept_counts d).entries = c.linked.ensures.entries ∙ entries_same core d stands in
    record { after = d; step = inr (λ i. Ok (Counts (record { surfaces = surfaces i; entries = entries i })), refl); stands = stands }
