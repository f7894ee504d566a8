use Rattle.std.proofs.Common.{◌≡◌, Some, sym, ap, ◌∙◌}
use Rattle.param_sets.specs.declared.sps.Sps.{Sps}
use Rattle.access_units.proofs.PictureSets.{decides_same, is_same}
use Rattle.access_units.proofs.pictures.Pictures.has_its_set.Goals as goal

some_same : (a b : Sps) → Some a ≡ Some b → a ≡ b
some_same a b e = cc

pub returns-in-Some : goal.returns-in-Some
returns-in-Some c =
    let sps = c.args.named.now.sps in
    let tested : c.eq.result ≡ is_same c.in-Some.last sps = c.eq.ensures in
    let decided = decides_same c.in-Some.last sps in (
      λ e idr. c.in-Some.is ∙ ap (λ (s : Sps). Some s) (decided.0 (sym tested ∙ e)),
      λ has. tested ∙ decided.1 (some_same c.in-Some.last sps (sym c.in-Some.is ∙ has (sym c.is_idr.ensures ∙ c.if-is_idr.false))),
    )
