use Rattle.std.proofs.Common.{◌≡◌, take}
use Rattle.std.specs.List.{count_by}
use Rattle.driver_objects.specs.Counted.{has_picture}
use Rattle.driver_objects.specs.declared.object.Object.{Object}
use Rattle.driver_objects.proofs.counts.count_surfaces.Given as goal

abbrev pub invariant-loop-object : goal.invariant-loop-object
invariant-loop-object l = l.surfaces ≡ count_by (λ (object : Object). has_picture object.content) (take l.object-index l.kept)
