use Rattle.std.proofs.Common.{◌≡◌, ℕ, ◌<◌, None, length, option_map, slice_index_or}
use Rattle.std.specs.Arc.{arc_value}
use Rattle.driver_objects.specs.Kept.{kept_of}
use Rattle.driver_core.specs.RenderStarts.{IsLent}
use Rattle.driver_core.specs.Shared.{Shares}
use Rattle.driver_core.proofs.driver.Core.share_references.Given as goal

abbrev pub invariant-loop-place : goal.invariant-loop-place
invariant-loop-place l = record {
  shares : Shares l.initial.self l.self;
  lent : (place : ℕ) → place < l.place → IsLent (kept_of l.initial.self.objects) (slice_index_or l.slots place None) (option_map arc_value (slice_index_or l.pictures place None));
  count : length l.pictures ≡ 16;
}
