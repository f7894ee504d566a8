use Rattle.std.proofs.Common.{◌≡◌, ℕ, ◌<◌, length, slice_index_or}
use Rattle.cb_types.specs.declared.picture_info.Reference.{Reference}
use Rattle.stream_task.specs.Renaming.{name_or, renamed_entry}
use Rattle.stream_task.proofs.task.StreamTask.renamed.Given as goal

abbrev pub invariant-loop-place : goal.invariant-loop-place
invariant-loop-place l = record {
  count : length l.references ≡ length l.info.references;
  done : (k : ℕ) (d : Reference) → k < l.place →
      slice_index_or l.references k d ≡ renamed_entry (name_or l.self.slots l.self.objects l.decoder) (slice_index_or l.info.references k d);
  all : 0 < l.place → length l.info.references ≡ 16;
}
