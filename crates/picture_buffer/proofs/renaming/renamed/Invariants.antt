use Rattle.std.proofs.Common.{◌≡◌, ℕ, ◌<◌, length, slice_index_or}
use Rattle.recon.specs.References.{no_reference}
use Rattle.picture_buffer.specs.Renaming.{renamed_entry}
use Rattle.picture_buffer.proofs.renaming.renamed.Given as goal

abbrev pub invariant-loop-place : goal.invariant-loop-place
invariant-loop-place l = record {
  count : length l.references ≡ length l.info.references;
  done : (k : ℕ) → k < l.place → slice_index_or l.references k no_reference ≡ renamed_entry l.surfaces (slice_index_or l.info.references k no_reference);
  all : 0 < l.place → length l.info.references ≡ 16;
}
