use Rattle.std.proofs.Common.{◌≡◌, ◌<◌, find, length}
use Rattle.ref_lists.proofs.PlaceLemmas.{from_place}
use Rattle.ref_lists.specs.ReferenceList.{is_meant, numbers_of, references_of}
use Rattle.ref_lists.proofs.edits.find.Given as goal

abbrev pub invariant-loop-place : goal.invariant-loop-place
invariant-loop-place l = record {
  whole : 0 < l.place → length l.info.references ≡ 16;
  same : find (is_meant (numbers_of l.info l.header) l.counted l.edit) (references_of l.info) ≡ find (is_meant (numbers_of l.info l.header) l.counted l.edit) (from_place l.info l.place);
}
