-- Edits one after the other.
use Rattle.std.proofs.Common.{◌≡◌, ℕ, suc, ◌+◌, ◌<◌, ◌≤◌, ◌∷◌, length, take, drop, find, get_or, Option, Some, None, refl, ap, ◌∙◌, arith}
use Rattle.std.proofs.Math.Seq.{drop-cons}
use Rattle.std.proofs.lemmas.List.{drop_all}
use Rattle.cb_types.specs.Slices.{active_entries}
use Rattle.cb_types.specs.declared.header.Header.{Header}
use Rattle.cb_types.specs.declared.header.ListEdit.{ListEdit}
use Rattle.cb_types.specs.declared.picture_info.PictureInfo.{PictureInfo}
use Rattle.ref_lists.specs.ReferenceList.{Modified, Placed, counted_to, is_meant, modified_by, modified_by_all, moved_up, numbers_of, references_of}

-- the list behind the edits from this one on
abbrev pub from_edit : PictureInfo → Header → ℕ → Modified → Option Modified
from_edit info header k list = modified_by_all (numbers_of info header) (active_entries info header) (references_of info) (drop k (take header.edit_count header.edits)) list

abbrev pub edit_at : Header → ℕ → ListEdit → ListEdit
edit_at header k d = get_or (take header.edit_count header.edits) k d

-- the next edit
next_edit : (header : Header) (k : ℕ) (d : ListEdit) → k < length (take header.edit_count header.edits)
    → drop k (take header.edit_count header.edits) ≡ edit_at header k d ∷ drop (k + 1) (take header.edit_count header.edits)
next_edit header k d inside = let e : suc k ≡ k + 1 = omega arith in drop-cons (take header.edit_count header.edits) k d inside ∙ ap (λ (n : ℕ). edit_at header k d ∷ drop n (take header.edit_count header.edits)) e

-- It names no reference.
pub edit_fails : (info : PictureInfo) (header : Header) (k : ℕ) (d edit : ListEdit) (counted : ℕ) (list : Modified) → k < length (take header.edit_count header.edits)
    → edit_at header k d ≡ edit → counted ≡ counted_to (numbers_of info header) list.predicted edit
    → find (is_meant (numbers_of info header) counted edit) (references_of info) ≡ None
    → from_edit info header k list ≡ None
unfolding modified_by_all modified_by
edit_fails info header k d edit counted list inside same value none = rw (next_edit header k d inside, same, ← value) (rw none refl)

-- It names this reference.
pub edit_moves : (info : PictureInfo) (header : Header) (k : ℕ) (d edit : ListEdit) (counted : ℕ) (list : Modified) (placed : Placed) → k < length (take header.edit_count header.edits)
    → edit_at header k d ≡ edit → counted ≡ counted_to (numbers_of info header) list.predicted edit
    → find (is_meant (numbers_of info header) counted edit) (references_of info) ≡ Some placed
    → from_edit info header k list ≡ from_edit info header (k + 1) (record {
      predicted = counted;
      settled = list.settled + 1;
      entries = moved_up (active_entries info header) list.settled placed.0 list.entries;
    })
unfolding modified_by_all modified_by
edit_moves info header k d edit counted list placed inside same value found =
    let e : suc list.settled ≡ list.settled + 1 = omega arith in
    rw (next_edit header k d inside, same, ← value) (rw found (rw e refl))

-- There are no more.
pub no_edit : (info : PictureInfo) (header : Header) (k : ℕ) (list : Modified) → length (take header.edit_count header.edits) ≤ k → from_edit info header k list ≡ Some list
unfolding modified_by_all
no_edit info header k list past = rw (drop_all k (take header.edit_count header.edits) past) refl
