-- Arrays that are written as lists.
use Rattle.std.proofs.Common.{◌≡◌, ℕ, List, Bool, length, take, subst}
use Rattle.cb_types.specs.declared.header.EntryWeights.{EntryWeights}
use Rattle.cb_types.specs.declared.header.ListEdit.{ListEdit}
use Rattle.cb_types.specs.declared.header.ListEdit.TheVariants.{Subtract}
use Rattle.cb_types.specs.declared.header.Marking.TheVariants.{Operations}
use Rattle.cb_types.specs.declared.header.Mmco.{Mmco}
use Rattle.cb_types.specs.declared.header.Mmco.TheVariants.{Reset}
use Rattle.element_tables.specs.Syntax.{Appends, times}
use Rattle.element_tables.proofs.Tables.{appends_made, appends_then}
use Rattle.slice_header.specs.Lists.{listed, padded}
use Rattle.slice_header.specs.Spelling.{all_entries, command, edits, entry_weights, no_entry, operation, operations}
use Rattle.slice_header.specs.declared.parts.Edits.{Edits}

pub entries_appended : (active : ℕ) (xs : List EntryWeights) (old new : List Bool) → Appends (times active entry_weights) (take active xs) old new
    → Appends (all_entries active) (padded 16 no_entry (take active xs)) old new
unfolding all_entries
entries_appended active xs old new h = appends_then _ h (appends_made _ _)

abbrev made_edits : ℕ → List ListEdit → Edits
made_edits count list = record { count = count; list = list }

pub edits_appended : (frame_nums most k : ℕ) (xs : List ListEdit) (old new : List Bool) → length (take k xs) ≡ k → Appends (listed 3 3 (command frame_nums) most) (take k xs) old new
    → Appends (edits frame_nums most) (made_edits k (padded 16 (Subtract 0) (take k xs))) old new
unfolding edits
edits_appended frame_nums most k xs old new long h =
    subst (λ (n : ℕ). Appends (edits frame_nums most) (made_edits n (padded 16 (Subtract 0) (take k xs))) old new) long (appends_then _ h (appends_made _ _))

pub operations_appended : (k : ℕ) (xs : List Mmco) (old new : List Bool) → length (take k xs) ≡ k → Appends (listed 6 0 operation 64) (take k xs) old new
    → Appends operations (Operations k (padded 64 Reset (take k xs))) old new
unfolding operations
operations_appended k xs old new long h =
    subst (λ (n : ℕ). Appends operations (Operations n (padded 64 Reset (take k xs))) old new) long (appends_then _ h (appends_made _ _))
