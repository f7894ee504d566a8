-- Arrays from lists that are read to their end.
use Rattle.std.proofs.Common.{◌≡◌, ℕ, ◌-◌, List, Bool, length, take, Ok, Err, ap, subst, ◌∙◌, arith}
use Rattle.cb_types.specs.declared.header.EntryWeights.{EntryWeights}
use Rattle.cb_types.specs.declared.header.ListEdit.{ListEdit}
use Rattle.cb_types.specs.declared.header.ListEdit.TheVariants.{Subtract}
use Rattle.cb_types.specs.declared.header.Marking.{Marking}
use Rattle.cb_types.specs.declared.header.Marking.TheVariants.{Operations}
use Rattle.cb_types.specs.declared.header.Mmco.{Mmco}
use Rattle.cb_types.specs.declared.header.Mmco.TheVariants.{Reset}
use Rattle.element_tables.specs.declared.elements.Stop.{Stop}
use Rattle.element_tables.specs.Syntax.{Gives, times}
use Rattle.element_tables.proofs.Tables.{gives_made, gives_stop, gives_then}
use Rattle.slice_header.specs.Lists.{listed, padded}
use Rattle.slice_header.specs.Spelling.{all_entries, command, edits, entry_weights, no_entry, operation, operations}
use Rattle.slice_header.specs.declared.parts.Edits.{Edits}
use Rattle.slice_header.proofs.Padding.{Filled, filled_length, filled_whole}
use Rattle.slice_header.proofs.Repeated.{Goes, goes_given, times_end}

pub entries_stopped : (active : ℕ) (old new : List Bool) (stop : Stop) → Gives (times active entry_weights) old (Err stop) new → Gives (all_entries active) old (Err stop) new
unfolding all_entries
entries_stopped active old new stop h = gives_stop _ h

pub entries_given : (active k : ℕ) (old here : List Bool) (xs : List EntryWeights) → k ≡ active → Filled 16 no_entry k xs
    → Goes (times active entry_weights) old (take k xs) (times (active - k) entry_weights) here → Gives (all_entries active) old (Ok xs) here
unfolding all_entries
entries_given active k old here xs same filled g =
    let none : active - k ≡ 0 = omega (arith, same) in
    let list : Gives (times active entry_weights) old (Ok (take k xs)) here = goes_given g (times_end entry_weights _ here none) in
    subst (λ (ys : List EntryWeights). Gives (all_entries active) old (Ok ys) here) (filled_whole 16 no_entry k xs filled) (gives_then _ list (gives_made _ _))

pub edits_stopped : (frame_nums most : ℕ) (old new : List Bool) (stop : Stop) → Gives (listed 3 3 (command frame_nums) most) old (Err stop) new → Gives (edits frame_nums most) old (Err stop) new
unfolding edits
edits_stopped frame_nums most old new stop h = gives_stop _ h

abbrev made_edits : ℕ → List ListEdit → Edits
made_edits count list = record { count = count; list = list }

pub edits_given : (frame_nums most k : ℕ) (old new : List Bool) (xs : List ListEdit) → Filled 16 (Subtract 0) k xs
    → Gives (listed 3 3 (command frame_nums) most) old (Ok (take k xs)) new → Gives (edits frame_nums most) old (Ok (made_edits k xs)) new
unfolding edits
edits_given frame_nums most k old new xs filled h =
    let made : made_edits (length (take k xs)) (padded 16 (Subtract 0) (take k xs)) ≡ made_edits k xs =
    ap (λ (n : ℕ). made_edits n (padded 16 (Subtract 0) (take k xs))) (filled_length 16 (Subtract 0) k xs filled) ∙ ap (made_edits k) (filled_whole 16 (Subtract 0) k xs filled) in
    subst (λ (e : Edits). Gives (edits frame_nums most) old (Ok e) new) made (gives_then _ h (gives_made _ _))

pub operations_stopped : (old new : List Bool) (stop : Stop) → Gives (listed 6 0 operation 64) old (Err stop) new → Gives operations old (Err stop) new
unfolding operations
operations_stopped old new stop h = gives_stop _ h

pub operations_given : (k : ℕ) (old new : List Bool) (xs : List Mmco) → Filled 64 Reset k xs
    → Gives (listed 6 0 operation 64) old (Ok (take k xs)) new → Gives operations old (Ok (Operations k xs)) new
unfolding operations
operations_given k old new xs filled h =
    let made : Operations (length (take k xs)) (padded 64 Reset (take k xs)) ≡ Operations k xs =
    ap (λ (n : ℕ). Operations n (padded 64 Reset (take k xs))) (filled_length 64 Reset k xs filled) ∙ ap (Operations k) (filled_whole 64 Reset k xs filled) in
    subst (λ (m : Marking). Gives operations old (Ok m) new) made (gives_then _ h (gives_made _ _))
