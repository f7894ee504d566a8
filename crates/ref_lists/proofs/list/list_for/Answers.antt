use Rattle.std.proofs.Common.{◌≡◌, ℕ, ◌+◌, ◌≤◌, List, Option, Some, length, take, drop, get_or, rules, arith, sym, ap, ◌∙◌, subst}
use Rattle.std.specs.Option.{option_map}
use Rattle.std.proofs.lemmas.List.{get_or-take, length-take, length-take-le}
use Rattle.cb_types.specs.AcceptedInfo.{max_frame_num}
use Rattle.cb_types.specs.Slices.{active_entries}
use Rattle.cb_types.specs.declared.header.ListEdit.{ListEdit}
use Rattle.cb_types.specs.declared.header.ListEdit.TheVariants.{Subtract}
use Rattle.ref_lists.proofs.EditLemmas.{edit_fails, edit_moves, from_edit, no_edit}
use Rattle.ref_lists.specs.Places.{placed}
use Rattle.ref_lists.specs.ReferenceList.{IsCounted, Modified, moved_up}
use Rattle.ref_lists.proofs.list.list_for.Goals as goal

abbrev entries_of : Option Modified → Option (List (Option ℕ))
entries_of list = option_map (λ modified. modified.entries) list

pub counted_to-predicted-requires-clause-edit : goal.counted_to-predicted-requires-clause-edit
counted_to-predicted-requires-clause-edit c =
    let header = c.args.header.now in
    let k = c.loop-settled.settled in
    let size : length header.edits ≡ 16 = search rules in
    let all : length (take header.edit_count header.edits) ≡ header.edit_count = length-take-le header.edit_count header.edits (omega (arith, size, c.requires.edits, c.requires.active)) in
    subst (λ (e : ListEdit). IsCounted (max_frame_num c.args.info.now) e) (get_or-take header.edit_count header.edits k (Subtract 0) c.loop-settled-test.true)
    (c.requires.differences k (Subtract 0) (omega (arith, all, c.loop-settled-test.true)))

pub returns-in_err-place-clause-list : goal.returns-in_err-place-clause-list
returns-in_err-place-clause-list c =
    let info = c.args.info.now in
    let header = c.args.header.now in
    let k = c.loop-settled.settled in
    let size : length header.edits ≡ 16 = search rules in
    let all : length (take header.edit_count header.edits) ≡ header.edit_count = length-take-le header.edit_count header.edits (omega (arith, size, c.requires.edits, c.requires.active)) in
    rw c.from_residual.ensures (ap entries_of (c.loop-settled.invariant.same
    ∙ edit_fails info header k (Subtract 0) (get_or header.edits k (Subtract 0)) c.counted_to-predicted.result _ (omega (arith, all, c.loop-settled-test.true))
    (get_or-take header.edit_count header.edits k (Subtract 0) c.loop-settled-test.true) c.counted_to-predicted.ensures.value c.in_err-place.ensures.found))

pub loop-settled-preserved : goal.loop-settled-preserved
loop-settled-preserved c =
    let info = c.args.info.now in
    let header = c.args.header.now in
    let k = c.loop-settled.settled in
    let before = c.loop-settled.invariant in
    let size : length header.edits ≡ 16 = search rules in
    let all : length (take header.edit_count header.edits) ≡ header.edit_count = length-take-le header.edit_count header.edits (omega (arith, size, c.requires.edits, c.requires.active)) in
    let active = active_entries info header in
    let here = before.size in
    let moved : take active c.move_up.new.list.entries ≡ moved_up active k c.in_ok-place.place (take active c.loop-settled.list.entries) =
    subst (λ (n : ℕ). take n c.move_up.new.list.entries ≡ moved_up n k c.in_ok-place.place (take n c.loop-settled.list.entries)) here c.move_up.ensures.entries in
    let kept : drop active c.move_up.new.list.entries ≡ drop active c.loop-settled.list.entries =
    subst (λ (n : ℕ). drop n c.move_up.new.list.entries ≡ drop n c.loop-settled.list.entries) here c.move_up.ensures.beyond in
    record {
      below = c.counted_to-predicted.ensures.below;
      size = c.move_up.ensures.length ∙ here;
      beyond = kept ∙ before.beyond;
      same = before.same
          ∙ edit_moves info header k (Subtract 0) (get_or header.edits k (Subtract 0)) c.counted_to-predicted.result _ (placed info c.in_ok-place.place) (omega (arith, all, c.loop-settled-test.true))
          (get_or-take header.edit_count header.edits k (Subtract 0) c.loop-settled-test.true) c.counted_to-predicted.ensures.value c.in_ok-place.ensures.found
          ∙ ap (λ (xs : List (Option ℕ)). from_edit info header (k + 1) (record { predicted = c.counted_to-predicted.result; settled = k + 1; entries = xs })) (sym moved);
    }

pub returns-clause-list : goal.returns-clause-list
returns-clause-list c =
    let info = c.args.info.now in
    let header = c.args.header.now in
    let past : length (take header.edit_count header.edits) ≤ c.loop-settled.settled = omega (arith, length-take header.edit_count header.edits, c.loop-settled-test.false) in
    ap entries_of (c.loop-settled.invariant.same ∙ no_edit info header c.loop-settled.settled _ past)
    ∙ ap (λ (n : ℕ). Some (take n c.loop-settled.list.entries)) (sym c.loop-settled.invariant.size)
