use Rattle.std.proofs.Common.{Some, None, length, ap, ◌∙◌, subst, arith}
use Rattle.std.proofs.lemmas.List.{length-set}
use Rattle.std.proofs.lemmas.Option.{slice_get_within}
use Rattle.driver_objects.specs.Kept.{kept_of}
use Rattle.driver_objects.specs.Listed.{IsOnly, is_at, with_content}
use Rattle.driver_objects.specs.Ticks.{with_flip}
use Rattle.driver_objects.proofs.PlaceChanges.{changed_nowhere, changed_there, replaced_twice}
use Rattle.driver_objects.proofs.ticks.note_flip.Goals as goal

pub replace-requires : goal.replace-requires
replace-requires c =
    let kept = kept_of c.args.objects.now in
    let only : IsOnly (is_at c.args.surface) kept (Some c.in-Some.index) = subst (IsOnly (is_at c.args.surface) kept) c.in-Some.is c.at.ensures in
    let object = only.0.object in
    let same = ap length (c.replace-before.ensures.now object only.0.stands) ∙ length-set kept c.in-Some.index (with_content object c.nothing.result) in
    let within = slice_get_within kept c.in-Some.index object only.0.stands in
    omega (arith, same, within)

pub returns-in-Some-clause-kept : goal.returns-in-Some-clause-kept
returns-in-Some-clause-kept c =
    let kept = kept_of c.args.objects.now in
    let only : IsOnly (is_at c.args.surface) kept (Some c.in-Some.index) = subst (IsOnly (is_at c.args.surface) kept) c.in-Some.is c.at.ensures in
    let object = only.0.object in
    let content = c.with_flip.ensures ∙ ap (with_flip c.args.flip) (c.replace-before.ensures.was object only.0.stands) in
    replaced_twice kept (kept_of c.replace-before.new.self) (kept_of c.replace.new.self) c.in-Some.index object c.nothing.result c.with_flip.result only.0.stands c.replace-before.ensures.now c.replace.ensures.now
    ∙ changed_there c.args.surface (with_flip c.args.flip) kept c.in-Some.index only c.with_flip.result content

pub returns-in_default-clause-kept : goal.returns-in_default-clause-kept
returns-in_default-clause-kept c =
    let kept = kept_of c.args.objects.now in
    let none : IsOnly (is_at c.args.surface) kept None = subst (IsOnly (is_at c.args.surface) kept) c.in_default.is c.at.ensures in
    changed_nowhere c.args.surface (with_flip c.args.flip) kept none
