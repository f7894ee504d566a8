use Rattle.std.proofs.Common.{◌≡◌, length, map, sym, ap, ◌∙◌, arith}
use Rattle.std.proofs.lemmas.List.{length-set}
use Rattle.std.proofs.lemmas.Option.{slice_get_within}
use Rattle.driver_objects.specs.Alike.{owned, owned_by}
use Rattle.driver_objects.specs.Kept.{kept_of}
use Rattle.driver_objects.specs.Listed.{with_content}
use Rattle.driver_objects.specs.declared.content.Content.TheVariants as content
use Rattle.driver_objects.proofs.Maps.{map_set}
use Rattle.driver_objects.proofs.PlaceChanges.{owned_same, replaced_twice}
use Rattle.driver_objects.proofs.lends.lend_pixels.Goals as goal

pub replace-requires-in-Output : goal.replace-requires-in-Output
replace-requires-in-Output c =
    let kept = kept_of c.args.objects.now in
    let has = c.requires.1 in
    let same = ap length (c.replace.ensures.now has.object has.there) ∙ length-set kept c.args.index (with_content has.object c.nothing.result) in
    let within = slice_get_within kept c.args.index has.object has.there in
    omega (arith, same, within)

pub returns-clause-alike : goal.returns-clause-alike
returns-clause-alike c =
    let kept = kept_of c.args.objects.now in
    let has = c.requires.1 in
    let was : content.Output c.in-Output.of ≡ has.object.content = sym c.in-Output.is ∙ c.replace.ensures.was has.object has.there in
    let after = replaced_twice kept (kept_of c.replace.new.self) (kept_of c.replace-in-Output.new.self) c.args.index has.object c.nothing.result _ has.there c.replace.ensures.now c.replace-in-Output.ensures.now in
    let same = owned_same c.in-Output.of c.share-pixels.result.0 c.share-pixels.ensures.same ∙ ap owned was in
    ap (λ k. map owned_by k) after ∙ map_set owned_by kept c.args.index has.object (with_content has.object _) has.there (ap (with_content has.object) same)

pub returns-clause-within : goal.returns-clause-within
returns-clause-within c =
    let kept = kept_of c.args.objects.now in
    let has = c.requires.1 in
    let after = replaced_twice kept (kept_of c.replace.new.self) (kept_of c.replace-in-Output.new.self) c.args.index has.object c.nothing.result _ has.there c.replace.ensures.now c.replace-in-Output.ensures.now in
    let same = ap length after ∙ length-set kept c.args.index (with_content has.object _) in
    let within = slice_get_within kept c.args.index has.object has.there in
    omega (arith, same, within)
