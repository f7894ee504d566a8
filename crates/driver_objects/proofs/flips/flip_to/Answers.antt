use Rattle.std.proofs.Common.{Some, None, sym, ap, ◌∙◌, subst, arith}
use Rattle.std.proofs.lemmas.Bool.Decides.{nat_tests}
use Rattle.cb_types.specs.SizeMbs.{IsWithinLimits}
use Rattle.driver_objects.specs.Flips.{shown_by}
use Rattle.driver_objects.specs.Kept.{kept_of}
use Rattle.driver_objects.specs.Listed.{IsOnly, is_at}
use Rattle.driver_objects.specs.Stored.{value_of}
use Rattle.driver_objects.specs.declared.content.OutputSurface.{OutputSurface}
use Rattle.driver_objects.proofs.Alike.{after_lent, found_there}
use Rattle.driver_objects.proofs.flips.flip_to.Goals as goal

pub lend_pixels-requires : goal.lend_pixels-requires
lend_pixels-requires c =
    let kept = kept_of c.args.objects.now in
    let there = found_there kept c.args.due.surface c.requires c.in-Some.index (subst (IsOnly (is_at c.args.due.surface) kept) c.in-Some.is c.at.ensures) in
    (c.requires.surface, record { object = c.requires.object; there = there; has = c.requires.has })

pub flip_with-requires : goal.flip_with-requires
flip_with-requires c =
    let kept = kept_of c.args.objects.now in
    let only : IsOnly (is_at c.args.due.surface) kept (Some c.in-Some.index) = subst (IsOnly (is_at c.args.due.surface) kept) c.in-Some.is c.at.ensures in
    let a = after_lent kept (kept_of c.lend_pixels.new.objects) c.lend_pixels.ensures.alike c.args.due.surface c.requires c.in-Some.index only c.kept.result.now c.index-kept-index.result c.lend_pixels.ensures.within c.kept.ensures c.index-kept-index.is in
    let lent = c.in_ok-shared-in-Some.ensures.lent c.requires.surface (record { object = c.requires.object; there = found_there kept c.args.due.surface c.requires c.in-Some.index only; has = c.requires.has }) in
    record {
      surface = a.surface;
      has = a.has;
      within = subst (λ (x : OutputSurface). IsWithinLimits x.size) (sym a.pixels) c.requires.within;
      bytes = ap (λ v. v.items) lent ∙ ap (λ (x : OutputSurface). (value_of x.pixels).items) (sym a.pixels);
    }

pub unreachable-requires : goal.unreachable-requires
unreachable-requires c =
    let kept = kept_of c.args.objects.now in
    let s = c.requires in
    let at = s.at_place in
    let none : IsOnly (is_at c.args.due.surface) kept None = subst (IsOnly (is_at c.args.due.surface) kept) c.in-None.is c.at.ensures in
    none s.index (record { object = s.object; stands = s.there; passes = grind (arith, nat_tests, at) })

pub returns-clause-flip : goal.returns-clause-flip
returns-clause-flip c =
    let kept = kept_of c.args.objects.now in
    let only : IsOnly (is_at c.args.due.surface) kept (Some c.in-Some.index) = subst (IsOnly (is_at c.args.due.surface) kept) c.in-Some.is c.at.ensures in
    let a = after_lent kept (kept_of c.lend_pixels.new.objects) c.lend_pixels.ensures.alike c.args.due.surface c.requires c.in-Some.index only c.kept.result.now c.index-kept-index.result c.lend_pixels.ensures.within c.kept.ensures c.index-kept-index.is in
    record { surface = c.requires; tells = c.flip_with.ensures a.surface a.has ∙ λ i. shown_by c.args.time c.args.due (a.object i) (a.pixels i) }
