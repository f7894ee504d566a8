use Rattle.std.proofs.Common.{rules, ◌≡◌, Bool, true, false, Some, None, length, refl, sym, ap, ◌∙◌, option_map, arith}
use Rattle.std.specs.Prelude.{IsTrue}
use Rattle.std.specs.Arc.{arc_value}
use Rattle.std.proofs.Math.ListN.{get_or-map}
use Rattle.std.proofs.lemmas.Bool.{false≢true}
use Rattle.std.proofs.lemmas.List.{get_or_default}
use Rattle.recon.specs.References.{pictures_of}
use Rattle.recon.proofs.ReferenceLemmas.{held_entry}
use Rattle.recon.proofs.references.picture_of.Goals as goal

pub bounds-info-place : goal.bounds-info-place
bounds-info-place c = (c.requires.places c.args.reference c.in_ok-place.place c.in_ok-place.was).0

pub listed : goal.listed
listed c =
    let size : length c.args.refs.now.pictures ≡ 16 = search rules in
    let below = (c.requires.places c.args.reference c.in_ok-place.place c.in_ok-place.was).0 in
    omega arith

pub bounds-refs-place : goal.bounds-refs-place
bounds-refs-place c = (c.requires.places c.args.reference c.in_ok-place.place c.in_ok-place.was).0

not_so : (a b : Bool) → (IsTrue b → IsTrue a) → a ≡ false → b ≡ false
not_so a true h is = absurd (false≢true (sym is ∙ h refl))
not_so a false h is = refl

pub returns-in-Some : goal.returns-in-Some
returns-in-Some c =
    let pictures = c.args.refs.now.pictures in
    let place = c.in_ok-place.place in
    let size : length pictures ≡ 16 = search rules in
    let below = (c.requires.places c.args.reference place c.in_ok-place.was).0 in
    held_entry c.args.info.now c.args.list.now.entries (pictures_of c.args.refs.now) c.args.reference place c.deref.result.now c.in_ok-place.was
    (not_so c.is_absent.result _ c.is_absent.ensures.1 c.if-is_absent.false)
    (get_or-map (option_map arc_value) pictures place None
    ∙ (ap (option_map arc_value) (get_or_default pictures place None c.index-refs-place.result (omega arith) ∙ c.in-Some.is) ∙ ap Some (sym c.deref.ensures)))
