use mir.Syntax.{w32}
use mir.Val.{SFits}
use Rattle.std.proofs.Common.{◌∙◌, refl, rules, arith, sym}
use Rattle.std.proofs.lemmas.Int.{to_z-of_z}
use Rattle.vdplay.proofs.HoldLemmas.{may_push, pushed_items, pushed_waiting, stands_pushed}
use Rattle.vdplay.proofs.plane_writer.PlaneWriter.hold.Goals as goal

pub push-requires-clause-most : goal.push-requires-clause-most
push-requires-clause-most c = let r = c.requires in let small = r.1.1.2.small in let depth = r.1.1.3.depth in omega (arith, small, depth)

pub push-requires-clause-may : goal.push-requires-clause-may
push-requires-clause-may c = let r = c.requires in (r.1.1.0, r.1.1.1.stands.holds.waiting, may_push c.args.self.now r.0 r.1.0 r.1.1.0 c.args.shown r.1.1.1 r.1.1.2 r.1.1.3)

pub overflow_add-self : goal.overflow_add-self
overflow_add-self c = let r = c.requires in let count = r.1.1.1.stands.count in let few = r.1.1.1.stands.few in omega (arith, count, few)

pub returns-clause-held : goal.returns-clause-held
returns-clause-held c = λ decoded one h calm next shows.
    let fits : SFits w32 c.args.shown.poc = search rules in
    let poc = to_z-of_z w32 c.args.shown.poc fits ∙ shows.poc in
    stands_pushed c.args.self.now _ decoded one h c.args.shown calm next shows
    (pushed_waiting c.args.self.now decoded one h _ c.args.shown.period c.args.shown.depth c.push.result c.push.new.self calm next poc shows.period shows.depth c.push.ensures.late c.push.ensures.stands)
    (pushed_items c.push-2.result _ _ _ (sym c.is_err.ensures.value ∙ c.if-is_err.false) c.push-2.ensures.items) refl
