use Rattle.std.proofs.Common.{◌≡◌, ℤ, false, map, reverse, is_err, refl, ◌∙◌, rules}
use mir.Syntax.{w32}
use mir.Val.{SFits, of_z, to_z}
use Rattle.std.proofs.lemmas.Int.{to_z-of_z}
use Rattle.output_order.specs.OutputOrder.{arriving, pushing}
use Rattle.access_units.specs.Pictures.{marked_of}
use Rattle.access_units.proofs.PictureLemmas.{begun_again, begun_finish, has_set, may_finish}
use Rattle.access_units.proofs.PictureOrder.{late_behind, may_push, ordered_more, pushed}
use Rattle.access_units.proofs.PictureSteps.{stands_more}
use Rattle.access_units.proofs.pictures.Pictures.add.Goals as goal

pub finish-requires : goal.finish-requires
finish-requires c =
    let pictures = c.args.self.now in
    let named = c.args.named.now in
    let begun = c.args.begun.now in
    let before = c.requires.behind.0 in
    let stands = c.requires.behind.1 in
    let begins = c.requires.behind.2 in (
      reverse (map marked_of before),
      named.sps,
      named.pps,
      stands.marker,
      may_finish pictures before named begun stands c.requires.readable begins,
      begun_finish pictures before named begun stands begins,
    )

pub push-requires-clause-may : goal.push-requires-clause-may
push-requires-clause-may c =
    let pictures = c.args.self.now in
    let named = c.args.named.now in
    let begun = c.args.begun.now in
    let before = c.requires.behind.0 in
    let stands = c.requires.behind.1 in
    let begins = c.requires.behind.2 in (
      stands.history,
      stands.waiting,
      may_push stands.history before pictures.marker named begun c.depth_of-depth.result pictures.last stands.ordered stands.last (has_set pictures before named begun stands begins)
          (begun_again pictures before named begun stands begins) c.depth_of-depth.ensures.value,
    )

pub pop_settled-requires : goal.pop_settled-requires
pop_settled-requires c =
    let pictures = c.args.self.now in
    let named = c.args.named.now in
    let begun = c.args.begun.now in
    let before = c.requires.behind.0 in
    let stands = c.requires.behind.1 in
    let begins = c.requires.behind.2 in
    let h = stands.history in
    let depth = c.depth_of-depth.result in
    let count : ℤ = to_z w32 (of_z w32 begun.poc) in
    let fits : SFits w32 begun.poc = search rules in
    let same : count ≡ begun.poc = to_z-of_z w32 begun.poc fits in
    let none : is_err c.push.result ≡ false =
    c.push.ensures.late h stands.waiting ∙ late_behind h before begun pictures.count count depth named.sps stands.ordered stands.count same c.depth_of-depth.ensures.value ∙ begins.in_time in (
      pushing h (arriving h pictures.count count begun.period) depth,
      pushed _ _ c.push.result pictures.waiting c.push.new.self pictures.count count begun.period depth none c.push.ensures.stands h stands.waiting,
    )

pub returns : goal.returns
returns c = λ before picture slices stands begins set is.
    let pictures = c.args.self.now in
    let named = c.args.named.now in
    let begun = c.args.begun.now in
    let h = stands.history in
    let depth = c.depth_of-depth.result in
    let count : ℤ = to_z w32 (of_z w32 begun.poc) in
    let fits : SFits w32 begun.poc = search rules in
    let same : count ≡ begun.poc = to_z-of_z w32 begun.poc fits in
    let none : is_err c.push.result ≡ false =
    c.push.ensures.late h stands.waiting ∙ late_behind h before begun pictures.count count depth named.sps stands.ordered stands.count same c.depth_of-depth.ensures.value ∙ begins.in_time in
    let wait = pushed _ _ c.push.result pictures.waiting c.push.new.self pictures.count count begun.period depth none c.push.ensures.stands h stands.waiting in
    let came = c.pop_settled.ensures (pushing h (arriving h pictures.count count begun.period) depth) wait in
    let readable = c.requires.readable in
    let marker = c.finish.ensures (reverse (map marked_of before)) named.sps named.pps stands.marker (may_finish pictures before named begun stands readable begins) (begun_finish pictures before named begun stands begins) in
    stands_more pictures _ before named begun picture slices came.0 stands readable begins set is
    marker came.1
    (ordered_more h came.0 before named begun picture slices pictures.count count depth stands.ordered stands.count same c.depth_of-depth.ensures.value set is came.2 came.3) refl refl
