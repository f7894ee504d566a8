use Rattle.std.proofs.Common.{◌∙◌, Bool, SFits, ap, refl, rules, subst, sym, to_z-of_z, w32}
use Rattle.std.specs.Option.{is_some}
use Rattle.access_units.specs.Acceptors as acceptors
use Rattle.access_units.specs.Depth.{depth_of}
use Rattle.access_units.specs.Standing as acceptor
use Rattle.accepted_pictures.specs.Files.{pictures_in}
use Rattle.accepted_pictures.specs.Streams.{past_of}
use Rattle.output_order.specs.OutputOrder as order
use Rattle.stream_course.specs.Standing.{StandsFor}
use Rattle.stream_course.specs.Way.{with_failure}
use Rattle.stream_course.specs.declared.course.Course.{Course}
use Rattle.stream_course.specs.declared.course.Place.{Place}
use Rattle.stream_course.proofs.Joining.{joins, may_push, pushed}
use Rattle.stream_course.proofs.Turns.{one_place, stands_decoded, stands_failed, unsettled_is}
use Rattle.stream_course.proofs.course.Course.settle.Goals as goal

pub settle-requires : goal.settle-requires
settle-requires c =
    let r = c.requires in
    let of = unsettled_is c.args.self.now r.1.0 r.1.1.0 r.1.1.2 r.1.1.1.stands.at in
    (acceptors.giving (past_of r.1.0.fed) r.1.1.0, of.1.stands, refl)

pub returns-then-not-whole-clause-failed : goal.returns-then-not-whole-clause-failed
returns-then-not-whole-clause-failed c = λ whole of way picture at given same.
    let course = c.args.self.now in
    let is = unsettled_is course way picture given at.stands.at in
    let P : Bool → Type 0 = λ b. acceptor.StandsFor c.settle.new.self (acceptors.settling (acceptors.giving (past_of way.fed) picture) b) in
    let C : Course → Type 0 = λ k. StandsFor k of (with_failure way picture) in
    let settled = subst P whole (c.settle.ensures (acceptors.giving (past_of way.fed) picture) is.1.stands refl) in
    let stands = stands_failed course c.settle.new.self c.stop.new.self.waiting c.take-place.new.self of way at.history picture c.args.offset is.0 is.1.next same settled
    (c.stop.ensures.waits at.history at.stands.waits.stands) at.stands in
    subst C (sym c.stop.ensures.kept) (record { history = order.ending at.history; stands = stands })

pub push-requires-clause-may : goal.push-requires-clause-may
push-requires-clause-may c =
    let r = c.requires in
    let course = c.args.self.now in
    let way = r.1.0 in
    let picture = r.1.1.0 in
    let at = r.1.1.1 in
    let is = unsettled_is course way picture r.1.1.2 at.stands.at in
    let place = one_place c.in-Some.field-0 course.unsettled c.take-place.result picture.begun.poc picture.begun.period (depth_of picture.sps) c.take-place.ensures.value c.in-Some.is is.1.place in (
      at.history,
      at.stands.waits.stands,
      may_push course.waiting way.fed.decoded picture at.history c.in-Some.field-0.period c.in-Some.field-0.depth at.stands.waits (at.stands.calm (ap is_some r.1.1.2))
          (at.stands.ended ∙ ap is_some is.0) (joins (pictures_in way.fed.decoded) is.1.next.au picture is.1.next.is) (ap (λ (p : Place). p.period) place) (ap (λ (p : Place). p.depth) place),
    )

pub returns-in-Some-clause-decoded : goal.returns-in-Some-clause-decoded
returns-in-Some-clause-decoded c = λ whole of way one at given.
    let course = c.args.self.now in
    let picture = one.picture in
    let is = unsettled_is course way picture given at.stands.at in
    let place = one_place c.in-Some.field-0 course.unsettled c.take-place.result picture.begun.poc picture.begun.period (depth_of picture.sps) c.take-place.ensures.value c.in-Some.is is.1.place in
    let P : Bool → Type 0 = λ b. acceptor.StandsFor c.settle.new.self (acceptors.settling (acceptors.giving (past_of way.fed) picture) b) in
    let settled = subst P whole (c.settle.ensures (acceptors.giving (past_of way.fed) picture) is.1.stands refl) in
    let fits : SFits w32 c.in-Some.field-0.poc = search rules in
    let joined = pushed course.waiting c.push.new.self way.fed.decoded one at.history course.decoded _ c.in-Some.field-0.period c.in-Some.field-0.depth c.push.result at.stands.waits
    (joins (pictures_in way.fed.decoded) is.1.next.au picture is.1.next.is) at.stands.read.decoded (to_z-of_z fits ∙ ap (λ (p : Place). p.poc) place)
    (ap (λ (p : Place). p.period) place) (ap (λ (p : Place). p.depth) place) c.push.ensures.late c.push.ensures.stands in
    record {
      history = joined.0;
      stands = stands_decoded course c.settle.new.self c.push.new.self c.take-place.new.self of way at.history joined.0 one is.0 is.1.next settled joined.1 joined.2 joined.3 at.stands;
    }
