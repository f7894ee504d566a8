use Rattle.std.proofs.Common.{subst, sym}
use Rattle.access_units.specs.declared.acceptor.Next.{Next}
use Rattle.stream_course.specs.Standing.{IsAnswered}
use Rattle.stream_course.specs.declared.course.Course.{Course}
use Rattle.stream_course.specs.declared.course.Turn.{Turn}
use Rattle.stream_course.specs.declared.course.Turn.TheVariants as turn
use Rattle.stream_course.proofs.Turns.{Answered, asked, next_come, on_err_any, rest_of, same_course, turn_end, turn_given, turn_hungry, turn_refused, turn_untouched}
use Rattle.stream_course.proofs.course.Course.next.Goals as goal

pub returns-in-Some-clause-turn : goal.returns-in-Some-clause-turn
returns-in-Some-clause-turn c = λ of way stands not_given. c.in-Some.ensures.promised of way stands

pub came_out-requires : goal.came_out-requires
came_out-requires c =
    let r = c.requires in
    let mid = c.promise.new.self in
    let at = same_course c.args.self.now mid r.0 r.1.0 c.in_default.ensures.none r.1.1 in
    (r.0, (r.1.0, next_come mid c.pop.new.self r.0 r.1.0 c.in-Some-pop.number c.pop.result c.in-Some-pop.is c.pop.ensures.none c.pop.ensures.stands at r.1.2))

pub returns-in-Some-pop-clause-turn : goal.returns-in-Some-pop-clause-turn
returns-in-Some-pop-clause-turn c = λ of way stands not_given.
    let mid = c.promise.new.self in
    let at = same_course c.args.self.now mid of way c.in_default.ensures.none stands in
    c.came_out.ensures of way (next_come mid c.pop.new.self of way c.in-Some-pop.number c.pop.result c.in-Some-pop.is c.pop.ensures.none c.pop.ensures.stands at not_given)

pub returns-in-Some-ending-clause-turn : goal.returns-in-Some-ending-clause-turn
returns-in-Some-ending-clause-turn c = λ of way stands not_given.
    let mid = c.promise.new.self in
    let at = same_course c.args.self.now mid of way c.in_default.ensures.none stands in
    c.finish.ensures of way (rest_of mid c.pop.new.self of way c.in-Some-ending.ending c.pop.result at c.in-Some-ending.is not_given c.in_default-pop.is c.pop.ensures.none c.pop.ensures.stands)

pub next-requires : goal.next-requires
next-requires c =
    let r = c.requires in
    let mid = c.promise.new.self in
    let at = same_course c.args.self.now mid r.0 r.1.0 c.in_default.ensures.none r.1.1 in
    asked mid r.0 r.1.0 at c.in_default-ending.is r.1.2

pub returns-in_err-next-clause-untouched : goal.returns-in_err-next-clause-untouched
returns-in_err-next-clause-untouched c = on_err_any c.from_residual.result _ (λ of way stands not_given.
    let mid = c.promise.new.self in
    let at = same_course c.args.self.now mid of way c.in_default.ensures.none stands in
    turn_untouched mid c.next.new.self c.pop.new.self of way c.pop.result at c.in_default-ending.is not_given c.in_default-pop.is c.pop.ensures.none c.pop.ensures.stands c.in_err-next.ensures.untouched)

pub end-requires : goal.end-requires
end-requires c =
    let r = c.requires in
    let mid = c.promise.new.self in
    let at = same_course c.args.self.now mid r.0 r.1.0 c.in_default.ensures.none r.1.1 in
    let A : Next → Type 0 = λ n. Answered mid.acceptor c.next.new.self n in
    let told = subst A c.in-End.is (record { answer = c.in_ok-next.ensures.answer; stands = c.in_ok-next.ensures.stands; decodable = c.in_ok-next.ensures.decodable }) in
    (r.0, (r.1.0, turn_end mid c.next.new.self c.pop.new.self r.0 r.1.0 c.pop.result at c.in_default-ending.is r.1.2 c.in_default-pop.is c.pop.ensures.none c.pop.ensures.stands told))

pub end-requires-in-Refused : goal.end-requires-in-Refused
end-requires-in-Refused c =
    let r = c.requires in
    let mid = c.promise.new.self in
    let at = same_course c.args.self.now mid r.0 r.1.0 c.in_default.ensures.none r.1.1 in
    let A : Next → Type 0 = λ n. Answered mid.acceptor c.next.new.self n in
    let told = subst A c.in-Refused.is (record { answer = c.in_ok-next.ensures.answer; stands = c.in_ok-next.ensures.stands; decodable = c.in_ok-next.ensures.decodable }) in
    (r.0, (r.1.0, turn_refused mid c.next.new.self c.pop.new.self r.0 r.1.0 c.pop.result at c.in_default-ending.is r.1.2 c.in_default-pop.is c.pop.ensures.none c.pop.ensures.stands c.in-Refused.offset c.in-Refused.large told))

pub returns-in-Hungry-clause-turn : goal.returns-in-Hungry-clause-turn
returns-in-Hungry-clause-turn c = λ of way stands not_given.
    let mid = c.promise.new.self in
    let at = same_course c.args.self.now mid of way c.in_default.ensures.none stands in
    let A : Next → Type 0 = λ n. Answered mid.acceptor c.next.new.self n in
    let told = subst A c.in-Hungry.is (record { answer = c.in_ok-next.ensures.answer; stands = c.in_ok-next.ensures.stands; decodable = c.in_ok-next.ensures.decodable }) in
    turn_hungry mid c.next.new.self c.pop.new.self of way c.pop.result at c.in_default-ending.is not_given c.in_default-pop.is c.pop.ensures.none c.pop.ensures.stands told

pub returns-in-Picture-clause-turn : goal.returns-in-Picture-clause-turn
returns-in-Picture-clause-turn c = λ of way stands not_given.
    let mid = c.promise.new.self in
    let at = same_course c.args.self.now mid of way c.in_default.ensures.none stands in
    let A : Next → Type 0 = λ n. Answered mid.acceptor c.next.new.self n in
    let told = subst A c.in-Picture.is (record { answer = c.in_ok-next.ensures.answer; stands = c.in_ok-next.ensures.stands; decodable = c.in_ok-next.ensures.decodable }) in
    let C : Course → Type 0 = λ k. IsAnswered k of way (turn.Decode c.in-Picture.unsettled) in
    let T : Turn → Type 0 = λ t. IsAnswered c.give.new.self of way t in
    subst T (sym c.give.ensures.turn) (subst C (sym c.give.ensures.kept) (turn_given mid c.next.new.self c.pop.new.self of way c.pop.result at c.in_default-ending.is not_given c.in_default-pop.is c.pop.ensures.none c.pop.ensures.stands c.in-Picture.unsettled told))

pub returns-in-End-clause-turn : goal.returns-in-End-clause-turn
returns-in-End-clause-turn c = λ of way stands not_given.
    let mid = c.promise.new.self in
    let at = same_course c.args.self.now mid of way c.in_default.ensures.none stands in
    let A : Next → Type 0 = λ n. Answered mid.acceptor c.next.new.self n in
    let told = subst A c.in-End.is (record { answer = c.in_ok-next.ensures.answer; stands = c.in_ok-next.ensures.stands; decodable = c.in_ok-next.ensures.decodable }) in
    c.end.ensures of way (turn_end mid c.next.new.self c.pop.new.self of way c.pop.result at c.in_default-ending.is not_given c.in_default-pop.is c.pop.ensures.none c.pop.ensures.stands told)

pub returns-in-Refused-clause-turn : goal.returns-in-Refused-clause-turn
returns-in-Refused-clause-turn c = λ of way stands not_given.
    let mid = c.promise.new.self in
    let at = same_course c.args.self.now mid of way c.in_default.ensures.none stands in
    let A : Next → Type 0 = λ n. Answered mid.acceptor c.next.new.self n in
    let told = subst A c.in-Refused.is (record { answer = c.in_ok-next.ensures.answer; stands = c.in_ok-next.ensures.stands; decodable = c.in_ok-next.ensures.decodable }) in
    c.end-in-Refused.ensures of way (turn_refused mid c.next.new.self c.pop.new.self of way c.pop.result at c.in_default-ending.is not_given c.in_default-pop.is c.pop.ensures.none c.pop.ensures.stands c.in-Refused.offset c.in-Refused.large told)
