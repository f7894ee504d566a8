use Rattle.stream_course.proofs.Turns.{has_stopped, next_come, rest_of}
use Rattle.stream_course.proofs.course.Course.end.Goals as goal

pub came_out-requires : goal.came_out-requires
came_out-requires c =
    let r = c.requires in
    let new = c.stop.new.self in
    let at = has_stopped c.args.self.now new r.0 r.1.0 c.args.ending r.1.1 c.stop.ensures.waits c.stop.ensures.kept in
    (r.0, (r.1.0, next_come new c.pop.new.self r.0 r.1.0 c.in-Some.number c.pop.result c.in-Some.is c.pop.ensures.none c.pop.ensures.stands at.0 r.1.1.not_given))

pub returns-in-Some : goal.returns-in-Some
returns-in-Some c = λ of way is.
    let new = c.stop.new.self in
    let at = has_stopped c.args.self.now new of way c.args.ending is c.stop.ensures.waits c.stop.ensures.kept in
    c.came_out.ensures of way (next_come new c.pop.new.self of way c.in-Some.number c.pop.result c.in-Some.is c.pop.ensures.none c.pop.ensures.stands at.0 is.not_given)

pub returns-in-None : goal.returns-in-None
returns-in-None c = λ of way is.
    let new = c.stop.new.self in
    let at = has_stopped c.args.self.now new of way c.args.ending is c.stop.ensures.waits c.stop.ensures.kept in
    c.finish.ensures of way (rest_of new c.pop.new.self of way c.args.ending c.pop.result at.0 at.1 is.not_given c.in-None.is c.pop.ensures.none c.pop.ensures.stands)
