use Rattle.stream_course.proofs.Reading.{fed_past}
use Rattle.stream_course.proofs.Turns.{on_err_any, stands_fed, stands_unfed}
use Rattle.stream_course.proofs.course.Course.feed.Goals as goal

pub feed-requires : goal.feed-requires
feed-requires c =
    let r = c.requires in
    let way = r.1.0 in
    let course = c.args.self.now in
    fed_past course.acceptor course.unsettled course.ending way.fed way.given way.failed c.args.bytes.now r.1.2 r.1.1.stands.at

pub returns-in_err-feed-clause-untouched : goal.returns-in_err-feed-clause-untouched
returns-in_err-feed-clause-untouched c = on_err_any c.from_residual.result _ (λ of way at. stands_unfed c.args.self.now c.feed.new.self of way c.in_err-feed.ensures.untouched at)

pub returns-clause-fed : goal.returns-clause-fed
returns-clause-fed c = λ of way at may. stands_fed c.args.self.now c.feed.new.self of way c.args.bytes.now may c.in_ok-feed.ensures.fed at
