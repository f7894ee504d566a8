use Rattle.stream_task.proofs.Fed.{on_err, on_ok, stands_fed, stands_still}
use Rattle.stream_task.proofs.task.StreamTask.feed.Goals as goal

pub returns-clause-fed : goal.returns-clause-fed
returns-clause-fed c = on_ok c.feed.result _ _
    (λ fed_now of fed pass stands may. stands_fed c.args.self.now c.feed.new.self of fed pass c.args.bytes.now stands may (λ may_feed. fed_now of stands.way stands.course may_feed))
    c.feed.ensures.fed

pub returns-clause-untouched : goal.returns-clause-untouched
returns-clause-untouched c = on_err c.feed.result _ _
    (λ still of fed pass stands. stands_still c.args.self.now c.feed.new.self of fed pass stands (still of stands.way stands.course))
    c.feed.ensures.untouched
