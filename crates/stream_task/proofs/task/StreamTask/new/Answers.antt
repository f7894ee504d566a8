use Rattle.stream_task.proofs.First.{first_stands}
use Rattle.stream_task.proofs.task.StreamTask.new.Goals as goal

pub returns : goal.returns
returns c = λ pass knows own.
    first_stands c.none.result c.none.ensures.device c.none.ensures.queue c.none.ensures.made c.args.stream c.args.period c.is_some-preempts.result c.args.script c.new.result c.new-2.result pass
    c.new-2.ensures.places c.new-2.ensures.none c.new-2.ensures.free c.new.ensures knows own
