use Rattle.std.proofs.Common.{◌∙◌}
use Rattle.access_units.proofs.FeedLemmas.{reads_forgot}
use Rattle.access_units.proofs.acceptor.Acceptor.forget.Goals as goal

pub returns-in-Some-clause-reads : goal.returns-in-Some-clause-reads
returns-in-Some-clause-reads c = λ text ended told broken opened hand front r.
    reads_forgot c.args.self.now c.drop-drain.new.self.0 c.in-Some.hand text ended told broken opened hand front r c.in-Some.is
    (c.drop-drain.ensures.items ∙ c.drain.ensures.kept)
