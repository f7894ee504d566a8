use Rattle.nal_units.proofs.Pushing.{push_unit, push_broken, push_settles}
use Rattle.nal_units.proofs.finder.Finder.push.Goals as goal

pub returns-clause-unit : goal.returns-clause-unit
returns-clause-unit c = λ t stands start end.
    push_unit c.args.self.now.phase _ t stands.0 c.args.byte _ stands.1.phase (c.next-phase.ensures t stands.0 stands.1.phase stands.1.counted) start end

pub returns-clause-broken : goal.returns-clause-broken
returns-clause-broken c = λ t stands at.
    push_broken _ t stands.0 c.args.byte _ (c.next-phase.ensures t stands.0 stands.1.phase stands.1.counted) at

pub returns-clause-settles : goal.returns-clause-settles
returns-clause-settles c = λ t u broken stands known.
    push_settles c.args.self.now.phase _ t stands.0 c.args.byte _ stands.1.phase (c.next-phase.ensures t stands.0 stands.1.phase stands.1.counted) u broken known
