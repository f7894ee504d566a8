use Rattle.recon.proofs.inter_samples.entry_weights.Goals as goal

pub returns-then-info-clause-range : goal.returns-then-info-clause-range
returns-then-info-clause-range c = c.requires.weights.each c.args.entry c.requires.entry
