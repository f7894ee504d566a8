use Rattle.file_rows.proofs.turns.tell.Goals as goal

pub ask-requires : goal.ask-requires
ask-requires c = (c.requires.0, (c.requires.1.0, c.loop-turn.invariant c.requires.0 c.requires.1.0 c.requires.1.1))
