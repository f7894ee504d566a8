use Rattle.access_units.proofs.taking.put_set.Goals as goal

pub returns-in-SequenceSet-clause-put : goal.returns-in-SequenceSet-clause-put
returns-in-SequenceSet-clause-put c = rw c.in-SequenceSet.is c.put_sequence_set.ensures.put

pub returns-in-PictureSet-clause-put : goal.returns-in-PictureSet-clause-put
returns-in-PictureSet-clause-put c = rw c.in-PictureSet.is c.put_picture_set.ensures.put
