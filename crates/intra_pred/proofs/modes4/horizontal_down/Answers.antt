use Rattle.intra_pred.proofs.modes4.horizontal_down.Goals as goal

pub returns : goal.returns
returns c = rw c.vertical_right.ensures
