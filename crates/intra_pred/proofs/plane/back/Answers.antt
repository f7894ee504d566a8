use Rattle.intra_pred.proofs.Slopes.{back_fits}
use Rattle.intra_pred.proofs.plane.back.Goals as goal

pub returns : goal.returns
returns c =
    let fits = back_fits c.args.count c.args.step c.requires.count record { least = c.requires.step.least; most = c.requires.step.most } in
    record { value = fits.0; low = fits.1.least; high = fits.1.most }
