use Rattle.trace_fits.proofs.OneWay.{fronts_go, one_end, one_way}
use Rattle.trace_fits.proofs.laws.records_lead_one_way.Goals as goal

pub returns : goal.returns
returns c = record { one = one_way; several = one_end; fronts = fronts_go }
