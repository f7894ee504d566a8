use Rattle.device_lock.proofs.Histories.{begins, ordered, given, numbered, only}
use Rattle.device_lock.proofs.laws.one_history.Goals as goal

pub returns : goal.returns
returns g c = record {
  beginnings = begins g.T.Kept.caller g.T.Kept.stands g.T.Kept.at_rest;
  in_order = ordered g.T.Kept.caller g.T.Kept.stands g.T.Kept.at_rest;
  given = given g.T.Kept.caller g.T.Kept.stands g.T.Kept.at_rest;
  numbers = numbered g.T.Kept.caller g.T.Kept.stands g.T.Kept.at_rest;
  whole = only g.T.Kept.caller g.T.Kept.stands g.T.Kept.at_rest;
}
