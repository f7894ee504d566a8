use Rattle.stream_calls.proofs.LastItems as last
use Rattle.stream_calls.proofs.file_laws.calls_gain_one_item.Goals as goal

pub returns : goal.returns
returns c = record {
  states = last.calls_lead_on;
  happen = last.gained_items_happen;
  between = last.others_come_between;
  own = last.own_items_grow;
}
