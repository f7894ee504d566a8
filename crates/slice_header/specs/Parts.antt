-- The parts of a header, as they are written one behind the other.
use Rattle.cb_types.specs.declared.header.Header.{Header}
use Rattle.slice_header.specs.declared.parts.Edits.{Edits}
use Rattle.slice_header.specs.declared.parts.Filter.{Filter}
use Rattle.slice_header.specs.declared.parts.Numbers.{Numbers}
use Rattle.slice_header.specs.declared.parts.Orders.{Orders}
use Rattle.slice_header.specs.declared.parts.References.{References}

abbrev pub numbers_of : Header → Numbers
numbers_of h = record { first_mb = h.first_mb; slice_type = h.slice_type; pps = h.pps; frame_num = h.frame_num; idr_pic_id = h.idr_pic_id }

abbrev pub orders_of : Header → Orders
orders_of h = record { poc_lsb = h.poc_lsb; delta_bottom = h.delta_bottom; delta_poc = h.delta_poc }

abbrev pub edits_of : Header → Edits
edits_of h = record { count = h.edit_count; list = h.edits }

abbrev pub references_of : Header → References
references_of h = record { active_override = h.active_override; edited = h.edited; edits = edits_of h }

abbrev pub filter_of : Header → Filter
filter_of h = record { qp_delta = h.qp_delta; idc = h.deblock_idc; alpha_half = h.alpha_half; beta_half = h.beta_half }
