use Rattle.std.proofs.Common.{◌≡◌, ℕ, ◌<◌, true, false, get_or}
use Rattle.cb_types.proofs.info_fields.first_refused_field.Given as goal

abbrev pub invariant-loop-field : goal.invariant-loop-field
invariant-loop-field l = (k : ℕ) → k < l.field → get_or l.is_accepted-items k false ≡ true
