use Rattle.std.proofs.Common.{◌-◌, ◌/◌, ◌%◌, ◌^◌, ℕ, ap, arith}
use Rattle.std.proofs.lemmas.Nat.{one_shl}
use Rattle.cb_tables.proofs.Windows.{slot_is}
use Rattle.cb_tables.proofs.slots.slot_of.Goals as goal

pub returns : goal.returns
returns c =
    let front = c.args.window / 2 ^ (31 - c.min-leading.result - c.args.bits) in
    slot_is c.args.limit c.args.bits c.args.window c.min-leading.result _ (omega arith) c.requires c.min-leading.ensures
    (ap (λ (x : ℕ). front % x) (one_shl c.args.bits 32 (omega arith)))
