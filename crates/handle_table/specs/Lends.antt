-- What a `HandleTable` ends as, where a `&mut` to one of its values is returned.
use Rattle.std.specs.Prelude.{ℕ, Option}
use Rattle.std.specs.Borrow.{LendsIf, Fml, RattleType, MutBor}
use Rattle.handle_table.specs.Handles.{Handles, with_value}
use Rattle.handle_table.specs.contracts.table.HandleTable.{the_row}

-- Once the borrow ends, the live one of this kind and name has the last value written through it. At `None` the table stays as it is.
abbrev pub lends_value : (T : RattleType) → MutBor (Handles T.Denot) → ℕ → ℕ → Option (MutBor T.Denot) → Fml
lends_value T table kind name r = LendsIf (the_row T) T table r (with_value table.now kind name) table.now
