-- What a held value ends as, where a `&mut` to it is returned.
use Rattle.std.specs.Borrow.{Lends, MutBor, Fml, RattleType}
use Rattle.device_lock.specs.declared.kept.Kept.{Ghosts}
use Rattle.device_lock.specs.declared.held.Held.{Held}
use Rattle.device_lock.specs.contracts.held.Held.{the_row}

-- the turn with this value
abbrev pub with_value : {T I : Type 0} {g : Ghosts T I} → Held T I g → T → Held T I g
with_value h x = record h { value = x }

-- Once the borrow ends, the turn has the last value written through it.
abbrev pub lends_value : (T I : RattleType) (g : Ghosts T.Denot I.Denot) → MutBor (Held T.Denot I.Denot g) → MutBor T.Denot → Fml
lends_value T I g h r = Lends (the_row T I g) T h r (with_value h.now)
