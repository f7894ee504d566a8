-- What a contract sees of a lock, of a pass, and of the value in a caller's turn.
use Rattle.std.specs.Prelude.{◌≡◌, []}
use Rattle.atomic_table.specs.Seated.{TableId}
use Rattle.device_lock.specs.declared.kept.Kept.{Ghosts}
use Rattle.device_lock.specs.declared.held.Held.{Held}
use Rattle.device_lock.specs.declared.held.Logged.{Logged}
use Rattle.device_lock.specs.declared.lock.Lock.{Lock}
use Rattle.device_lock.specs.declared.pass.LockPass.{LockPass}
use Rattle.device_lock.specs.declared.view.View.{View}
use Rattle.device_lock.specs.Views.{IsAway}

module _ {T I : Type 0} where
  -- which lock it is
  abbrev pub lock_id : Lock T I → TableId
  lock_id l = l.table.shared.table_id

module _ {T I : Type 0} {g : Ghosts T I} where
  -- whose pass it is, and what it knows
  abbrev pub pass_lock : LockPass T I g → TableId
  pass_lock p = p.seat.table_id

  abbrev pub pass_view : LockPass T I g → View I
  pass_view p = p.seat.me.0

  -- Outside a call a pass has drawn no ticket, is not in its turn, was not joined into another one, and holds no slot.
  abbrev pub IsOutside : LockPass T I g → Type 0
  IsOutside p = IsAway (pass_view p) × (p.seat.me.1 ≡ [])

  -- the same of a turn before anything is logged, with the value
  abbrev pub held_lock : Held T I g → TableId
  held_lock h = h.hand.seat.table_id

  abbrev pub held_view : Held T I g → View I
  held_view h = h.hand.seat.me.0

  abbrev pub held_value : Held T I g → T
  held_value h = h.value

  -- the same of a turn in which an item was logged
  abbrev pub logged_lock : Logged T I g → TableId
  logged_lock l = l.seat.table_id

  abbrev pub logged_view : Logged T I g → View I
  logged_view l = l.seat.me.0
