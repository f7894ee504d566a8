-- Calls of others on a stream's device, beside those that a player makes for it.
use Rattle.std.specs.Prelude.{ℕ, Bool, true, false, not, ◌&&◌, List}
use Rattle.std.specs.List.{list_any}
use Rattle.std.specs.Option.{option_map_or}
use Rattle.clock_script.specs.Script.{is_preemption_of}
use Rattle.clock_script.specs.declared.script.ScriptLine.{ScriptLine}
use Rattle.device_lock.specs.Lists.{same}
use Rattle.driver_model.specs.Parts.{is_first, names_of}
use Rattle.driver_model.specs.declared.calls.Call.{Call}
use Rattle.driver_model.specs.declared.calls.Call.TheVariants as call
use Rattle.driver_model.specs.declared.items.Item.{Item}
use Rattle.driver_model.specs.declared.items.Item.TheVariants.{Called, Ended}
use Rattle.stream_calls.specs.Counted.{device_of}

-- the script preempts the stream
abbrev pub is_preempted_by : List ScriptLine → ℕ → Bool
is_preempted_by script stream = list_any (is_preemption_of stream) script

-- what a player's own thread may call on a stream's device: a tick, a look or a wait for wishes, and a preemption where the script has one
abbrev pub is_players : Bool → Call → Bool
is_players may_preempt (call.Advance device time) = true
is_players may_preempt (call.Poll wishes) = true
is_players may_preempt (call.WaitUntil wishes) = true
is_players may_preempt (call.Preempt device) = may_preempt
is_players may_preempt _ = false

-- The item is another caller's, names one of these first, and isn't a player's.
abbrev pub is_strangers : List ℕ → Bool → List ℕ → Item → Bool
is_strangers caller may_preempt names (Called entry) =
    not (same caller entry.caller) && (list_any (λ name. is_first name entry.call) names && not (is_players may_preempt entry.call))
is_strangers caller may_preempt names (Ended mark) = false

-- Strangers have called on the device that these own items of the caller made.
abbrev pub has_strangers : (seen own : List Item) (caller : List ℕ) → List ScriptLine → (stream : ℕ) → Bool
has_strangers seen own caller script stream =
    option_map_or (λ device. list_any (is_strangers caller (is_preempted_by script stream) (names_of seen device)) seen) (device_of own) false
