-- What follows of the calls of a stream.
use Rattle.std.specs.Prelude.{◌≡◌, ℕ, true, false, List, [], ◌∷◌, ◌++◌, Ok, Err}
use Rattle.device_lock.specs.Numbers.{items_of}
use Rattle.vd_status.specs.declared.refusal.Refusal.TheVariants.{HandlesFull, OutOfMemory, QueueFull}
use Rattle.driver_model.specs.Answers.{Reply}
use Rattle.driver_model.specs.Histories.{IsLegal}
use Rattle.driver_model.specs.Passes.{caller_of}
use Rattle.driver_model.specs.declared.calls.Call.{Call}
use Rattle.driver_model.specs.declared.calls.Call.TheVariants as call
use Rattle.driver_model.specs.declared.items.Item.{Item}
use Rattle.driver_model.specs.declared.items.Item.TheVariants.{Called, Ended}
use Rattle.driver_model.specs.declared.replies.Answer.TheVariants.{Done}
use Rattle.stream_calls.specs.Counted.{is_counted}
use Rattle.stream_calls.specs.StreamCalls.{AreStreamCalls, Fed, Stream}
use Rattle.stream_calls.specs.Strangers.{is_strangers}

-- Who has made no calls yet has made those of the stream, whatever was fed and whatever others did.
abbrev pub NoCallsAreAStreams : Type 0
NoCallsAreAStreams =
    (stream : Stream) (fed : Fed) (seen : List Item) (caller : List ℕ)
    → IsLegal seen → items_of caller_of caller seen ≡ [] → AreStreamCalls stream fed seen caller

-- bytes are fed; none are the end
abbrev pub feeding : Fed → List ℕ → Fed
feeding fed [] = record fed { ended = true }
feeding fed (byte ∷ bytes) = record fed { bytes = fed.bytes ++ byte ∷ bytes }

-- What is fed makes no call wrong.
abbrev pub FeedingKeepsStreamCalls : Type 0
FeedingKeepsStreamCalls =
    (stream : Stream) (fed : Fed) (bytes : List ℕ) (seen : List Item) (caller : List ℕ)
    → fed.ended ≡ false → AreStreamCalls stream fed seen caller → AreStreamCalls stream (feeding fed bytes) seen caller

-- ---- worked cases

abbrev called : List ℕ → Call → Reply → Item
called caller asked reply = Called (record { caller = caller; call = asked; reply = reply })

-- a promise that was made counts, and so does a refused display and the end of a job; a poll and a create without memory or room don't
pub record CountsAreWorked : Type 0 where
  pub promise : is_counted (called [] (call.Promise 7 40) (Ok Done)) ≡ true
  pub display : is_counted (called [] (call.QueueDisplay 7 8 40) (Err QueueFull)) ≡ true
  pub ended : is_counted (Ended (record { caller = []; place = 3 })) ≡ true
  pub poll : is_counted (called [] (call.Poll []) (Err QueueFull)) ≡ false
  pub memory : is_counted (called [] call.DeviceCreate (Err OutOfMemory)) ≡ false
  pub handles : is_counted (called [] call.DeviceCreate (Err (HandlesFull 16 16))) ≡ false

-- On device 5 with queue 9: another caller's tick and poll are a player's, its promise is a stranger's; its preemption is, unless the
-- script has one; and so is nothing that the caller itself calls, or that is about another device.
pub record StrangersAreWorked : Type 0 where
  pub tick : is_strangers (1 ∷ []) false (5 ∷ 9 ∷ []) (called [] (call.Advance 5 40) (Ok Done)) ≡ false
  pub promise : is_strangers (1 ∷ []) false (5 ∷ 9 ∷ []) (called [] (call.Promise 9 40) (Ok Done)) ≡ true
  pub preempt : is_strangers (1 ∷ []) false (5 ∷ 9 ∷ []) (called [] (call.Preempt 5) (Ok Done)) ≡ true
  pub scripted : is_strangers (1 ∷ []) true (5 ∷ 9 ∷ []) (called [] (call.Preempt 5) (Ok Done)) ≡ false
  pub own : is_strangers (1 ∷ []) false (5 ∷ 9 ∷ []) (called (1 ∷ []) (call.Promise 9 40) (Ok Done)) ≡ false
  pub elsewhere : is_strangers (1 ∷ []) false (5 ∷ 9 ∷ []) (called [] (call.Promise 8 40) (Ok Done)) ≡ false
