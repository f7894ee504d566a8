-- Records as words and as bytes: six words of 64 bits, each with its highest byte first.
use Rattle.std.specs.Prelude.{ℕ, List, [], ◌∷◌, flat_map}
use Rattle.byteorder.specs.Endian.{big_bytes}
use Rattle.driver_model.specs.declared.replies.PresentStatus.{PresentStatus}
use Rattle.driver_model.specs.declared.replies.PresentStatus.TheVariants.{Idle, Queued, Visible}
use Rattle.trace_records.specs.declared.record.Event.{Event}
use Rattle.trace_records.specs.declared.record.Event.TheVariants.{Advance, BlockUntilIdle, DeviceCreate, DeviceDestroy, Flip, GetTime, OutputCreate, OutputDestroy, Preempt, Promise, QueryStatus, QueueCreate, QueueDestroy, QueueDisplay}
use Rattle.trace_records.specs.declared.record.Record.{Record}
use Rattle.trace_records.specs.declared.words.Words.{Words}

abbrev pub status_word : PresentStatus → ℕ
status_word Idle = 0
status_word Queued = 1
status_word Visible = 2

-- the number of an event, and its four words
abbrev pub numbered : ℕ → (number a b c d : ℕ) → Words
numbered place number a b c d = record { place = place; call = number; a = a; b = b; c = c; d = d }

-- the words of an event at a place; a word that the event has no use for is 0
abbrev pub words_at : ℕ → Event → Words
words_at place (DeviceCreate name) = numbered place 1 name 0 0 0
words_at place (DeviceDestroy device) = numbered place 2 device 0 0 0
words_at place (OutputCreate name device) = numbered place 3 name device 0 0
words_at place (OutputDestroy surface) = numbered place 4 surface 0 0 0
words_at place (QueueCreate name device window) = numbered place 5 name device window 0
words_at place (QueueDestroy queue) = numbered place 6 queue 0 0 0
words_at place (QueueDisplay queue surface earliest) = numbered place 7 queue surface earliest 0
words_at place (QueryStatus queue surface status time) = numbered place 8 queue surface (status_word status) time
words_at place (BlockUntilIdle queue surface time) = numbered place 9 queue surface 0 time
words_at place (GetTime queue time) = numbered place 10 queue 0 0 time
words_at place (Promise queue time) = numbered place 11 queue 0 0 time
words_at place (Advance device flips time) = numbered place 12 device 0 flips time
words_at place (Flip queue surface time) = numbered place 13 queue surface 0 time
words_at place (Preempt device) = numbered place 14 device 0 0 0

abbrev pub words_of : Record → Words
words_of r = words_at r.place r.event

-- the words one behind the other
abbrev pub listed : Words → List ℕ
listed w = w.place ∷ w.call ∷ w.a ∷ w.b ∷ w.c ∷ w.d ∷ []

-- each word's eight bytes
abbrev pub bytes_of_words : Words → List ℕ
bytes_of_words w = flat_map (big_bytes 8) (listed w)

-- a record's 48 bytes
abbrev pub bytes_of : Record → List ℕ
bytes_of r = bytes_of_words (words_of r)

-- the bytes of records one behind the other
abbrev pub bytes_of_all : List Record → List ℕ
bytes_of_all records = flat_map bytes_of records
