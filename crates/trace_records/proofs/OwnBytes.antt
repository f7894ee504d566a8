-- A record's bytes are no other record's.
use Rattle.std.proofs.Common.{◌≡◌, ℕ, zero, suc, ◌+◌, ◌%◌, ◌<◌, ◌≤◌, ◌^◌, List, [], ◌∷◌, ◌++◌, flat_map, length, drop, take, Option, Some, None, refl, ap, ap₂, sym, ◌∙◌, arith}
use Rattle.std.proofs.Math.Nat.{mod-eq_of_lt}
use Rattle.std.proofs.Math.Seq.{drop-append_seam, take-append_seam}
use Rattle.byteorder.specs.Endian.{big_bytes, big_from}
use Rattle.byteorder.specs.Numbers.{big_number-reads_back}
use Rattle.driver_model.specs.declared.replies.PresentStatus.{PresentStatus}
use Rattle.driver_model.specs.declared.replies.PresentStatus.TheVariants.{Idle, Queued, Visible}
use Rattle.trace_records.specs.Found.{event_in, low}
use Rattle.trace_records.specs.Ranges.{IsInRange, IsRecord}
use Rattle.trace_records.specs.Records.{bytes_of, bytes_of_words, numbered, status_word, words_at, words_of}
use Rattle.trace_records.specs.declared.record.Event.{Event}
use Rattle.trace_records.specs.declared.record.Event.TheVariants.{Advance, BlockUntilIdle, DeviceCreate, DeviceDestroy, Flip, GetTime, OutputCreate, OutputDestroy, Preempt, Promise, QueryStatus, QueueCreate, QueueDestroy, QueueDisplay}
use Rattle.trace_records.specs.declared.record.Record.{Record}
use Rattle.trace_records.specs.declared.words.Words.{Words}

-- ---- words

pub record Small (w : Words) : Type 0 where
  pub place : w.place < 2 ^ 64
  pub call : w.call < 2 ^ 64
  pub a : w.a < 2 ^ 64
  pub b : w.b < 2 ^ 64
  pub c : w.c < 2 ^ 64
  pub d : w.d < 2 ^ 64

module _ (place : ℕ) (at : place < 2 ^ 64) where
  none : 0 < 2 ^ 64
  none = omega arith

  wide : (name : ℕ) → name < 2 ^ 32 → name < 2 ^ 64
  wide name h = omega (arith, h)

  row : (number a b c d : ℕ) → number < 2 ^ 64 → a < 2 ^ 64 → b < 2 ^ 64 → c < 2 ^ 64 → d < 2 ^ 64 → Small (numbered place number a b c d)
  row number a b c d n p q r s = record { place = at; call = n; a = p; b = q; c = r; d = s }

  status_small : (status : PresentStatus) → status_word status < 2 ^ 64
  status_small Idle = omega arith
  status_small Queued = omega arith
  status_small Visible = omega arith

  pub small : (e : Event) → IsInRange e → Small (words_at place e)
  small (DeviceCreate name) h = row _ _ _ _ _ (omega arith) (wide name h) none none none
  small (DeviceDestroy device) h = row _ _ _ _ _ (omega arith) (wide device h) none none none
  small (OutputCreate name device) h = row _ _ _ _ _ (omega arith) (wide name h.0) (wide device h.1) none none
  small (OutputDestroy surface) h = row _ _ _ _ _ (omega arith) (wide surface h) none none none
  small (QueueCreate name device window) h = row _ _ _ _ _ (omega arith) (wide name h.0) (wide device h.1) (wide window h.2) none
  small (QueueDestroy queue) h = row _ _ _ _ _ (omega arith) (wide queue h) none none none
  small (QueueDisplay queue surface earliest) h = row _ _ _ _ _ (omega arith) (wide queue h.0) (wide surface h.1) h.2 none
  small (QueryStatus queue surface status time) h = row _ _ _ _ _ (omega arith) (wide queue h.0) (wide surface h.1) (status_small status) h.2
  small (BlockUntilIdle queue surface time) h = row _ _ _ _ _ (omega arith) (wide queue h.0) (wide surface h.1) none h.2
  small (GetTime queue time) h = row _ _ _ _ _ (omega arith) (wide queue h.0) none none h.1
  small (Promise queue time) h = row _ _ _ _ _ (omega arith) (wide queue h.0) none none h.1
  small (Advance device flips time) h = row _ _ _ _ _ (omega arith) (wide device h.0) none h.1 h.2
  small (Flip queue surface time) h = row _ _ _ _ _ (omega arith) (wide queue h.0) (wide surface h.1) none h.2
  small (Preempt device) h = row _ _ _ _ _ (omega arith) (wide device h) none none none

-- the word that begins at a place of bytes
word_at : ℕ → List ℕ → ℕ
word_at place bytes = big_from 0 8 (drop place bytes)

back : (word : ℕ) (rest : List ℕ) → word < 2 ^ 64 → big_from 0 8 (big_bytes 8 word ++ rest) ≡ word
back word rest h = big_number-reads_back 8 word rest h

place_back : (w : Words) → Small w → word_at 0 (bytes_of_words w) ≡ w.place
unfolding word_at
place_back w h = back w.place (flat_map (big_bytes 8) (w.call ∷ w.a ∷ w.b ∷ w.c ∷ w.d ∷ [])) h.place

call_back : (w : Words) → Small w → word_at 8 (bytes_of_words w) ≡ w.call
unfolding word_at
call_back w h = back w.call (flat_map (big_bytes 8) (w.a ∷ w.b ∷ w.c ∷ w.d ∷ [])) h.call

a_back : (w : Words) → Small w → word_at 16 (bytes_of_words w) ≡ w.a
unfolding word_at
a_back w h = back w.a (flat_map (big_bytes 8) (w.b ∷ w.c ∷ w.d ∷ [])) h.a

b_back : (w : Words) → Small w → word_at 24 (bytes_of_words w) ≡ w.b
unfolding word_at
b_back w h = back w.b (flat_map (big_bytes 8) (w.c ∷ w.d ∷ [])) h.b

c_back : (w : Words) → Small w → word_at 32 (bytes_of_words w) ≡ w.c
unfolding word_at
c_back w h = back w.c (flat_map (big_bytes 8) (w.d ∷ [])) h.c

d_back : (w : Words) → Small w → word_at 40 (bytes_of_words w) ≡ w.d
unfolding word_at
d_back w h = back w.d [] h.d

words_is : (w v : Words) → w.place ≡ v.place → w.call ≡ v.call → w.a ≡ v.a → w.b ≡ v.b → w.c ≡ v.c → w.d ≡ v.d → w ≡ v
words_is w v p n a b c d = λ i. record { place = p i; call = n i; a = a i; b = b i; c = c i; d = d i }

same_words : (w v : Words) → Small w → Small v → bytes_of_words w ≡ bytes_of_words v → w ≡ v
same_words w v h k e =
    words_is w v
    (sym (place_back w h) ∙ (ap (word_at 0) e ∙ place_back v k))
    (sym (call_back w h) ∙ (ap (word_at 8) e ∙ call_back v k))
    (sym (a_back w h) ∙ (ap (word_at 16) e ∙ a_back v k))
    (sym (b_back w h) ∙ (ap (word_at 24) e ∙ b_back v k))
    (sym (c_back w h) ∙ (ap (word_at 32) e ∙ c_back v k))
    (sym (d_back w h) ∙ (ap (word_at 40) e ∙ d_back v k))

words_long : (w : Words) → length (bytes_of_words w) ≡ 48
words_long w = refl

-- ---- records

low-is : (name : ℕ) → name < 2 ^ 32 → low name ≡ name
low-is name h = mod-eq_of_lt h

pub found_again : (place : ℕ) (e : Event) → IsInRange e → event_in (words_at place e) ≡ Some e
found_again place (DeviceCreate name) h = rw (low-is name h) refl
found_again place (DeviceDestroy device) h = rw (low-is device h) refl
found_again place (OutputCreate name device) h = rw (low-is name h.0, low-is device h.1) refl
found_again place (OutputDestroy surface) h = rw (low-is surface h) refl
found_again place (QueueCreate name device window) h = rw (low-is name h.0, low-is device h.1, low-is window h.2) refl
found_again place (QueueDestroy queue) h = rw (low-is queue h) refl
found_again place (QueueDisplay queue surface earliest) h = rw (low-is queue h.0, low-is surface h.1) refl
found_again place (QueryStatus queue surface Idle time) h = rw (low-is queue h.0, low-is surface h.1) refl
found_again place (QueryStatus queue surface Queued time) h = rw (low-is queue h.0, low-is surface h.1) refl
found_again place (QueryStatus queue surface Visible time) h = rw (low-is queue h.0, low-is surface h.1) refl
found_again place (BlockUntilIdle queue surface time) h = rw (low-is queue h.0, low-is surface h.1) refl
found_again place (GetTime queue time) h = rw (low-is queue h.0) refl
found_again place (Promise queue time) h = rw (low-is queue h.0) refl
found_again place (Advance device flips time) h = rw (low-is device h.0) refl
found_again place (Flip queue surface time) h = rw (low-is queue h.0, low-is surface h.1) refl
found_again place (Preempt device) h = rw (low-is device h) refl

-- every event's words begin with its place
pub place-is : (place : ℕ) (e : Event) → (words_at place e).place ≡ place
place-is place (DeviceCreate name) = refl
place-is place (DeviceDestroy device) = refl
place-is place (OutputCreate name device) = refl
place-is place (OutputDestroy surface) = refl
place-is place (QueueCreate name device window) = refl
place-is place (QueueDestroy queue) = refl
place-is place (QueueDisplay queue surface earliest) = refl
place-is place (QueryStatus queue surface status time) = refl
place-is place (BlockUntilIdle queue surface time) = refl
place-is place (GetTime queue time) = refl
place-is place (Promise queue time) = refl
place-is place (Advance device flips time) = refl
place-is place (Flip queue surface time) = refl
place-is place (Preempt device) = refl

event_is : (e f : Event) → Some e ≡ Some f → e ≡ f
event_is e f same = ap (λ (o : Option Event). held o) same where
  held : Option Event → Event
  held (Some it) = it
  held None = e

pub same_record : (r s : Record) → IsRecord r → IsRecord s → bytes_of r ≡ bytes_of s → r ≡ s
same_record r s h k e =
    let same = same_words (words_of r) (words_of s) (small r.place h.place r.event h.event) (small s.place k.place s.event k.event) e in
    let places : r.place ≡ s.place = sym (place-is r.place r.event) ∙ (ap (λ (w : Words). w.place) same ∙ place-is s.place s.event) in
    let events : r.event ≡ s.event = event_is r.event s.event (sym (found_again r.place r.event h.event) ∙ (ap event_in same ∙ found_again s.place s.event k.event)) in
    λ i. record { place = places i; event = events i }

pub record_long : (r : Record) → length (bytes_of r) ≡ 48
record_long r = words_long (words_of r)

-- where two begin alike, they are one, and so is what is behind them
pub begins_alike : (r s : Record) (later other : List ℕ) → IsRecord r → IsRecord s → bytes_of r ++ later ≡ bytes_of s ++ other → (r ≡ s) × (later ≡ other)
begins_alike r s later other h k e =
    let front : bytes_of r ≡ bytes_of s = parts (bytes_of r) (bytes_of s) later other (record_long r ∙ sym (record_long s)) e in
    (same_record r s h k front, rests (bytes_of r) (bytes_of s) later other (record_long r ∙ sym (record_long s)) e)
  where
    parts : (xs ys us vs : List ℕ) → length xs ≡ length ys → xs ++ us ≡ ys ++ vs → xs ≡ ys
    parts xs ys us vs long same = sym (take-append_seam xs us) ∙ (ap₂ take long same ∙ take-append_seam ys vs)

    rests : (xs ys us vs : List ℕ) → length xs ≡ length ys → xs ++ us ≡ ys ++ vs → us ≡ vs
    rests xs ys us vs long same = sym (drop-append_seam xs us) ∙ (ap₂ drop long same ∙ drop-append_seam ys vs)
