-- What is read of a file.
use Rattle.std.proofs.Common.{◌≡◌, ℕ, ◌+◌, ◌<◌, ◌≤◌, ◌==◌, ◌⊎◌, inl, inr, true, false, List, [], ◌∷◌, ◌++◌, length, take, drop, Option, Some, None, refl, sym, ap, subst, ◌∙◌, arith, append-nil, length-append, take-add, vec_len}
use Rattle.std.specs.Prelude.{IfSome}
use Rattle.std.proofs.Math.Seq.{take-append_seam}
use Rattle.std.proofs.lemmas.Bool.{eqb-true}
use Rattle.std.proofs.lemmas.Bool.Decides.{nat_tests}
use Rattle.std.proofs.lemmas.List.{length-take-le, take_all}
use Rattle.accepted_pictures.specs.Files.{Decoded}
use Rattle.accepted_pictures.specs.Streams.{MayFeed, Stream, no_stream, showing, streamed}
use Rattle.file_pictures.specs.Streams.{IsStep, StandsFor}
use Rattle.file_pictures.specs.declared.stream_decoder.Step.{Step}
use Rattle.file_pictures.specs.declared.stream_decoder.Step.TheVariants as step
use Rattle.file_pictures.specs.declared.stream_decoder.StreamDecoder.{StreamDecoder}
use Rattle.vdplay.specs.Reading.{Answers, IsAnswer, IsFrontOf, IsPiece, Reads, ReadsOn}
use Rattle.vdplay.specs.declared.file_reader.FileReader.{FileReader}

pub streamed_text : (stream : Stream) (bytes : List ℕ) → (streamed stream bytes).text ≡ stream.text ++ bytes
streamed_text stream [] = sym (append-nil stream.text)
streamed_text stream (byte ∷ bytes) = refl

pub streamed_decoded : (stream : Stream) (bytes : List ℕ) → (streamed stream bytes).decoded ≡ stream.decoded
streamed_decoded stream [] = refl
streamed_decoded stream (byte ∷ bytes) = refl

pub streamed_ended : (stream : Stream) (bytes : List ℕ) → stream.ended ≡ false → (streamed stream bytes).ended ≡ (length bytes == 0)
streamed_ended stream [] e = refl
streamed_ended stream (byte ∷ bytes) e = let apart : (length (byte ∷ bytes) == 0) ≡ false = grind (arith, nat_tests) in e ∙ sym apart

-- Another piece may be fed.
pub may_feed : (reader : FileReader) (known : Option (List ℕ)) (stream : Stream) (buf : List ℕ) (n : ℕ) → Reads reader known stream → stream.ended ≡ false → n ≤ length buf → reader.at + n ≤ 1073741824 → MayFeed stream (take n buf)
may_feed reader known stream buf n reads open_ended within room =
    let at = reads.at in
    let size : length (take n buf) ≡ n = length-take-le n buf within in
    record { not_ended = open_ended; room = omega (arith, at, size, length-append stream.text (take n buf)) }

front_on : (stream : Stream) (file bytes : List ℕ) (at n : ℕ) → at ≡ length stream.text → length bytes ≡ n → stream.text ≡ take (length stream.text) file → bytes ≡ take n (drop at file)
    → stream.text ++ bytes ≡ take (length (stream.text ++ bytes)) file
front_on stream file bytes at n is size front more =
    let first : stream.text ≡ take at file = front ∙ ap (λ k. take k file) (sym is) in
    let whole : at + n ≡ length (stream.text ++ bytes) = omega (arith, is, size, length-append stream.text bytes) in
    ap (λ xs. xs ++ bytes) first ∙ ap (λ xs. take at file ++ xs) more ∙ sym (take-add at n file) ∙ ap (λ k. take k file) whole

at_end : (file : List ℕ) (at : ℕ) → length file ≤ 1073741824 → (length file ≤ at) ⊎ (at ≡ 1073741824) → length file ≤ at
at_end file at short (inl h) = h
at_end file at short (inr h) = omega (arith, h)

whole_on : (stream : Stream) (file bytes : List ℕ) (at n : ℕ) → at ≡ length stream.text → length bytes ≡ n → stream.text ≡ take (length stream.text) file → length file ≤ 1073741824
    → (n ≡ 0 → (length file ≤ at) ⊎ (at ≡ 1073741824)) → n ≡ 0 → bytes ≡ [] → stream.text ++ bytes ≡ file
whole_on stream file bytes at n is size front short end none empty =
    let long : length file ≤ at = at_end file at short (end none) in
    let all : take (length stream.text) file ≡ file = ap (λ k. take k file) (sym is) ∙ take_all at file long in
    ap (λ xs. stream.text ++ xs) empty ∙ append-nil stream.text ∙ front ∙ all

nil_of : (xs : List ℕ) → length xs ≡ 0 → xs ≡ []
nil_of [] e = refl
nil_of (x ∷ xs) e = absurd (omega arith)

bytes_on : (known : Option (List ℕ)) (stream : Stream) (bytes : List ℕ) (at n : ℕ) → at ≡ length stream.text → length bytes ≡ n → stream.ended ≡ false → IfSome known (λ file. length file ≤ 1073741824)
    → IfSome known (IsFrontOf stream) → IfSome known (IsPiece at n bytes) → IfSome known (IsFrontOf (streamed stream bytes))
bytes_on None stream bytes at n is size open_ended short front piece = tt
bytes_on (Some file) stream bytes at n is size open_ended short front piece =
    let text = streamed_text stream bytes in
    record {
      front = text ∙ front_on stream file bytes at n is size front.front piece.are ∙ ap (λ (xs : List ℕ). take (length xs) file) (sym text);
      whole = λ ended. (
          let test : (length bytes == 0) ≡ true = sym (streamed_ended stream bytes open_ended) ∙ ended in
          let none : length bytes ≡ 0 = eqb-true (length bytes) 0 test in
          text ∙ whole_on stream file bytes at n is size front.front short piece.end (sym size ∙ none) (nil_of bytes none));
    }

-- So much more was read.
pub reads_on : (old now : FileReader) (known : Option (List ℕ)) (stream : Stream) (buf : List ℕ) (n : ℕ) → Reads old known stream → stream.ended ≡ false
    → StandsFor now.decoder (streamed stream (take n buf)) → n ≤ length buf → now.at ≡ old.at + n → old.at + n ≤ 1073741824 → now.ended ≡ (n == 0) → 0 < vec_len now.piece
    → IfSome known (IsPiece old.at n (take n buf)) → ReadsOn now known stream.decoded
reads_on old now known stream buf n reads open_ended stands within at room ended some piece =
    let size : length (take n buf) ≡ n = length-take-le n buf within in
    let text = ap length (streamed_text stream (take n buf)) in
    let before = reads.at in
    record {
      stream = streamed stream (take n buf);
      same = streamed_decoded stream (take n buf);
      reads = record {
        decoder = stands;
        at = omega (arith, at, before, size, text, length-append stream.text (take n buf));
        most = omega (arith, at);
        ended = ended ∙ ap (λ k. k == 0) (sym size) ∙ sym (streamed_ended stream (take n buf) open_ended);
        piece = some;
        short = reads.short;
        bytes = bytes_on known stream (take n buf) old.at n reads.at size open_ended reads.short reads.bytes piece;
      };
    }

pub some_piece : (n : ℕ) → n ≡ 65536 → 0 < n
some_piece n e = omega (arith, e)

pub nothing_read : (known : Option (List ℕ)) → IfSome known (IsFrontOf no_stream)
nothing_read None = tt
nothing_read (Some file) = record { front = refl; whole = λ ended. absurd cc }

-- ---- what is answered

-- Only the decoder has changed, and stands for the same.
pub renewed : (old now : FileReader) (known other : Option (List ℕ)) (stream : Stream) → Reads old known stream → StandsFor now.decoder stream → now.at ≡ old.at → now.ended ≡ old.ended → vec_len now.piece ≡ vec_len old.piece
    → known ≡ other → Reads now other stream
renewed old now known other stream reads stands at ended piece same =
    let R : Option (List ℕ) → Type 0 = λ k. Reads now k stream in
    let most = reads.most in
    let some = reads.piece in
    let now_at : now.at ≡ length stream.text = at ∙ reads.at in
    subst R same (record { decoder = stands; at = now_at; most = omega (arith, at); ended = ended ∙ reads.ended; piece = omega (arith, piece); short = reads.short; bytes = reads.bytes })

pub reads_at : (reader : FileReader) (known other : Option (List ℕ)) (decoded : List Decoded) → known ≡ other → ReadsOn reader known decoded → ReadsOn reader other decoded
reads_at reader known other decoded same reads = let R : Option (List ℕ) → Type 0 = λ k. ReadsOn reader k decoded in subst R same reads

pub hungry : (stream : Stream) (answer : Step) (decoder : StreamDecoder) → IsStep stream answer decoder → answer ≡ step.Hungry → (stream.ended ≡ false) × StandsFor decoder stream
hungry stream answer decoder is same = let S : Step → Type 0 = λ a. IsStep stream a decoder in let now = subst S same is in (now.0.not_ended, now.1)

pub answers_of : (old now : FileReader) (known : Option (List ℕ)) (stream : Stream) (answer : Step) → Reads old known stream → now.at ≡ old.at → now.ended ≡ old.ended → vec_len now.piece ≡ vec_len old.piece
    → (answer ≡ step.Hungry → ⊥) → IsStep stream answer now.decoder → Answers known stream answer now
answers_of old now known stream step.Hungry reads at ended piece fed is = fed refl
answers_of old now known stream (step.Picture shown) reads at ended piece fed is =
    let most = reads.most in
    let some = reads.piece in
    (is.0, is.1, is.2, record { decoder = is.3; at = at ∙ reads.at; most = omega (arith, at); ended = ended ∙ reads.ended; piece = omega (arith, piece); short = reads.short; bytes = moved known reads.bytes })
  where
    moved : (k : Option (List ℕ)) → IfSome k (IsFrontOf stream) → IfSome k (IsFrontOf (showing stream is.0))
    moved None b = tt
    moved (Some file) b = record { front = b.front; whole = b.whole }
answers_of old now known stream step.End reads at ended piece fed is = (is.0, is.1)
answers_of old now known stream (step.Refused offset large) reads at ended piece fed is = is.0

pub answered : (old now : FileReader) (known : Option (List ℕ)) (decoded : List Decoded) (answer : Step) → ReadsOn old known decoded → now.at ≡ old.at → now.ended ≡ old.ended → vec_len now.piece ≡ vec_len old.piece
    → (answer ≡ step.Hungry → ⊥) → ((stream : Stream) → StandsFor old.decoder stream → IsStep stream answer now.decoder) → IsAnswer known decoded answer now
answered old now known decoded answer on at ended piece fed is =
    record { stream = on.stream; same = on.same; bytes = on.reads.bytes; answers = answers_of old now known on.stream answer on.reads at ended piece fed (is on.stream on.reads.decoder) }

-- Behind the end no more bytes are wanted.
pub fed_all : (old : FileReader) (known : Option (List ℕ)) (decoded : List Decoded) (answer : Step) (decoder : StreamDecoder) → ReadsOn old known decoded → old.ended ≡ true
    → ((stream : Stream) → StandsFor old.decoder stream → IsStep stream answer decoder) → answer ≡ step.Hungry → ⊥
fed_all old known decoded answer decoder on ended is same =
    let open_ended : on.stream.ended ≡ false = (hungry on.stream answer decoder (is on.stream on.reads.decoder) same).0 in
    let closed : on.stream.ended ≡ true = sym on.reads.ended ∙ ended in
    cc

pub whole_items : (len : ℕ) (bytes rest : List ℕ) → length bytes ≡ len → take len (bytes ++ rest) ≡ bytes
whole_items len bytes rest e = ap (λ (n : ℕ). take n (bytes ++ rest)) (sym e) ∙ take-append_seam bytes rest
