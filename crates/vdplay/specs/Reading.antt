-- What a reader of a file stands for, and what it answers.
use Rattle.std.specs.Prelude.{◌≡◌, ℕ, ◌<◌, ◌≤◌, ◌⊎◌, List, length, vec_len, drop, take, true, Option, IfSome}
use Rattle.accepted_pictures.specs.Files.{Decoded, IsReadTo, IsReadWhole}
use Rattle.accepted_pictures.specs.Streams.{IsNextOne, Stream, showing}
use Rattle.file_pictures.specs.Streams.{Shows, StandsFor}
use Rattle.file_pictures.specs.declared.stream_decoder.Step.{Step}
use Rattle.file_pictures.specs.declared.stream_decoder.Step.TheVariants as step
use Rattle.vdplay.specs.declared.file_reader.FileReader.{FileReader}

-- The stream has the front of the file, and all of it where the end was fed.
pub record IsFrontOf (stream : Stream) (file : List ℕ) : Type 0 where
  pub front : stream.text ≡ take (length stream.text) file
  pub whole : stream.ended ≡ true → stream.text ≡ file

-- So much was read of a file, where its bytes are known; it isn't too long.
pub record Reads (reader : FileReader) (known : Option (List ℕ)) (stream : Stream) : Type 0 where
  pub decoder : StandsFor reader.decoder stream
  pub at : reader.at ≡ length stream.text
  pub most : reader.at ≤ 1073741824
  pub ended : reader.ended ≡ stream.ended
  pub piece : 0 < vec_len reader.piece
  pub short : IfSome known (λ file. length file ≤ 1073741824)
  pub bytes : IfSome known (IsFrontOf stream)

-- What is answered of the bytes read, and what the reader stands for behind a picture.
abbrev pub Answers : Option (List ℕ) → Stream → Step → FileReader → Type 0
Answers known stream step.Hungry reader = ⊥
Answers known stream (step.Picture shown) reader = (one : Decoded) × IsNextOne stream one × Shows shown one × Reads reader known (showing stream one)
Answers known stream step.End reader = (stream.ended ≡ true) × IsReadWhole stream.text stream.decoded
Answers known stream (step.Refused offset large) reader =
    IsReadTo stream.text stream.ended stream.decoded (record { offset = offset; large = large })

-- The answer is of a stream with these pictures, of which more may have been read.
pub record IsAnswer (known : Option (List ℕ)) (decoded : List Decoded) (answer : Step) (reader : FileReader) : Type 0 where
  pub stream : Stream
  pub same : stream.decoded ≡ decoded
  pub bytes : IfSome known (IsFrontOf stream)
  pub answers : Answers known stream answer reader

-- More was read, and no picture was given.
pub record ReadsOn (reader : FileReader) (known : Option (List ℕ)) (decoded : List Decoded) : Type 0 where
  pub stream : Stream
  pub same : stream.decoded ≡ decoded
  pub reads : Reads reader known stream

-- So many bytes of the file stand from a place on: none only at its end, or at the greatest place.
pub record IsPiece (at n : ℕ) (bytes : List ℕ) (file : List ℕ) : Type 0 where
  pub within : n ≤ length (drop at file)
  pub are : bytes ≡ take n (drop at file)
  pub end : n ≡ 0 → (length file ≤ at) ⊎ (at ≡ 1073741824)
