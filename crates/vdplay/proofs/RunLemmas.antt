-- What a run has read and written.
use Rattle.std.proofs.Common.{zero, suc, ◌-◌, nat_lt, length-drop, ◌≡◌, ℕ, ◌+◌, ◌<◌, ◌≤◌, ◌⊎◌, inl, inr, Bool, true, false, List, [], ◌∷◌, length, drop, Option, Some, None, Result, Ok, Err, refl, sym, ap, subst, ◌∙◌, arith}
use Rattle.std.specs.Prelude.{IfErr, IfSome, IsErrOf, MatchBool, OnOk}
use Rattle.std.specs.Io.KnownBytes.{Appends}
use Rattle.access_units.specs.AccessUnits.{AccessUnit}
use Rattle.access_units.specs.Pictures.{ArePictures}
use Rattle.accepted_pictures.specs.Files.{AreAllWhole, AreDecoded, Decoded, Fault, HasPictures, IsAcceptedPicture, IsReadTo, IsReadWhole, IsTooLong}
use Rattle.accepted_pictures.specs.Streams.{IsNextOne, Stream, showing}
use Rattle.file_pictures.specs.Streams.{HasSmallDepth, Shows}
use Rattle.file_pictures.specs.declared.stream_decoder.DecodedPicture.{DecodedPicture}
use Rattle.file_pictures.specs.declared.stream_decoder.Step.{Step}
use Rattle.file_pictures.specs.declared.stream_decoder.Step.TheVariants as step
use Rattle.vd_outside.specs.Count.{HasCause}
use Rattle.vd_outside.specs.Shelf.{Fills}
use Rattle.vdplay.specs.Output.{picture_lines, text_of}
use Rattle.vdplay.specs.Reading.{IsAnswer, IsFrontOf, Reads}
use Rattle.vdplay.specs.Reports.{AppendsAhead, HasWritten, IsNextOf, command_of}
use Rattle.vdplay.specs.Run.{AppendsFront, AppendsPart, AppendsText, HasAppended, HasRun, IsDecided, IsStopped, exit_in, place_of, refusal_of}
use Rattle.vdplay.specs.declared.command_line.Command.{Command}
use Rattle.vdplay.specs.declared.exit.Exit.{Exit}
use Rattle.vdplay.specs.declared.exit.Exit.TheVariants.{Done, ReadFault, WriteFault, OutOfMemory}
use Rattle.vdplay.specs.declared.file_reader.FileReader.{FileReader}
use Rattle.vdplay.specs.declared.report.Report.{Report}
use Rattle.vdplay.specs.declared.report.Report.TheVariants.{Lines, Planes}
use Rattle.std.proofs.lemmas.Bool.Decides.{nat_tests}
use Rattle.vdplay.proofs.AheadLemmas.{calm_ahead, lines_ahead, nothing_ahead}
use Rattle.vdplay.proofs.PartLemmas.{AreFirstPictures, end_part, first_part, none_first, text_appended}
use Rattle.vdplay.proofs.Settled.{settled_in}
use Rattle.vdplay.proofs.Texts.{whole_front}

-- So many pictures were given and reported.
pub record IsUnderway (known : Option (List ℕ)) (given : ℕ) (reader : FileReader) (report : Report) (start now : Option (List ℕ)) : Type 0 where
  pub stream : Stream
  pub reads : Reads reader known stream
  pub written : HasWritten report stream.decoded start now
  pub first : IfSome known (λ file. AreFirstPictures file stream.decoded)
  pub count : length stream.decoded ≡ given

not_long : (file : List ℕ) → length file ≤ 1073741824 → IsTooLong file → ⊥
not_long file short long = omega arith

decoded_more : (front : List AccessUnit) (au : AccessUnit) (before : List Decoded) (one : Decoded) → AreDecoded front before → IsAcceptedPicture before au one → AreDecoded (au ∷ front) (one ∷ before)
unfolding ArePictures AreAllWhole
decoded_more front au before one are is = record { pictures = (are.pictures, is.picture); whole = (are.whole, is.whole) }

-- One more picture of the file is accepted.
pub first_more : (known : Option (List ℕ)) (stream : Stream) (one : Decoded) → IfSome known (λ file. length file ≤ 1073741824) → IfSome known (IsFrontOf stream) → IsNextOne stream one
    → IfSome known (λ file. AreFirstPictures file (one ∷ stream.decoded))
first_more None stream one short front next = tt
first_more (Some file) stream one short front next =
    inr (not_long file short, (next.front, (next.au, settled_in stream file next.front next.au front next.settled, decoded_more next.front next.au stream.decoded one next.before next.decoded)))

-- The file's pictures are all given.
pub all_given : (known : Option (List ℕ)) (stream : Stream) → IfSome known (λ file. length file ≤ 1073741824) → IfSome known (IsFrontOf stream) → stream.ended ≡ true → IsReadWhole stream.text stream.decoded
    → IfSome known (λ file. HasPictures file stream.decoded None)
all_given None stream short front ended whole = tt
all_given (Some file) stream short front ended whole =
    let W : List ℕ → Type 0 = λ text. IsReadWhole text stream.decoded in
    (λ long. absurd (not_long file short long), λ fits. subst W (front.whole ended) whole)

-- The next access unit isn't accepted.
pub refused : (known : Option (List ℕ)) (stream : Stream) (fault : Fault) → IfSome known (λ file. length file ≤ 1073741824) → IfSome known (IsFrontOf stream) → IsReadTo stream.text stream.ended stream.decoded fault
    → IfSome known (λ file. HasPictures file stream.decoded (Some fault))
refused None stream fault short front to = tt
refused (Some file) stream fault short front to = (
  λ long. absurd (not_long file short long),
  λ fits. record { front = to.front; au = to.au; settled = settled_in stream file to.front to.au front to.settled; accepted = to.accepted; refused = to.refused; fault_is = to.fault_is },
)

-- Too long a file has no picture.
pub too_long : (known : Option (List ℕ)) → IfSome known (λ file. 1073741824 < length file) → IfSome known (λ file. HasPictures file [] (Some (record { offset = 0; large = true })))
too_long None long = tt
too_long (Some file) long = (λ same. (refl, refl), λ fits. absurd (fits long))

-- ---- how it ended

part_of : (known : Option (List ℕ)) (command : Command) (old new : Option (List ℕ)) (exit : Exit) → IsStopped exit → IfSome known (AppendsPart old new command) → IfSome known (HasAppended exit old new command)
part_of None command old new exit stopped part = tt
part_of (Some file) command old new exit stopped part =
    let H : Exit → Type 0 = λ e. HasAppended e old new command file in
    elim stopped [ inl e ↦ subst H (sym e) part | inr other ↦ elim other [ inl e ↦ subst H (sym e) part | inr e ↦ subst H (sym e) part ] ]

undecided : (exit : Exit) → IsStopped exit → IsDecided exit → ⊥
undecided exit stopped decided =
    elim stopped [ inl e ↦ subst IsDecided e decided | inr other ↦ elim other [ inl e ↦ subst IsDecided e decided | inr e ↦ subst IsDecided e decided ] ]

-- It was stopped.
pub stopped : (known : Option (List ℕ)) (command : Command) (old new : Option (List ℕ)) (r0 r1 w0 w1 : ℕ) (exit : Exit) → IsStopped exit → IfSome known (AppendsPart old new command) → HasCause (exit ≡ ReadFault) r0 r1 → HasCause (exit ≡ WriteFault) w0 w1
    → HasRun known command old new r0 r1 w0 w1 exit
stopped known command old new r0 r1 w0 w1 exit is part read write =
    record { appended = part_of known command old new exit is part; exits = inr is; read_fault = read; write_fault = write; faultless = λ decided. absurd (undecided exit is decided) }

-- The file decided.
pub decided : (known : Option (List ℕ)) (command : Command) (old new : Option (List ℕ)) (r0 r1 w0 w1 : ℕ) (exit : Exit) → IsDecided exit → IfSome known (HasAppended exit old new command) → r1 ≡ r0 → w1 ≡ w0 → HasRun known command old new r0 r1 w0 w1 exit
decided known command old new r0 r1 w0 w1 exit is text reads writes =
    record {
      appended = text;
      exits = inl is;
      read_fault = λ e. absurd (subst IsDecided e is);
      write_fault = λ e. absurd (subst IsDecided e is);
      faultless = λ _. (reads, writes);
    }

pub refusal_text : (known : Option (List ℕ)) (command : Command) (old new : Option (List ℕ)) (offset : ℕ) (large : Bool) → IfSome known (λ file. AppendsText old new command file (Some (record { offset = offset; large = large })))
    → IfSome known (HasAppended (refusal_of offset large) old new command)
refusal_text None command old new offset large text = tt
refusal_text (Some file) command old new offset true text = (offset, text)
refusal_text (Some file) command old new offset false text = text

pub refusal_decided : (offset : ℕ) (large : Bool) → IsDecided (refusal_of offset large)
refusal_decided offset true = refl
refusal_decided offset false = refl

-- ---- from answer to answer

pub answer_at : (known : Option (List ℕ)) (decoded : List Decoded) (answer other : Step) (reader : FileReader) → answer ≡ other → IsAnswer known decoded answer reader → IsAnswer known decoded other reader
answer_at known decoded answer other reader same is = let A : Step → Type 0 = λ a. IsAnswer known decoded a reader in subst A same is

-- the next picture, as the report wants it
pub record Picked (known : Option (List ℕ)) (decoded : List Decoded) (shown : DecodedPicture) (reader : FileReader) : Type 0 where
  pub one : Decoded
  pub next : IsNextOf decoded one
  pub shows : Shows shown one
  pub stream : Stream
  pub more : stream.decoded ≡ one ∷ decoded
  pub reads : Reads reader known stream
  pub first : IfSome known (λ file. AreFirstPictures file (one ∷ decoded))

pub picked : (known : Option (List ℕ)) (decoded : List Decoded) (shown : DecodedPicture) (reader : FileReader) → IsAnswer known decoded (step.Picture shown) reader → shown.depth ≤ 16 → Picked known decoded shown reader
picked known decoded shown reader answer small =
    let a = answer.answers in
    let one : Decoded = a.0 in
    let n : IsNextOne answer.stream one = a.1 in
    let D : ℕ → Type 0 = λ k. k ≤ 16 in
    let N : List Decoded → Type 0 = λ list. IsNextOf list one in
    let F : List Decoded → Type 0 = λ list. IfSome known (λ file. AreFirstPictures file (one ∷ list)) in
    record {
      one = one;
      next = subst N answer.same (record { au = n.au; picture = n.decoded.picture; small = subst D a.2.depth small });
      shows = a.2;
      stream = showing answer.stream one;
      more = ap (λ (list : List Decoded). one ∷ list) answer.same;
      reads = a.3;
      first = subst F answer.same (first_more known answer.stream one a.3.short answer.bytes n);
    }

pub goes_on : (known other : Option (List ℕ)) (given : ℕ) (decoded : List Decoded) (shown : DecodedPicture) (reader : FileReader) (report : Report) (start now : Option (List ℕ)) (p : Picked known decoded shown reader) → known ≡ other
    → HasWritten report (p.one ∷ decoded) start now → length decoded ≡ given → IsUnderway other (given + 1) reader report start now
goes_on known other given decoded shown reader report start now p same written count =
    let U : Option (List ℕ) → Type 0 = λ k. IsUnderway k (given + 1) reader report start now in
    let W : List Decoded → Type 0 = λ list. HasWritten report list start now in
    let F : List Decoded → Type 0 = λ list. IfSome known (λ file. AreFirstPictures file list) in
    let more = ap length p.more in
    subst U same (record { stream = p.stream; reads = p.reads; written = subst W (sym p.more) written; first = subst F (sym p.more) p.first; count = omega (arith, more, count) })

pub reads_move : (reader : FileReader) (known other : Option (List ℕ)) (stream : Stream) → known ≡ other → Reads reader known stream → Reads reader other stream
reads_move reader known other stream same reads = let R : Option (List ℕ) → Type 0 = λ k. Reads reader k stream in subst R same reads

pub picked_at : (known : Option (List ℕ)) (decoded : List Decoded) (answer : Step) (shown : DecodedPicture) (reader : FileReader) → answer ≡ step.Picture shown → IsAnswer known decoded answer reader → HasSmallDepth answer → Picked known decoded shown reader
picked_at known decoded answer shown reader same is small =
    let D : Step → Type 0 = λ a. HasSmallDepth a in
    picked known decoded shown reader (answer_at known decoded answer (step.Picture shown) reader same is) (subst D same small)

-- never hungry
pub not_hungry : (known : Option (List ℕ)) (decoded : List Decoded) (answer : Step) (reader : FileReader) → answer ≡ step.Hungry → IsAnswer known decoded answer reader → ⊥
not_hungry known decoded answer reader same is = (answer_at known decoded answer step.Hungry reader same is).answers

pub few_written : (report : Report) (decoded : List Decoded) (start now : Option (List ℕ)) → HasWritten report decoded start now → length decoded ≤ 7000000
few_written (Lines writer) decoded start now written = written.0.few
few_written (Planes writer) decoded start now written = written.1.stands.few

-- A byte stands at the greatest place, or the file isn't longer.
pub long_of : (known : Option (List ℕ)) (n : ℕ) (old new : List ℕ) → 0 < length old → IfSome known (λ file. Fills file 1073741824 n old new)
    → IfSome known (λ file. MatchBool (nat_lt 0 n) (1073741824 < length file) (length file ≤ 1073741824))
long_of None n old new some fills = tt
long_of (Some file) n old new some fills = by_count n fills.within fills.end
  where
    by_count : (k : ℕ) → k ≤ length (drop 1073741824 file) → (k ≡ 0 → 0 < length old → length file ≤ 1073741824) → MatchBool (nat_lt 0 k) (1073741824 < length file) (length file ≤ 1073741824)
    by_count zero within end = end refl some
    by_count (suc k) within end = (
        let room : length (drop 1073741824 file) ≡ length file - 1073741824 = length-drop 1073741824 file in
        let more : 1073741824 < length file = omega arith in
        let test : nat_lt 0 (suc k) ≡ true = grind (arith, nat_tests) in
        rw test more)

pub written_ahead : (report : Report) (decoded : List Decoded) (start now : Option (List ℕ)) → HasWritten report decoded start now → AppendsAhead start now (command_of report) decoded
written_ahead (Lines writer) decoded start now written = lines_ahead start now decoded (whole_front start now (picture_lines decoded) written.1)
written_ahead (Planes writer) decoded start now written = calm_ahead writer decoded written.0 start now written.1 written.2

pub stopped_reading : (exit : Exit) → (exit ≡ ReadFault) ⊎ (exit ≡ OutOfMemory) → IsStopped exit
stopped_reading exit (inl e) = inl e
stopped_reading exit (inr e) = inr (inr e)

pub stopped_writing : (exit : Exit) → (exit ≡ WriteFault) ⊎ (exit ≡ OutOfMemory) → IsStopped exit
stopped_writing exit (inl e) = inr (inl e)
stopped_writing exit (inr e) = inr (inr e)

pub no_write : (exit : Exit) (P : Type 0) → (exit ≡ ReadFault) ⊎ (exit ≡ OutOfMemory) → exit ≡ WriteFault → P
no_write exit P (inl e) same = absurd cc
no_write exit P (inr e) same = absurd cc

pub no_read : (exit : Exit) (P : Type 0) → (exit ≡ WriteFault) ⊎ (exit ≡ OutOfMemory) → exit ≡ ReadFault → P
no_read exit P (inl e) same = absurd cc
no_read exit P (inr e) same = absurd cc

-- ---- the last answer

-- All pictures of the file were given.
pub end_pictures : (known other : Option (List ℕ)) (decoded : List Decoded) (answer : Step) (before reader : FileReader) (stream : Stream) → known ≡ other → Reads before known stream → answer ≡ step.End
    → IsAnswer known decoded answer reader → IfSome other (λ file. HasPictures file decoded None)
end_pictures known other decoded answer before reader stream same reads is given =
    let a = answer_at known decoded answer step.End reader is given in
    let P : List Decoded → Type 0 = λ list. IfSome known (λ file. HasPictures file list None) in
    let K : Option (List ℕ) → Type 0 = λ k. IfSome k (λ file. HasPictures file decoded None) in
    subst K same (subst P a.same (all_given known a.stream reads.short a.bytes a.answers.0 a.answers.1))

-- The access unit behind them isn't accepted.
pub refused_pictures : (known other : Option (List ℕ)) (decoded : List Decoded) (answer : Step) (offset : ℕ) (large : Bool) (before reader : FileReader) (stream : Stream) → known ≡ other → Reads before known stream
    → answer ≡ step.Refused offset large → IsAnswer known decoded answer reader → IfSome other (λ file. HasPictures file decoded (Some (record { offset = offset; large = large })))
refused_pictures known other decoded answer offset large before reader stream same reads is given =
    let a = answer_at known decoded answer (step.Refused offset large) reader is given in
    let fault : Fault = record { offset = offset; large = large } in
    let P : List Decoded → Type 0 = λ list. IfSome known (λ file. HasPictures file list (Some fault)) in
    let K : Option (List ℕ) → Type 0 = λ k. IfSome k (λ file. HasPictures file decoded (Some fault)) in
    subst K same (subst P a.same (refused known a.stream fault reads.short a.bytes a.answers))

-- Its end couldn't be written.
pub end_stopped : (known : Option (List ℕ)) (decoded : List Decoded) (fault : Option Fault) (command other : Command) (old new : Option (List ℕ)) (r0 r1 w0 w w1 : ℕ) (exit : Exit) → other ≡ command → r1 ≡ r0 → w ≡ w0
    → IfSome known (λ file. HasPictures file decoded fault) → AppendsFront old new (text_of other decoded (place_of fault)) → (exit ≡ WriteFault) ⊎ (exit ≡ OutOfMemory) → HasCause (exit ≡ WriteFault) w w1
    → HasRun known command old new r0 r1 w0 w1 exit
end_stopped known decoded fault command other old new r0 r1 w0 w w1 exit same reads writes has front is cause =
    let T : Command → Type 0 = λ one. AppendsFront old new (text_of one decoded (place_of fault)) in
    let C : ℕ → Type 0 = λ k. HasCause (exit ≡ WriteFault) k w1 in
    stopped known command old new r0 r1 w0 w1 exit (stopped_writing exit is) (end_part known decoded fault command old new has (subst T same front)) (no_read exit _ is) (subst C writes cause)

-- The file ends, and so does what is written.
pub end_of_file : (known : Option (List ℕ)) (decoded : List Decoded) (command other : Command) (old new : Option (List ℕ)) (r0 r1 w0 w w1 : ℕ) (result : Result (Unit {0}) Exit) → other ≡ command → r1 ≡ r0 → w ≡ w0
    → IfSome known (λ file. HasPictures file decoded None) → OnOk result (Appends old new (text_of other decoded None)) → AppendsFront old new (text_of other decoded None) → HasCause (IsErrOf result WriteFault) w w1
    → OnOk result (w1 ≡ w) → IfErr result (λ exit. (exit ≡ WriteFault) ⊎ (exit ≡ OutOfMemory)) → HasRun known command old new r0 r1 w0 w1 (exit_in result)
end_of_file known decoded command other old new r0 r1 w0 w w1 (Ok value) same reads writes has text front cause none is =
    let T : Command → Type 0 = λ one. Appends old new (text_of one decoded None) in
    decided known command old new r0 r1 w0 w1 Done tt (text_appended known decoded None command old new has (subst T same text)) reads (none ∙ writes)
end_of_file known decoded command other old new r0 r1 w0 w w1 (Err exit) same reads writes has text front cause none is =
    end_stopped known decoded None command other old new r0 r1 w0 w w1 exit same reads writes has front is (λ e. cause (ap Err e))

-- An access unit isn't accepted, and that is written.
pub end_refused : (known : Option (List ℕ)) (decoded : List Decoded) (offset : ℕ) (large : Bool) (command other : Command) (old new : Option (List ℕ)) (r0 r1 w0 w w1 : ℕ) (exit : Exit) → exit ≡ refusal_of offset large → other ≡ command
    → r1 ≡ r0 → w ≡ w0 → IfSome known (λ file. HasPictures file decoded (Some (record { offset = offset; large = large }))) → Appends old new (text_of other decoded (Some offset)) → w1 ≡ w
    → HasRun known command old new r0 r1 w0 w1 exit
end_refused known decoded offset large command other old new r0 r1 w0 w w1 exit is same reads writes has text none =
    let T : Command → Type 0 = λ one. Appends old new (text_of one decoded (Some offset)) in
    let R : Exit → Type 0 = λ e. HasRun known command old new r0 r1 w0 w1 e in
    let fault : Fault = record { offset = offset; large = large } in
    subst R (sym is) (decided known command old new r0 r1 w0 w1 (refusal_of offset large) (refusal_decided offset large)
    (refusal_text known command old new offset large (text_appended known decoded (Some fault) command old new has (subst T same text))) reads (none ∙ writes))

-- ---- a file that is too long, or isn't

pub long_case : (known : Option (List ℕ)) (long : Bool) (P Q : List ℕ → Type 0) → long ≡ true → IfSome known (λ file. MatchBool long (P file) (Q file)) → IfSome known P
long_case None long P Q is h = tt
long_case (Some file) long P Q is h = let M : Bool → Type 0 = λ b. MatchBool b (P file) (Q file) in subst M is h

pub short_case : (known : Option (List ℕ)) (long : Bool) (P Q : List ℕ → Type 0) → long ≡ false → IfSome known (λ file. MatchBool long (P file) (Q file)) → IfSome known Q
short_case None long P Q is h = tt
short_case (Some file) long P Q is h = let M : Bool → Type 0 = λ b. MatchBool b (P file) (Q file) in subst M is h

-- Nothing was written before a fault of reading, or want of memory.
pub stopped_before : (known : Option (List ℕ)) (command : Command) (start : Option (List ℕ)) (r0 r1 w : ℕ) (exit : Exit) → (exit ≡ ReadFault) ⊎ (exit ≡ OutOfMemory) → HasCause (exit ≡ ReadFault) r0 r1
    → HasRun known command start start r0 r1 w w exit
stopped_before known command start r0 r1 w exit is cause =
    stopped known command start start r0 r1 w w exit (stopped_reading exit is) (first_part known [] command start start (none_first known) (nothing_ahead start command [])) cause (no_write exit _ is)

pub short_at : (known other : Option (List ℕ)) → known ≡ other → IfSome known (λ file. length file ≤ 1073741824) → IfSome other (λ file. length file ≤ 1073741824)
short_at known other same short = let S : Option (List ℕ) → Type 0 = λ k. IfSome k (λ file. length file ≤ 1073741824) in subst S same short

-- No fault was counted before the run.
pub run_at : (known other : Option (List ℕ)) (command : Command) (old new : Option (List ℕ)) (r r0 r1 w0 w1 : ℕ) (exit : Exit) → other ≡ known → r ≡ r0 → HasRun other command old new r r1 w0 w1 exit → HasRun known command old new r0 r1 w0 w1 exit
run_at known other command old new r r0 r1 w0 w1 exit same reads run =
    let K : Option (List ℕ) → Type 0 = λ k. HasRun k command old new r r1 w0 w1 exit in
    let R : ℕ → Type 0 = λ k. HasRun known command old new k r1 w0 w1 exit in
    subst R reads (subst K same run)
