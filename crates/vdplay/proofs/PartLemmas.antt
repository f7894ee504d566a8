-- What was appended, of all of a file or of a part of it.
use Rattle.std.proofs.Common.{◌≡◌, ℕ, ◌⊎◌, inl, inr, true, List, [], ◌∷◌, ◌++◌, take, Option, Some, None, refl, sym, ap, subst, ◌∙◌, append-nil}
use Rattle.std.specs.Prelude.{IfSome}
use Rattle.std.specs.Io.KnownBytes.{Appends}
use Rattle.access_units.specs.AccessUnits.{AccessUnit}
use Rattle.access_units.specs.Acceptors.{IsSettled}
use Rattle.access_units.specs.Pictures.{ArePictures}
use Rattle.accepted_pictures.specs.Files.{AreDecoded, Decoded, Fault, HasPictures, IsTooLong, pictures_in}
use Rattle.accepted_pictures.proofs.OneReading.{are_decoded, first_pictures}
use Rattle.file_readings.proofs.ReadingsExist.{readings_exist}
use Rattle.vdplay.specs.Output.{end_text, pictures_text, text_of}
use Rattle.vdplay.specs.Reports.{AppendsAhead, MayFollow}
use Rattle.vdplay.specs.Run.{AppendsFront, AppendsPart, AppendsText, Begin, place_of}
use Rattle.vdplay.specs.declared.command_line.Command.{Command}
use Rattle.vdplay.proofs.AheadLemmas.{all_follow, begin_longer, front_begins}

-- Each of the first access units of the file is an accepted picture, and these are they, perhaps none.
abbrev pub AreFirstPictures : List ℕ → List Decoded → Type 0
AreFirstPictures file decoded =
    (decoded ≡ [])
    ⊎ ((IsTooLong file → ⊥) × ((front : List AccessUnit) × ((au : AccessUnit) × IsSettled file true front au × AreDecoded (au ∷ front) decoded)))

pub text_appended : (known : Option (List ℕ)) (decoded : List Decoded) (fault : Option Fault) (command : Command) (old new : Option (List ℕ)) → IfSome known (λ file. HasPictures file decoded fault)
    → Appends old new (text_of command decoded (place_of fault)) → IfSome known (λ file. AppendsText old new command file fault)
text_appended None decoded fault command old new has text = tt
text_appended (Some file) decoded fault command old new has text = record { decoded = decoded; pictures = has; text = text }

pub end_part : (known : Option (List ℕ)) (decoded : List Decoded) (fault : Option Fault) (command : Command) (old new : Option (List ℕ)) → IfSome known (λ file. HasPictures file decoded fault)
    → AppendsFront old new (text_of command decoded (place_of fault)) → IfSome known (AppendsPart old new command)
end_part None decoded fault command old new has text = tt
end_part (Some file) decoded fault command old new has part =
    let text = text_of command decoded (place_of fault) in
    record { bytes = take part.0 text; appended = part.1; decoded = decoded; fault = fault; pictures = has; front = front_begins part.0 text }

-- The first accepted pictures of a file are the first of all, whatever these are.
first_of_all : (file : List ℕ) (decoded all : List Decoded) (fault : Option Fault) → AreFirstPictures file decoded → HasPictures file all fault → (more : List Decoded) × (all ≡ more ++ decoded) × MayFollow more decoded
first_of_all file decoded all fault first has =
    let are = are_decoded file all fault has in
    let P : List Decoded → Type 0 = λ l. ArePictures are.0 (pictures_in l) in
    let part : (more : List Decoded) × (all ≡ more ++ decoded) =
    elim first [
      | inl none ↦ (all, sym (append-nil all) ∙ ap (λ (l : List Decoded). all ++ l) (sym none))
      | inr some ↦ first_pictures file some.1.0 some.1.1.0 decoded all fault some.1.1.1 some.1.1.2 (has.1 some.0)
    ] in
    (part.0, part.1, all_follow part.0 decoded are.0 (subst P part.1 are.1.pictures))

pub first_part : (known : Option (List ℕ)) (decoded : List Decoded) (command : Command) (old new : Option (List ℕ)) → IfSome known (λ file. AreFirstPictures file decoded)
    → AppendsAhead old new command decoded → IfSome known (AppendsPart old new command)
first_part None decoded command old new first ahead = tt
first_part (Some file) decoded command old new first ahead =
    let reading = readings_exist file in
    let all = reading.0 in
    let fault = reading.1 in
    let part = first_of_all file decoded all fault first reading.2 in
    let B : List Decoded → Type 0 = λ l. Begin ahead.bytes (pictures_text command l) in
    record {
      bytes = ahead.bytes;
      appended = ahead.appended;
      decoded = all;
      fault = fault;
      pictures = reading.2;
      front = begin_longer ahead.bytes (pictures_text command all) (end_text command (place_of fault)) (subst B (sym part.1) (ahead.ahead part.0 part.2));
    }

pub none_first : (known : Option (List ℕ)) → IfSome known (λ file. AreFirstPictures file [])
none_first None = tt
none_first (Some file) = inl refl
