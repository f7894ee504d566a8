-- What a command reads and writes.
use Rattle.std.specs.Prelude.{◌≡◌, ℕ, ◌⊎◌, List, ◌++◌, take, Bool, true, false, if◌then◌else◌, Option, Some, None, Result, Ok, Err, IfSome}
use Rattle.std.specs.Option.{option_map}
use Rattle.std.specs.Io.KnownBytes.{Appends}
use Rattle.accepted_pictures.specs.Files.{Decoded, Fault, HasPictures}
use Rattle.vd_outside.specs.Count.{HasCause}
use Rattle.vd_outside.specs.Shelf.{Files, told}
use Rattle.vdplay.specs.CommandLine.{IsLine}
use Rattle.vdplay.specs.Output.{text_of}
use Rattle.vdplay.specs.declared.command_line.Command.{Command}
use Rattle.vdplay.specs.declared.exit.Exit.{Exit}
use Rattle.vdplay.specs.declared.exit.Exit.TheVariants.{Done, Usage, ReadFault, BadStream, WriteFault, OutOfMemory, TooLarge}

-- The words ask for a command on a file, and the shelf tells that it has these bytes.
pub record IsTask (words : List (List ℕ)) (content : Option Files) (command : Command) (file : List ℕ) : Type 0 where
  pub name : List ℕ
  pub line : IsLine words command name
  pub bytes : told content name ≡ Some file

-- the place of the access unit that isn't accepted
abbrev pub place_of : Option Fault → Option ℕ
place_of fault = option_map (λ (one : Fault). one.offset) fault

-- The file has this fault, and what the command writes of it was appended, and nothing else.
pub record AppendsText (old new : Option (List ℕ)) (command : Command) (file : List ℕ) (fault : Option Fault) : Type 0 where
  pub decoded : List Decoded
  pub pictures : HasPictures file decoded fault
  pub text : Appends old new (text_of command decoded (place_of fault))

-- a front of these bytes was appended, perhaps all of them or none, and nothing else
abbrev pub AppendsFront : Option (List ℕ) → Option (List ℕ) → List ℕ → Type 0
AppendsFront old new bytes = (n : ℕ) × Appends old new (take n bytes)

-- The text begins with these bytes.
abbrev pub Begin : List ℕ → List ℕ → Type 0
Begin bytes text = (rest : List ℕ) × (text ≡ bytes ++ rest)

-- Some bytes were appended, perhaps none, and nothing else. What the command writes of the whole file begins with them: of all its
-- accepted pictures, also those that weren't read, and of what follows them.
pub record AppendsPart (old new : Option (List ℕ)) (command : Command) (file : List ℕ) : Type 0 where
  pub bytes : List ℕ
  pub appended : Appends old new bytes
  pub decoded : List Decoded
  pub fault : Option Fault
  pub pictures : HasPictures file decoded fault
  pub front : Begin bytes (text_of command decoded (place_of fault))

-- What was appended, by how the run ended. A run that stopped early appended a part.
abbrev pub HasAppended : Exit → Option (List ℕ) → Option (List ℕ) → Command → List ℕ → Type 0
HasAppended Done old new command file = AppendsText old new command file None
HasAppended (BadStream stream offset) old new command file = AppendsText old new command file (Some (record { offset = offset; large = false }))
HasAppended (TooLarge stream) old new command file = (offset : ℕ) × AppendsText old new command file (Some (record { offset = offset; large = true }))
HasAppended Usage old new command file = ⊥
HasAppended exit old new command file = AppendsPart old new command file

-- The run wasn't ended by a fault or for want of memory.
abbrev pub IsDecided : Exit → Type 0
IsDecided Done = Unit {0}
IsDecided (BadStream stream offset) = stream ≡ 0
IsDecided (TooLarge stream) = stream ≡ 0
IsDecided exit = ⊥

abbrev pub exit_in : Result (Unit {0}) Exit → Exit
exit_in (Ok value) = Done
exit_in (Err exit) = exit

-- It was.
abbrev pub IsStopped : Exit → Type 0
IsStopped exit = (exit ≡ ReadFault) ⊎ (exit ≡ WriteFault) ⊎ (exit ≡ OutOfMemory)

-- how an access unit that isn't accepted ends the run
abbrev pub refusal_of : ℕ → Bool → Exit
refusal_of offset large = if large then TooLarge 0 else BadStream 0 offset

-- What a run of a command on a file has done: from old to new of what was written, and of the counts of faults of reading and writing.
pub record HasRun (known : Option (List ℕ)) (command : Command) (old new : Option (List ℕ)) (reads reads' writes writes' : ℕ) (exit : Exit) : Type 0 where
  pub appended : IfSome known (HasAppended exit old new command)
  pub exits : IsDecided exit ⊎ IsStopped exit
  pub read_fault : HasCause (exit ≡ ReadFault) reads reads'
  pub write_fault : HasCause (exit ≡ WriteFault) writes writes'
  pub faultless : IsDecided exit → (reads' ≡ reads) × (writes' ≡ writes)
