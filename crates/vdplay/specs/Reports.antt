-- What the writers of a report stand for. The rest says how their private fields lie.
use Rattle.std.specs.Prelude.{◌≡◌, ℕ, ◌<◌, ◌≤◌, ◌==◌, Bool, false, List, [], ◌∷◌, ◌++◌, All, length, flat_map, Option, Some}
use Rattle.std.specs.Arc.{arc_value}
use Rattle.std.specs.List.{count_by}
use Rattle.std.specs.Io.KnownBytes.{Appends}
use Rattle.access_units.specs.AccessUnits.{AccessUnit}
use Rattle.access_units.specs.Depth.{depth_of}
use Rattle.access_units.specs.Pictures.{IsPicture, ordered, ordered_behind, periods}
use Rattle.access_units.specs.Stands.{HasDepth}
use Rattle.accepted_pictures.specs.Files.{Decoded, pictures_in}
use Rattle.output_order.specs.OutputOrder as order
use Rattle.output_order.specs.Waiting as waiting
use Rattle.vdplay.specs.Output.{picture_lines, pictures_text, planes_at, planes_of}
use Rattle.vdplay.specs.Run.{Begin}
use Rattle.vd_plane.specs.declared.picture.Picture as samples
use Rattle.vdplay.specs.declared.command_line.Command.{Command}
use Rattle.vdplay.specs.declared.command_line.Command.TheVariants.{Decode, Inspect}
use Rattle.vdplay.specs.declared.line_writer.LineWriter.{LineWriter}
use Rattle.vdplay.specs.declared.plane_writer.Held.{Held}
use Rattle.vdplay.specs.declared.plane_writer.PlaneWriter.{PlaneWriter}
use Rattle.vdplay.specs.declared.report.Report.{Report}
use Rattle.vdplay.specs.declared.report.Report.TheVariants.{Lines, Planes}

-- The picture is the next one behind these, and no more pictures may wait behind it than a waiting list takes.
pub record IsNextOf (decoded : List Decoded) (one : Decoded) : Type 0 where
  pub au : AccessUnit
  pub picture : IsPicture (pictures_in decoded) au one.picture
  pub small : depth_of one.picture.sps ≤ 16

-- ---- lines

-- These pictures came, and so many periods began.
pub record CountsPeriods (writer : LineWriter) (decoded : List Decoded) : Type 0 where
  pub periods : writer.periods ≡ periods (pictures_in decoded)
  pub few : length decoded ≤ 7000000
  pub some : 1 ≤ length decoded → 1 ≤ writer.periods

-- ---- planes

abbrev pub has_number : ℕ → Held → Bool
has_number number held = held.number == number

-- how many of the pictures that wait in the output order have a number
abbrev pub count_waiting : order.History → ℕ → ℕ
count_waiting h number = count_by (λ (one : order.Picture). one.number == number) (order.waiting h)

-- A picture that is held has its number's samples.
pub record IsHeld (decoded : List Decoded) (held : Held) : Type 0 where
  pub within : held.number < length decoded
  pub samples : planes_of (arc_value held.samples) ≡ planes_at decoded held.number

-- These pictures came, and this happened in the output order: what waits there is held.
pub record Holds (writer : PlaneWriter) (decoded : List Decoded) (h : order.History) : Type 0 where
  pub waiting : waiting.StandsFor writer.waiting h
  pub pushed : h.pushed ≡ ordered (pictures_in decoded)
  pub out : All (λ (number : ℕ). number < length decoded) h.out
  pub counts : (number : ℕ) → count_by (has_number number) writer.held.items ≡ count_waiting h number
  pub samples : All (IsHeld decoded) writer.held.items

-- The counts are those of these pictures, of which each was pushed.
pub record Stands (writer : PlaneWriter) (decoded : List Decoded) (h : order.History) : Type 0 where
  pub holds : Holds writer decoded h
  pub period : h.period ≡ periods (pictures_in decoded)
  pub depth : HasDepth h (pictures_in decoded)
  pub not_ended : h.ended ≡ false
  pub count : writer.count ≡ length decoded
  pub few : length decoded ≤ 7000000

-- Between pictures none waits whose turn is settled.
pub record IsCalm (writer : PlaneWriter) (decoded : List Decoded) (h : order.History) : Type 0 where
  pub stands : Stands writer decoded h
  pub nothing_settled : order.has_settled h ≡ false

-- It is pushed behind these pictures.
abbrev pub pushed_by : order.History → List Decoded → Decoded → order.History
pushed_by h decoded one = order.pushing h (ordered_behind (pictures_in decoded) one.picture.begun) (depth_of one.picture.sps)

-- The next one in order has come out, with these samples.
pub record IsOut (writer : PlaneWriter) (decoded : List Decoded) (h : order.History) (samples : samples.Picture) : Type 0 where
  pub number : ℕ
  pub holds : Holds writer decoded (order.popping h (Some number))
  pub front : order.IsFront (h.out ++ number ∷ []) h.pushed
  pub planes : planes_of samples ≡ planes_at decoded number

-- These have come out.
abbrev pub with_out : order.History → List ℕ → order.History
with_out h out = record h { out = out }

-- the planes of the pictures that have come out
abbrev pub planes_out : List Decoded → order.History → List ℕ
planes_out decoded h = flat_map (planes_at decoded) h.out

-- ---- both

-- Each of these is an accepted picture behind those before it, what its slices come to apart: they may follow those decoded.
unfoldable pub MayFollow : List Decoded → List Decoded → Type 0
MayFollow [] decoded = Unit {0}
MayFollow (one ∷ more) decoded = MayFollow more decoded × ((au : AccessUnit) × IsPicture (pictures_in (more ++ decoded)) au one.picture)

-- Some bytes were appended, and nothing else, with which the text of these pictures begins, whichever may follow them.
pub record AppendsAhead (old new : Option (List ℕ)) (command : Command) (decoded : List Decoded) : Type 0 where
  pub bytes : List ℕ
  pub appended : Appends old new bytes
  pub ahead : (more : List Decoded) → MayFollow more decoded → Begin bytes (pictures_text command (more ++ decoded))

abbrev pub command_of : Report → Command
command_of (Lines writer) = Inspect
command_of (Planes writer) = Decode

-- These pictures came, and of their text this was written between two states of a sink.
abbrev pub HasWritten : Report → List Decoded → Option (List ℕ) → Option (List ℕ) → Type 0
HasWritten (Lines writer) decoded start now = CountsPeriods writer decoded × Appends start now (picture_lines decoded)
HasWritten (Planes writer) decoded start now = (h : order.History) × IsCalm writer decoded h × Appends start now (planes_out decoded h)
