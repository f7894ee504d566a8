-- What a schedule of overlays says: which bitmap lies where, over which stream, and when.
use Rattle.std.specs.Prelude.{◌≢◌, ℕ, ◌<◌, ◌≤◌, ◌^◌, List, [], length, slice_index}
use Rattle.std.specs.List.{slice_index_or}
use Rattle.std.specs.Str.{IsUtf8}
use Rattle.overlay_files.specs.declared.showing.Showing.{Showing}

-- a line of a schedule: when and where its bitmap is shown, and the name of the bitmap's file
pub record Cue : Type 0 where
  pub showing : Showing
  pub name : List ℕ

abbrev pub cue : Showing → List ℕ → Cue
cue showing name = record { showing = showing; name = name }

-- the greatest place of a bitmap's first pixel, in either direction
abbrev pub last_place : ℕ
last_place = 4095

-- how many streams there are
abbrev pub streams : ℕ
streams = 16

-- how many lines a schedule may have
abbrev pub most_cues : ℕ
most_cues = 256

-- a time of 0 to 2^63 - 1, a later one, a stream and a place
pub record IsShowing (s : Showing) : Type 0 where
  pub times : s.from < s.to
  pub last : s.to < 2 ^ 63
  pub stream : s.stream < streams
  pub x : s.x ≤ last_place
  pub y : s.y ≤ last_place

-- the byte stands nowhere in the text
abbrev pub IsWithout : ℕ → List ℕ → Type 0
IsWithout byte text = (k : ℕ) → k < length text → slice_index text k ≢ byte

-- the name of a file: UTF-8 with no space and no line feed, that isn't empty and doesn't begin with a hyphen
pub record IsName (name : List ℕ) : Type 0 where
  pub utf8 : IsUtf8 name
  pub some : name ≢ []
  pub spaces : IsWithout 32 name
  pub feeds : IsWithout 10 name
  pub hyphen : slice_index name 0 ≢ 45

pub record IsCue (c : Cue) : Type 0 where
  pub showing : IsShowing c.showing
  pub name : IsName c.name

-- a line by its number, counted from 0
abbrev pub cue_at : List Cue → ℕ → Cue
cue_at cues i = slice_index_or cues i (cue (record { from = 0; to = 0; stream = 0; x = 0; y = 0 }) [])
