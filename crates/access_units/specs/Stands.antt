-- Which pictures stand behind.
use Rattle.std.specs.Prelude.{◌≡◌, ◌≤◌, false, IsFalse, List, [], ◌∷◌, length, map, reverse, Option, Some, None}
use Rattle.cb_types.specs.Slices.{is_idr}
use Rattle.marking.specs.History as marks
use Rattle.output_order.specs.OutputOrder as order
use Rattle.output_order.specs.Waiting as waiting
use Rattle.param_sets.specs.declared.sps.Sps.{Sps}
use Rattle.access_units.specs.Depth.{depth_of}
use Rattle.access_units.specs.Pictures.{Picture, marked_of, ordered, periods}
use Rattle.access_units.specs.declared.content.Named.{Named}
use Rattle.access_units.specs.declared.pictures.Pictures.{Pictures}

abbrev pub last_set : List Picture → Option Sps
last_set [] = None
last_set (last ∷ before) = Some last.sps

-- The picture is IDR, or of the last sequence set.
abbrev pub HasItsSet : Option Sps → Named → Type 0
HasItsSet last named = IsFalse (is_idr named.header) → last ≡ Some named.sps

-- The depth is that of the last picture.
abbrev pub HasDepth : order.History → List Picture → Type 0
HasDepth h [] = Unit {0}
HasDepth h (last ∷ before) = h.depth ≡ depth_of last.sps

-- what has happened in the output order: none of the pictures that wait has its turn
pub record IsOrdered (h : order.History) (before : List Picture) : Type 0 where
  pub pushed : h.pushed ≡ ordered before
  pub period : h.period ≡ periods before
  pub nothing_settled : order.has_settled h ≡ false
  pub not_ended : h.ended ≡ false
  pub depth : HasDepth h before

-- Pictures came out, and nothing else happened.
pub record IsLater (h after : order.History) : Type 0 where
  pub pushed : after.pushed ≡ h.pushed
  pub period : after.period ≡ h.period
  pub depth : after.depth ≡ h.depth
  pub ended : after.ended ≡ h.ended

-- a picture's own number behind these
pub record HasOwnNumber (before : List Picture) (picture : Picture) : Type 0 where
  pub own : marks.own_number (reverse (map marked_of before)) (marked_of picture) ≡ Some picture.begun.frame
  pub few : picture.begun.frame ≤ 16

-- that of each behind those before it
unfoldable pub HaveOwnNumbers : List Picture → Type 0
HaveOwnNumbers [] = Unit {0}
HaveOwnNumbers (picture ∷ before) = HasOwnNumber before picture × HaveOwnNumbers before

-- These pictures came, the newest first.
pub record StandsBehind (pictures : Pictures) (before : List Picture) : Type 0 where
  pub marker : marks.StandsFor pictures.marker (reverse (map marked_of before))
  pub history : order.History
  pub waiting : waiting.StandsFor pictures.waiting history
  pub ordered : IsOrdered history before
  pub numbers : HaveOwnNumbers before
  pub last : pictures.last ≡ last_set before
  pub count : pictures.count ≡ length before
  pub few : length before ≤ 7000000
