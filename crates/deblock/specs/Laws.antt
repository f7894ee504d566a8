-- What the deblocking filter leaves as it was (H.264, 8.7).
use Rattle.std.specs.Prelude.{◌≡◌, ℕ, ◌+◌, ◌*◌, ◌/◌, ◌%◌, ◌<◌, ◌≤◌, ℤ, Bool, true, false, List, length}
use Rattle.std.specs.List.{All}
use Rattle.cb_types.specs.SizeMbs.{macroblocks}
use Rattle.cb_types.specs.declared.mark.MbMark.{MbMark}
use Rattle.cb_types.specs.declared.size.SizeMbs.{SizeMbs}
use Rattle.vd_plane.specs.SampleArray.{IsInside, SampleArray, sample}
use Rattle.deblock.specs.Deblocked.{deblocked_chroma, deblocked_luma}
use Rattle.deblock.specs.Edges.{strength_at}

-- Where disable_deblocking_filter_idc is 1 for each macroblock, planes stay as they are.
abbrev pub UnfilteredPlanesStay : Type 0
UnfilteredPlanesStay =
    (size : SizeMbs) (marks : List MbMark) (offset : ℤ) (a : SampleArray)
    → length marks ≡ macroblocks size
    → All (λ mark. mark.idc ≡ 1) marks
    → (deblocked_luma size marks a ≡ a) × (deblocked_chroma offset size marks a ≡ a)

-- place z of a line of places is one of the `reach` places before an edge or of the `reach` places behind it
pub record IsNear (reach edge z : ℕ) : Type 0 where
  pub from : edge ≤ z + reach
  pub below : z < edge + reach

-- The sample in column x and row y is one of the `reach` samples on either side of an edge, on number k of its lines, in a plane whose
-- macroblocks are `side` samples wide and high and whose picture is so many macroblocks wide.
abbrev pub IsBeside : ℕ → ℕ → ℕ → ℕ → Bool → ℕ → ℕ → ℕ → ℕ → Type 0
IsBeside side width reach mb true edge k x y = (y ≡ side * (mb / width) + k) × IsNear reach (side * (mb % width) + 4 * edge) x
IsBeside side width reach mb false edge k x y = (x ≡ side * (mb % width) + k) × IsNear reach (side * (mb / width) + 4 * edge) y

-- A luma sample that is farther than three from every place of an edge with a strength above 0 stays as it is.
abbrev pub FarLumaStays : Type 0
FarLumaStays =
    (size : SizeMbs) (marks : List MbMark) (a : SampleArray) (x y : ℕ)
    → 1 ≤ size.width
    → a.width ≡ 16 * size.width
    → IsInside a x y
    → ((mb : ℕ) (v : Bool) (edge k : ℕ) → mb < macroblocks size → edge < 4 → k < 16 → 0 < strength_at size.width marks mb v edge (k / 4) → IsBeside 16 size.width 3 mb v edge k x y → ⊥)
    → sample (deblocked_luma size marks a) x y ≡ sample a x y

-- A chroma sample that is farther than one from every place of an edge with a strength above 0 stays as it is.
abbrev pub FarChromaStays : Type 0
FarChromaStays =
    (size : SizeMbs) (marks : List MbMark) (offset : ℤ) (a : SampleArray) (x y : ℕ)
    → 1 ≤ size.width
    → a.width ≡ 8 * size.width
    → IsInside a x y
    → ((mb : ℕ) (v : Bool) (edge k : ℕ) → mb < macroblocks size → edge < 2 → k < 8 → 0 < strength_at size.width marks mb v (2 * edge) (k / 2) → IsBeside 8 size.width 1 mb v edge k x y → ⊥)
    → sample (deblocked_chroma offset size marks a) x y ≡ sample a x y
