-- Pictures with the same samples are one.
use Rattle.std.proofs.Common.{◌≡◌}
use Rattle.std.specs.Coded.{le_prop}
use native.Mathlib.Nat.{ℕ_set}
use mathlib.Core.HLevel.{is_prop→PathP}
use Rattle.vd_plane.specs.ChromaFormat.{Is420}
use Rattle.vd_plane.specs.SampleArray.{SampleArray}
use Rattle.vd_plane.specs.Picture.{SameSamples}
use Rattle.vd_plane.specs.declared.picture.Picture.{Picture}

Is420-prop : (y cb cr : SampleArray) → IsProp (Is420 y cb cr)
Is420-prop y cb cr = hlevel (le_prop, ℕ_set)

pub picture_one : (p q : Picture) → SameSamples p q → p ≡ q
picture_one p q same = λ i. record {
  y = same.y i;
  cb = same.cb i;
  cr = same.cr i;
  format = is_prop→PathP (λ j. Is420 (same.y j) (same.cb j) (same.cr j)) (λ j. Is420-prop (same.y j) (same.cb j) (same.cr j)) p.format q.format i;
}
