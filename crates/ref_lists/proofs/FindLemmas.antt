-- Looking for a reference place by place.
use Rattle.std.proofs.Common.{◌≡◌, ℕ, suc, ◌+◌, ◌<◌, Bool, true, false, None, Some, length, find, get_or, refl, ap, ◌∙◌, arith}
use Rattle.cb_types.specs.References.{is_unused}
use Rattle.cb_types.specs.declared.picture_info.PictureInfo.{PictureInfo}
use Rattle.ref_lists.specs.Places.{nothing, placed}
use Rattle.ref_lists.specs.ReferenceList.{Placed}
use Rattle.ref_lists.proofs.PlaceLemmas.{from_end, from_place, from_unused, from_used}

module _ (info : PictureInfo) (p : Placed → Bool) where
  pub found_here : (k : ℕ) → k < length info.references → is_unused (get_or info.references k nothing) ≡ false → p (placed info k) ≡ true → find p (from_place info k) ≡ Some (placed info k)
  found_here k inside used meant = ap (find p) (from_used info k inside used) ∙ rw meant refl

  pub found_later : (k : ℕ) → k < length info.references → is_unused (get_or info.references k nothing) ≡ false → p (placed info k) ≡ false → find p (from_place info k) ≡ find p (from_place info (k + 1))
  found_later k inside used other =
      let e : suc k ≡ k + 1 = omega arith in
      ap (find p) (from_used info k inside used) ∙ rw other (ap (λ (n : ℕ). find p (from_place info n)) e)

  pub found_behind : (k : ℕ) → k < length info.references → is_unused (get_or info.references k nothing) ≡ true → find p (from_place info k) ≡ find p (from_place info (k + 1))
  found_behind k inside unused =
      let e : suc k ≡ k + 1 = omega arith in
      ap (find p) (from_unused info k inside unused) ∙ ap (λ (n : ℕ). find p (from_place info n)) e

  pub found_nowhere : length info.references ≡ 16 → find p (from_place info 16) ≡ None
  found_nowhere size = ap (find p) (from_end info size)
