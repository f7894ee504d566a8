-- An entry of the reference list whose picture is given.
use Rattle.std.proofs.Common.{◌≡◌, ℕ, Bool, true, false, cond, not, is_some, List, Option, Some, None, get_or, ap, ◌∙◌}
use Rattle.std.specs.Option.{option_and_then}
use Rattle.cb_types.specs.References.{is_absent}
use Rattle.cb_types.specs.declared.picture_info.PictureInfo.{PictureInfo}
use Rattle.vd_plane.specs.declared.picture.Picture.{Picture}
use Rattle.recon.specs.References.{is_lacking, is_place_lacking, picture_of, place_of, reference_at}

pub held_entry : (info : PictureInfo) (list : List (Option ℕ)) (pictures : List (Option Picture)) (entry place : ℕ) (picture : Picture)
    → place_of list entry ≡ Some place → is_absent (reference_at info place) ≡ false → get_or pictures place None ≡ Some picture
    → (is_lacking info list pictures entry ≡ false) × (picture_of list pictures entry ≡ Some picture)
held_entry info list pictures entry place picture at there held = (
  ap (is_place_lacking info pictures) at
      ∙ (ap (λ (absent : Bool). cond absent true (not (is_some (get_or pictures place None)))) there ∙ ap (λ (p : Option Picture). not (is_some p)) held),
  ap (option_and_then (λ k. get_or pictures k None)) at ∙ held,
)
