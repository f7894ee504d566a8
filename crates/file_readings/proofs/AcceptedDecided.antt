-- Whether an access unit is an accepted picture behind others is decided.
use Rattle.std.proofs.Common.{◌≡◌, inl, inr, List, subst}
use Rattle.decoder_render.specs.Coverage.{given}
use Rattle.decoder_render.specs.Outcomes.{IsWhole}
use Rattle.vd_plane.specs.declared.picture.Picture as samples
use Rattle.access_units.specs.AccessUnits.{AccessUnit}
use Rattle.access_units.specs.Pictures.{IsPicture, Picture, payloads_of, size_in}
use Rattle.access_units.proofs.OneAnswer.{picture_one}
use Rattle.accepted_pictures.specs.Files.{Decoded, IsAcceptedPicture, pictures_in, references_of}
use Rattle.accepted_pictures.proofs.OneDecoded.{IsReadUnit, picture_sized}
use Rattle.finite.specs.Decided.{Decided}
use Rattle.file_readings.proofs.PicturesDecided.{picture_decided}
use Rattle.file_readings.proofs.WholeDecided.{whole_decided}

module _ (before : List Decoded) (au : AccessUnit) where
  -- so many samples are those of this picture
  abbrev Shows : Picture → samples.Picture → Type 0
  Shows picture shown = IsWhole (given picture.begun.info (size_in picture) (references_of before picture.begun.info)) (payloads_of picture.slices) shown

  of_picture : (picture : Picture) → IsReadUnit au → IsPicture (pictures_in before) au picture → Decided ((one : Decoded) × IsAcceptedPicture before au one)
  of_picture picture read is =
      let sized = picture_sized (pictures_in before) au picture read is in
      let info = picture.begun.info in
      elim (whole_decided (given info (size_in picture) (references_of before info)) sized.ranges sized.limits (payloads_of picture.slices)) [
        | inl whole ↦ inl (record { picture = picture; samples = whole.0 }, record { picture = is; whole = whole.1 })
        | inr none ↦ inr (λ other.
            let same : other.0.picture ≡ picture = picture_one (pictures_in before) au other.0.picture picture other.1.picture is in
            none (other.0.samples, subst (λ (p : Picture). Shows p other.0.samples) same other.1.whole))
      ]

  pub accepted_decided : IsReadUnit au → Decided ((one : Decoded) × IsAcceptedPicture before au one)
  accepted_decided read = elim (picture_decided (pictures_in before) au) [
    | inr none ↦ inr (λ one. none (one.0.picture, one.1.picture))
    | inl is ↦ of_picture is.0 read is.1
  ]
