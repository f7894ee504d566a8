-- The step of the creation of a video surface.
use Rattle.std.proofs.Common.{◌≡◌, ℕ, ap, subst}
use Rattle.cb_types.specs.declared.size.SizeMbs.{SizeMbs}
use Rattle.vd_plane.specs.Picture.{IsZeros}
use Rattle.vd_plane.specs.declared.picture.Picture.{Picture}
use Rattle.driver_model.specs.Creates.{IsNewVideo}
use Rattle.driver_model.specs.Objects.{VideoObject, VideoSurface}
use Rattle.driver_model.specs.Sizes.{size_of_sides}

-- a surface whose samples are all 0 is a new one
pub is_new_video : (width height : ℕ) (size : SizeMbs) (picture : Picture) → size ≡ size_of_sides width height → IsZeros picture size.width size.height → (let of : VideoSurface = record { size = size; picture = picture } in IsNewVideo width height (VideoObject of))
is_new_video width height size picture is zeros = (
  picture,
  subst (λ (z : SizeMbs). IsZeros picture z.width z.height) is zeros,
  ap (λ (z : SizeMbs). let of : VideoSurface = record { size = z; picture = picture } in VideoObject of) is,
)
