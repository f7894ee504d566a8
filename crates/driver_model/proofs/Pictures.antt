-- Pictures of one size whose samples are all 0 are one.
use Rattle.std.proofs.Common.{◌≡◌, ℕ, sym, ◌∙◌}
use Rattle.vd_plane.specs.Picture.{IsZeros}
use Rattle.vd_plane.specs.declared.picture.Picture.{Picture}
use Rattle.vd_plane.proofs.OnePicture.{picture_one}

pub zeros_one : (width height : ℕ) (p q : Picture) → IsZeros p width height → IsZeros q width height → p ≡ q
zeros_one width height p q a b = picture_one p q (record { y = a.y ∙ sym b.y; cb = a.cb ∙ sym b.cb; cr = a.cr ∙ sym b.cr })
