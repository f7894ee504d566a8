-- How many samples the planes of a picture have.
use Rattle.std.proofs.Common.{◌≡◌, ℕ, ◌+◌, ◌*◌, arith}
use Rattle.bits_io.specs.ByteOrder.{byte_count}
use Rattle.vd_plane.specs.declared.picture.Picture.{Picture}

quarter : (w h a b : ℕ) → w ≡ 2 * a → h ≡ 2 * b → w * h ≡ 4 * (a * b)
quarter w h a b width height = rw (width, height) (omega arith)

pub luma_count : (p : Picture) → p.y.width * p.y.height ≡ 4 * (p.cb.width * p.cb.height)
luma_count p = quarter p.y.width p.y.height p.cb.width p.cb.height p.format.cb_width p.format.cb_height

pub cr_count : (p : Picture) → p.cr.width * p.cr.height ≡ p.cb.width * p.cb.height
cr_count p = omega (arith, luma_count p, quarter p.y.width p.y.height p.cr.width p.cr.height p.format.cr_width p.format.cr_height)

pub byte_count-is : (p : Picture) → byte_count p ≡ p.y.width * p.y.height + 2 * (p.cb.width * p.cb.height)
byte_count-is p = omega (arith, luma_count p)

pub ruleset counts = (luma_count, cr_count, byte_count-is)
