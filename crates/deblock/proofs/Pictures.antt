-- What a picture's size and an accepted picture info say.
use Rattle.std.proofs.Common.{◌≡◌, ℕ, ◌*◌, true, pos, negsuc, ℤ, int_le, arith}
use Rattle.std.proofs.lemmas.Int.{ints}
use Rattle.cb_types.proofs.InfoFacts.{info_facts}
use Rattle.cb_types.specs.AcceptedInfo.{IsAcceptedBySome}
use Rattle.cb_types.specs.SizeMbs.{macroblocks}
use Rattle.cb_types.specs.declared.picture_info.PictureInfo.{PictureInfo}
use Rattle.cb_types.specs.declared.size.SizeMbs.{SizeMbs}
use Rattle.int_transform.specs.Bounds.{IsWithin}
use Rattle.vd_plane.specs.Picture.{HasSize}
use Rattle.vd_plane.specs.declared.picture.Picture.{Picture}

between : (z : ℤ) → int_le (negsuc 11) z ≡ true → int_le z (pos 12) ≡ true → IsWithin 12 z
between z low high = record { least = grind (arith, ints); most = grind (arith, ints) }

pub offset_within : (info : PictureInfo) → IsAcceptedBySome info → IsWithin 12 info.chroma_qp_index_offset
offset_within info accepted =
    let facts = info_facts info accepted in
    between info.chroma_qp_index_offset facts.chroma_qp_least facts.chroma_qp_greatest

product : (n w h side a b : ℕ) → n ≡ w * h → w ≡ side * a → h ≡ side * b → n ≡ side * side * (a * b)
product n w h side a b e f g = rw (e, f, g) (omega arith)

pub luma_count : (p : Picture) (size : SizeMbs) (n : ℕ) → HasSize p size → n ≡ p.y.width * p.y.height → n ≡ 256 * macroblocks size
luma_count p size n has e = product n p.y.width p.y.height 16 size.width size.height e has.width has.height

pub cb_count : (p : Picture) (size : SizeMbs) (n : ℕ) → HasSize p size → n ≡ p.cb.width * p.cb.height → n ≡ 64 * macroblocks size
cb_count p size n has e = product n p.cb.width p.cb.height 8 size.width size.height e (omega (arith, has.width, p.format.cb_width)) (omega (arith, has.height, p.format.cb_height))

pub cr_count : (p : Picture) (size : SizeMbs) (n : ℕ) → HasSize p size → n ≡ p.cr.width * p.cr.height → n ≡ 64 * macroblocks size
cr_count p size n has e = product n p.cr.width p.cr.height 8 size.width size.height e (omega (arith, has.width, p.format.cr_width)) (omega (arith, has.height, p.format.cr_height))
