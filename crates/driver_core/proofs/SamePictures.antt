-- Pictures of one size.
use Rattle.std.proofs.Common.{◌≡◌, ◌*◌, ◌/◌, sym, ◌∙◌, arith}
use Rattle.bits_io.specs.ByteOrder.{byte_count}
use Rattle.cb_types.specs.declared.size.SizeMbs.{SizeMbs}
use Rattle.vd_plane.specs.Picture.{HasSize, SameSize}
use Rattle.vd_plane.specs.SampleArray.{IsPlane, SameSides, SampleArray}
use Rattle.vd_plane.specs.declared.picture.Picture.{Picture}

same_sides : (a b : SampleArray) → IsPlane a → IsPlane b → b.width ≡ a.width → b.height ≡ a.height → SameSides a b
same_sides a b is_a is_b width height = record { width = width; height = height; count = is_b.count ∙ ((λ i. width i * height i) ∙ sym is_a.count) }

module _ (a b : Picture) (size : SizeMbs) (has_a : HasSize a size) (has_b : HasSize b size) where
  pub same_size : SameSize a b
  same_size =
      let f = a.format in
      let g = b.format in
      let width : b.y.width ≡ a.y.width = has_b.width ∙ sym has_a.width in
      let height : b.y.height ≡ a.y.height = has_b.height ∙ sym has_a.height in
      record {
        y = same_sides a.y b.y f.y_plane g.y_plane width height;
        cb = same_sides a.cb b.cb f.cb_plane g.cb_plane (omega (arith, width, f.cb_width, g.cb_width)) (omega (arith, height, f.cb_height, g.cb_height));
        cr = same_sides a.cr b.cr f.cr_plane g.cr_plane (omega (arith, width, f.cr_width, g.cr_width)) (omega (arith, height, f.cr_height, g.cr_height));
      }

  pub same_bytes : byte_count a ≡ byte_count b
  same_bytes = λ i. (has_a.width ∙ sym has_b.width) i * (has_a.height ∙ sym has_b.height) i * 3 / 2

-- a picture of the sides of another has its size
pub keeps_size : (a b : Picture) (size : SizeMbs) → HasSize a size → SameSize a b → HasSize b size
keeps_size a b size has same = record { width = same.y.width ∙ has.width; height = same.y.height ∙ has.height }
