-- A picture that is written from the bytes of another is that one.
use Rattle.std.proofs.Common.{◌≡◌, ℕ, List, sym, ◌∙◌, subst}
use Rattle.bits_io.specs.ByteOrder.{bytes_of}
use Rattle.bits_io.proofs.Same.{put_after_get}
use Rattle.cb_types.specs.declared.size.SizeMbs.{SizeMbs}
use Rattle.vd_plane.specs.Picture.{HasSize, SameSize}
use Rattle.vd_plane.specs.declared.picture.Picture.{Picture}
use Rattle.vd_plane.proofs.OnePicture.{picture_one}
use Rattle.driver_core.proofs.SamePictures.{same_size}

pub read_back : (source old new : Picture) (size now : SizeMbs) (bytes items : List ℕ) → HasSize source size → now ≡ size → HasSize old now → SameSize old new
    → bytes_of 1 new ≡ bytes → bytes ≡ items → items ≡ bytes_of 1 source → new ≡ source
read_back source old new size now bytes items of_source still of_old sized written taken read =
    let has_old : HasSize old size = subst (HasSize old) still of_old in
    sym (picture_one source new (put_after_get 1 source old new bytes (taken ∙ read) (same_size source old size of_source has_old) sized written))
