-- What a contract sees of a `Prepared`.
use Rattle.std.specs.Prelude.{ℕ, List, Option}
use Rattle.cb_types.specs.declared.size.SizeMbs.{SizeMbs}
use Rattle.vd_plane.specs.declared.picture.Picture.{Picture}
use Rattle.decoder_render.specs.Submission.{bytes_of}
use Rattle.decoder_render.specs.declared.prepared.Prepared.{Prepared}

-- the payloads of its units, none of a spoiled one
abbrev pub units_of : Prepared → List (Option (List ℕ))
units_of prepared = bytes_of prepared.units.items

-- the size of its picture
abbrev pub size_of : Prepared → SizeMbs
size_of prepared = prepared.size

-- the picture
abbrev pub picture_of : Prepared → Picture
picture_of prepared = prepared.picture
