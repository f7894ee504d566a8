-- The samples of a file's pictures in the order in which they come out.
use Rattle.std.specs.Prelude.{ℕ, ◌==◌, List, [], ◌∷◌, length, map, flat_map, if◌then◌else◌}
use Rattle.access_units.specs.Pictures.{ordered}
use Rattle.accepted_pictures.specs.Files.{Decoded, pictures_in}
use Rattle.output_order.specs.OutputOrder as order
use Rattle.vd_plane.specs.declared.picture.Picture.{Picture}

-- the picture of a number: the newest picture is the first of the list, and the first decoded has number 0
unfoldable pub picture_at : List Decoded → ℕ → List Picture
picture_at [] number = []
picture_at (one ∷ before) number = if number == length before then one.samples ∷ [] else picture_at before number

-- the numbers of the pictures, period by period and in each by their counts (H.264, C.4)
abbrev pub numbers_in_order : List Decoded → List ℕ
numbers_in_order decoded = map (λ (one : order.Picture). one.number) (order.in_order (ordered (pictures_in decoded)))

abbrev pub in_output_order : List Decoded → List Picture
in_output_order decoded = flat_map (picture_at decoded) (numbers_in_order decoded)
