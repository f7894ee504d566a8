-- What the commands write of a file's pictures.
use Rattle.std.specs.Prelude.{ℕ, ◌-◌, ◌==◌, List, [], ◌∷◌, ◌++◌, length, map, flat_map, if◌then◌else◌, ℤ, Option, Some, None, codes}
use Rattle.std.specs.Fmt.{decimal, signed_decimal}
use Rattle.access_units.specs.Pictures.{ordered, periods}
use Rattle.accepted_pictures.specs.Files.{Decoded, pictures_in}
use Rattle.output_order.specs.OutputOrder as order
use Rattle.vd_plane.specs.declared.picture.Picture as samples
use Rattle.vdplay.specs.declared.command_line.Command.{Command}
use Rattle.vdplay.specs.declared.command_line.Command.TheVariants.{Decode, Inspect}

-- ---- decode: the pictures in output order

-- the samples of a picture: Y, Cb and Cr, each by rows
abbrev pub planes_of : samples.Picture → List ℕ
planes_of picture = picture.y.samples ++ picture.cb.samples ++ picture.cr.samples

-- the samples of the picture of a number: the newest picture is the first of the list, and the first decoded has number 0
unfoldable pub planes_at : List Decoded → ℕ → List ℕ
planes_at [] number = []
planes_at (one ∷ before) number = if number == length before then planes_of one.samples else planes_at before number

-- the numbers of the pictures in the order in which they come out
abbrev pub numbers_in_order : List Decoded → List ℕ
numbers_in_order decoded = map (λ (one : order.Picture). one.number) (order.in_order (ordered (pictures_in decoded)))

abbrev pub planes_in_order : List Decoded → List ℕ
planes_in_order decoded = flat_map (planes_at decoded) (numbers_in_order decoded)

-- ---- inspect: a line for each picture in decoding order

-- the place of an access unit, the number of its period from 0, and its picture order count
unfoldable pub line_with : ℕ → ℕ → ℤ → List ℕ
line_with offset period count =
    codes "PICTURE " ++ (decimal offset ++ (32 ∷ (decimal period ++ (32 ∷ (signed_decimal count ++ 10 ∷ [])))))

-- the line of a picture behind these
abbrev pub picture_line : List Decoded → Decoded → List ℕ
picture_line before one = line_with one.picture.offset (periods (pictures_in (one ∷ before)) - 1) one.picture.begun.poc

unfoldable pub picture_lines : List Decoded → List ℕ
picture_lines [] = []
picture_lines (one ∷ before) = picture_lines before ++ picture_line before one

-- the last line: the end of the file, or the place of the access unit that isn't accepted
abbrev pub last_line : Option ℕ → List ℕ
last_line None = codes "END" ++ 10 ∷ []
last_line (Some offset) = codes "REFUSED " ++ (decimal offset ++ 10 ∷ [])

-- ---- both

-- what a command writes of these pictures
abbrev pub pictures_text : Command → List Decoded → List ℕ
pictures_text Decode decoded = planes_in_order decoded
pictures_text Inspect decoded = picture_lines decoded

-- and behind the last of them
abbrev pub end_text : Command → Option ℕ → List ℕ
end_text Decode refused = []
end_text Inspect refused = last_line refused

-- what it writes of a file with these accepted pictures, of which this access unit isn't accepted
abbrev pub text_of : Command → List Decoded → Option ℕ → List ℕ
text_of command decoded refused = pictures_text command decoded ++ end_text command refused
