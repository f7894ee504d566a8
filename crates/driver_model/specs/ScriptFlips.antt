-- The flips of the pictures that a script of ticks shows, and the text of them all.
use Rattle.std.specs.Prelude.{◌≡◌, ℕ, ◌+◌, ◌==◌, Bool, List, [], ◌∷◌, ◌++◌, filter, ⊤}
use Rattle.clock_script.specs.declared.script.ScriptLine.{ScriptLine}
use Rattle.mixer.specs.Mixed.{IsMixed}
use Rattle.mixer.specs.declared.TheConstants.{B8G8R8A8, DEFAULT_MATRIX}
use Rattle.vd_plane.specs.declared.picture.Picture.{Picture}
use Rattle.driver_model.specs.FlipText.{StreamFlip, text_of}
use Rattle.driver_model.specs.ShownPictures.{ShownPicture, shown_pictures}

-- The flip shows the picture at its time on the stream's window: with the picture's sides, and with its pixels in blue, green, red, alpha
-- by the matrix of a new mixer.
pub record IsFlipOf (stream : ℕ) (shown : ShownPicture Picture) (flip : StreamFlip) : Type 0 where
  pub of_stream : flip.stream ≡ stream
  pub at_time : flip.time ≡ shown.time
  pub across : flip.width ≡ shown.picture.y.width
  pub down : flip.height ≡ shown.picture.y.height
  pub pixels : IsMixed shown.picture DEFAULT_MATRIX B8G8R8A8 flip.bytes

-- each flip is that of one shown picture of the stream, in the same order
abbrev pub AreFlipsOf : ℕ → List (ShownPicture Picture) → List StreamFlip → Type 0
AreFlipsOf stream [] [] = ⊤
AreFlipsOf stream [] (flip ∷ flips) = ⊥
AreFlipsOf stream (one ∷ shown) [] = ⊥
AreFlipsOf stream (one ∷ shown) (flip ∷ flips) = IsFlipOf stream one flip × AreFlipsOf stream shown flips

module _ (script : List ScriptLine) (period : ℕ) where
  -- The flips of all streams, of which the first has this number. Of each stream all pictures are given, in output order.
  unfoldable pub AreAllFlips : ℕ → List (List Picture) → List StreamFlip → Type 0
  AreAllFlips stream [] flips = flips ≡ []
  AreAllFlips stream (pictures ∷ later) flips =
      (own : List StreamFlip)
      × (others : List StreamFlip)
      × AreFlipsOf stream (shown_pictures script stream period pictures) own
      × AreAllFlips (stream + 1) later others
      × (flips ≡ own ++ others)

  -- the text of what the script shows of these streams, which are numbered from 0
  pub record IsTextOfScript (streams : List (List Picture)) (text : List ℕ) : Type 0 where
    pub flips : List StreamFlip
    pub shown : AreAllFlips 0 streams flips
    pub tells : text ≡ text_of flips

-- the flips of one stream
abbrev pub is_of_stream : ℕ → StreamFlip → Bool
is_of_stream stream flip = flip.stream == stream

abbrev pub flips_of_stream : ℕ → List StreamFlip → List StreamFlip
flips_of_stream stream flips = filter (is_of_stream stream) flips
