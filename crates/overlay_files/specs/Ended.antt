-- What is read of the first line of a bitmap's file.
use Rattle.std.specs.Prelude.{◌≡◌, ℕ, ◌<◌, ◌≤◌, ◌^◌, List, ◌∷◌, ◌++◌, length, drop, decimal}
use Rattle.overlay_files.specs.Pixels.{IsSide}
use Rattle.overlay_files.specs.Texts.{header_text}

-- the text begins with this number and this byte, and goes on at `end`
pub record IsEnded (text : List ℕ) (ending number end : ℕ) : Type 0 where
  pub small : number < 2 ^ 63
  pub within : end ≤ length text
  pub is : text ≡ decimal number ++ ending ∷ drop end text

-- the text begins with the line of these sides, and goes on at `end`
pub record IsHeaded (text : List ℕ) (width height end : ℕ) : Type 0 where
  pub columns : IsSide width
  pub rows : IsSide height
  pub within : end ≤ length text
  pub is : text ≡ header_text width height ++ drop end text
