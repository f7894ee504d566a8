-- What is said of bytes that aren't read as a bitmap.
use Rattle.std.specs.Prelude.{ℕ, List}
use Rattle.overlay_files.specs.Pixels.{PixelArray}
use Rattle.overlay_files.specs.Texts.{IsBitmapFile}
use Rattle.overlay_files.specs.declared.reading.BitmapFault.{BitmapFault}
use Rattle.overlay_files.specs.declared.reading.BitmapFault.TheVariants.{Bad, OutOfMemory}

-- no bitmap has such a file; for want of memory nothing is said of the bytes
abbrev pub Blames : List ℕ → BitmapFault → Type 0
Blames text Bad = (a : PixelArray) → ¬ IsBitmapFile a text
Blames text OutOfMemory = Unit {0}
