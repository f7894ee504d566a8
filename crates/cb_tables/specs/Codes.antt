-- Variable-length codes (H.264, 9.2), each as its length in bits and the number that the bits spell.
use Rattle.std.specs.Prelude.{◌≡◌, ℕ, ◌-◌, ◌/◌, ◌^◌, ◌<◌, ◌≤◌, List, []}
use Rattle.std.specs.List.{slice_index_or}
use Rattle.cb_tables.specs.declared.codes.Code.{Code}

-- the code of a (length, value)
abbrev pub code_of : ℕ × ℕ → Code
code_of pair = record { length = pair.0; value = pair.1 }

-- the code at a row and a column, both counted from 0
unfoldable pub code_at : List (List (ℕ × ℕ)) → ℕ → ℕ → Code
code_at rows row column = code_of (slice_index_or (slice_index_or rows row []) column (0, 0))

-- one to sixteen bits, which spell the value
pub record IsCode (code : Code) : Type 0 where
  pub some : 1 ≤ code.length
  pub short : code.length ≤ 16
  pub spelled : code.value < 2 ^ code.length

-- the 32 bits of the window begin with the code
abbrev pub BeginsWith : ℕ → Code → Type 0
BeginsWith window code = window / 2 ^ (32 - code.length) ≡ code.value

-- the first code is a front of the second, or is the second
pub record IsFrontOf (front code : Code) : Type 0 where
  pub shorter : front.length ≤ code.length
  pub same : code.value / 2 ^ (code.length - front.length) ≡ front.value
