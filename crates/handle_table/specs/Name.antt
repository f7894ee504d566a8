-- Names and their parts.
use Rattle.std.specs.Prelude.{◌≡◌, ℕ, ◌+◌, ◌*◌, ◌/◌, ◌%◌, ◌^◌, ◌<◌}

abbrev pub name_of : ℕ → ℕ → ℕ → ℕ
name_of kind generation index = kind * 2 ^ 29 + generation * 2 ^ 13 + index

abbrev pub kind_of : ℕ → ℕ
kind_of name = name / 2 ^ 29

abbrev pub generation_of : ℕ → ℕ
generation_of name = name / 2 ^ 13 % 2 ^ 16

abbrev pub index_of : ℕ → ℕ
index_of name = name % 2 ^ 13

-- The name says this kind, a generation of 16 bits and an index of 13.
pub record IsNameOf (kind name : ℕ) : Type 0 where
  pub generation : ℕ
  pub index : ℕ
  pub in_generations : generation < 2 ^ 16
  pub in_indices : index < 2 ^ 13
  pub is : name ≡ name_of kind generation index
