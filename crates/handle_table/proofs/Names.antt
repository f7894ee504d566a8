-- A name gives its parts back.
use Rattle.std.proofs.Common.{◌≡◌, ℕ, ◌^◌, ◌<◌, arith}
use Rattle.handle_table.specs.Name.{name_of, kind_of, generation_of, index_of}

module _ (kind generation index : ℕ) (in_generations : generation < 2 ^ 16) (in_indices : index < 2 ^ 13) where
  pub index_of-name_of : index_of (name_of kind generation index) ≡ index
  index_of-name_of = omega arith

  pub generation_of-name_of : generation_of (name_of kind generation index) ≡ generation
  generation_of-name_of = omega arith

  pub kind_of-name_of : kind_of (name_of kind generation index) ≡ kind
  kind_of-name_of = omega arith
