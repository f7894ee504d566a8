-- The parameter sets that are known behind units. H.264, 7.4.1.2.1: a set replaces the earlier one of its number.
use Rattle.std.specs.Prelude.{ℕ, ◌==◌, List, [], ◌∷◌, Option}
use Rattle.std.specs.List.{find}
use Rattle.param_sets.specs.declared.pps.Pps.{Pps}
use Rattle.param_sets.specs.declared.sps.Sps.{Sps}

-- all sets that came, the newest first
pub record Sets : Type 0 where
  pub sequence : List Sps
  pub picture : List Pps

abbrev pub no_sets : Sets
no_sets = record { sequence = []; picture = [] }

-- the newest set of a number, None where none came
abbrev pub sequence_set : Sets → ℕ → Option Sps
sequence_set sets id = find (λ sps. sps.seq_parameter_set_id == id) sets.sequence

abbrev pub picture_set : Sets → ℕ → Option Pps
picture_set sets id = find (λ pps. pps.pic_parameter_set_id == id) sets.picture

abbrev pub with_sequence_set : Sps → Sets → Sets
with_sequence_set sps sets = record sets { sequence = sps ∷ sets.sequence }

abbrev pub with_picture_set : Pps → Sets → Sets
with_picture_set pps sets = record sets { picture = pps ∷ sets.picture }
