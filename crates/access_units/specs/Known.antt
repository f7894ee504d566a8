-- Which parameter sets a table of known ones stands for.
use Rattle.std.specs.Prelude.{◌≡◌, ℕ, ◌==◌, All}
use Rattle.std.specs.List.{find}
use Rattle.param_sets.specs.Accepted.{IsAcceptedPps, IsAcceptedSps}
use Rattle.param_sets.specs.declared.pps.Pps.{Pps}
use Rattle.param_sets.specs.declared.sps.Sps.{Sps}
use Rattle.access_units.specs.Sets.{Sets, picture_set, sequence_set}
use Rattle.access_units.specs.declared.sets.KnownSets.{KnownSets}

-- The table has the newest set of each number, and each is one that can be read.
pub record IsKnownTo (table : KnownSets) (sets : Sets) : Type 0 where
  pub sequence : (id : ℕ) → find (λ (sps : Sps). sps.seq_parameter_set_id == id) table.sequence.items ≡ sequence_set sets id
  pub picture : (id : ℕ) → find (λ (pps : Pps). pps.pic_parameter_set_id == id) table.picture.items ≡ picture_set sets id
  pub sequence_accepted : All IsAcceptedSps table.sequence.items
  pub picture_accepted : All IsAcceptedPps table.picture.items
