use Rattle.std.proofs.Common.{◌≡◌, length, take}
use Rattle.std.specs.Prelude.{option_map}
use Rattle.recon.specs.Modes.{first_modes}
use Rattle.recon.proofs.modes.intra4_modes.Given as goal

abbrev pub invariant-loop-block : goal.invariant-loop-block
invariant-loop-block l = record {
  count : length l.modes ≡ 16;
  modes : take l.block l.modes ≡ first_modes l.spelled (option_map (λ m. m.0) l.left) (option_map (λ m. m.0) l.above) l.block;
}
