use Rattle.std.proofs.Common.{◌≡◌, ℕ, [], length}
use Rattle.picture_buffer.specs.Making.{HasMade}
use Rattle.picture_buffer.proofs.making.make_surfaces.Given as goal

-- there is a handle for each number, and the surfaces of the numbers below this one are made
abbrev pub invariant-loop-number : goal.invariant-loop-number
invariant-loop-number l = record {
  handles : length l.surfaces ≡ 17;
  made : (decoder : ℕ) → HasMade l.fn.core l.device decoder l.size [] 0 → HasMade l.core l.device decoder l.size l.surfaces l.number;
}
