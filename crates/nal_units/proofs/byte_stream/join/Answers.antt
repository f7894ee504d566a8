use Rattle.std.proofs.Common.{◌≡◌, ℕ, ◌∙◌, ap, List, take, arith, length, ◌++◌, Vec, Global}
use Rattle.std.specs.Prelude.{flat_map}
use Rattle.std.proofs.Math.Seq.{take-length}
use Rattle.nal_units.specs.ByteStream.{start_code}
use Rattle.nal_units.proofs.Joining.{joined_units, joined_bytes}
use Rattle.nal_units.proofs.byte_stream.join.Goals as goal

-- a loop that wrote as many units as there are wrote all
all_of : (units : List (Vec ℕ Global)) (text : List ℕ) (n : ℕ) → n ≡ length units → text ≡ flat_map (λ unit. start_code ++ unit.items) (take n units)
    → text ≡ flat_map (λ unit. start_code ++ unit.items) units
all_of units text n all written = written ∙ ap (λ us. flat_map (λ (unit : Vec ℕ Global). start_code ++ unit.items) us) (ap (λ k. take k units) all ∙ take-length units)

pub returns-clause-units : goal.returns-clause-units
returns-clause-units c = joined_units (λ (unit : Vec ℕ Global). unit.items) c.args.units.now.items c.loop-unit.text.items
    (all_of c.args.units.now.items c.loop-unit.text.items c.loop-unit.unit-index (omega arith) c.loop-unit.invariant)

pub returns-clause-bytes : goal.returns-clause-bytes
returns-clause-bytes c = joined_bytes (λ (unit : Vec ℕ Global). unit.items) c.args.units.now.items c.loop-unit.text.items
    (all_of c.args.units.now.items c.loop-unit.text.items c.loop-unit.unit-index (omega arith) c.loop-unit.invariant)
