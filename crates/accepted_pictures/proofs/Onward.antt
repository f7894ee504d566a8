-- What the front of a file settled stays so, whatever follows.
use Rattle.std.proofs.Common.{ℕ, Bool, false, List, ◌++◌}
use Rattle.access_units.proofs.Onward.{settled_on}
use Rattle.accepted_pictures.specs.Files.{Decoded, Fault, IsReadTo}

pub refused_on : (text more : List ℕ) (is_ended : Bool) (decoded : List Decoded) (fault : Fault) → IsReadTo text false decoded fault → IsReadTo (text ++ more) is_ended decoded fault
refused_on text more is_ended decoded fault read = record {
  front = read.front;
  au = read.au;
  settled = settled_on text more is_ended read.front read.au read.settled;
  accepted = read.accepted;
  refused = read.refused;
  fault_is = read.fault_is;
}
