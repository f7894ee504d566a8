-- What a plane is after its samples were lent to be written.
use Rattle.std.specs.Prelude.{ℕ, ◌++◌, List, length, take, drop}
use Rattle.std.specs.Borrow.{Lends, MutBor, Fml, Array, u8}
use Rattle.vd_plane.specs.SampleArray.{SampleArray, array_of}
use Rattle.vd_plane.specs.contracts.plane.Plane.{the_row}

-- the array with these samples. A slice keeps its length, so there are as many; fewer or more would be filled up or cut
abbrev pub with_samples : SampleArray → List ℕ → SampleArray
with_samples a w = array_of a.width a.height (take (length a.samples) (w ++ drop (length w) a.samples))

-- the plane ends with the last samples behind r
abbrev pub LendsSamples : MutBor SampleArray → MutBor (List ℕ) → Fml
LendsSamples s r = Lends the_row (Array u8 0) s r (with_samples s.now)
